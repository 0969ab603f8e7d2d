-- What a row of the samples of texts says (02, P7).
use Rattle.blorb.specs.declared.refusal.Refusal.{Refusal}
use Rattle.std.specs.Prelude.{◌≡◌, ℕ, List, Result}
use Rattle.utf8.specs.Utf8.{good_length_of}
use Rattle.descriptions.specs.Texts.{described_of, told_of}
use Rattle.descriptions.specs.declared.Described.{Described}
use Rattle.descriptions.specs.declared.Told.{Told}

pub data TextRow : Type 0 where
  -- a text, and how many bytes its longest good beginning has
  good : List ℕ → ℕ → TextRow
  -- a profile, a file, an entry's number, and what reading it answers
  describes : (profile : ℕ) → List ℕ → ℕ → Result Described Refusal → TextRow
  -- a profile, a file, a usage and number, and what looking the text up answers
  tells : (profile : ℕ) → List ℕ → ℕ → ℕ → Result Told Refusal → TextRow

abbrev pub TextRowHolds : TextRow → Type 0
TextRowHolds (good s n) = good_length_of s ≡ n
TextRowHolds (describes p f i answer) = described_of p f i ≡ answer
TextRowHolds (tells p f u k answer) = told_of p f u k ≡ answer
