-- Between the code and the definitions: the first bad text among the entries, and the first repeated pair.
use Rattle.std.specs.Prelude.{◌≡◌, ℕ, ◌+◌, ◌<◌, List, true, false, Option, Some, None}
use Rattle.blorb.specs.Verdict.{Verdict, accept, refuse}
use Rattle.utf8.specs.Utf8.{good_length_of}
use Rattle.rdes.specs.Rdes.{text_at, offset_of, good_text}
use Rattle.repeats.specs.Keys.{entry_key_of}
use Rattle.repeats.specs.Repeats.{first_repeat_of}
use Rattle.descriptions.specs.declared.entries.BadText.{BadText}

-- the first n entries of the data d have good texts
abbrev pub GoodTo : List ℕ → ℕ → Type 0
GoodTo d n = (i : ℕ) → i < n → good_text (text_at d (offset_of d i 4)) ≡ true

-- this entry is the first of count that has a bad text
pub record BadAt (d : List ℕ) (count : ℕ) (b : BadText) : Type 0 where
  pub inside : b.entry < count
  pub place : b.at ≡ offset_of d b.entry 4
  pub measured : b.good ≡ good_length_of (text_at d b.at)
  pub bad : good_text (text_at d b.at) ≡ false
  pub before : GoodTo d b.entry

-- 38 of the first n entries
abbrev pub repeated_by : List ℕ → ℕ → Option ℕ → Verdict
repeated_by d base (Some j) = refuse 38 (base + offset_of d j 4)
repeated_by d base None = accept

unfoldable pub repeat_fault : List ℕ → ℕ → ℕ → Verdict
repeat_fault d base n = repeated_by d base (first_repeat_of (entry_key_of d 4) n)
