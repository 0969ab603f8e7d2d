-- What it means that a file gives back a list of descriptions (02, P7: "has the same pairs and texts in the same order").
use Rattle.std.specs.Prelude.{◌≡◌, ℕ, ◌≤◌, ◌<◌, List, true, length, take, drop, Ok}
use Rattle.blorb.specs.Verdict.{pair_in}
use Rattle.blorb.specs.Refusals.{Refused}
use Rattle.blorb.specs.Model.{model}
use Rattle.rdes.specs.Rdes.{Desc}
use Rattle.descriptions.specs.Texts.{described_with, described_of, told_with, told_of}
use Rattle.describing.specs.List.{usage_of, number_of, row_at, count_of}

-- entry i of the file is this description: its pair, and its text where the answer says
pub record Gives (profile : ℕ) (f : List ℕ) (i : ℕ) (e : Desc) : Type 0 where
  pub start : ℕ
  pub answer : described_of profile f i ≡ Ok (described_with e.usage e.number start (length e.text))
  pub text : take (length e.text) (drop start f) ≡ e.text

-- so is what the file tells of its pair
pub record Tells (profile : ℕ) (f : List ℕ) (e : Desc) : Type 0 where
  pub start : ℕ
  pub answer : told_of profile f e.usage e.number ≡ Ok (told_with start (length e.text))
  pub text : take (length e.text) (drop start f) ≡ e.text

-- "the same pairs and texts in the same order": the file's entries are the list's rows and no more, and each row's pair that is in the index has its text
pub record ReadsBack (profile : ℕ) (f rows texts : List ℕ) : Type 0 where
  pub entry : (i : ℕ) → i < count_of rows → Gives profile f i (row_at rows texts i)
  pub no_more : (i : ℕ) → count_of rows ≤ i → described_of profile f i ≡ Refused 22 0
  pub pair : (i : ℕ) → i < count_of rows → pair_in (usage_of rows i) (number_of rows i) (model f).refs ≡ true → Tells profile f (row_at rows texts i)
