-- What the functions that judge the rows say to each other; nothing here has to be believed.
use Rattle.std.specs.Prelude.{◌≡◌, ℕ, ◌≤◌, ◌<◌, List, true, false, Option, Some, None}
use Rattle.blorb.specs.Verdict.{Verdict, accept, refuse}
use Rattle.repeats.specs.Keys.{list_key}
use Rattle.repeats.specs.Repeats.{first_repeat_of}
use Rattle.describing.specs.Writing.{text_good_of}

-- t is the first of n rows that has a bad text, or n
pub record FirstBad (rows texts : List ℕ) (n t : ℕ) : Type 0 where
  pub inside : t ≤ n
  pub good : (i : ℕ) → i < t → text_good_of rows texts i ≡ true
  pub bad : t < n → text_good_of rows texts t ≡ false

-- 38 of the first n rows, by the search for a repeated key
abbrev pub repeated_by : Option ℕ → Verdict
repeated_by (Some j) = refuse 38 j
repeated_by None = accept

abbrev pub repeat_fault : List ℕ → ℕ → Verdict
repeat_fault rows n = repeated_by (first_repeat_of (list_key rows) n)
