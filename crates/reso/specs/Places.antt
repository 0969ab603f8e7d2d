-- Where the code finds the row of a picture.
use Rattle.std.specs.Prelude.{ℕ, zero, suc, ◌+◌, List, cond, eqb, Option, Some, None}
use Rattle.reso.specs.Reso.{word_at}

-- the first of n rows from at on that is of this picture
unfoldable pub row_place : ℕ → List ℕ → ℕ → ℕ → Option ℕ
row_place p d zero at = None
row_place p d (suc n) at = cond (eqb (word_at d at) p) (Some at) (row_place p d n (at + 28))
