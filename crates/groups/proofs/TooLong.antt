-- Refusal 1: a group file over the limit is refused with 1 at 0 whatever it holds, before 41 to 45 and 22, since the length is tested first; and the lent
-- rows stay as they were.
use mathlib.Core.Path.{◌≡◌, ap}
use Prim.Native.Nat.{ℕ, ◌<◌}
use mathlib.Core.List.{List}
use lib.ListN.{length}
use borrow.Author.Tests.{lt-leb}
use Rattle.blorb.specs.Verdict.{refuse}
use Rattle.blorb.proofs.Checks.{stop}
use Rattle.groups.specs.Files.{file_fault, forms_of, rows_numbers, listed_by, list_of, rows_by, listed, picked_by, pick_of}
use Rattle.blorb.specs.Refusals.{Refused}

module _ (f : List ℕ) (h : 16777216 < length f) where
  too_long : file_fault f ≡ refuse 1 0
  unfolding file_fault
  too_long = stop _ _ _ _ (lt-leb _ _ h)

  pub list_too_long : (room : ℕ) → list_of f room ≡ Refused 1 0
  unfolding list_of
  list_too_long room = ap (λ v. listed_by v (length (forms_of f)) room) too_long

  pub rows_too_long : (rows : List ℕ) → listed f rows ≡ rows
  unfolding listed
  rows_too_long rows = ap (λ r. rows_by r (rows_numbers (forms_of f)) rows) (list_too_long (length rows))

  pub pick_too_long : (i : ℕ) → pick_of f i ≡ Refused 1 0
  unfolding pick_of
  pick_too_long i = ap (λ v. picked_by v (forms_of f) i) too_long
