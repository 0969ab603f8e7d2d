-- 101: an edit whose file would pass the limit is refused with 101 at 0 before any other 100 + k, 24 and 25,
-- where 20, the reader's number, 22 and 23 do not apply.
use mathlib.Core.Path.{◌≡◌, ap, ◌∙◌}
use Prim.Native.Nat.{ℕ, ◌≤◌, ◌<◌}
use mathlib.Core.List.{List}
use lib.ListN.{length}
use borrow.Author.Tests.{le-leb, lt-leb}
use Rattle.blorb.specs.Verdict.{Rules, accept, refuse, head_fault, verdict}
use Rattle.blorb.specs.Model.{model}
use Rattle.blorb.proofs.Checks.{pass, stop, accepts, refuses, both_true}
use Rattle.edits.specs.Edit.{Edit}
use Rattle.edits.specs.Run.{hundred, target_fault, edited_file, edit_fault}

pub too_long : (R : Rules) (N J : ℕ) (f : List ℕ) (L U : ℕ) (e : Edit) → L ≤ N → U ≤ J → verdict R f ≡ accept → target_fault (model f) e ≡ accept
    → 16777216 < length (edited_file f e) → edit_fault R N J f L U e ≡ refuse 101 0
unfolding edit_fault verdict head_fault
too_long R N J f L U e hl hu ok t h =
    pass _ _ _ _ (both_true _ _ (le-leb _ _ hl) (le-leb _ _ hu))
    ∙ accepts _ _ ok
    ∙ accepts _ _ t
    ∙ refuses _ _ 101 0 (ap hundred (refuses _ _ 1 0 (stop _ _ _ _ (lt-leb _ _ h))))
