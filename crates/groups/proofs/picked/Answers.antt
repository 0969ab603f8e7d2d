-- The part that pick names lies in the file, so it is cut out of the slice at that answer's own numbers: these bytes, at this place.
use native.Mathlib.Omega.{arith}
use Prim.Native.Nat.{◌+◌, ◌-◌, ◌≤◌}
use mathlib.Core.Path.{◌≡◌, refl, sym, ◌∙◌}
use lib.ListN.{length}
use Rattle.groups.proofs.FileLaws.{pick_in}
use Rattle.groups.proofs.picked.Goals as goal
use Rattle.groups.proofs.picked.Goals.{In-Ok}

in_file : (c : In-Ok) → c.in-Ok.part.start + c.in-Ok.part.length ≤ length c.args.file.now
in_file c = pick_in _ _ _ (sym c.pick.ensures ∙ c.in-Ok.is)

pub overflow_add-result : goal.overflow_add-result
overflow_add-result c = record { fits = omega (arith, in_file (goal.at.overflow_add-result c).In-Ok) }

pub slice_bounds-result-end : goal.slice_bounds-result-end
slice_bounds-result-end c = omega (arith, in_file (goal.at.slice_bounds-result-end c).In-Ok)

pub returns-in-Ok : goal.returns-in-Ok
returns-in-Ok c =
    let k = c.in-Ok.part in
    let q : k.start + k.length - k.start ≡ k.length = omega arith in
    let l = sym c.pick.ensures ∙ c.in-Ok.is in
    (rw (l, q), rw l refl)

pub returns-in-Err : goal.returns-in-Err
returns-in-Err c = let l = sym c.pick.ensures ∙ c.in-Err.is in (rw l, rw l refl)
