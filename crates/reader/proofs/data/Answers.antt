-- The part has the bytes and the place that the lookup's answer names: it is cut out of the slice at that answer's own numbers.
use native.Mathlib.Omega.{arith}
use mathlib.Core.Path.{◌≡◌, refl, sym, ◌∙◌}
use Rattle.reader.proofs.AskLaws.{part_in}
use Prim.Native.Nat.{◌+◌, ◌-◌}
use Rattle.reader.proofs.data.Goals as goal

pub overflow_add-end : goal.overflow_add-end
overflow_add-end c = let r = c.in-Ok.found in omega (arith, part_in _ _ _ _ r.kind r.start r.length (sym c.lookup.ensures ∙ c.in-Ok.is))

pub slice_bounds-result-end : goal.slice_bounds-result-end
slice_bounds-result-end c = let r = c.in-Ok.found in omega (arith, part_in _ _ _ _ r.kind r.start r.length (sym c.lookup.ensures ∙ c.in-Ok.is))

pub returns-in-Ok : goal.returns-in-Ok
returns-in-Ok c =
    let q : c.in-Ok.found.start + c.in-Ok.found.length - c.in-Ok.found.start ≡ c.in-Ok.found.length = omega arith in
    let l = sym c.lookup.ensures ∙ c.in-Ok.is in
    (rw (l, q), rw l refl)

pub returns-in-Err : goal.returns-in-Err
returns-in-Err c = let l = sym c.lookup.ensures ∙ c.in-Err.is in (rw l, rw l refl)
