-- The part has the bytes and the place that the answer names: it is cut out of the slice at that answer's own numbers.
use Rattle.std.proofs.Common.{sym, arith, rules}
use Rattle.descriptions.proofs.OpenLaws.{described_in}
use Rattle.descriptions.proofs.text.Goals as goal

pub overflow_add-result : goal.overflow_add-result
overflow_add-result c = let l = described_in _ _ _ _ (sym c.in-Ok.ensures) in search rules

pub slice_bounds-result-end : goal.slice_bounds-result-end
slice_bounds-result-end c = omega (arith, described_in _ _ _ _ (sym c.in-Ok.ensures))
