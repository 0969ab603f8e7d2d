-- Each sample takes something of what is left.
use Rattle.std.proofs.Common.{length}
use Rattle.sampling.proofs.each.Given as goal

abbrev pub decreases-loop-packed : goal.decreases-loop-packed
decreases-loop-packed g l = length l.packed.0.now
