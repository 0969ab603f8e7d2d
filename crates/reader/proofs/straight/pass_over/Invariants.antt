-- Each chunk that is passed over has no fault and is no index, so the walk has come one chunk further.
use Prim.Native.Nat.{◌-◌}
use lib.ListN.{length}
use Rattle.reader.specs.Straight.{CameTo}
use Rattle.reader.proofs.straight.pass_over.Given as goal

abbrev pub invariant-loop-at : goal.invariant-loop-at
invariant-loop-at l = CameTo l.s l.from l.at l.ordinary

abbrev pub decreases-loop-at : goal.decreases-loop-at
decreases-loop-at l = length l.s - l.at
