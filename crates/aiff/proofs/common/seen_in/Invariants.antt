-- The loop goes from chunk to chunk of an accepted walk; seeking_on says what stays true.
use Prim.Native.Nat.{◌-◌}
use lib.ListN.{length}
use Rattle.aiff.specs.Seeing.{Seeking}
use Rattle.aiff.proofs.common.seen_in.Given as goal

abbrev pub invariant-loop-at : goal.invariant-loop-at
invariant-loop-at l = Seeking l.s l.at l.seen

abbrev pub decreases-loop-at : goal.decreases-loop-at
decreases-loop-at l = length l.s - l.at
