-- The loop goes by one chunk without fault at a time; along_next says what stays true, and the first faulty chunk's refusal is the walk's.
use Prim.Native.Nat.{◌-◌}
use lib.ListN.{length}
use Rattle.chunks.specs.Ordinary.{Along}
use Rattle.chunks.proofs.walk_rest.Given as goal

abbrev pub invariant-loop-at : goal.invariant-loop-at
invariant-loop-at l = Along l.s l.from l.at l.ordinary

abbrev pub decreases-loop-at : goal.decreases-loop-at
decreases-loop-at l = length l.s - l.at
