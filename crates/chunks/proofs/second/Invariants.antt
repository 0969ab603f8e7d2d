-- The loop goes from chunk to chunk of an accepted walk; what 9 says of the chunks from each on is what it says of all of them.
use Prim.Native.Nat.{◌-◌}
use mathlib.Core.Path.{◌≡◌}
use lib.ListN.{length}
use Rattle.blorb.specs.Verdict.{accept, second_index}
use Rattle.chunks.specs.Walk.{walk_from, chunks_from}
use Rattle.chunks.proofs.second.Given as goal

abbrev pub invariant-loop-at : goal.invariant-loop-at
invariant-loop-at l = (walk_from l.s l.at ≡ accept) × (second_index l.at (chunks_from l.s l.at) ≡ second_index l.from (chunks_from l.s l.from))

abbrev pub decreases-loop-at : goal.decreases-loop-at
decreases-loop-at l = length l.s - l.at
