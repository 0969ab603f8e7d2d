-- The loop goes from chunk to chunk of an accepted walk; the chunks of the type from each on are those from `from` on.
use Prim.Native.Nat.{◌-◌}
use mathlib.Core.Path.{◌≡◌}
use lib.ListN.{length}
use Rattle.blorb.specs.Verdict.{accept}
use Rattle.chunks.specs.Walk.{walk_from, chunks_from}
use Rattle.locate.specs.Located.{of_type}
use Rattle.locate.proofs.next_of.Given as goal

abbrev pub invariant-loop-at : goal.invariant-loop-at
invariant-loop-at l = (walk_from l.s l.at ≡ accept) × (of_type l.kind l.at (chunks_from l.s l.at) ≡ of_type l.kind l.from (chunks_from l.s l.from))

abbrev pub decreases-loop-at : goal.decreases-loop-at
decreases-loop-at l = length l.s - l.at
