-- The loop goes from chunk to chunk of an accepted walk while it is before `start`; what is found from each chunk on is what is found from the first on.
use Prim.Native.Nat.{◌-◌}
use mathlib.Core.Path.{◌≡◌}
use Rattle.blorb.specs.Verdict.{accept}
use Rattle.blorb.specs.Format.{is_start}
use Rattle.chunks.specs.Walk.{walk_from, chunks_from}
use Rattle.chunks.proofs.begins.Given as goal

abbrev pub invariant-loop-at : goal.invariant-loop-at
invariant-loop-at l = (walk_from l.s l.at ≡ accept) × (is_start l.start l.at (chunks_from l.s l.at) ≡ is_start l.start l.from (chunks_from l.s l.from))

abbrev pub decreases-loop-at : goal.decreases-loop-at
decreases-loop-at l = l.start - l.at
