-- Chunk by chunk from `at`: what is left holds the first 'Fspc' as long as none was met; its number can be read, as rule 7 has judged its length.
use Prim.Native.Nat.{◌-◌}
use mathlib.Core.Path.{◌≡◌}
use lib.ListN.{length}
use Rattle.blorb.specs.Verdict.{accept}
use Rattle.chunks.specs.Walk.{walk_from, chunks_from}
use Rattle.reader.specs.Passed.{Fronts, front_from_of}
use Rattle.reader.proofs.parts.front_from.Given as goal

abbrev pub invariant-loop-at : goal.invariant-loop-at
invariant-loop-at l = (walk_from l.s l.at ≡ accept) × Fronts (chunks_from l.s l.at) × (front_from_of l.at (chunks_from l.s l.at) ≡ front_from_of l.from (chunks_from l.s l.from))

abbrev pub decreases-loop-at : goal.decreases-loop-at
decreases-loop-at l = length l.s - l.at
