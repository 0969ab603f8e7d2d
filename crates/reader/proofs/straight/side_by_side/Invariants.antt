-- Every entry on the chunk that the walk has come to leaves the index's faults to the entries behind it, and at the end none is left. What is
-- remembered is allowed whatever comes, so an entry like it suits too.
use Prim.Native.Nat.{◌≤◌}
use mathlib.Core.Path.{◌≡◌}
use lib.ListN.{length}
use Rattle.blorb.specs.Verdict.{accept}
use Rattle.chunks.specs.Walk.{walk_from}
use Rattle.index.specs.Entries.{place, Below}
use Rattle.reader.specs.Straight.{Stands, Remembered, SoFar}
use Rattle.reader.proofs.straight.side_by_side.Given as goal

abbrev pub invariant-loop-j : goal.invariant-loop-j
invariant-loop-j l =
    (l.j ≤ l.count) × (length l.tops ≡ 8) × Stands l.s (place l.count) l.found l.at l.ordinary × Below l.s l.tops l.j
    × (walk_from l.s (place l.count) ≡ accept → SoFar l.profile l.s (place l.count) l.count l.j l.found l.at) × Remembered l.profile l.usage l.kind
