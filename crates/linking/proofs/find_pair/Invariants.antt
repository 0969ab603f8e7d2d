-- The loop keeps that the pair's place among the entries from i on, and i, make its place among all: an entry with the pair ends it, any other is passed over.
use mathlib.Core.Path.{◌≡◌}
use Prim.Native.Nat.{◌+◌}
use lib.ListN.{drop}
use Rattle.blorb.specs.Model.{model}
use Rattle.blorb.specs.Queries.{find}
use Rattle.linking.proofs.find_pair.Given as goal

abbrev pub invariant-loop-i : goal.invariant-loop-i
invariant-loop-i l = l.i + find l.pair.usage l.pair.number (drop l.i (model l.s).refs) ≡ find l.pair.usage l.pair.number (model l.s).refs
