-- One entry more is marked at each turn, and marks that are set stay set.
use mathlib.Core.Path.{◌≡◌}
use Prim.Native.Nat.{◌-◌, ◌≤◌}
use Rattle.repeats.specs.Source.{key}
use Rattle.repeats.specs.Marks.{Marked}
use Rattle.repeats.proofs.mark_all.Given as goal

abbrev pub invariant-loop-here : goal.invariant-loop-here
invariant-loop-here g l = record {
  list : l.here.list ≡ l.fn.from.list;
  within : l.here.entry ≤ l.e;
  marked : Marked l.marks l.by (key (g.L.Keys.source l.fn.from.list)) l.fn.from.entry l.here.entry;
}

abbrev pub decreases-loop-here : goal.decreases-loop-here
decreases-loop-here g l = l.e - l.here.entry
