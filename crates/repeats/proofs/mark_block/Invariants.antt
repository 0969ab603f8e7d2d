-- Each round goes on where the last one stopped, over marks of its own factor; what is apart stays apart.
use mathlib.Core.Path.{◌≡◌}
use Prim.Native.Nat.{◌-◌, ◌≤◌}
use Rattle.repeats.specs.Source.{key}
use Rattle.repeats.specs.Repeats.{Apart}
use Rattle.repeats.proofs.mark_block.Given as goal

abbrev pub invariant-loop-here : goal.invariant-loop-here
invariant-loop-here g l = record {
  list : l.here.list ≡ l.from.list;
  first : l.from.entry ≤ l.here.entry;
  within : l.here.entry ≤ l.e;
  apart : Apart (key (g.L.Keys.source l.from.list)) l.from.entry l.here.entry;
}

abbrev pub decreases-loop-here : goal.decreases-loop-here
decreases-loop-here g l = l.e - l.here.entry
