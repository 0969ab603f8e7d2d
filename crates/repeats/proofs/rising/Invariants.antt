-- A key above all those before it is none of them.
use mathlib.Core.Path.{◌≡◌}
use Prim.Native.Nat.{◌-◌, ◌≤◌}
use Rattle.repeats.specs.Source.{key}
use Rattle.repeats.specs.Repeats.{Apart, Below}
use Rattle.repeats.proofs.rising.Given as goal

abbrev pub invariant-loop-here : goal.invariant-loop-here
invariant-loop-here g l = record {
  list : l.here.list ≡ l.fn.list;
  within : l.here.entry ≤ l.n;
  apart : Apart (key (g.L.Keys.source l.fn.list)) 0 l.here.entry;
  below : Below (key (g.L.Keys.source l.fn.list)) l.top l.here.entry;
}

abbrev pub decreases-loop-here : goal.decreases-loop-here
decreases-loop-here g l = l.n - l.here.entry
