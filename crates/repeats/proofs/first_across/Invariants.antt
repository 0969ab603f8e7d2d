-- Each round goes on where the last one stopped, over marks of its own factor; the best entry found so far only falls.
use mathlib.Core.Path.{◌≡◌}
use Prim.Native.Nat.{◌-◌, ◌≤◌, ◌<◌}
use mathlib.Core.Bool.{true}
use Rattle.repeats.specs.Source.{key}
use Rattle.repeats.specs.Repeats.{among, Across}
use Rattle.repeats.proofs.first_across.Given as goal

abbrev pub invariant-loop-here : goal.invariant-loop-here
invariant-loop-here g l = record {
  list : l.here.list ≡ l.from.list;
  within : l.here.entry ≤ l.b;
  first : l.b ≤ l.best;
  below : l.best ≤ l.e;
  across : Across (key (g.L.Keys.source l.from.list)) l.here.entry l.b l.best;
  hit : l.best < l.e → among (key (g.L.Keys.source l.from.list)) (key (g.L.Keys.source l.from.list) l.best) l.best ≡ true;
}

abbrev pub decreases-loop-here : goal.decreases-loop-here
decreases-loop-here g l = l.b - l.here.entry
