-- An entry whose marks are all set becomes a suspect. A round that stops has 32 of them, so it has come on.
use mathlib.Core.Path.{◌≡◌}
use Prim.Native.Nat.{◌+◌, ◌-◌, ◌≤◌}
use Rattle.repeats.specs.Source.{key}
use Rattle.repeats.specs.Suspects.{Caught, Earlier}
use Rattle.repeats.proofs.hold_round.Given as goal

abbrev pub invariant-loop-here : goal.invariant-loop-here
invariant-loop-here g l = record {
  list : l.here.list ≡ l.fn.from.list;
  within : l.here.entry ≤ l.b;
  few : l.count ≤ 32;
  on : l.fn.from.entry + l.count ≤ l.here.entry;
  caught : Caught l.marks l.by l.suspects.keys l.count (key (g.L.Keys.source l.fn.from.list)) l.fn.from.entry l.here.entry;
  earlier : Earlier l.suspects.keys l.count (key (g.L.Keys.source l.fn.from.list)) l.b;
}

abbrev pub decreases-loop-here : goal.decreases-loop-here
decreases-loop-here g l = l.b - l.here.entry
