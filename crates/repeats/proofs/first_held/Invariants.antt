-- The entries gone by have no suspect's key.
use mathlib.Core.Path.{◌≡◌}
use Prim.Native.Nat.{◌-◌, ◌≤◌}
use Rattle.repeats.specs.Source.{key}
use Rattle.repeats.specs.Suspects.{Free}
use Rattle.repeats.proofs.first_held.Given as goal

abbrev pub invariant-loop-here : goal.invariant-loop-here
invariant-loop-here g l = record {
  list : l.here.list ≡ l.fn.from.list;
  first : l.fn.from.entry ≤ l.here.entry;
  within : l.here.entry ≤ l.e;
  free : Free l.suspects.keys l.suspects.count (key (g.L.Keys.source l.fn.from.list)) l.fn.from.entry l.here.entry;
}

abbrev pub decreases-loop-here : goal.decreases-loop-here
decreases-loop-here g l = l.e - l.here.entry
