-- An entry that repeats one of the marked ones has all its marks set, so it becomes a suspect. A round that stops has 32 of them, so it has come on.
use mathlib.Core.Path.{◌≡◌}
use Prim.Native.Nat.{◌+◌, ◌-◌, ◌≤◌}
use Rattle.repeats.specs.Source.{key}
use Rattle.repeats.specs.Marks.{Marked}
use Rattle.repeats.specs.Suspects.{RepeatsHeld}
use Rattle.repeats.proofs.mark_round.Given as goal

abbrev pub invariant-loop-here : goal.invariant-loop-here
invariant-loop-here g l = record {
  list : l.here.list ≡ l.fn.from.list;
  within : l.here.entry ≤ l.e;
  few : l.count ≤ 32;
  on : l.fn.from.entry + l.count ≤ l.here.entry;
  marked : Marked l.marks l.by (key (g.L.Keys.source l.fn.from.list)) l.b l.here.entry;
  held : RepeatsHeld l.suspects.keys l.count (key (g.L.Keys.source l.fn.from.list)) l.b l.fn.from.entry l.here.entry;
}

abbrev pub decreases-loop-here : goal.decreases-loop-here
decreases-loop-here g l = l.e - l.here.entry
