-- Before each block no two keys are the same; in the first block with a repeat, the least of its own and the one across is the answer.
use mathlib.Core.Path.{◌≡◌}
use Prim.Native.Nat.{◌-◌, ◌≤◌}
use Rattle.repeats.specs.Source.{key}
use Rattle.repeats.specs.Repeats.{Apart}
use Rattle.repeats.proofs.first_repeat.Given as goal

abbrev pub invariant-loop-here : goal.invariant-loop-here
invariant-loop-here g l = record {
  list : l.here.list ≡ l.fn.from.list;
  within : l.here.entry ≤ l.n;
  apart : Apart (key (g.L.Keys.source l.fn.from.list)) 0 l.here.entry;
}

abbrev pub decreases-loop-here : goal.decreases-loop-here
decreases-loop-here g l = l.n - l.here.entry
