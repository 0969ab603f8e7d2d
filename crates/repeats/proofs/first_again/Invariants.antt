-- A suspect's key that was met before is seen again; all keys that were met are marked as seen.
use mathlib.Core.Path.{◌≡◌}
use Prim.Native.Nat.{◌-◌, ◌≤◌}
use lib.ListN.{length}
use Rattle.repeats.specs.Source.{key}
use Rattle.repeats.specs.Suspects.{Once, SeenSome, SeenAll}
use Rattle.repeats.proofs.first_again.Given as goal

abbrev pub invariant-loop-here : goal.invariant-loop-here
invariant-loop-here g l = record {
  list : l.here.list ≡ l.fn.from.list;
  first : l.fn.from.entry ≤ l.here.entry;
  within : l.here.entry ≤ l.e;
  seen : length l.seen ≡ 32;
  once : Once l.suspects.keys l.suspects.count (key (g.L.Keys.source l.fn.from.list)) l.fn.from.entry l.here.entry;
  some : SeenSome l.seen l.suspects.keys l.suspects.count (key (g.L.Keys.source l.fn.from.list)) l.here.entry;
  all : SeenAll l.seen l.suspects.keys l.suspects.count (key (g.L.Keys.source l.fn.from.list)) l.fn.from.entry l.here.entry;
}

abbrev pub decreases-loop-here : goal.decreases-loop-here
decreases-loop-here g l = l.e - l.here.entry
