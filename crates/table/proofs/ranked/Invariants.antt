-- Entry by entry: how many stand before the row, and whether it is one of them.
use Prim.Native.Nat.{◌+◌, ◌≤◌}
use mathlib.Core.Path.{◌≡◌}
use mathlib.Core.Bool.{◌||◌}
use lib.ListN.{drop}
use Rattle.blorb.specs.Format.{entries_in}
use Rattle.rows.specs.Bridging.{rank, held}
use Rattle.table.proofs.ranked.Given as goal

abbrev pub invariant-loop-j : goal.invariant-loop-j
invariant-loop-j l = record {
  few : l.below ≤ l.j;
  rank : l.below + rank l.usage l.number (drop l.j (entries_in l.index.count (drop 24 l.index.file.now))) ≡ rank l.usage l.number
      (entries_in l.index.count (drop 24 l.index.file.now));
  held : l.there || held l.usage l.number l.start (drop l.j (entries_in l.index.count (drop 24 l.index.file.now))) ≡ held l.usage l.number l.start
      (entries_in l.index.count (drop 24 l.index.file.now));
}
