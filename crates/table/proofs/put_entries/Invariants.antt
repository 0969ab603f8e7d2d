-- After each turn the slice has one more entry at its front, and behind it what it had.
use Prim.Native.Nat.{◌*◌}
use mathlib.Core.Path.{◌≡◌}
use mathlib.Core.List.{◌++◌}
use lib.ListN.{take, drop}
use Rattle.blorb.specs.Format.{entries_in}
use Rattle.rows.specs.Rows.{flat}
use Rattle.table.proofs.put_entries.Given as goal

abbrev pub invariant-loop-row : goal.invariant-loop-row
invariant-loop-row l = l.t ≡ flat (take l.row (entries_in l.index.count (drop 24 l.index.file.now))) ++ drop (3 * l.row) l.initial.t
