-- The entries that do not stand behind the last of the first i rows are i and all among them; so these rows are the first of the sorted ones. An entry
-- before the last of the rows known to be right is one of those.
use Prim.Native.Nat.{ℕ, ◌+◌, ◌*◌, ◌-◌, ◌≤◌, ◌<◌}
use mathlib.Core.Path.{◌≡◌}
use mathlib.Core.Bool.{false}
use lib.ListN.{get_or, drop}
use Rattle.blorb.specs.Bytes.{rd32}
use Rattle.blorb.specs.Format.{entries_in}
use Rattle.rows.specs.Rows.{rows_by}
use Rattle.rows.specs.Order.{before}
use Rattle.rows.specs.Bridging.{upto}
use Rattle.table.proofs.CheckLaws.{Held}
use Rattle.table.proofs.front.Given as goal

abbrev pub invariant-loop-j : goal.invariant-loop-j
invariant-loop-j l = record {
  few : l.n ≤ l.j;
  count : l.n + upto (get_or l.fn.t.numbers.now ((l.i - 1) * l.fn.t.step) 0) (get_or l.fn.t.numbers.now ((l.i - 1) * l.fn.t.step + l.fn.t.gap) 0)
      (drop l.j (entries_in l.index.count (drop 24 l.index.file.now))) ≡ upto (get_or l.fn.t.numbers.now ((l.i - 1) * l.fn.t.step) 0)
      (get_or l.fn.t.numbers.now ((l.i - 1) * l.fn.t.step + l.fn.t.gap) 0) (entries_in l.index.count (drop 24 l.index.file.now));
  held : (m : ℕ) → m < l.j → before (get_or l.fn.t.numbers.now ((l.i - 1) * l.fn.t.step) 0) (get_or l.fn.t.numbers.now ((l.i - 1) * l.fn.t.step + l.fn.t.gap) 0)
      (rd32 (drop (24 + 12 * m) l.index.file.now)) (rd32 (drop (24 + 12 * m + 4) l.index.file.now)) ≡ false
      → Held l.index.file.now (rows_by l.fn.t.numbers.now l.i l.fn.t.step l.fn.t.gap) m;
}
