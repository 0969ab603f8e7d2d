-- Rows that are right from the first on, one more with each turn, until one is not, or none is left.
use Rattle.rows.specs.Order.{sorted}
use Rattle.rows.specs.Bridging.{Alike}
use Rattle.table.specs.Bridging.{first_entries, rows_in}
use Rattle.table.proofs.differing.Given as goal

abbrev pub invariant-loop-i : goal.invariant-loop-i
invariant-loop-i l = Alike (rows_in l.t) (sorted (first_entries l.index.count l.index.file.now)) l.i
