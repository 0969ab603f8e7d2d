-- Whatever number of rows the bisection ends with was shown to be right.
use Prim.Native.Nat.{◌+◌, ◌-◌, ◌≤◌, ◌<◌}
use Rattle.rows.specs.Order.{sorted}
use Rattle.rows.specs.Bridging.{Alike}
use Rattle.table.specs.Bridging.{first_entries, rows_in}
use Rattle.table.proofs.aligned.Given as goal

abbrev pub invariant-loop-low : goal.invariant-loop-low
invariant-loop-low l = record {
  gap : l.low < l.high;
  within : l.high ≤ l.most + 1;
  right : Alike (rows_in l.t) (sorted (first_entries l.index.count l.index.file.now)) l.low;
}

abbrev pub decreases-loop-low : goal.decreases-loop-low
decreases-loop-low l = l.high - l.low
