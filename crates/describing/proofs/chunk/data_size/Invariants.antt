-- What is summed up and what is left are the whole size all the time; over the limit it can only grow.
use Prim.Native.Nat.{◌+◌, ◌-◌, ◌≤◌}
use mathlib.Core.Path.{◌≡◌}
use Rattle.describing.specs.Bridging.{entries_size}
use Rattle.describing.proofs.chunk.data_size.Given as goal

abbrev pub invariant-loop-i : goal.invariant-loop-i
invariant-loop-i l = (l.size ≤ 16777216) × (l.size + entries_size l.rows (l.n - l.i) l.i ≡ 4 + entries_size l.rows l.n 0)
