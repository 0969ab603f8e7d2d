-- Each entry so far is among the rows.
use Prim.Native.Nat.{ℕ, ◌<◌}
use Rattle.table.specs.Bridging.{rows_in}
use Rattle.table.proofs.CheckLaws.{Held}
use Rattle.table.proofs.lists.Given as goal

abbrev pub invariant-loop-i : goal.invariant-loop-i
invariant-loop-i l = (j : ℕ) → j < l.i → Held l.index.file.now (rows_in l.t) j
