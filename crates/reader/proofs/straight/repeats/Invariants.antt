-- The entries before it are looked at from the first on, four at a time and the last ones singly.
use Prim.Native.Nat.{ℕ, ◌-◌, ◌≤◌}
use Rattle.reader.specs.Straight.{FreshTo}
use Rattle.reader.proofs.straight.repeats.Given as goal

abbrev pub invariant-loop-i : goal.invariant-loop-i
invariant-loop-i l = (l.i ≤ l.j) × ((base : ℕ) → FreshTo l.s base l.j l.i)

abbrev pub decreases-loop-i : goal.decreases-loop-i
decreases-loop-i l = l.j - l.i
