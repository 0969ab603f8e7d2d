-- The entries are looked at one by one; the first with the same pair ends the search.
use Prim.Native.Nat.{ℕ, ◌≤◌}
use Rattle.reader.specs.Straight.{FreshTo}
use Rattle.reader.proofs.straight.in_rest.Given as goal

abbrev pub invariant-loop-i : goal.invariant-loop-i
invariant-loop-i l = (l.i ≤ l.j) × ((base : ℕ) → FreshTo l.s base l.j l.from → FreshTo l.s base l.j l.i)
