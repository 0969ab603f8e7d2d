-- All bytes passed can only stand inside a character. Behind the end no byte does, so the search ends.
use mathlib.Core.Path.{◌≡◌}
use Prim.Native.Nat.{ℕ, ◌-◌, ◌≤◌, ◌<◌}
use mathlib.Core.Bool.{true}
use lib.ListN.{length}
use Rattle.utf8.specs.Runs.{tail}
use Rattle.shared_texts.proofs.first_start.Given as goal

abbrev pub invariant-loop-at : goal.invariant-loop-at
invariant-loop-at l = (l.x ≤ l.at) × (l.at ≤ length l.texts) × ((k : ℕ) → k < l.at → l.x ≤ k → tail l.texts k ≡ true)

abbrev pub decreases-loop-at : goal.decreases-loop-at
decreases-loop-at l = length l.texts - l.at
