-- The texts of the rows passed are good, so the first one that isn't is the first of all.
use Rattle.std.proofs.Common.{◌≡◌, ◌<◌, ℕ, true}
use Rattle.describing.specs.Writing.{text_good_of}
use Rattle.describing.proofs.judge.first_bad.Given as goal

abbrev pub invariant-loop-i : goal.invariant-loop-i
invariant-loop-i l = (l.texts ≡ l.initial.texts) × ((j : ℕ) → j < l.i → text_good_of l.rows l.initial.texts.texts j ≡ true)
