-- By the definition; a remainder is below 896.
use mathlib.Core.Path.{ap}
use native.Mathlib.Omega.{arith}
use Prim.Native.Nat.{ℕ, ◌/◌, ◌%◌}
use Rattle.repeats.specs.Marks.{word_of}
use Rattle.repeats.proofs.marks.Scatter.word.Goals as goal

pub returns : goal.returns
unfolding word_of
returns c = (ap (λ (z : ℕ). z / 1048576 % 896) c.mix.ensures, omega arith)
