-- One suspect more is looked at in each turn.
use mathlib.Core.Path.{◌≡◌}
use Rattle.repeats.specs.Suspects.{held}
use Rattle.repeats.proofs.suspects.Suspects.contains.Given as goal

abbrev pub invariant-loop-c : goal.invariant-loop-c
invariant-loop-c l = l.there ≡ held l.self.keys l.c l.k
