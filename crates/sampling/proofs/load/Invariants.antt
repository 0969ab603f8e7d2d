-- At each turn the first numbers are loaded.
use Rattle.std.proofs.Common.{◌≡◌}
use Rattle.sampling.specs.Samples.{loaded_to}
use Rattle.sampling.proofs.load.Given as goal

abbrev pub invariant-loop-k : goal.invariant-loop-k
invariant-loop-k l = l.t ≡ loaded_to l.k l.bytes l.initial.t
