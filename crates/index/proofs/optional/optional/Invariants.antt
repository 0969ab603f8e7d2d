use Rattle.chunks.specs.Walk.{walk_from, chunks_from}
use Rattle.blorb.specs.Verdict.{accept}
use mathlib.Core.Path.{◌≡◌}
use Prim.Native.Nat.{◌-◌}
use lib.ListN.{length}
use Rattle.index.specs.Optional.{pictured, rules_from, optional_fault}
use Rattle.index.proofs.optional.optional.Given as goal

abbrev pub invariant-loop-at : goal.invariant-loop-at
invariant-loop-at l = (walk_from l.s l.at ≡ accept) × (rules_from (pictured l.s l.count) l.reln l.fspc l.at (chunks_from l.s l.at) ≡ optional_fault l.s l.count)

abbrev pub decreases-loop-at : goal.decreases-loop-at
decreases-loop-at l = length l.s - l.at
