use Rattle.std.proofs.lemmas.Result.{err_from_is_err_and}
use Rattle.chunks.proofs.ChunkLaws.{fine, walked}
use native.Mathlib.Omega.{arith}
use mathlib.Core.Path.{refl, sym, ◌∙◌}
use Rattle.index.specs.Optional.{optional_fault}
use Rattle.index.proofs.OptionalLaws.{rules_end, rules_next, rules_stop}
use Rattle.index.proofs.optional.optional.Goals as goal

pub loop-at-init : goal.loop-at-init
unfolding optional_fault
loop-at-init c = (c.requires.walks, refl)

pub optional_chunk-requires : goal.optional_chunk-requires
optional_chunk-requires c = (c.requires, c.loop-at-test.true, c.loop-at.invariant.0)

pub returns-in_err-optional_chunk : goal.returns-in_err-optional_chunk
returns-in_err-optional_chunk c =
    let p = err_from_is_err_and c.from_residual.result c.from_residual.ensures.1 in
    rw (p.1, p.2)
    (rules_stop _ _ _ _ _ c.loop-at-test.true c.loop-at.invariant.0 _ _ (sym c.in_err-optional_chunk.ensures) ∙ c.loop-at.invariant.1)

pub be32_at-t-requires : goal.be32_at-t-requires
be32_at-t-requires c = omega (arith, (fine _ _ c.loop-at-test.true c.loop-at.invariant.0).header)

pub skip-at-requires : goal.skip-at-requires
skip-at-requires c = (fine _ _ c.loop-at-test.true
    c.loop-at.invariant.0).header

pub loop-at-smaller : goal.loop-at-smaller
loop-at-smaller c = omega (arith, c.skip-at.ensures)

pub loop-at-preserved : goal.loop-at-preserved
loop-at-preserved c =
    rw c.skip-at.ensures (
      walked _ _ c.loop-at-test.true
          c.loop-at.invariant.0,
      rules_next _ _ _ _ _ c.loop-at-test.true
          c.loop-at.invariant.0 _ c.be32_at-t.ensures.0
          (sym c.in_ok-optional_chunk.ensures)
          ∙ c.loop-at.invariant.1,
    )

pub returns : goal.returns
returns c = sym (rules_end _ _ _ _ _ c.loop-at-test.false) ∙ c.loop-at.invariant.1
