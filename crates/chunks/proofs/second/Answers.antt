use mathlib.Core.Path.{refl, sym, ◌∙◌}
use native.Mathlib.Omega.{arith}
use Rattle.chunks.proofs.ChunkLaws.{second-next, second_hit, second_end, walked, fine}
use Rattle.chunks.proofs.second.Goals as goal

pub loop-at-init : goal.loop-at-init
loop-at-init c = (c.requires, refl)

pub be32_at-requires : goal.be32_at-requires
be32_at-requires c = omega (arith, (fine _ _ c.loop-at-test.true c.loop-at.invariant.0).header)

pub returns-then-be32_at-eq-RIDX : goal.returns-then-be32_at-eq-RIDX
returns-then-be32_at-eq-RIDX c =
    let inv = c.loop-at.invariant in
    second_hit _ _ c.loop-at-test.true inv.0 (sym c.be32_at.ensures.0 ∙ c.if-be32_at-eq-RIDX.true) ∙ inv.1

pub skip-at-requires : goal.skip-at-requires
skip-at-requires c = (fine _ _ c.loop-at-test.true c.loop-at.invariant.0).header

pub loop-at-smaller : goal.loop-at-smaller
loop-at-smaller c = omega (arith, c.skip-at.ensures)

pub loop-at-preserved : goal.loop-at-preserved
loop-at-preserved c =
    let there = c.loop-at-test.true in
    let inv = c.loop-at.invariant in
    rw c.skip-at.ensures
    (walked _ _ there inv.0, second-next _ _ there inv.0 (λ e. c.if-be32_at-eq-RIDX.false (c.be32_at.ensures.0 ∙ e)) ∙ inv.1)

pub returns : goal.returns
returns c = sym (second_end _ _ c.loop-at-test.false) ∙ c.loop-at.invariant.1
