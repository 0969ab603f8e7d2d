use mathlib.Core.Path.{refl, sym, ◌∙◌}
use native.Mathlib.Omega.{arith}
use Rattle.chunks.proofs.ChunkLaws.{walked, fine}
use Rattle.locate.proofs.LocateLaws.{of_end, of_other}
use Rattle.locate.proofs.next_of.Goals as goal

pub loop-at-init : goal.loop-at-init
loop-at-init c = (c.requires, refl)

pub be32_at-requires : goal.be32_at-requires
be32_at-requires c = omega (arith, (fine _ _ c.loop-at-test.true c.loop-at.invariant.0).header)

pub returns-then-be32_at-kind : goal.returns-then-be32_at-kind
returns-then-be32_at-kind c =
    let inv = c.loop-at.invariant in
    record { inside = c.loop-at-test.true; walks = inv.0; same = inv.1; type = sym c.be32_at.ensures.0 ∙ c.if-be32_at-kind.true }

pub skip-at-requires : goal.skip-at-requires
skip-at-requires c = (fine _ _ c.loop-at-test.true c.loop-at.invariant.0).header

pub loop-at-smaller : goal.loop-at-smaller
loop-at-smaller c = omega (arith, c.skip-at.ensures)

pub loop-at-preserved : goal.loop-at-preserved
loop-at-preserved c =
    let there = c.loop-at-test.true in
    let inv = c.loop-at.invariant in
    rw c.skip-at.ensures
    (walked _ _ there inv.0, of_other _ _ _ there inv.0 (λ e. c.if-be32_at-kind.false (c.be32_at.ensures.0 ∙ e)) ∙ inv.1)

pub returns : goal.returns
returns c = let inv = c.loop-at.invariant in sym inv.1 ∙ of_end _ _ _ c.loop-at-test.false
