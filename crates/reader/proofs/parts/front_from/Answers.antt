use native.Mathlib.Omega.{arith}
use mathlib.Core.Path.{refl, ◌∙◌}
use Rattle.chunks.proofs.ChunkLaws.{fine, walked}
use Rattle.reader.proofs.FrontLaws.{front_end, front-room, front_hit, front-next}
use Rattle.reader.proofs.parts.front_from.Goals as goal

pub loop-at-init : goal.loop-at-init
loop-at-init c = (c.requires.1, c.requires.2, refl)

pub be32_at-requires : goal.be32_at-requires
be32_at-requires c = omega (arith, (fine _ _ c.loop-at-test.true c.loop-at.invariant.0).header)

pub overflow_add-at : goal.overflow_add-at
overflow_add-at c = omega (
  arith,
  front-room _ _ c.loop-at-test.true c.loop-at.invariant.0
      c.loop-at.invariant.1 _ c.be32_at.ensures.0 c.if-be32_at-eq-FSPC.true,
)

pub be32_at-requires-then-be32_at-eq-FSPC : goal.be32_at-requires-then-be32_at-eq-FSPC
be32_at-requires-then-be32_at-eq-FSPC c = omega (
  arith,
  front-room _ _ c.loop-at-test.true c.loop-at.invariant.0
      c.loop-at.invariant.1 _ c.be32_at.ensures.0 c.if-be32_at-eq-FSPC.true,
)

pub returns-then-be32_at-eq-FSPC : goal.returns-then-be32_at-eq-FSPC
returns-then-be32_at-eq-FSPC c = front_hit _ _ c.loop-at-test.true c.loop-at.invariant.0
    c.loop-at.invariant.1 _ c.be32_at.ensures.0 c.if-be32_at-eq-FSPC.true _ c.be32_at-then-be32_at-eq-FSPC.ensures.0
    ∙ c.loop-at.invariant.2

pub skip-at-requires : goal.skip-at-requires
skip-at-requires c = (fine _ _ c.loop-at-test.true c.loop-at.invariant.0).header

pub loop-at-smaller : goal.loop-at-smaller
loop-at-smaller c = omega (arith, c.skip-at.ensures)

pub loop-at-preserved : goal.loop-at-preserved
loop-at-preserved c =
    let l = c.loop-at in
    let n = front-next _ _ c.loop-at-test.true l.invariant.0 l.invariant.1 _ c.be32_at.ensures.0
    c.if-be32_at-eq-FSPC.false in
    rw c.skip-at.ensures (walked _ _ c.loop-at-test.true l.invariant.0, n.0, n.1 ∙ l.invariant.2)

pub returns : goal.returns
returns c = front_end _ _ c.loop-at-test.false ∙ c.loop-at.invariant.2
