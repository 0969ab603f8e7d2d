use native.Mathlib.Omega.{arith}
use Rattle.chunks.proofs.ChunkLaws.{fine}
use Rattle.aiff.proofs.CommonLaws.{seeking_start, seeking_on, sees}
use Rattle.aiff.proofs.common.seen_in.Goals as goal

pub loop-at-init : goal.loop-at-init
loop-at-init c = seeking_start _ c.requires

pub be32_at-requires : goal.be32_at-requires
be32_at-requires c = omega (arith, (fine _ _ c.loop-at-test.true c.loop-at.invariant.rest).header)

pub skip-at-requires : goal.skip-at-requires
skip-at-requires c = (fine _ _ c.loop-at-test.true c.loop-at.invariant.rest).header

pub loop-at-smaller : goal.loop-at-smaller
loop-at-smaller c = omega (arith, c.skip-at.ensures)

pub loop-at-preserved : goal.loop-at-preserved
loop-at-preserved c =
    rw c.seen_next-seen.ensures
    (seeking_on _ _ _ _ _ c.loop-at-test.true c.be32_at.ensures.0 c.skip-at.ensures c.loop-at.invariant)

pub returns : goal.returns
returns c = sees _ _ _ c.loop-at-test.false c.loop-at.invariant
