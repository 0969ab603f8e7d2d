use native.Mathlib.Omega.{arith}
use Rattle.chunks.proofs.ChunkLaws.{fine}
use Rattle.index.proofs.OptionalLaws.{single_17, single_18, single-good}
use Rattle.index.proofs.optional.single.Goals as goal

pub returns-then-before : goal.returns-then-before
returns-then-before c = single_17 _ _ c.requires.0 c.requires.1 _ _ c.if-before.true

pub be32_at-requires : goal.be32_at-requires
be32_at-requires c = omega (arith, (fine _ _ c.requires.0 c.requires.1).header)

pub returns-then-be32_at-right : goal.returns-then-be32_at-right
returns-then-be32_at-right c = single_18 _ _ c.requires.0 c.requires.1 _ _ _ c.be32_at.ensures.0
    c.if-before.false c.if-be32_at-right.true

pub returns : goal.returns
returns c = single-good _ _ c.requires.0 c.requires.1 _ _ _ c.be32_at.ensures.0
    c.if-before.false c.if-be32_at-right.false
