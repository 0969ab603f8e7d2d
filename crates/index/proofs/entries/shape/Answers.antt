use Rattle.chunks.proofs.ChunkLaws.{fine}
use native.Mathlib.Omega.{arith}
use Rattle.index.proofs.IndexLaws.{shape_short, shape-room, shape_other, shape_many, shape-good}
use Rattle.index.proofs.entries.shape.Goals as goal

pub be32_at-m-requires : goal.be32_at-m-requires
be32_at-m-requires c = let i = fine _ 12 c.requires.0 c.requires.1 in omega (arith, i.header)

pub returns-then-m-lt4 : goal.returns-then-m-lt4
returns-then-m-lt4 c = shape_short _ c.requires.0 c.requires.1 (omega (arith, c.be32_at-m.ensures.0))

pub be32_at-count-requires : goal.be32_at-count-requires
be32_at-count-requires c = shape-room _ c.requires.0 c.requires.1 (omega (arith, c.be32_at-m.ensures.0))

pub returns-then-m-count : goal.returns-then-m-count
returns-then-m-count c = shape_other _ c.requires.0 c.requires.1
    (omega (arith, c.be32_at-m.ensures.0))
    (λ e. c.if-m-count.true (omega (arith, c.be32_at-m.ensures.0, c.be32_at-count.ensures.0)))

pub returns-then-count-gt4096 : goal.returns-then-count-gt4096
returns-then-count-gt4096 c = shape_many _ c.requires.0 c.requires.1
    (omega (arith, c.be32_at-m.ensures.0)) (omega (
      arith,
      c.be32_at-m.ensures.0,
      c.be32_at-count.ensures.0,
      c.if-m-count.false,
    )) (omega (arith, c.be32_at-count.ensures.0))

pub returns : goal.returns
returns c = shape-good _ c.requires.0 c.requires.1
    (omega (arith, c.be32_at-m.ensures.0)) (omega (
      arith,
      c.be32_at-m.ensures.0,
      c.be32_at-count.ensures.0,
      c.if-m-count.false,
    )) (omega (arith, c.be32_at-count.ensures.0))
