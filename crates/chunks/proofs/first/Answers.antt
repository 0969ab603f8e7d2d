-- The first chunk is there and is an index, or not; each return is one law on the bytes. An accepted walk has its header.
use Rattle.chunks.proofs.ChunkLaws.{first-none, first_other, first_good, fine}
use native.Mathlib.Omega.{arith}
use mathlib.Core.Path.{sym, ◌∙◌}
use Rattle.chunks.proofs.first.Goals as goal

pub returns-then-s-le12 : goal.returns-then-s-le12
returns-then-s-le12 c = first-none _ c.if-s-le12.true

pub be32_at-requires : goal.be32_at-requires
be32_at-requires c = omega (arith, (fine _ 12 (omega arith) c.requires).header)

pub returns-then-be32_at-ne-RIDX : goal.returns-then-be32_at-ne-RIDX
returns-then-be32_at-ne-RIDX c = first_other _ (omega arith) (λ e. c.if-be32_at-ne-RIDX.true (c.be32_at.ensures.0 ∙ e))

pub returns : goal.returns
returns c = first_good _ (omega arith) (sym c.be32_at.ensures.0 ∙ c.if-be32_at-ne-RIDX.false)
