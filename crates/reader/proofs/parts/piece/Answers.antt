use native.Mathlib.Omega.{arith}
use Rattle.reader.proofs.PartLaws.{entry-room, piece_is}
use Rattle.reader.proofs.parts.piece.Goals as goal

pub be32_at-requires : goal.be32_at-requires
be32_at-requires c = omega (arith, entry-room _ _ _ c.requires.0 c.requires.1 _ c.be32_at-start.ensures.0)

pub be32_at-requires-2 : goal.be32_at-requires-2
be32_at-requires-2 c = omega (
  arith,
  entry-room _ _ _ c.requires.0 c.requires.1 _
      c.be32_at-start.ensures.0,
)

pub returns : goal.returns
returns c = piece_is _ _ _ c.requires.0 c.requires.1 _ _ _ _
    c.be32_at-start.ensures.0 c.be32_at.ensures.0 c.be32_at-2.ensures.0 c.start_again.ensures
