use mathlib.Core.Path.{sym, ◌∙◌}
use native.Mathlib.Omega.{arith}
use Rattle.chunks.proofs.ChunkLaws.{fine}
use Rattle.index.proofs.IndexLaws.{hit_begun}
use Rattle.index.proofs.OptionalLaws.{front-none, front_rect, front-there}
use Rattle.index.proofs.optional.frontispiece.Goals as goal

pub returns-in_default : goal.returns-in_default
returns-in_default c = front-none _ _ _ _ c.be32_at.ensures.0 (sym c.find.ensures ∙ c.in_default.is)

pub be32_at-requires-2 : goal.be32_at-requires-2
be32_at-requires-2 c = let b = hit_begun _ _ _ _ _ c.requires.0
    (sym c.find.ensures ∙ c.in-Some.is) in omega (arith, (fine _ _ b.0 b.1).header)

pub returns-then-be32_at-eq-RECT : goal.returns-then-be32_at-eq-RECT
returns-then-be32_at-eq-RECT c = front_rect _ _ _ _ c.be32_at.ensures.0 _ _
    (sym c.find.ensures ∙ c.in-Some.is) c.be32_at-2.ensures.0
    c.if-be32_at-eq-RECT.true

pub returns : goal.returns
returns c = front-there c.args.s.now
    c.args.count
    c.args.at c.be32_at.result
    c.be32_at.ensures.0 _ _ (sym c.find.ensures
    ∙ c.in-Some.is) c.be32_at-2.ensures.0 c.if-be32_at-eq-RECT.false
