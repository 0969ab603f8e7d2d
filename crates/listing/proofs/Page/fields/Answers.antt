-- Usage, number and start stand in the entry's twelve bytes; numbers of 32 bits have at most ten digits.
use native.Mathlib.Omega.{arith}
use mathlib.Core.Path.{◌∙◌}
use Rattle.listing.proofs.TextLaws.{decimal_10}
use Rattle.listing.proofs.LineLaws.{fields_text}
use Rattle.listing.proofs.Page.fields.Goals as goal

pub number-requires : goal.number-requires
number-requires c =
    omega (arith, decimal_10 _ c.be32_at-number.ensures.1)

pub number-requires-2 : goal.number-requires-2
number-requires-2 c =
    omega (arith, decimal_10 _ c.be32_at-number.ensures.1, decimal_10 _ c.be32_at-start.ensures.1)

pub returns : goal.returns
returns c =
    let a = c.args in
    let w = fields_text a.file.now a.p _ _ c.be32_at-number.ensures c.be32_at-start.ensures a.self.now.out.now a.self.now.at _ _ _ _ _ _
    (c.tag.ensures.0.0, c.tag.ensures.1)
    c.number.ensures.0 c.number-2.ensures.0 in
    ((w.0, c.number-2.ensures.1 ∙ c.number.ensures.1 ∙ c.tag.ensures.0.1, c.number-2.ensures.2 ∙ c.number.ensures.2 ∙ c.tag.ensures.0.2), w.1)
