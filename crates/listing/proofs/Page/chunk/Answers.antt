-- The pieces are written one behind the other: a space, the type, the length of what a lookup gives of the chunk, the line's end.
use native.Mathlib.Omega.{arith}
use mathlib.Core.Path.{ap, ◌∙◌}
use Rattle.blorb.specs.Lookup.{left_out_of}
use Rattle.listing.proofs.TextLaws.{decimal-size}
use Rattle.listing.proofs.LineLaws.{chunk-text}
use Rattle.listing.proofs.Page.chunk.Goals as goal

pub number-requires : goal.number-requires
number-requires c =
    omega (arith, decimal-size _ c.left_out.result c.be32_at.ensures.1)

pub text-requires-2 : goal.text-requires-2
text-requires-2 c =
    omega (arith, decimal-size _ c.left_out.result c.be32_at.ensures.1)

pub returns : goal.returns
returns c =
    let a = c.args in
    let kind_is = c.be32_at-kind.ensures.0 in
    let w = chunk-text a.file.now a.start _ _ c.be32_at.ensures (c.left_out.ensures.0 ∙ ap left_out_of kind_is) a.self.now.out.now a.self.now.at _ _ _ _ _ _ _ _
    c.text.ensures.0
    (c.tag.ensures.0.0, c.tag.ensures.1)
    c.number.ensures.0 c.text-2.ensures.0 in
    ((w.0, c.text-2.ensures.1 ∙ c.number.ensures.1 ∙ c.tag.ensures.0.1 ∙ c.text.ensures.1, c.text-2.ensures.2 ∙ c.number.ensures.2 ∙ c.tag.ensures.0.2 ∙ c.text.ensures.2), w.1)
