-- The line is two numbers of at most 20 digits and the words around them.
use native.Mathlib.Omega.{arith}
use mathlib.Core.Path.{◌∙◌}
use Rattle.listing.proofs.TextLaws.{decimal_20}
use Rattle.listing.proofs.LineLaws.{refused_line_lem}
use Rattle.listing.proofs.Page.refusal.Goals as goal

pub number-requires : goal.number-requires
number-requires c = omega (arith, decimal_20 c.args.number)

pub number-requires-2 : goal.number-requires-2
number-requires-2 c =
    omega (arith, decimal_20 c.args.number, decimal_20 c.args.place)

pub text-requires : goal.text-requires
text-requires c =
    omega (arith, decimal_20 c.args.number, decimal_20 c.args.place)

pub returns : goal.returns
returns c =
    let a = c.args in
    let w = refused_line_lem a.self.now.out.now a.self.now.at _ _ _ _ _ _ a.number a.place c.number.ensures.0 c.number-2.ensures.0 c.text.ensures.0 in
    ((w.0, c.text.ensures.1 ∙ c.number-2.ensures.1 ∙ c.number.ensures.1, c.text.ensures.2 ∙ c.number-2.ensures.2 ∙ c.number.ensures.2), w.1)
