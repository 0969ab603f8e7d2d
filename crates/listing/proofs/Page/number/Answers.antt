-- What was written first and the digits behind it are written as one text.
use Rattle.std.proofs.Common.{arith, ◌∙◌}
use Rattle.listing.specs.Text.{decimal}
use Rattle.listing.proofs.WriteLaws.{more}
use Rattle.listing.proofs.Page.number.Goals as goal

pub decimal-requires : goal.decimal-requires
decimal-requires c = omega arith

pub returns : goal.returns
returns c =
    let a = c.args in
    (more a.self.now.out.now a.self.now.at a.text.now _ _ c.text.ensures.0 (decimal a.n) _ _ c.decimal.ensures.0, c.decimal.ensures.1 ∙ c.text.ensures.1, c.decimal.ensures.2 ∙ c.text.ensures.2)
