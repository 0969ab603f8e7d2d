-- A number's digits are those of its tenth part and then its last one.
use Rattle.std.proofs.Common.{arith, ◌∙◌, ◌^◌, ◌<◌, length}
use Rattle.listing.proofs.TextLaws.{room-one, room_on}
use Rattle.listing.proofs.WriteLaws.{one-digit, last_digit_lem}
use Rattle.listing.proofs.Page.+decimal.Goals as goal

pub text-requires : goal.text-requires
text-requires t c = omega (arith, room-one c.args.n c.args.self.now.at (length c.args.self.now.out.now) c.if-n-lt10.true c.requires)

pub returns-then-n-lt10 : goal.returns-then-n-lt10
returns-then-n-lt10 t c = (one-digit c.args.self.now.out.now c.args.self.now.at c.args.n _ _ c.if-n-lt10.true c.text.ensures.0, c.text.ensures.1, c.text.ensures.2)

pub decimal-requires : goal.decimal-requires
decimal-requires t c =
    let l : c.args.n < 2 ^ 64 = omega arith in
    let r = room_on c.args.n c.args.self.now.at (length c.args.self.now.out.now) c.if-n-lt10.false l c.requires in
    (omega arith, omega (arith, r))

pub text-requires-2 : goal.text-requires-2
text-requires-2 t c =
    let l : c.args.n < 2 ^ 64 = omega arith in
    let r = room_on c.args.n c.args.self.now.at (length c.args.self.now.out.now) c.if-n-lt10.false l c.requires in
    omega (arith, r)

pub returns : goal.returns
returns t c =
    let l : c.args.n < 2 ^ 64 = omega arith in (
      last_digit_lem c.args.self.now.out.now c.args.self.now.at c.args.n _ _ c.if-n-lt10.false l c.decimal.ensures.0 _ _ c.text-2.ensures.0,
      c.text-2.ensures.1 ∙ c.decimal.ensures.1,
      c.text-2.ensures.2 ∙ c.decimal.ensures.2,
    )
