-- Each way out is one of the definition's: what is left over, or does not fit, gives no rate.
use Rattle.aiff.proofs.RateLaws.{none_of_zero, none_of_few, none_of_left, part_if, none_of_many, none_of_large, times_if}
use native.Mathlib.Omega.{arith}
use Rattle.aiff.proofs.rate.whole.Goals as goal

pub returns-then-significand-eq0 : goal.returns-then-significand-eq0
returns-then-significand-eq0 c = none_of_zero _ _ c.if-significand-eq0.true

pub returns-in_err-parts : goal.returns-in_err-parts
returns-in_err-parts c =
    rw c.from_residual.ensures
    (none_of_few c.args.significand c.args.exponent c.if-exponent-lt-UNIT.true c.in_err-parts.ensures (omega arith))

pub returns-then-significand-parts-ne0 : goal.returns-then-significand-parts-ne0
returns-then-significand-parts-ne0 c =
    let p = c.in_ok-parts.ensures in
    none_of_left _ _ c.if-exponent-lt-UNIT.true _ p.0 p.1 c.if-significand-parts-ne0.true

pub returns-then-exponent-lt-UNIT : goal.returns-then-exponent-lt-UNIT
returns-then-exponent-lt-UNIT c =
    let p = c.in_ok-parts.ensures in
    part_if _ _ c.if-exponent-lt-UNIT.true _ p.0 p.1 _ c.if-significand-parts-ne0.false c.if-significand-eq0.false c.in_range.ensures

pub returns-in_err-times : goal.returns-in_err-times
returns-in_err-times c =
    rw c.from_residual-in_err-times.ensures
    (none_of_many c.args.significand c.args.exponent c.if-exponent-lt-UNIT.false c.if-significand-eq0.false c.in_err-times.ensures)

pub returns-in_err-checked_mul : goal.returns-in_err-checked_mul
returns-in_err-checked_mul c =
    let p = c.in_ok-times.ensures in
    rw c.from_residual-in_err-checked_mul.ensures
    (none_of_large c.args.significand c.args.exponent c.if-exponent-lt-UNIT.false c.if-significand-eq0.false _ p.0 p.1 c.in_err-checked_mul.ensures)

pub returns : goal.returns
returns c =
    let p = c.in_ok-times.ensures in
    let q = c.in_ok-checked_mul.ensures in
    times_if _ _ c.if-exponent-lt-UNIT.false c.if-significand-eq0.false _ p.0 p.1 _ _ q.1 c.in_range-2.ensures
