use Rattle.std.proofs.Common.{◌∙◌, sym, refl, arith, below_more}
use Rattle.describing.proofs.judge.first_bad.Goals as goal

pub loop-i-init : goal.loop-i-init
loop-i-init c = (refl, λ j h. absurd (omega arith))

pub returns-then-not-text_good : goal.returns-then-not-text_good
returns-then-not-text_good c =
    let l = c.loop-i in
    let found = rw l.invariant.0 at (sym c.text_good.ensures.0 ∙ c.if-not-text_good.true) in
    (c.loop-i-test.true, record { inside = omega (arith, c.loop-i-test.true); good = l.invariant.1; bad = λ h. found })

pub loop-i-preserved : goal.loop-i-preserved
loop-i-preserved c =
    let l = c.loop-i in
    let fine = rw l.invariant.0 at (sym c.text_good.ensures.0 ∙ c.if-not-text_good.false) in
    (c.text_good.ensures.1 ∙ l.invariant.0, below_more _ _ l.invariant.1 fine)

pub returns : goal.returns
returns c =
    let l = c.loop-i in
    record { inside = omega arith; good = λ j h. l.invariant.1 j (omega (arith, c.loop-i-test.false)); bad = λ h. absurd (omega arith) }
