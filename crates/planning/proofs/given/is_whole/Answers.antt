-- The code's tests are the definition's, one by one, behind that of the type.
use mathlib.Core.Path.{sym, ◌∙◌}
use Rattle.planning.proofs.GivenLaws.{whole_other, whole_short, whole_unnamed, whole_sized}
use Rattle.planning.proofs.given.is_whole.Goals as goal

pub returns-then-kind-ne-FORM : goal.returns-then-kind-ne-FORM
returns-then-kind-ne-FORM c = whole_other _ _ c.if-kind-ne-FORM.true

pub returns-then-d-lt8 : goal.returns-then-d-lt8
returns-then-d-lt8 c = whole_short _ _ c.if-kind-ne-FORM.false c.if-d-lt8.true

pub returns-then-be32_at-ne-FORM : goal.returns-then-be32_at-ne-FORM
returns-then-be32_at-ne-FORM c = whole_unnamed _ _ c.if-kind-ne-FORM.false c.if-d-lt8.false (λ e. c.if-be32_at-ne-FORM.true (c.be32_at.ensures.0 ∙ e))

pub returns : goal.returns
returns c = whole_sized _ _ c.if-kind-ne-FORM.false c.if-d-lt8.false _ (sym
    c.be32_at.ensures.0 ∙ c.if-be32_at-ne-FORM.false) c.be32_at-2.ensures.0
