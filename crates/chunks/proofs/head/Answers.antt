-- The code asks in the definition's order; each return is one law on the bytes (HeadLaws), given the tests passed so far.
use mathlib.Core.Path.{sym, ◌∙◌}
use native.Mathlib.Omega.{arith}
use Rattle.chunks.proofs.HeadLaws.{head_1, head_2, head_3, head_4, head_5, head-good}
use Rattle.chunks.proofs.head.Goals as goal

pub returns-then-s-gt16777216 : goal.returns-then-s-gt16777216
returns-then-s-gt16777216 c = head_1 _ c.if-s-gt16777216.true

pub returns-then-s-lt12 : goal.returns-then-s-lt12
returns-then-s-lt12 c = head_2 _ c.if-s-gt16777216.false c.if-s-lt12.true

pub returns-then-be32_at-ne-FORM : goal.returns-then-be32_at-ne-FORM
returns-then-be32_at-ne-FORM c = head_3 _ (omega arith) (omega arith) (λ e. c.if-be32_at-ne-FORM.true (c.be32_at.ensures.0 ∙ e))

pub returns-then-be32_at-ne-IFRS : goal.returns-then-be32_at-ne-IFRS
returns-then-be32_at-ne-IFRS c =
    head_4 _ (omega arith) (omega arith) (sym c.be32_at.ensures.0 ∙ c.if-be32_at-ne-FORM.false)
    (λ e. c.if-be32_at-ne-IFRS.true (c.be32_at-2.ensures.0 ∙ e))

pub returns-then-be32_at-s : goal.returns-then-be32_at-s
returns-then-be32_at-s c =
    head_5 _ (omega arith) (omega arith) (sym c.be32_at.ensures.0 ∙ c.if-be32_at-ne-FORM.false)
    (sym c.be32_at-2.ensures.0 ∙ c.if-be32_at-ne-IFRS.false) (λ e. c.if-be32_at-s.true (omega (arith, c.be32_at-3.ensures.0)))

pub returns : goal.returns
returns c =
    head-good _ (omega arith) (omega arith) (sym c.be32_at.ensures.0 ∙ c.if-be32_at-ne-FORM.false)
    (sym c.be32_at-2.ensures.0 ∙ c.if-be32_at-ne-IFRS.false) (omega (arith, c.be32_at-3.ensures.0, c.if-be32_at-s.false))
