-- The search ends with nothing, one chunk or several; of one the length field is looked at, which lies in the bytes.
use mathlib.Core.Path.{sym, ◌∙◌}
use native.Mathlib.Omega.{arith}
use Rattle.aiff.specs.Seeing.{Sees}
use Rattle.aiff.specs.declared.common.Seen.TheVariants.{One}
use Rattle.aiff.proofs.CommonLaws.{told_none, told-one, told_other}
use Rattle.aiff.proofs.common.common_in.Goals as goal
use Rattle.aiff.proofs.common.common_in.Goals.{In-One}

-- one chunk was seen, at `at`
one : (c : In-One) → Sees c.args.s.now (One c.in-One.at)
one c = let e = c.seen_in.ensures in rw c.in-One.is at e

pub overflow_add-at : goal.overflow_add-at
overflow_add-at c = omega (arith, (one (goal.at.overflow_add-at c).In-One).1.inside)

pub be32_at-requires : goal.be32_at-requires
be32_at-requires c = omega (arith, (one (goal.at.be32_at-requires c).In-One).1.inside)

pub returns-then-be32_at-eq18 : goal.returns-then-be32_at-eq18
returns-then-be32_at-eq18 c = told-one _ _ (one (goal.at.returns-then-be32_at-eq18 c).In-One) (sym c.be32_at.ensures.0 ∙ c.if-be32_at-eq18.true)

pub returns-else-be32_at-eq18 : goal.returns-else-be32_at-eq18
returns-else-be32_at-eq18 c = told_other _ _ (one (goal.at.returns-else-be32_at-eq18 c).In-One) (λ z. c.if-be32_at-eq18.false (c.be32_at.ensures.0 ∙ z))

pub returns-in_default : goal.returns-in_default
returns-in_default c = told_none _ c.seen_in.result c.in_default.not-One c.seen_in.ensures
