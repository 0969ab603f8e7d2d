-- The sign first, then the significand and its exponent field.
use mathlib.Core.Path.{◌∙◌}
use Rattle.aiff.proofs.RateLaws.{negative, positive}
use Rattle.aiff.proofs.rate.value.Goals as goal

pub returns-then-sign-ne0 : goal.returns-then-sign-ne0
returns-then-sign-ne0 c = negative _ _ _ c.if-sign-ne0.true

pub returns : goal.returns
returns c = let e = c.from.ensures in rw e at c.whole.ensures ∙ positive _ _ _ c.if-sign-ne0.false
