-- The header by is_form, the chunks by the walk: it accepts exactly where is_filled holds.
use mathlib.Core.Path.{sym, ◌∙◌}
use Rattle.aiff.proofs.CommonLaws.{not_form, form_filled}
use Rattle.aiff.proofs.common.is_aiff.Goals as goal

pub returns-then-is_form : goal.returns-then-is_form
returns-then-is_form c = form_filled _ _ _ (sym c.is_form.ensures ∙ c.if-is_form.true) c.walk.ensures.0 c.is_ok.ensures.value

pub returns-else-is_form : goal.returns-else-is_form
returns-else-is_form c = c.if-is_form.false ∙ not_form _ (sym c.is_form.ensures ∙ c.if-is_form.false)
