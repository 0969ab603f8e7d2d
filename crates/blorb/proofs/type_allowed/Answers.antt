use mathlib.Core.Path.{sym, ◌∙◌}
use Rattle.blorb.proofs.UsageLaws.{allows_unknown, allows_known}
use Rattle.blorb.proofs.type_allowed.Goals as goal

pub returns-in_default : goal.returns-in_default
returns-in_default c = sym (allows_unknown _ _ _ (sym c.of_code.ensures ∙ c.in_default.is))

pub returns : goal.returns
returns c = c.allows.ensures ∙ allows_known _ _ _ _ (sym c.of_code.ensures ∙ c.in-Some.is)
