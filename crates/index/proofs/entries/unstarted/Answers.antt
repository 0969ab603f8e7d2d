-- Where no chunk begins at the start, the usage alone tells 12 from 13.
use mathlib.Core.Path.{sym, ◌∙◌}
use Rattle.index.proofs.EntryLaws.{unstarted_12, unstarted_13}
use Rattle.index.proofs.entries.unstarted.Goals as goal

pub returns-in_default : goal.returns-in_default
returns-in_default c = unstarted_12 _ _ _ c.be32_at.ensures.0 (sym c.of_code.ensures ∙ c.in_default.is)

pub returns : goal.returns
returns c = unstarted_13 _ _ _ c.be32_at.ensures.0 _ (sym c.of_code.ensures ∙ c.in-Some.is)
