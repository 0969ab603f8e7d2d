use mathlib.Core.Path.{sym, ◌∙◌}
use Rattle.blorb.proofs.UsageLaws.{allows_plain, allows_else}
use Rattle.blorb.proofs.Usage.allows.Goals as goal

pub returns-then-plain_allows : goal.returns-then-plain_allows
returns-then-plain_allows c = allows_plain _ _ _ (sym c.plain_allows.ensures ∙ c.if-plain_allows.true)

pub returns : goal.returns
returns c = allows_else _ _ _ _ (sym c.plain_allows.ensures ∙ c.if-plain_allows.false) c.also_allows.ensures
