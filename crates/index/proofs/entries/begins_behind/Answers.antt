use mathlib.Core.Path.{sym, ◌∙◌}
use Rattle.index.proofs.entries.begins_behind.Goals as goal

pub returns-then-from-start : goal.returns-then-from-start
returns-then-from-start c = c.begins.ensures ∙ sym (c.requires.2 _ c.if-from-start.true)
