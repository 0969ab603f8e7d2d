-- Ordinary chunks have no 'Fspc' among them; of any others the loop gives the first.
use mathlib.Core.Path.{◌∙◌}
use Rattle.reader.proofs.FrontLaws.{front_is, front_ordinary, passed_fronts}
use Rattle.reader.proofs.parts.front_if.Goals as goal

pub returns-then-ordinary : goal.returns-then-ordinary
returns-then-ordinary c = front_ordinary _ _ (c.requires.1 c.if-ordinary.true)

pub front_from-requires : goal.front_from-requires
front_from-requires c = (c.requires.0.short, c.requires.0.judged.walks, passed_fronts _ _ c.requires.0)

pub returns : goal.returns
returns c = c.front_from.ensures ∙ front_is _ _
