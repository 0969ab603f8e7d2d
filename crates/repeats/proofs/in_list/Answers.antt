-- The entries of this list can be read, and its keys are those of the contract.
use mathlib.Core.Path.{◌∙◌}
use Rattle.repeats.proofs.SourceLaws.{list_inside, list_answer}
use Rattle.repeats.proofs.in_list.Goals as goal

pub rising-requires : goal.rising-requires
rising-requires c = list_inside _ _ c.requires.0

pub first_repeat-requires-clause-inside : goal.first_repeat-requires-clause-inside
first_repeat-requires-clause-inside c = rw c.rising.ensures.list (list_inside _ _ c.requires.0)

pub returns : goal.returns
returns c = (rw c.rising.ensures.list at c.first_repeat.ensures) ∙ list_answer _ _
