-- The entries of this list can be read, and its keys are those of the contract.
use mathlib.Core.Path.{◌∙◌}
use Rattle.repeats.proofs.SourceLaws.{entries_inside, entries_answer}
use Rattle.repeats.proofs.in_entries.Goals as goal

pub first_in_file-requires : goal.first_in_file-requires
first_in_file-requires c = entries_inside _ _ _ c.requires

pub returns : goal.returns
returns c = c.first_in_file.ensures ∙ entries_answer _ _ _
