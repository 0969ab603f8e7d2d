-- The entries of this list can be read, and its keys are those of the contract.
use mathlib.Core.Path.{◌∙◌}
use Rattle.repeats.proofs.SourceLaws.{rows_inside, rows_answer}
use Rattle.repeats.proofs.in_rows.Goals as goal

pub first_in_file-requires : goal.first_in_file-requires
first_in_file-requires c = rows_inside _ _ _ _ c.requires.0 c.requires.1

pub returns : goal.returns
returns c = c.first_in_file.ensures ∙ rows_answer _ _ _ _
