-- The definition's layout.
use mathlib.Core.Path.{refl}
use Rattle.rows.specs.Rows.{rows_of}
use Rattle.table.proofs.by_rows.Goals as goal

pub returns-clause-rows : goal.returns-clause-rows
unfolding rows_of
returns-clause-rows c = refl
