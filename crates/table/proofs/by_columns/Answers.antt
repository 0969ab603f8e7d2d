-- The definition's layout.
use mathlib.Core.Path.{refl}
use Rattle.rows.specs.Rows.{columns_of}
use Rattle.table.proofs.by_columns.Goals as goal

pub returns-clause-rows : goal.returns-clause-rows
unfolding columns_of
returns-clause-rows c = refl
