-- The key of row i is its picture number, and a search that finds no repeated key says that the numbers are all different.
use Rattle.reso.proofs.DistinctLaws.{distinct_by, row-key}
use Rattle.reso.proofs.Reso.all_distinct.Goals as goal

pub returns : goal.returns
returns c = let n = c.count.ensures in distinct_by _ _ (row-key _) _ _ _ c.is_none.ensures (rw n at c.in_rows.ensures)
