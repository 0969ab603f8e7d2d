-- Whichever row is handed back was compared with the entry.
use Rattle.rows.proofs.RowLaws.{row-there, spot_in}
use Rattle.table.proofs.row_of.Goals as goal

pub returns-then-row_holds : goal.returns-then-row_holds
returns-then-row_holds c =
    let t = c.args.t.now in
    (c.if-guess-t.true, row-there t.numbers.now t.rows t.step t.gap _ _ c.if-guess-t.true (c.row_holds.ensures c.if-row_holds.true))

pub row_holds-requires-2-clause-row : goal.row_holds-requires-2-clause-row
row_holds-requires-2-clause-row c =
    let t = c.args.t.now in
    spot_in t.numbers.now t.rows t.step t.gap _ _ c.in-Ok.row (rw c.halve-spot.ensures at c.in-Ok.is)

pub returns-then-row_holds-2 : goal.returns-then-row_holds-2
returns-then-row_holds-2 c =
    let t = c.args.t.now in
    let l = spot_in t.numbers.now t.rows t.step t.gap _ _ c.in-Ok.row (rw c.halve-spot.ensures at c.in-Ok.is) in
    (l, row-there t.numbers.now t.rows t.step t.gap _ _ l (c.row_holds-2.ensures c.if-row_holds-2.true))
