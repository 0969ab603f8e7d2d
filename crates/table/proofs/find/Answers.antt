-- The spot of the halving is the row found, or there is none.
use Rattle.rows.proofs.RowLaws.{spot_in}
use Rattle.table.proofs.AnswerLaws.{spot_found, spot_missing}
use Rattle.table.proofs.find.Goals as goal

pub start-requires : goal.start-requires
start-requires c =
    let t = c.args.t.now in
    spot_in t.numbers.now t.rows t.step t.gap _ c.args.number c.in-Ok.row (rw c.halve-spot.ensures at c.in-Ok.is)

pub returns-in-Ok : goal.returns-in-Ok
returns-in-Ok c =
    let t = c.args.t.now in
    rw (c.start.ensures, ← c.code.ensures)
    (spot_found t.numbers.now t.rows t.step t.gap _ c.args.number c.halve-spot.result c.halve-spot.ensures c.in-Ok.row c.in-Ok.is)

pub returns-in-Err : goal.returns-in-Err
returns-in-Err c =
    let t = c.args.t.now in
    rw (← c.code.ensures)
    (spot_missing t.numbers.now t.rows t.step t.gap _ c.args.number c.halve-spot.result c.halve-spot.ensures _ c.in-Err.is)
