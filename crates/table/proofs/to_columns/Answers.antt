-- There is room, or 34; where there is, the slice has the columns at its front and behind them what it had.
use Prim.Native.Nat.{ℕ, ◌*◌}
use mathlib.Core.Path.{refl, ap, sym, ◌∙◌}
use Rattle.std.proofs.lemmas.Result.{err_from_is_err_and}
use Rattle.rows.specs.Rows.{rows_of, flat_columns}
use Rattle.rows.proofs.FlatLaws.{length-rows_of}
use Rattle.rows.proofs.ColumnLaws.{length-flat_columns}
use Rattle.table.specs.Answers.{turn_of}
use Rattle.table.proofs.AnswerLaws.{room_given, turn-rows, turn-numbers}
use Rattle.table.proofs.to_columns.Goals as goal

pub returns-in_err-rows : goal.returns-in_err-rows
unfolding turn_of
returns-in_err-rows c =
    let p = err_from_is_err_and c.from_residual.result c.from_residual.ensures.1 in
    let n = length-rows_of c.args.table.now in
    rw (p.1, p.2) (rw n c.in_err-rows.ensures, refl)

pub returns : goal.returns
unfolding rows_of
returns c =
    let a = c.args in
    let q = room_given _ _ _ (sym c.room.ensures ∙ c.in_ok-rows.was) in
    let n = length-rows_of a.table.now in
    let put = rw q.0 at c.put_columns.ensures in (
      rw q.0 (turn-rows (rows_of a.table.now) _ _ n q.1),
      turn-numbers (flat_columns (rows_of a.table.now)) a.columns.now _ _ (length-flat_columns (rows_of a.table.now) ∙ ap (λ (k : ℕ). 3 * k) n) put,
    )
