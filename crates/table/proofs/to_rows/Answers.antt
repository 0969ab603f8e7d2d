-- There is room, or 34; where there is, the slice has the rows at its front and behind them what it had.
use Prim.Native.Nat.{ℕ, ◌*◌}
use mathlib.Core.Path.{refl, ap, sym, ◌∙◌}
use Rattle.std.proofs.lemmas.Result.{err_from_is_err_and}
use Rattle.rows.specs.Rows.{columns_of, flat}
use Rattle.rows.proofs.FlatLaws.{length-flat}
use Rattle.rows.proofs.ColumnLaws.{length-columns_of}
use Rattle.table.specs.Answers.{turn_of}
use Rattle.table.proofs.AnswerLaws.{room_given, turn-rows, turn-numbers}
use Rattle.table.proofs.to_rows.Goals as goal

pub returns-in_err-rows : goal.returns-in_err-rows
unfolding turn_of
returns-in_err-rows c =
    let p = err_from_is_err_and c.from_residual.result c.from_residual.ensures.1 in
    let n = length-columns_of c.args.columns.now in
    rw (p.1, p.2) (rw n c.in_err-rows.ensures, refl)

pub returns : goal.returns
unfolding columns_of
returns c =
    let a = c.args in
    let q = room_given _ _ _ (sym c.room.ensures ∙ c.in_ok-rows.was) in
    let n = length-columns_of a.columns.now in
    let put = rw q.0 at c.put_rows.ensures in (
      rw q.0 (turn-rows (columns_of a.columns.now) _ _ n q.1),
      turn-numbers (flat (columns_of a.columns.now)) a.table.now _ _ (length-flat (columns_of a.columns.now) ∙ ap (λ (k : ℕ). 3 * k) n) put,
    )
