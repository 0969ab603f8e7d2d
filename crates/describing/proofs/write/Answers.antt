-- The rows' verdict comes first, then the room's; each way out is a law of WriteLaws.
use Rattle.std.proofs.Common.{refl, sym, ◌∙◌, rules}
use Rattle.std.proofs.lemmas.Result.{err_from_is_err_and}
use Rattle.describing.proofs.ChunkLaws.{capped-over, same_capped}
use Rattle.describing.proofs.WriteLaws.{rows-refused, room-refused, told, fits, list_made}
use Rattle.describing.proofs.write.Goals as goal

pub returns-in_err-judge : goal.returns-in_err-judge
returns-in_err-judge c =
    let a = c.args in
    let p = err_from_is_err_and c.from_residual.result c.from_residual.ensures.1 in
    rw (p.1, p.2) (rows-refused a.rows.now a.texts.now a.buf.now _ _ c.in_err-judge.ensures)

pub returns-in_default : goal.returns-in_default
returns-in_default c =
    let a = c.args in
    rw c.no_room.ensures
    (room-refused a.rows.now a.texts.now a.buf.now 16777217 c.in_ok-judge.ensures (sym (capped-over _ c.in_default.ensures)) refl)

pub returns-then-size-buf : goal.returns-then-size-buf
returns-then-size-buf c =
    let a = c.args in
    rw c.no_room-then-size-buf.ensures
    (room-refused a.rows.now a.texts.now a.buf.now _ c.in_ok-judge.ensures (same_capped c.in-Some.ensures.0 c.in-Some.ensures.1) c.if-size-buf.true)

pub put_list-requires : goal.put_list-requires
put_list-requires c =
    let a = c.args in
    let f = c.in_ok-judge.ensures in
    let d = same_capped c.in-Some.ensures.0 c.in-Some.ensures.1 in
    let t = c.if-size-buf.false in
    let within = told a.rows.now a.texts.now a.buf.now _ f d in
    (search rules, (within, (c.in-Some.ensures.0, (fits a.rows.now a.texts.now a.buf.now _ f d t).1)))

pub returns : goal.returns
returns c =
    let a = c.args in
    let d = same_capped c.in-Some.ensures.0 c.in-Some.ensures.1 in
    let w = list_made a.rows.now a.texts.now a.buf.now _ c.in_ok-judge.ensures d c.if-size-buf.false in
    (w.0, c.put_list.ensures ∙ w.1)
