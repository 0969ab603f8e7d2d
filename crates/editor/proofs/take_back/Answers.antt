-- What the plan tells is enough for the write back, and the file and the journal after it are those of the definitions.
use native.Mathlib.Omega.{arith}
use mathlib.Core.Path.{sym, ◌∙◌}
use Rattle.std.proofs.lemmas.Result.{err_from_is_err_and}
use Rattle.blorb.specs.Bytes.{Byte}
use Rattle.blorb.proofs.Accept.{bytes-all}
use Rattle.blorb.specs.All.{All}
use Rattle.editor.proofs.UndoCall.{undo-refused, going, undo-done}
use Rattle.editor.proofs.take_back.Goals as goal

pub returns-in_err-plan : goal.returns-in_err-plan
returns-in_err-plan c =
    let a = c.args in
    let b = a.buf.now in
    let p = err_from_is_err_and c.from_residual.result c.from_residual.ensures.1 in
    rw (p.1, p.2) (undo-refused a.profile b a.len a.jrn.now a.used _ (sym c.undo_plan.ensures ∙ c.in_err-plan.was))

pub write_back-requires : goal.write_back-requires
write_back-requires c =
    let a = c.args in
    let b = a.buf.now in
    let bb : All Byte b = bytes-all b (λ i. omega (arith, c.slice_known-1.given i)) in
    let planned = sym c.undo_plan.ensures ∙ c.in_ok-plan.was in
    (a.profile, planned)

pub overflow_sub-result : goal.overflow_sub-result
overflow_sub-result c =
    let a = c.args in
    let b = a.buf.now in
    let bb : All Byte b = bytes-all b (λ i. omega (arith, c.slice_known-1.given i)) in
    let planned = sym c.undo_plan.ensures ∙ c.in_ok-plan.was in
    (going a.profile b a.len a.jrn.now a.used c.in_ok-plan.plan bb planned).ends.room

pub returns : goal.returns
returns c =
    let a = c.args in
    let b = a.buf.now in
    let bb : All Byte b = bytes-all b (λ i. omega (arith, c.slice_known-1.given i)) in
    let planned = sym c.undo_plan.ensures ∙ c.in_ok-plan.was in
    undo-done a.profile b a.len a.jrn.now a.used c.in_ok-plan.plan bb planned _ c.write_back.ensures
