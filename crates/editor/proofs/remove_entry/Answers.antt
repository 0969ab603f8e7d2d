-- A plan to go on tells what goes and what is kept, and that there is room for the record; the record and the bytes are then written by their own promises.
use native.Mathlib.Omega.{arith}
use mathlib.Core.Path.{sym, ap, ◌∙◌}
use lib.ListN.{length, take}
use Rattle.std.proofs.lemmas.Result.{err_from_is_err_and}
use Rattle.blorb.specs.Bytes.{Byte}
use Rattle.blorb.specs.All.{All}
use Rattle.blorb.proofs.Accept.{bytes-all}
use Rattle.blorb.proofs.AllLaws.{all_take}
use Rattle.edits.specs.Edit.{remove}
use Rattle.edits.specs.Run.{edit, state, fault}
use Rattle.planning.proofs.PlanLaws.{answer_no}
use Rattle.planning.proofs.RemovePlan.{ready, body_short, shrinks}
use Rattle.editor.proofs.RemoveCall.{removable, part_in, used_room, record_room, made}
use Rattle.editor.proofs.CallLaws.{called_refused}
use Rattle.editor.proofs.remove_entry.Goals as goal

pub returns-in_err-plan : goal.returns-in_err-plan
unfolding fault
returns-in_err-plan c =
    let a = c.args in
    let b = a.buf.now in
    let p = err_from_is_err_and c.from_residual.result c.from_residual.ensures.1 in
    rw (p.1, p.2) (called_refused a.profile (state b a.len a.jrn.now a.used) (edit (remove a.pair.usage a.pair.number)) _ _
    (answer_no _ _ _ (sym c.remove_plan.ensures ∙ c.in_err-plan.was)))

pub gone_size-size-requires : goal.gone_size-size-requires
gone_size-size-requires c =
    let a = c.args in
    let b = a.buf.now in
    let bytes : All Byte (take a.len b) = all_take Byte a.len b (bytes-all b (λ i. omega (arith, c.slice_known-1.given i))) in
    let o = c.in_ok-plan.plan in
    let r = ready a.profile b a.len (length a.jrn.now) a.used a.pair.usage a.pair.number bytes o (sym c.remove_plan.ensures ∙ c.in_ok-plan.was) in
    body_short a.profile b a.len (length a.jrn.now) a.used a.pair.usage a.pair.number bytes o.piece r.found r.piece_is

pub slice_bounds-put_record-end : goal.slice_bounds-put_record-end
slice_bounds-put_record-end c =
    let a = c.args in
    let b = a.buf.now in
    let bytes : All Byte (take a.len b) = all_take Byte a.len b (bytes-all b (λ i. omega (arith, c.slice_known-1.given i))) in
    let o = c.in_ok-plan.plan in
    let r = ready a.profile b a.len (length a.jrn.now) a.used a.pair.usage a.pair.number bytes o (sym c.remove_plan.ensures ∙ c.in_ok-plan.was) in
    part_in a.profile b a.jrn.now a.len a.used a.pair.usage a.pair.number bytes o.count o.piece r c.kept_number-body.result c.kept_number-body.ensures

pub put_record-requires : goal.put_record-requires
put_record-requires c =
    let a = c.args in
    let b = a.buf.now in
    let bytes : All Byte (take a.len b) = all_take Byte a.len b (bytes-all b (λ i. omega (arith, c.slice_known-1.given i))) in
    let o = c.in_ok-plan.plan in
    let r = ready a.profile b a.len (length a.jrn.now) a.used a.pair.usage a.pair.number bytes o (sym c.remove_plan.ensures ∙ c.in_ok-plan.was) in
    record_room a.profile b a.jrn.now a.len a.used a.pair.usage a.pair.number bytes o.count o.piece r c.kept_number-body.result c.kept_number-body.ensures

pub remove_bytes-requires : goal.remove_bytes-requires
remove_bytes-requires c =
    let a = c.args in
    let b = a.buf.now in
    let bytes : All Byte (take a.len b) = all_take Byte a.len b (bytes-all b (λ i. omega (arith, c.slice_known-1.given i))) in
    let o = c.in_ok-plan.plan in
    let r = ready a.profile b a.len (length a.jrn.now) a.used a.pair.usage a.pair.number bytes o (sym c.remove_plan.ensures ∙ c.in_ok-plan.was) in
    removable a.profile b a.len (length a.jrn.now) a.used a.pair.usage a.pair.number bytes o.count o.piece r c.gone_size-size.result c.gone_size-size.ensures

pub overflow_sub-result : goal.overflow_sub-result
overflow_sub-result c =
    let a = c.args in
    let b = a.buf.now in
    let bytes : All Byte (take a.len b) = all_take Byte a.len b (bytes-all b (λ i. omega (arith, c.slice_known-1.given i))) in
    let o = c.in_ok-plan.plan in
    let r = ready a.profile b a.len (length a.jrn.now) a.used a.pair.usage a.pair.number bytes o (sym c.remove_plan.ensures ∙ c.in_ok-plan.was) in
    shrinks a.profile b a.len (length a.jrn.now) a.used a.pair.usage a.pair.number bytes o.piece r.found r.piece_is c.gone_size-size.result
    c.gone_size-size.ensures

pub overflow_add-result-3 : goal.overflow_add-result-3
overflow_add-result-3 c =
    let a = c.args in
    let b = a.buf.now in
    let bytes : All Byte (take a.len b) = all_take Byte a.len b (bytes-all b (λ i. omega (arith, c.slice_known-1.given i))) in
    let o = c.in_ok-plan.plan in
    let r = ready a.profile b a.len (length a.jrn.now) a.used a.pair.usage a.pair.number bytes o (sym c.remove_plan.ensures ∙ c.in_ok-plan.was) in
    omega (
      arith,
      used_room a.profile b a.jrn.now a.len a.used a.pair.usage a.pair.number bytes o.count o.piece r c.kept_number-body.result c.kept_number-body.ensures,
      c.well_formed,
      c.ranges,
    )

pub returns : goal.returns
returns c =
    let a = c.args in
    let b = a.buf.now in
    let bytes : All Byte (take a.len b) = all_take Byte a.len b (bytes-all b (λ i. omega (arith, c.slice_known-1.given i))) in
    let o = c.in_ok-plan.plan in
    let r = ready a.profile b a.len (length a.jrn.now) a.used a.pair.usage a.pair.number bytes o (sym c.remove_plan.ensures ∙ c.in_ok-plan.was) in
    made a.profile b a.jrn.now a.len a.used a.pair.usage a.pair.number bytes o.count o.piece r c.kept_number-body.result c.kept_number-body.ensures
    c.gone_size-size.result c.number.result c.kept_number.result _ _ c.gone_size-size.ensures
    (c.number.ensures ∙ c.removal_kind.ensures) c.kept_number.ensures
    c.remove_bytes.ensures c.put_record.ensures
