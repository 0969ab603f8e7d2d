-- A plan to go on tells that the entry has its chunk alone, and that there is room for the new file and its record; the record and the bytes are then
-- written by their own promises.
use native.Mathlib.Omega.{arith}
use mathlib.Core.Path.{sym, ap, ◌∙◌}
use lib.ListN.{length, take}
use Rattle.std.proofs.lemmas.Result.{err_from_is_err_and}
use Rattle.blorb.specs.Bytes.{Byte}
use Rattle.blorb.specs.All.{All}
use Rattle.blorb.proofs.Accept.{bytes-all}
use Rattle.blorb.proofs.AllLaws.{all_take}
use Rattle.edits.specs.Edit.{replace}
use Rattle.edits.specs.Run.{edit, state, fault}
use Rattle.planning.proofs.PlanLaws.{answer_no}
use Rattle.planning.proofs.RemovePlan.{body_short}
use Rattle.planning.proofs.ReplacePlan.{ready, inside, length_now}
use Rattle.editor.proofs.ReplaceCall.{replaceable, part_in, used_room, record_room, made}
use Rattle.editor.proofs.CallLaws.{called_refused}
use Rattle.editor.proofs.replace_chunk.Goals as goal

pub returns-in_err-plan : goal.returns-in_err-plan
unfolding fault
returns-in_err-plan c =
    let a = c.args in
    let b = a.buf.now in
    let p = err_from_is_err_and c.from_residual.result c.from_residual.ensures.1 in
    rw (p.1, p.2) (called_refused a.profile (state b a.len a.jrn.now a.used) (edit (replace a.pair.usage a.pair.number a.kind a.d.now)) _ _
    (answer_no _ _ _ (sym c.replace_plan.ensures ∙ c.in_err-plan.was)))

pub gone_size-old-requires : goal.gone_size-old-requires
gone_size-old-requires c =
    let a = c.args in
    let b = a.buf.now in
    let bytes : All Byte (take a.len b) = all_take Byte a.len b (bytes-all b (λ i. omega (arith, c.slice_known-1.given i))) in
    let o = c.in_ok-plan.plan in
    let r = ready a.profile b a.len (length a.jrn.now) a.used a.pair.usage a.pair.number a.kind a.d.now bytes o
    (sym c.replace_plan.ensures ∙ c.in_ok-plan.was) in
    body_short a.profile b a.len (length a.jrn.now) a.used a.pair.usage a.pair.number bytes o.piece r.found r.piece_is

pub slice_bounds-put_record-end : goal.slice_bounds-put_record-end
slice_bounds-put_record-end c =
    let a = c.args in
    let b = a.buf.now in
    let bytes : All Byte (take a.len b) = all_take Byte a.len b (bytes-all b (λ i. omega (arith, c.slice_known-1.given i))) in
    let o = c.in_ok-plan.plan in
    let r = ready a.profile b a.len (length a.jrn.now) a.used a.pair.usage a.pair.number a.kind a.d.now bytes o
    (sym c.replace_plan.ensures ∙ c.in_ok-plan.was) in
    part_in a.profile b a.jrn.now a.len a.used a.pair.usage a.pair.number a.kind a.d.now bytes o.count o.piece r

pub put_record-requires : goal.put_record-requires
put_record-requires c =
    let a = c.args in
    let b = a.buf.now in
    let bytes : All Byte (take a.len b) = all_take Byte a.len b (bytes-all b (λ i. omega (arith, c.slice_known-1.given i))) in
    let o = c.in_ok-plan.plan in
    let r = ready a.profile b a.len (length a.jrn.now) a.used a.pair.usage a.pair.number a.kind a.d.now bytes o
    (sym c.replace_plan.ensures ∙ c.in_ok-plan.was) in
    record_room a.profile b a.jrn.now a.len a.used a.pair.usage a.pair.number a.kind a.d.now bytes o.count o.piece r

pub replace_bytes-requires : goal.replace_bytes-requires
replace_bytes-requires c =
    let a = c.args in
    let b = a.buf.now in
    let bytes : All Byte (take a.len b) = all_take Byte a.len b (bytes-all b (λ i. omega (arith, c.slice_known-1.given i))) in
    let o = c.in_ok-plan.plan in
    let r = ready a.profile b a.len (length a.jrn.now) a.used a.pair.usage a.pair.number a.kind a.d.now bytes o
    (sym c.replace_plan.ensures ∙ c.in_ok-plan.was) in
    replaceable a.profile b a.len (length a.jrn.now) a.used a.pair.usage a.pair.number a.kind a.d.now bytes o.count o.piece r c.held-body.result.now
    c.held-body.ensures
    c.gone_size-old.result c.gone_size-old.ensures

pub overflow_sub-result : goal.overflow_sub-result
overflow_sub-result c =
    let a = c.args in
    let b = a.buf.now in
    let bytes : All Byte (take a.len b) = all_take Byte a.len b (bytes-all b (λ i. omega (arith, c.slice_known-1.given i))) in
    let o = c.in_ok-plan.plan in
    let r = ready a.profile b a.len (length a.jrn.now) a.used a.pair.usage a.pair.number a.kind a.d.now bytes o
    (sym c.replace_plan.ensures ∙ c.in_ok-plan.was) in
    inside a.profile b a.len (length a.jrn.now) a.used a.pair.usage a.pair.number a.kind a.d.now bytes o.piece r.found r.piece_is c.gone_size-old.result
    c.gone_size-old.ensures

pub overflow_add-result-3 : goal.overflow_add-result-3
overflow_add-result-3 c =
    let a = c.args in
    let b = a.buf.now in
    let bytes : All Byte (take a.len b) = all_take Byte a.len b (bytes-all b (λ i. omega (arith, c.slice_known-1.given i))) in
    let o = c.in_ok-plan.plan in
    let r = ready a.profile b a.len (length a.jrn.now) a.used a.pair.usage a.pair.number a.kind a.d.now bytes o
    (sym c.replace_plan.ensures ∙ c.in_ok-plan.was) in
    omega (
      arith,
      length_now a.profile b a.len (length a.jrn.now) a.used a.pair.usage a.pair.number a.kind a.d.now bytes o.piece r.found r.piece_is
          c.gone_size-old.result c.gone_size-old.ensures c.held-body.result.now c.held-body.ensures,
      r.short,
    )

pub overflow_add-result-5 : goal.overflow_add-result-5
overflow_add-result-5 c =
    let a = c.args in
    let b = a.buf.now in
    let bytes : All Byte (take a.len b) = all_take Byte a.len b (bytes-all b (λ i. omega (arith, c.slice_known-1.given i))) in
    let o = c.in_ok-plan.plan in
    let r = ready a.profile b a.len (length a.jrn.now) a.used a.pair.usage a.pair.number a.kind a.d.now bytes o
    (sym c.replace_plan.ensures ∙ c.in_ok-plan.was) in
    omega (arith, used_room a.profile b a.jrn.now a.len a.used a.pair.usage a.pair.number a.kind a.d.now bytes o.count o.piece r, c.well_formed, c.ranges)

pub returns : goal.returns
returns c =
    let a = c.args in
    let b = a.buf.now in
    let bytes : All Byte (take a.len b) = all_take Byte a.len b (bytes-all b (λ i. omega (arith, c.slice_known-1.given i))) in
    let o = c.in_ok-plan.plan in
    let r = ready a.profile b a.len (length a.jrn.now) a.used a.pair.usage a.pair.number a.kind a.d.now bytes o
    (sym c.replace_plan.ensures ∙ c.in_ok-plan.was) in
    made a.profile b a.jrn.now a.len a.used a.pair.usage a.pair.number a.kind a.d.now bytes o.count o.piece r c.held-body.result.now c.held-body.ensures
    c.gone_size-old.result _ _ c.gone_size-old.ensures c.replace_bytes.ensures c.put_record.ensures
