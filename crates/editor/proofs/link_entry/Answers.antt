-- A plan to go on tells that there is room for the new entry and its record; the record and the entry are then written by their own promises.
use native.Mathlib.Omega.{arith}
use mathlib.Core.Path.{sym, ap, ◌∙◌}
use lib.ListN.{length, take}
use Rattle.std.proofs.lemmas.Result.{err_from_is_err_and}
use Rattle.blorb.specs.Bytes.{Byte}
use Rattle.blorb.specs.All.{All}
use Rattle.blorb.proofs.Accept.{bytes-all}
use Rattle.blorb.proofs.AllLaws.{all_take}
use Rattle.edits.specs.Edit.{link}
use Rattle.edits.specs.Run.{edit, state, fault}
use Rattle.planning.proofs.PlanLaws.{answer_no}
use Rattle.planning.proofs.LinkPlan.{ready}
use Rattle.editor.proofs.LinkCall.{insertable, start_small, made}
use Rattle.editor.proofs.CallLaws.{called_refused}
use Rattle.editor.proofs.link_entry.Goals as goal

pub returns-in_err-plan : goal.returns-in_err-plan
unfolding fault
returns-in_err-plan c =
    let a = c.args in
    let b = a.buf.now in
    let p = err_from_is_err_and c.from_residual.result c.from_residual.ensures.1 in
    rw (p.1, p.2) (called_refused a.profile (state b a.len a.jrn.now a.used) (edit (link a.original.usage a.original.number a.alias.usage a.alias.number)) _ _
    (answer_no _ _ _ (sym c.link_plan.ensures ∙ c.in_err-plan.was)))

pub overflow_add-plan : goal.overflow_add-plan
overflow_add-plan c =
    let a = c.args in
    let b = a.buf.now in
    let bytes : All Byte (take a.len b) = all_take Byte a.len b (bytes-all b (λ i. omega (arith, c.slice_known-1.given i))) in
    let w = c.in_ok-plan.plan in
    let r = ready a.profile b a.len (length a.jrn.now) a.used a.original.usage a.original.number a.alias.usage a.alias.number bytes w
    (sym c.link_plan.ensures ∙ c.in_ok-plan.was) in
    omega (
      arith,
      start_small a.profile b a.len (length a.jrn.now) a.used a.original.usage a.original.number a.alias.usage a.alias.number bytes w.count
          w.place w.at r,
    )

pub put_record-requires : goal.put_record-requires
put_record-requires c =
    let a = c.args in
    let b = a.buf.now in
    let bytes : All Byte (take a.len b) = all_take Byte a.len b (bytes-all b (λ i. omega (arith, c.slice_known-1.given i))) in
    let w = c.in_ok-plan.plan in
    let r = ready a.profile b a.len (length a.jrn.now) a.used a.original.usage a.original.number a.alias.usage a.alias.number bytes w
    (sym c.link_plan.ensures ∙ c.in_ok-plan.was) in
    r.journal_room

pub insert_entry-requires : goal.insert_entry-requires
insert_entry-requires c =
    let a = c.args in
    let b = a.buf.now in
    let bytes : All Byte (take a.len b) = all_take Byte a.len b (bytes-all b (λ i. omega (arith, c.slice_known-1.given i))) in
    let w = c.in_ok-plan.plan in
    let r = ready a.profile b a.len (length a.jrn.now) a.used a.original.usage a.original.number a.alias.usage a.alias.number bytes w
    (sym c.link_plan.ensures ∙ c.in_ok-plan.was) in
    insertable a.profile b a.len (length a.jrn.now) a.used a.original.usage a.original.number a.alias.usage a.alias.number bytes w.count w.place w.at r

pub overflow_add-result : goal.overflow_add-result
overflow_add-result c =
    let a = c.args in
    let b = a.buf.now in
    let bytes : All Byte (take a.len b) = all_take Byte a.len b (bytes-all b (λ i. omega (arith, c.slice_known-1.given i))) in
    let w = c.in_ok-plan.plan in
    let r = ready a.profile b a.len (length a.jrn.now) a.used a.original.usage a.original.number a.alias.usage a.alias.number bytes w
    (sym c.link_plan.ensures ∙ c.in_ok-plan.was) in
    omega (arith, r.short)

pub overflow_add-result-2 : goal.overflow_add-result-2
overflow_add-result-2 c =
    let a = c.args in
    let b = a.buf.now in
    let bytes : All Byte (take a.len b) = all_take Byte a.len b (bytes-all b (λ i. omega (arith, c.slice_known-1.given i))) in
    let w = c.in_ok-plan.plan in
    let r = ready a.profile b a.len (length a.jrn.now) a.used a.original.usage a.original.number a.alias.usage a.alias.number bytes w
    (sym c.link_plan.ensures ∙ c.in_ok-plan.was) in
    omega (arith, r.journal_room)

pub returns : goal.returns
returns c =
    let a = c.args in
    let b = a.buf.now in
    let bytes : All Byte (take a.len b) = all_take Byte a.len b (bytes-all b (λ i. omega (arith, c.slice_known-1.given i))) in
    let w = c.in_ok-plan.plan in
    let r = ready a.profile b a.len (length a.jrn.now) a.used a.original.usage a.original.number a.alias.usage a.alias.number bytes w
    (sym c.link_plan.ensures ∙ c.in_ok-plan.was) in
    made a.profile b a.jrn.now a.len a.used a.original.usage a.original.number a.alias.usage a.alias.number bytes w.count w.place w.at r _ _
    c.insert_entry.ensures c.put_record.ensures
