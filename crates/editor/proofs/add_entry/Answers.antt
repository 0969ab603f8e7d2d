-- A plan to go on tells that there is room for the new file and its record; the bytes and the record are then written by their own promises.
use native.Mathlib.Omega.{arith}
use mathlib.Core.Path.{sym, ap, ◌∙◌}
use lib.ListN.{length, take}
use Rattle.std.proofs.lemmas.Result.{err_from_is_err_and}
use Rattle.blorb.specs.Bytes.{Byte}
use Rattle.blorb.specs.All.{All}
use Rattle.blorb.proofs.Accept.{bytes-all}
use Rattle.blorb.proofs.AllLaws.{all_take}
use Prim.Native.Nat.{ℕ, ◌+◌, ◌%◌}
use mathlib.Core.List.{List}
use Rattle.blorb.specs.Format.{chunk_of}
use Rattle.blorb.specs.Model.{model, file}
use Rattle.edits.specs.Edit.{add, added, edited}
use Rattle.edits.specs.Run.{edit, state, fault, after, after_edit, edited_file, written}
use Rattle.planning.proofs.PlanLaws.{answer_no}
use Rattle.planning.proofs.AddPlan.{ready}
use Rattle.editor.proofs.AddCall.{record_written}
use Rattle.editor.proofs.CallLaws.{called_refused, called_done}
use Rattle.editor.proofs.add_entry.Goals as goal

pub returns-in_err-count : goal.returns-in_err-count
unfolding fault
returns-in_err-count c =
    let a = c.args in
    let b = a.buf.now in
    let p = err_from_is_err_and c.from_residual.result c.from_residual.ensures.1 in
    rw (p.1, p.2) (called_refused a.profile (state b a.len a.jrn.now a.used) (edit (add a.pair.usage a.pair.number a.kind a.d.now)) _ _
    (answer_no _ _ _ (sym c.add_plan.ensures ∙ c.in_err-count.was)))

pub add_bytes-requires : goal.add_bytes-requires
add_bytes-requires c =
    let a = c.args in
    let b = a.buf.now in
    let bytes : All Byte (take a.len b) = all_take Byte a.len b (bytes-all b (λ i. omega (arith, c.slice_known-1.given i))) in
    let r = ready a.profile b a.len (length a.jrn.now) a.used a.pair.usage a.pair.number a.kind a.d.now bytes c.in_ok-count.count
    (sym c.add_plan.ensures ∙ c.in_ok-count.was) in
    let h = ap length c.held-body.ensures in
    (r.stands, (omega (arith, h, r.room), omega (arith, h, r.short)))

pub put_record-requires : goal.put_record-requires
put_record-requires c =
    let a = c.args in
    let b = a.buf.now in
    let bytes : All Byte (take a.len b) = all_take Byte a.len b (bytes-all b (λ i. omega (arith, c.slice_known-1.given i))) in
    let r = ready a.profile b a.len (length a.jrn.now) a.used a.pair.usage a.pair.number a.kind a.d.now bytes c.in_ok-count.count
    (sym c.add_plan.ensures ∙ c.in_ok-count.was) in
    r.journal_room

pub overflow_add-result-3 : goal.overflow_add-result-3
overflow_add-result-3 c =
    let a = c.args in
    let b = a.buf.now in
    let bytes : All Byte (take a.len b) = all_take Byte a.len b (bytes-all b (λ i. omega (arith, c.slice_known-1.given i))) in
    let r = ready a.profile b a.len (length a.jrn.now) a.used a.pair.usage a.pair.number a.kind a.d.now bytes c.in_ok-count.count
    (sym c.add_plan.ensures ∙ c.in_ok-count.was) in
    omega (arith, ap length c.held-body.ensures, r.short)

pub overflow_add-result-4 : goal.overflow_add-result-4
overflow_add-result-4 c =
    let a = c.args in
    let b = a.buf.now in
    let bytes : All Byte (take a.len b) = all_take Byte a.len b (bytes-all b (λ i. omega (arith, c.slice_known-1.given i))) in
    let r = ready a.profile b a.len (length a.jrn.now) a.used a.pair.usage a.pair.number a.kind a.d.now bytes c.in_ok-count.count
    (sym c.add_plan.ensures ∙ c.in_ok-count.was) in
    omega (arith, r.journal_room)

pub returns : goal.returns
unfolding fault after after_edit edited_file edited
returns c =
    let a = c.args in
    let b = a.buf.now in
    let bytes : All Byte (take a.len b) = all_take Byte a.len b (bytes-all b (λ i. omega (arith, c.slice_known-1.given i))) in
    let r = ready a.profile b a.len (length a.jrn.now) a.used a.pair.usage a.pair.number a.kind a.d.now bytes c.in_ok-count.count
    (sym c.add_plan.ensures ∙ c.in_ok-count.was) in
    let h = c.held-body.ensures in
    called_done a.profile (state b a.len a.jrn.now a.used) (edit (add a.pair.usage a.pair.number a.kind a.d.now)) _ _ _ _ r.fine
    (ap (λ (z : List ℕ). a.len + (20 + (length z + length z % 2))) h ∙ r.new_length)
    (ap (λ (z : ℕ). a.used + z) r.new_record)
    (c.add_bytes.ensures
    ∙ ap (λ (z : List ℕ). written b a.len (file (added (model (take a.len b)) a.pair.usage a.pair.number (chunk_of a.kind z)))) h)
    (c.put_record.ensures
    ∙ record_written (take a.len b) a.used a.pair.usage a.pair.number a.kind a.d.now a.jrn.now
    c.in_ok-count.count r.stands.entries)
