-- The plan goes by the order of the refusals: what opening tells, 22, what link_fault judges, 24 and 25. At each place the found original tells what the
-- next call asks.
use native.Mathlib.Omega.{arith}
use mathlib.Core.Path.{sym, ap, ◌∙◌}
use lib.ListN.{take}
use lib.Seq.{length-take-le}
use Rattle.std.proofs.lemmas.Result.{err_from_is_err_and}
use Rattle.blorb.specs.Bytes.{Byte}
use Rattle.blorb.specs.All.{All}
use Rattle.blorb.specs.Refusals.{verdict_of}
use Rattle.blorb.proofs.Accept.{bytes-all}
use Rattle.blorb.proofs.AllLaws.{all_take}
use Rattle.planning.proofs.LinkPlan.{told, told_original, told-place, plan_unopened, plan_22, plan_judged, plan_full, plan_fine}
use Rattle.planning.proofs.link_plan.Goals as goal

pub returns-in_err-facts : goal.returns-in_err-facts
returns-in_err-facts c =
    let a = c.args in
    let b = a.buf.now in
    let bytes : All Byte (take a.lent.len b) = all_take Byte a.lent.len b (bytes-all b (λ i. omega (arith, c.type_inv.buf i))) in
    let p = err_from_is_err_and c.from_residual.result c.from_residual.ensures.1 in
    rw (p.1, p.2) (plan_unopened a.lent.profile b a.lent.len a.lent.room a.lent.used a.original.usage a.original.number a.alias.usage a.alias.number bytes 0
    _ (sym c.opened.ensures ∙ c.in_err-facts.was))

pub returns-in_default : goal.returns-in_default
returns-in_default c =
    let a = c.args in
    let b = a.buf.now in
    let bytes : All Byte (take a.lent.len b) = all_take Byte a.lent.len b (bytes-all b (λ i. omega (arith, c.type_inv.buf i))) in
    plan_22 a.lent.profile b a.lent.len a.lent.room a.lent.used a.original.usage a.original.number a.alias.usage a.alias.number bytes 0 c.in_ok-facts.facts
    (sym c.opened.ensures ∙ c.in_ok-facts.was) c.in_default.is

pub slice_bounds-s-end : goal.slice_bounds-s-end
slice_bounds-s-end c =
    let a = c.args in
    let b = a.buf.now in
    let bytes : All Byte (take a.lent.len b) = all_take Byte a.lent.len b (bytes-all b (λ i. omega (arith, c.type_inv.buf i))) in
    let T = told a.lent.profile b a.lent.len a.lent.room a.lent.used a.original.usage a.original.number a.alias.usage a.alias.number bytes 0
    c.in_ok-facts.facts (sym c.opened.ensures ∙ c.in_ok-facts.was) c.in-Some.piece c.in-Some.is in
    sym (length-take-le a.lent.len b T.found.stands.inside)

pub link_place-place-requires : goal.link_place-place-requires
link_place-place-requires c =
    let a = c.args in
    let b = a.buf.now in
    let bytes : All Byte (take a.lent.len b) = all_take Byte a.lent.len b (bytes-all b (λ i. omega (arith, c.type_inv.buf i))) in
    told_original a.lent.profile b a.lent.len a.lent.room a.lent.used a.original.usage a.original.number a.alias.usage a.alias.number bytes 0
    c.in_ok-facts.facts (sym c.opened.ensures ∙ c.in_ok-facts.was)
    c.in-Some.piece c.in-Some.is

pub link_fault-requires : goal.link_fault-requires
link_fault-requires c =
    let a = c.args in
    let b = a.buf.now in
    let bytes : All Byte (take a.lent.len b) = all_take Byte a.lent.len b (bytes-all b (λ i. omega (arith, c.type_inv.buf i))) in
    told-place a.lent.profile b a.lent.len a.lent.room a.lent.used a.original.usage a.original.number a.alias.usage a.alias.number bytes 0
    c.in_ok-facts.facts (sym c.opened.ensures ∙ c.in_ok-facts.was)
    c.in-Some.piece c.in-Some.is _ c.link_place-place.ensures

pub returns-in_err-link_fault : goal.returns-in_err-link_fault
returns-in_err-link_fault c =
    let a = c.args in
    let b = a.buf.now in
    let bytes : All Byte (take a.lent.len b) = all_take Byte a.lent.len b (bytes-all b (λ i. omega (arith, c.type_inv.buf i))) in
    let p = err_from_is_err_and c.from_residual-in_err-link_fault.result c.from_residual-in_err-link_fault.ensures.1 in
    rw (p.1, p.2) (plan_judged a.lent.profile b a.lent.len a.lent.room a.lent.used a.original.usage a.original.number a.alias.usage a.alias.number bytes 0
    c.in_ok-facts.facts (sym c.opened.ensures ∙ c.in_ok-facts.was)
    c.in-Some.piece c.in-Some.is c.link_fault.result c.link_fault.ensures _ c.in_err-link_fault.was)

pub overflow_add-lent : goal.overflow_add-lent
overflow_add-lent c =
    let a = c.args in
    let b = a.buf.now in
    let bytes : All Byte (take a.lent.len b) = all_take Byte a.lent.len b (bytes-all b (λ i. omega (arith, c.type_inv.buf i))) in
    let T = told a.lent.profile b a.lent.len a.lent.room a.lent.used a.original.usage a.original.number a.alias.usage a.alias.number bytes 0
    c.in_ok-facts.facts (sym c.opened.ensures ∙ c.in_ok-facts.was) c.in-Some.piece c.in-Some.is in
    omega (arith, T.found.stands.short)

pub overflow_sub-lent : goal.overflow_sub-lent
overflow_sub-lent c =
    let a = c.args in
    let b = a.buf.now in
    let bytes : All Byte (take a.lent.len b) = all_take Byte a.lent.len b (bytes-all b (λ i. omega (arith, c.type_inv.buf i))) in
    let T = told a.lent.profile b a.lent.len a.lent.room a.lent.used a.original.usage a.original.number a.alias.usage a.alias.number bytes 0
    c.in_ok-facts.facts (sym c.opened.ensures ∙ c.in_ok-facts.was) c.in-Some.piece c.in-Some.is in
    T.found.used_in

pub returns-in_err-with_room : goal.returns-in_err-with_room
returns-in_err-with_room c =
    let a = c.args in
    let b = a.buf.now in
    let bytes : All Byte (take a.lent.len b) = all_take Byte a.lent.len b (bytes-all b (λ i. omega (arith, c.type_inv.buf i))) in
    let p = err_from_is_err_and c.from_residual-in_err-with_room.result c.from_residual-in_err-with_room.ensures.1 in
    rw (p.1, p.2) (plan_full a.lent.profile b a.lent.len a.lent.room a.lent.used a.original.usage a.original.number a.alias.usage a.alias.number bytes 0
    c.in_ok-facts.facts (sym c.opened.ensures ∙ c.in_ok-facts.was)
    c.in-Some.piece c.in-Some.is c.link_fault.result c.link_fault.ensures (ap verdict_of c.in_ok-link_fault.was) c.with_room.result c.with_room.ensures _
    c.in_err-with_room.was)

pub returns : goal.returns
returns c =
    let a = c.args in
    let b = a.buf.now in
    let bytes : All Byte (take a.lent.len b) = all_take Byte a.lent.len b (bytes-all b (λ i. omega (arith, c.type_inv.buf i))) in
    plan_fine a.lent.profile b a.lent.len a.lent.room a.lent.used a.original.usage a.original.number a.alias.usage a.alias.number bytes 0
    c.in_ok-facts.facts (sym c.opened.ensures ∙ c.in_ok-facts.was)
    c.in-Some.piece c.in-Some.is c.link_fault.result c.link_fault.ensures (ap verdict_of c.in_ok-link_fault.was) c.with_room.result c.with_room.ensures
    _ c.link_place-place.ensures.0 (ap verdict_of c.in_ok-with_room.was)
