-- The plan goes by the order of the refusals: what opening tells, 22, what remove_fault judges, 24 and 25. At each place the found entry tells what the
-- next call asks.
use native.Mathlib.Omega.{arith}
use mathlib.Core.Path.{sym, ap, ◌∙◌}
use lib.ListN.{take}
use lib.Seq.{length-take-le}
use Rattle.std.proofs.lemmas.Result.{err_from_is_err_and}
use Rattle.blorb.specs.Bytes.{Byte}
use Rattle.blorb.specs.All.{All}
use Rattle.blorb.specs.Refusals.{verdict_of}
use Rattle.blorb.proofs.Accept.{bytes-all}
use Rattle.blorb.proofs.AllLaws.{all_take}
use Rattle.planning.proofs.RemovePlan.{told, plan_unopened, plan_22, body_short, shrinks, listed, plan_judged, plan_full, plan_fine}
use Rattle.planning.proofs.remove_plan.Goals as goal

pub returns-in_err-facts : goal.returns-in_err-facts
returns-in_err-facts c =
    let a = c.args in
    let b = a.buf.now in
    let bytes : All Byte (take a.lent.len b) = all_take Byte a.lent.len b (bytes-all b (λ i. omega (arith, c.type_inv.buf i))) in
    let p = err_from_is_err_and c.from_residual.result c.from_residual.ensures.1 in
    rw (p.1, p.2) (plan_unopened a.lent.profile b a.lent.len a.lent.room a.lent.used a.pair.usage a.pair.number bytes 0 _
    (sym c.opened.ensures ∙ c.in_err-facts.was))

pub returns-in_default : goal.returns-in_default
returns-in_default c =
    let a = c.args in
    let b = a.buf.now in
    let bytes : All Byte (take a.lent.len b) = all_take Byte a.lent.len b (bytes-all b (λ i. omega (arith, c.type_inv.buf i))) in
    plan_22 a.lent.profile b a.lent.len a.lent.room a.lent.used a.pair.usage a.pair.number bytes 0 c.in_ok-facts.facts
    (sym c.opened.ensures ∙ c.in_ok-facts.was) c.in_default.is

pub gone_size-size-requires : goal.gone_size-size-requires
gone_size-size-requires c =
    let a = c.args in
    let b = a.buf.now in
    let bytes : All Byte (take a.lent.len b) = all_take Byte a.lent.len b (bytes-all b (λ i. omega (arith, c.type_inv.buf i))) in
    let T = told a.lent.profile b a.lent.len a.lent.room a.lent.used a.pair.usage a.pair.number bytes 0 c.in_ok-facts.facts
    (sym c.opened.ensures ∙ c.in_ok-facts.was) c.in-Some.piece c.in-Some.is in
    body_short a.lent.profile b a.lent.len a.lent.room a.lent.used a.pair.usage a.pair.number bytes c.in-Some.piece T.found T.piece_is

pub slice_bounds-s-end : goal.slice_bounds-s-end
slice_bounds-s-end c =
    let a = c.args in
    let b = a.buf.now in
    let bytes : All Byte (take a.lent.len b) = all_take Byte a.lent.len b (bytes-all b (λ i. omega (arith, c.type_inv.buf i))) in
    let T = told a.lent.profile b a.lent.len a.lent.room a.lent.used a.pair.usage a.pair.number bytes 0 c.in_ok-facts.facts
    (sym c.opened.ensures ∙ c.in_ok-facts.was) c.in-Some.piece c.in-Some.is in
    sym (length-take-le a.lent.len b T.found.stands.inside)

pub remove_fault-requires : goal.remove_fault-requires
remove_fault-requires c =
    let a = c.args in
    let b = a.buf.now in
    let bytes : All Byte (take a.lent.len b) = all_take Byte a.lent.len b (bytes-all b (λ i. omega (arith, c.type_inv.buf i))) in
    let T = told a.lent.profile b a.lent.len a.lent.room a.lent.used a.pair.usage a.pair.number bytes 0 c.in_ok-facts.facts
    (sym c.opened.ensures ∙ c.in_ok-facts.was) c.in-Some.piece c.in-Some.is in
    listed a.lent.profile b a.lent.len a.lent.room a.lent.used a.pair.usage a.pair.number bytes c.in_ok-facts.facts c.in-Some.piece T
    c.gone_size-size.result c.gone_size-size.ensures

pub returns-in_err-remove_fault : goal.returns-in_err-remove_fault
returns-in_err-remove_fault c =
    let a = c.args in
    let b = a.buf.now in
    let bytes : All Byte (take a.lent.len b) = all_take Byte a.lent.len b (bytes-all b (λ i. omega (arith, c.type_inv.buf i))) in
    let T = told a.lent.profile b a.lent.len a.lent.room a.lent.used a.pair.usage a.pair.number bytes 0 c.in_ok-facts.facts
    (sym c.opened.ensures ∙ c.in_ok-facts.was) c.in-Some.piece c.in-Some.is in
    let p = err_from_is_err_and c.from_residual-in_err-remove_fault.result c.from_residual-in_err-remove_fault.ensures.1 in
    rw (p.1, p.2) (plan_judged a.lent.profile b a.lent.len a.lent.room a.lent.used a.pair.usage a.pair.number bytes c.in_ok-facts.facts c.in-Some.piece T
    c.gone_size-size.result c.gone_size-size.ensures c.remove_fault.result c.remove_fault.ensures _ c.in_err-remove_fault.was)

pub overflow_sub-size : goal.overflow_sub-size
overflow_sub-size c =
    let a = c.args in
    let b = a.buf.now in
    let bytes : All Byte (take a.lent.len b) = all_take Byte a.lent.len b (bytes-all b (λ i. omega (arith, c.type_inv.buf i))) in
    let T = told a.lent.profile b a.lent.len a.lent.room a.lent.used a.pair.usage a.pair.number bytes 0 c.in_ok-facts.facts
    (sym c.opened.ensures ∙ c.in_ok-facts.was) c.in-Some.piece c.in-Some.is in
    shrinks a.lent.profile b a.lent.len a.lent.room a.lent.used a.pair.usage a.pair.number bytes c.in-Some.piece T.found T.piece_is
    c.gone_size-size.result c.gone_size-size.ensures

pub overflow_sub-lent : goal.overflow_sub-lent
overflow_sub-lent c =
    let a = c.args in
    let b = a.buf.now in
    let bytes : All Byte (take a.lent.len b) = all_take Byte a.lent.len b (bytes-all b (λ i. omega (arith, c.type_inv.buf i))) in
    let T = told a.lent.profile b a.lent.len a.lent.room a.lent.used a.pair.usage a.pair.number bytes 0 c.in_ok-facts.facts
    (sym c.opened.ensures ∙ c.in_ok-facts.was) c.in-Some.piece c.in-Some.is in
    T.found.used_in

pub returns-in_err-with_room : goal.returns-in_err-with_room
returns-in_err-with_room c =
    let a = c.args in
    let b = a.buf.now in
    let bytes : All Byte (take a.lent.len b) = all_take Byte a.lent.len b (bytes-all b (λ i. omega (arith, c.type_inv.buf i))) in
    let T = told a.lent.profile b a.lent.len a.lent.room a.lent.used a.pair.usage a.pair.number bytes 0 c.in_ok-facts.facts
    (sym c.opened.ensures ∙ c.in_ok-facts.was) c.in-Some.piece c.in-Some.is in
    let p = err_from_is_err_and c.from_residual-in_err-with_room.result c.from_residual-in_err-with_room.ensures.1 in
    rw (p.1, p.2) (plan_full a.lent.profile b a.lent.len a.lent.room a.lent.used a.pair.usage a.pair.number bytes c.in_ok-facts.facts c.in-Some.piece T
    c.gone_size-size.result c.gone_size-size.ensures c.remove_fault.result c.remove_fault.ensures (ap verdict_of c.in_ok-remove_fault.was)
    c.kept_number-body.result c.kept_number-body.ensures c.with_room.result c.with_room.ensures _ c.in_err-with_room.was)

pub returns : goal.returns
returns c =
    let a = c.args in
    let b = a.buf.now in
    let bytes : All Byte (take a.lent.len b) = all_take Byte a.lent.len b (bytes-all b (λ i. omega (arith, c.type_inv.buf i))) in
    let T = told a.lent.profile b a.lent.len a.lent.room a.lent.used a.pair.usage a.pair.number bytes 0 c.in_ok-facts.facts
    (sym c.opened.ensures ∙ c.in_ok-facts.was) c.in-Some.piece c.in-Some.is in
    plan_fine a.lent.profile b a.lent.len a.lent.room a.lent.used a.pair.usage a.pair.number bytes c.in_ok-facts.facts c.in-Some.piece T
    c.gone_size-size.result c.gone_size-size.ensures c.remove_fault.result c.remove_fault.ensures (ap verdict_of c.in_ok-remove_fault.was)
    c.kept_number-body.result c.kept_number-body.ensures c.with_room.result c.with_room.ensures (ap verdict_of c.in_ok-with_room.was)
