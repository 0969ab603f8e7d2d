-- The plan goes by the order of the refusals: what opening tells, 30, what add_fault judges, 24 and 25. What the opened file tells is what the calls ask.
use native.Mathlib.Omega.{arith}
use mathlib.Core.Path.{sym, ap, ◌∙◌}
use lib.ListN.{take}
use lib.Seq.{length-take-le}
use Rattle.std.proofs.lemmas.Result.{err_from_is_err_and}
use Rattle.blorb.specs.Bytes.{Byte}
use Rattle.blorb.specs.All.{All}
use Rattle.blorb.specs.Refusals.{verdict_of}
use Rattle.blorb.proofs.Accept.{bytes-all}
use Rattle.blorb.proofs.AllLaws.{all_take}
use Rattle.planning.proofs.AddPlan.{told_stands, told-pair, plan_unopened, plan_30, plan_judged, plan_full, plan_fine}
use Rattle.planning.proofs.add_plan.Goals as goal

pub returns-in_err-facts : goal.returns-in_err-facts
returns-in_err-facts c =
    let a = c.args in
    let b = a.buf.now in
    let bytes : All Byte (take a.lent.len b) = all_take Byte a.lent.len b (bytes-all b (λ i. omega (arith, c.type_inv.buf i))) in
    let p = err_from_is_err_and c.from_residual.result c.from_residual.ensures.1 in
    rw (p.1, p.2) (plan_unopened a.lent.profile b a.lent.len a.lent.room a.lent.used a.pair.usage a.pair.number a.kind a.d.now bytes 0 _
    (sym c.opened.ensures ∙ c.in_err-facts.was))

pub returns-then-not-is_whole : goal.returns-then-not-is_whole
returns-then-not-is_whole c =
    let a = c.args in
    let b = a.buf.now in
    let bytes : All Byte (take a.lent.len b) = all_take Byte a.lent.len b (bytes-all b (λ i. omega (arith, c.type_inv.buf i))) in
    plan_30 a.lent.profile b a.lent.len a.lent.room a.lent.used a.pair.usage a.pair.number a.kind a.d.now bytes 0 c.in_ok-facts.facts
    (sym c.opened.ensures ∙ c.in_ok-facts.was)
    (sym c.is_whole.ensures ∙ c.if-not-is_whole.true)

pub slice_bounds-s-end : goal.slice_bounds-s-end
slice_bounds-s-end c =
    let a = c.args in
    let b = a.buf.now in
    let bytes : All Byte (take a.lent.len b) = all_take Byte a.lent.len b (bytes-all b (λ i. omega (arith, c.type_inv.buf i))) in
    sym (length-take-le _ _ (told_stands a.lent.profile b a.lent.len a.lent.room a.lent.used a.pair.usage a.pair.number a.kind a.d.now bytes 0
    c.in_ok-facts.facts (sym c.opened.ensures ∙ c.in_ok-facts.was)).0.inside)

pub add_fault-requires : goal.add_fault-requires
add_fault-requires c =
    let a = c.args in
    let b = a.buf.now in
    let bytes : All Byte (take a.lent.len b) = all_take Byte a.lent.len b (bytes-all b (λ i. omega (arith, c.type_inv.buf i))) in
    told-pair a.lent.profile b a.lent.len a.lent.room a.lent.used a.pair.usage a.pair.number a.kind a.d.now bytes 0 c.in_ok-facts.facts
    (sym c.opened.ensures ∙ c.in_ok-facts.was)

pub returns-in_err-add_fault : goal.returns-in_err-add_fault
returns-in_err-add_fault c =
    let a = c.args in
    let b = a.buf.now in
    let bytes : All Byte (take a.lent.len b) = all_take Byte a.lent.len b (bytes-all b (λ i. omega (arith, c.type_inv.buf i))) in
    let p = err_from_is_err_and c.from_residual-in_err-add_fault.result c.from_residual-in_err-add_fault.ensures.1 in
    rw (p.1, p.2) (plan_judged a.lent.profile b a.lent.len a.lent.room a.lent.used a.pair.usage a.pair.number a.kind a.d.now bytes 0 c.in_ok-facts.facts
    (sym c.opened.ensures ∙ c.in_ok-facts.was)
    (sym c.is_whole.ensures ∙ c.if-not-is_whole.false) c.held-body.result.now
    c.held-body.ensures c.add_fault.result c.add_fault.ensures _ c.in_err-add_fault.was)

pub overflow_add-size-3 : goal.overflow_add-size-3
overflow_add-size-3 c =
    let a = c.args in
    let b = a.buf.now in
    let bytes : All Byte (take a.lent.len b) = all_take Byte a.lent.len b (bytes-all b (λ i. omega (arith, c.type_inv.buf i))) in
    omega (
      arith,
      (told_stands a.lent.profile b a.lent.len a.lent.room a.lent.used a.pair.usage a.pair.number a.kind a.d.now bytes 0 c.in_ok-facts.facts
          (sym c.opened.ensures ∙ c.in_ok-facts.was)).0.short,
    )

pub overflow_sub-lent : goal.overflow_sub-lent
overflow_sub-lent c =
    let a = c.args in
    let b = a.buf.now in
    let bytes : All Byte (take a.lent.len b) = all_take Byte a.lent.len b (bytes-all b (λ i. omega (arith, c.type_inv.buf i))) in
    (told_stands a.lent.profile b a.lent.len a.lent.room a.lent.used a.pair.usage a.pair.number a.kind a.d.now bytes 0 c.in_ok-facts.facts
    (sym c.opened.ensures ∙ c.in_ok-facts.was)).1

pub returns-in_err-with_room : goal.returns-in_err-with_room
returns-in_err-with_room c =
    let a = c.args in
    let b = a.buf.now in
    let bytes : All Byte (take a.lent.len b) = all_take Byte a.lent.len b (bytes-all b (λ i. omega (arith, c.type_inv.buf i))) in
    let p = err_from_is_err_and c.from_residual-in_err-with_room.result c.from_residual-in_err-with_room.ensures.1 in
    rw (p.1, p.2) (plan_full a.lent.profile b a.lent.len a.lent.room a.lent.used a.pair.usage a.pair.number a.kind a.d.now bytes 0 c.in_ok-facts.facts
    (sym c.opened.ensures ∙ c.in_ok-facts.was)
    (sym c.is_whole.ensures ∙ c.if-not-is_whole.false) c.held-body.result.now
    c.held-body.ensures c.add_fault.result c.add_fault.ensures (ap verdict_of c.in_ok-add_fault.was) c.with_room.result c.with_room.ensures
    _ c.in_err-with_room.was)

pub returns : goal.returns
returns c =
    let a = c.args in
    let b = a.buf.now in
    let bytes : All Byte (take a.lent.len b) = all_take Byte a.lent.len b (bytes-all b (λ i. omega (arith, c.type_inv.buf i))) in
    plan_fine a.lent.profile b a.lent.len a.lent.room a.lent.used a.pair.usage a.pair.number a.kind a.d.now bytes 0 c.in_ok-facts.facts
    (sym c.opened.ensures ∙ c.in_ok-facts.was)
    (sym c.is_whole.ensures ∙ c.if-not-is_whole.false) c.held-body.result.now
    c.held-body.ensures c.add_fault.result c.add_fault.ensures (ap verdict_of c.in_ok-add_fault.was) c.with_room.result c.with_room.ensures
    (ap verdict_of c.in_ok-with_room.was)
