-- Each way out is a law of UndoAsked. The tests before the reader is called hold at every way out behind it.
use native.Mathlib.Omega.{arith}
use Prim.Native.Nat.{ℕ, ◌≤◌}
use mathlib.Core.Path.{◌≡◌, ap, sym, ◌∙◌}
use lib.ListN.{length}
use lib.Seq.{length-take-le}
use Rattle.std.specs.Prelude.{Some, None}
use Rattle.std.proofs.lemmas.Result.{err_from_is_err_and}
use Rattle.blorb.specs.Bytes.{Byte}
use Rattle.blorb.proofs.Accept.{bytes-all}
use Rattle.blorb.specs.All.{All}
use Rattle.undoing.specs.UndoPlan.{question_of}
use Rattle.undoing.proofs.UndoAsked.{unknown_profile, short_buffer, short_journal, unread, nothing_used, unformed, unfit, no_room, room_for, asked}
use Rattle.undoing.proofs.undo_plan.Goals as goal
use Rattle.undoing.proofs.undo_plan.Goals.{After-inspect}

-- the tests before the reader's call: the profile is known, L and U lie in their buffers
known : (p : After-inspect) → p.args.profile ≤ 1
known p = p.if-profile-gt1.false

file-lent : (p : After-inspect) → let a = p.args in
    a.len ≤ length a.buf.now
file-lent p = p.if-buf-len.false

journal_lent : (p : After-inspect) → let a = p.args in
    a.used ≤ length a.jrn.now
journal_lent p = p.if-jrn-used.false

pub returns-then-profile-gt1 : goal.returns-then-profile-gt1
returns-then-profile-gt1 c =
    let a = c.args in
    unknown_profile a.profile a.buf.now a.len a.jrn.now a.used c.if-profile-gt1.true

pub returns-then-buf-len : goal.returns-then-buf-len
returns-then-buf-len c =
    let a = c.args in
    short_buffer a.profile a.buf.now a.len a.jrn.now a.used c.if-profile-gt1.false c.if-buf-len.true

pub returns-then-jrn-used : goal.returns-then-jrn-used
returns-then-jrn-used c =
    let a = c.args in
    short_journal a.profile a.buf.now a.len a.jrn.now a.used c.if-profile-gt1.false c.if-jrn-used.true

pub slice_bounds-last_record-end : goal.slice_bounds-last_record-end
slice_bounds-last_record-end c = sym (length-take-le _ _ c.if-jrn-used.false)

pub slice_bounds-inspect-end : goal.slice_bounds-inspect-end
slice_bounds-inspect-end c = sym (length-take-le _ _ c.if-buf-len.false)

pub returns-in_err-facts : goal.returns-in_err-facts
returns-in_err-facts c =
    let a = c.args in
    let q = c.of-asked.result in
    let p = err_from_is_err_and c.from_residual.result c.from_residual.ensures.1 in
    rw (p.1, p.2) (unread a.profile a.buf.now a.len a.jrn.now a.used (known (goal.at.returns-in_err-facts c).After-inspect)
    (file-lent (goal.at.returns-in_err-facts c).After-inspect) (journal_lent (goal.at.returns-in_err-facts c).After-inspect) q.usage q.number q.at _ _
    (sym c.inspect.ensures ∙ c.in_err-facts.was))

pub returns-then-used-eq0 : goal.returns-then-used-eq0
returns-then-used-eq0 c =
    let a = c.args in
    let q = c.of-asked.result in
    nothing_used a.profile a.buf.now a.len a.jrn.now a.used (known (goal.at.returns-then-used-eq0 c).After-inspect)
    (file-lent (goal.at.returns-then-used-eq0 c).After-inspect) (journal_lent (goal.at.returns-then-used-eq0 c).After-inspect) q.usage q.number q.at
    c.in_ok-facts.facts (sym c.inspect.ensures ∙ c.in_ok-facts.was) c.if-used-eq0.true

pub returns-in_err-r : goal.returns-in_err-r
returns-in_err-r c =
    let a = c.args in
    let q = c.of-asked.result in
    let p = err_from_is_err_and c.from_residual-in_err-r.result c.from_residual-in_err-r.ensures.1 in
    let none : c.last_record-last.result ≡ None = grind arith in
    let e : ◌≡◌ {A = ℕ × ℕ} c.in_err-r.field-0.0 (21, 0) = grind arith in
    rw (p.1, p.2, e) (unformed a.profile a.buf.now a.len a.jrn.now a.used (known (goal.at.returns-in_err-r c).After-inspect)
    (file-lent (goal.at.returns-in_err-r c).After-inspect) (journal_lent (goal.at.returns-in_err-r c).After-inspect) q.usage q.number q.at
    c.in_ok-facts.facts (sym c.inspect.ensures ∙ c.in_ok-facts.was) c.if-used-eq0.false (sym c.last_record-last.ensures ∙ none))

pub plan_fitting-requires : goal.plan_fitting-requires
plan_fitting-requires c =
    let a = c.args in
    let q = c.of-asked.result in
    let file-known = c.type_inv.buf in
    let journal-known = c.type_inv.jrn in
    let bb : All Byte a.buf.now = bytes-all a.buf.now (λ i. omega (arith, file-known i)) in
    let bj : All Byte a.jrn.now = bytes-all a.jrn.now (λ i. omega (arith, journal-known i)) in
    let some : c.last_record-last.result ≡ Some c.in_ok-r.r = grind arith in
    asked a.profile a.buf.now a.len a.jrn.now a.used (known (goal.at.plan_fitting-requires c).After-inspect)
    (file-lent (goal.at.plan_fitting-requires c).After-inspect) (journal_lent (goal.at.plan_fitting-requires c).After-inspect) q.usage q.number q.at
    c.in_ok-facts.facts (sym c.inspect.ensures ∙ c.in_ok-facts.was) c.if-used-eq0.false
    c.in_ok-r.r (sym c.last_record-last.ensures ∙ some) bb bj (c.of-asked.ensures ∙ ap question_of some)

pub returns-in_err-plan : goal.returns-in_err-plan
returns-in_err-plan c =
    let a = c.args in
    let q = c.of-asked.result in
    let p = err_from_is_err_and c.from_residual-in_err-plan.result c.from_residual-in_err-plan.ensures.1 in
    let some : c.last_record-last.result ≡ Some c.in_ok-r.r = grind arith in
    let none : c.plan_fitting.result ≡ None = grind arith in
    let e : ◌≡◌ {A = ℕ × ℕ} c.in_err-plan.field-0.0 (21, 0) = grind arith in
    rw (p.1, p.2, e) (unfit a.profile a.buf.now a.len a.jrn.now a.used (known (goal.at.returns-in_err-plan c).After-inspect)
    (file-lent (goal.at.returns-in_err-plan c).After-inspect) (journal_lent (goal.at.returns-in_err-plan c).After-inspect) q.usage q.number q.at
    c.in_ok-facts.facts (sym c.inspect.ensures ∙ c.in_ok-facts.was) c.if-used-eq0.false c.in_ok-r.r (sym c.last_record-last.ensures ∙ some)
    (sym c.plan_fitting.ensures ∙ none))

pub returns-then-buf-plan : goal.returns-then-buf-plan
returns-then-buf-plan c =
    let a = c.args in
    let q = c.of-asked.result in
    let some : c.last_record-last.result ≡ Some c.in_ok-r.r = grind arith in
    let planned : c.plan_fitting.result ≡ Some c.in_ok-plan.plan = grind arith in
    no_room a.profile a.buf.now a.len a.jrn.now a.used (known (goal.at.returns-then-buf-plan c).After-inspect)
    (file-lent (goal.at.returns-then-buf-plan c).After-inspect) (journal_lent (goal.at.returns-then-buf-plan c).After-inspect) q.usage q.number q.at
    c.in_ok-facts.facts (sym c.inspect.ensures ∙ c.in_ok-facts.was) c.if-used-eq0.false c.in_ok-r.r (sym c.last_record-last.ensures ∙ some)
    c.in_ok-plan.plan (sym c.plan_fitting.ensures ∙ planned) c.if-buf-plan.true

pub returns : goal.returns
returns c =
    let a = c.args in
    let q = c.of-asked.result in
    let some : c.last_record-last.result ≡ Some c.in_ok-r.r = grind arith in
    let planned : c.plan_fitting.result ≡ Some c.in_ok-plan.plan = grind arith in
    room_for a.profile a.buf.now a.len a.jrn.now a.used (known (goal.at.returns c).After-inspect) (file-lent (goal.at.returns c).After-inspect)
    (journal_lent (goal.at.returns c).After-inspect) q.usage q.number q.at
    c.in_ok-facts.facts (sym c.inspect.ensures ∙ c.in_ok-facts.was) c.if-used-eq0.false c.in_ok-r.r (sym c.last_record-last.ensures ∙ some)
    c.in_ok-plan.plan (sym c.plan_fitting.ensures ∙ planned) c.if-buf-plan.false
