-- The answer is the definition's, once the first differing row is known.
use mathlib.Core.Path.{sym, ◌∙◌}
use Rattle.std.proofs.lemmas.Result.{err_from_is_err_and}
use Rattle.table.proofs.FileLaws.{indexed}
use Rattle.table.proofs.AnswerLaws.{check-refused, check-quick, check_yes, check_no}
use Rattle.table.proofs.compare.Goals as goal

pub returns-in_err-accepted : goal.returns-in_err-accepted
returns-in_err-accepted c =
    let p = err_from_is_err_and c.from_residual.result c.from_residual.ensures.1 in
    rw (p.1, p.2) (check-refused _ _ _ _ _ _ (sym c.in_err-accepted.ensures))

pub invariant_of-index : goal.invariant_of-index
invariant_of-index c =
    let e = sym c.read.ensures ∙ c.in_ok-accepted.was in
    let i = indexed _ _ _ _ e in
    record { few = i.few; room = i.room }

pub quick-requires-clause-once : goal.quick-requires-clause-once
quick-requires-clause-once c = let e = sym c.read.ensures ∙ c.in_ok-accepted.was in (indexed _ _ _ _ e).once

pub returns-then-quick : goal.returns-then-quick
returns-then-quick c =
    let e = sym c.read.ensures ∙ c.in_ok-accepted.was in
    let q = c.quick.ensures c.if-quick.true in
    check-quick _ _ _ _ e _ _ q.0 q.1

pub differing-place-requires : goal.differing-place-requires
differing-place-requires c = let e = sym c.read.ensures ∙ c.in_ok-accepted.was in (indexed _ _ _ _ e).once

pub returns-then-t-count : goal.returns-then-t-count
returns-then-t-count c = let e = sym c.read.ensures ∙ c.in_ok-accepted.was in check_yes _ _ _ _ e _ _ _ c.differing-place.ensures c.if-t-count.true

pub returns : goal.returns
returns c = let e = sym c.read.ensures ∙ c.in_ok-accepted.was in check_no _ _ _ _ e _ _ _ c.differing-place.ensures c.if-t-count.false
