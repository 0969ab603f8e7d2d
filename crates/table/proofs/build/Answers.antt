-- The reader's answer decides; the rows are written only where there is room.
use native.Mathlib.Omega.{arith}
use mathlib.Core.Path.{refl, sym, ◌∙◌}
use lib.ListN.{length}
use Rattle.std.proofs.lemmas.Result.{err_from_is_err_and}
use Rattle.table.specs.Answers.{build_of}
use Rattle.table.proofs.FileLaws.{indexed}
use Rattle.table.proofs.AnswerLaws.{room_given, build-refused, build-rows, build-numbers}
use Rattle.table.proofs.build.Goals as goal

pub returns-in_err-accepted : goal.returns-in_err-accepted
returns-in_err-accepted c =
    let p = err_from_is_err_and c.from_residual.result c.from_residual.ensures.1 in
    rw (p.1, p.2) (build-refused _ _ _ _ _ (sym c.in_err-accepted.ensures), refl)

pub room-requires : goal.room-requires
room-requires c = let e = sym c.read.ensures ∙ c.in_ok-accepted.was in omega (arith, (indexed _ _ _ _ e).few)

pub returns-in_err-count : goal.returns-in_err-count
unfolding build_of
returns-in_err-count c =
    let r = c.from_residual-in_err-count in
    let p = err_from_is_err_and r.result r.ensures.1 in
    let e = sym c.read.ensures ∙ c.in_ok-accepted.was in
    rw (p.1, p.2) (rw e c.in_err-count.ensures, refl)

pub invariant_of-fill : goal.invariant_of-fill
invariant_of-fill c =
    let e = sym c.read.ensures ∙ c.in_ok-accepted.was in
    let i = indexed _ _ _ _ e in
    let q = room_given _ _ _ (sym c.room.ensures ∙ c.in_ok-count.was) in
    record { few = omega (arith, q.0, i.few); room = omega (arith, q.0, i.room) }

pub fill-requires-clause-once : goal.fill-requires-clause-once
fill-requires-clause-once c =
    let e = sym c.read.ensures ∙ c.in_ok-accepted.was in
    let q = room_given _ _ _ (sym c.room.ensures ∙ c.in_ok-count.was) in
    rw q.0 (indexed _ _ _ _ e).once

pub returns : goal.returns
returns c =
    let e = sym c.read.ensures ∙ c.in_ok-accepted.was in
    let q = room_given _ _ _ (sym c.room.ensures ∙ c.in_ok-count.was) in
    let f = rw q.0 at c.fill.ensures in
    (rw q.0 (build-rows _ _ _ _ _ e q.1), build-numbers _ _ _ _ (length c.args.table.now) e _ _ f)
