-- Kind by kind, what the code tests of the record and of what the reader told is what the definitions ask.
use native.Mathlib.Omega.{arith}
use Rattle.undoing.proofs.UndoAsked.{record_room, index_inside, asked-added, asked-replaced, asked-removed, asked_unlisted, asked-linked, asked-begins}
use Rattle.undoing.proofs.plan_fitting.Goals as goal

pub overflow_sub-end : goal.overflow_sub-end
overflow_sub-end c =
    let a = c.args in
    omega (arith, record_room a.profile a.buf.now a.len a.jrn.now a.used a.r a.facts c.requires)

pub overflow_sub-from : goal.overflow_sub-from
overflow_sub-from c =
    let a = c.args in
    omega (arith, record_room a.profile a.buf.now a.len a.jrn.now a.used a.r a.facts c.requires)

pub plan_removed-requires : goal.plan_removed-requires
plan_removed-requires c =
    let a = c.args in
    index_inside a.profile a.buf.now a.len a.jrn.now a.used a.r a.facts c.requires

pub plan_unlisted-requires : goal.plan_unlisted-requires
plan_unlisted-requires c =
    let a = c.args in
    asked-begins a.profile a.buf.now a.len a.jrn.now a.used a.r a.facts c.requires c.in-Unlisted.is

pub returns-in-Added : goal.returns-in-Added
returns-in-Added c =
    let a = c.args in
    asked-added a.profile a.buf.now a.len a.jrn.now a.used a.r a.facts c.requires _ c.in-Added.is c.plan_added.ensures

pub returns-in-Replaced : goal.returns-in-Replaced
returns-in-Replaced c =
    let a = c.args in
    asked-replaced a.profile a.buf.now a.len a.jrn.now a.used a.r a.facts c.requires _ c.in-Replaced.is c.plan_replaced.ensures

pub returns-in-Removed : goal.returns-in-Removed
returns-in-Removed c =
    let a = c.args in
    asked-removed a.profile a.buf.now a.len a.jrn.now a.used a.r a.facts c.requires _ c.in-Removed.is c.plan_removed.ensures

pub returns-in-Unlisted : goal.returns-in-Unlisted
returns-in-Unlisted c =
    let a = c.args in
    asked_unlisted a.profile a.buf.now a.len a.jrn.now a.used a.r a.facts c.requires _ c.in-Unlisted.is c.plan_unlisted.ensures

pub returns-in-Linked : goal.returns-in-Linked
returns-in-Linked c =
    let a = c.args in
    asked-linked a.profile a.buf.now a.len a.jrn.now a.used a.r a.facts c.requires _ c.in-Linked.is c.plan_linked.ensures
