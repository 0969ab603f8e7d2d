-- 52 and 20 are tested in front of the inspection, in the order of the definition; the reader's own contract tells the rest.
use mathlib.Core.Path.{sym, ap, ◌∙◌}
use lib.ListN.{length, take}
use lib.Seq.{length-take-le}
use borrow.Author.Tests.{le-leb}
use Rattle.blorb.specs.Verdict.{Verdict, verdict}
use Rattle.blorb.specs.Rules.{rules_of}
use Rattle.blorb.proofs.Profiles.{profile_known}
use Rattle.reader.specs.Inspecting.{inspection_of}
use Rattle.blorb.specs.Model.{model}
use Rattle.judging.proofs.OpenLaws.{opened_unknown, opened-first, opened-second, opened-third}
use Rattle.planning.proofs.opened.Goals as goal

pub returns-then-lent-gt1 : goal.returns-then-lent-gt1
returns-then-lent-gt1 c =
    let a = c.args in
    let f = take a.lent.len a.buf.now in
    opened_unknown a.lent.profile a.lent.len (length a.buf.now) a.lent.used a.lent.room
    (verdict (rules_of a.lent.profile) f) (model f) a.pair.usage a.pair.number
    0 c.if-lent-gt1.true

pub returns-then-buf-lent : goal.returns-then-buf-lent
returns-then-buf-lent c =
    let a = c.args in
    let f = take a.lent.len a.buf.now in
    opened-first a.lent.profile a.lent.len (length a.buf.now) a.lent.used a.lent.room
    (verdict (rules_of a.lent.profile) f) (model f) a.pair.usage a.pair.number 0
    c.if-lent-gt1.false c.if-buf-lent.true

pub returns-then-lent : goal.returns-then-lent
returns-then-lent c =
    let a = c.args in
    let f = take a.lent.len a.buf.now in
    opened-second a.lent.profile a.lent.len (length a.buf.now) a.lent.used a.lent.room
    (verdict (rules_of a.lent.profile) f) (model f) a.pair.usage a.pair.number 0
    c.if-lent-gt1.false c.if-lent.true

pub slice_bounds-inspect-end : goal.slice_bounds-inspect-end
slice_bounds-inspect-end c = sym (length-take-le _ _ c.if-buf-lent.false)

pub returns : goal.returns
returns c =
    let a = c.args in
    let f = take a.lent.len a.buf.now in
    c.inspect.ensures
    ∙ ap (λ (v : Verdict). inspection_of v (model f) a.pair.usage a.pair.number 0)
    (profile_known a.lent.profile f (le-leb _ _ c.if-lent-gt1.false))
    ∙ opened-third a.lent.profile a.lent.len (length a.buf.now) a.lent.used a.lent.room
    (verdict (rules_of a.lent.profile) f) (model f) a.pair.usage a.pair.number 0
    c.if-lent-gt1.false c.if-buf-lent.false c.if-lent.false
