-- Of an opened 'RDes' the text of a pair of the index is told; its file is accepted, so the index is searched without another reading.
use Rattle.std.proofs.Common.{sym, ap, ◌∙◌}
use Rattle.std.specs.Prelude.{Err}
use Rattle.std.proofs.lemmas.Result.{err_from_is_err_and}
use Rattle.descriptions.specs.Opened.{IsOpened}
use Rattle.descriptions.specs.Texts.{or_22}
use Rattle.descriptions.proofs.OpenLaws.{ready, not_there_is, told_no, told_none, told_unlisted, told-listed}
use Rattle.descriptions.proofs.tell.Goals as goal

pub returns-in_err-entries : goal.returns-in_err-entries
returns-in_err-entries c =
    let p = err_from_is_err_and c.from_residual.result c.from_residual.ensures.1 in
    rw (p.1, p.2) (told_no _ _ _ _ _ _ c.in_err-entries.ensures)

pub in_index-requires : goal.in_index-requires
in_index-requires c =
    let opened : IsOpened c.args.profile c.args.file.now c.in-Some.entries = rw c.in-Some.is at c.in_ok-entries.ensures in
    (c.args.profile, (ready _ _ _ opened).accepted)

pub returns-then-not-in_index : goal.returns-then-not-in_index
returns-then-not-in_index c =
    let opened : IsOpened c.args.profile c.args.file.now c.in-Some.entries = rw c.in-Some.is at c.in_ok-entries.ensures in
    let unlisted = rw c.code-pair.ensures at (sym c.if-not-in_index.ensures) in
    ap Err c.not_there.ensures ∙ told_unlisted _ _ _ _ _ opened unlisted

pub returns-else-not-in_index : goal.returns-else-not-in_index
returns-else-not-in_index c =
    let opened : IsOpened c.args.profile c.args.file.now c.in-Some.entries = rw c.in-Some.is at c.in_ok-entries.ensures in
    let listed = rw c.code-pair.ensures at (sym c.if-not-in_index.ensures) in
    let told = rw c.code-pair.ensures at c.tell.ensures in
    c.ok_or.ensures.value ∙ not_there_is _ _ c.not_there-in-Some.ensures ∙ ap or_22 told ∙ told-listed _ _ _ _ _ opened listed

pub returns-in-None : goal.returns-in-None
returns-in-None c =
    let none = rw c.in-None.is at c.in_ok-entries.ensures in
    ap Err c.not_there-in-None.ensures ∙ told_none _ _ _ _ none.0 none.1
