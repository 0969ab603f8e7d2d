-- Of an opened 'RDes' the entry asked for is given.
use Rattle.std.proofs.Common.{ap, ◌∙◌}
use Rattle.std.specs.Prelude.{Err}
use Rattle.std.proofs.lemmas.Result.{err_from_is_err_and}
use Rattle.descriptions.specs.Opened.{IsOpened}
use Rattle.descriptions.specs.Texts.{or_22}
use Rattle.descriptions.proofs.OpenLaws.{not_there_is, described_no, described-none, described-is}
use Rattle.descriptions.proofs.describe.Goals as goal

pub returns-in_err-entries : goal.returns-in_err-entries
returns-in_err-entries c =
    let p = err_from_is_err_and c.from_residual.result c.from_residual.ensures.1 in
    rw (p.1, p.2) (described_no _ _ _ _ _ c.in_err-entries.ensures)

pub returns-in-Some : goal.returns-in-Some
returns-in-Some c =
    let opened : IsOpened c.args.profile c.args.file.now c.in-Some.entries = rw c.in-Some.is at c.in_ok-entries.ensures in
    c.ok_or.ensures.value ∙ not_there_is _ _ c.not_there.ensures ∙ ap or_22 c.get.ensures ∙ described-is _ _ _ _ opened

pub returns-in-None : goal.returns-in-None
returns-in-None c =
    let none = rw c.in-None.is at c.in_ok-entries.ensures in
    ap Err c.not_there-in-None.ensures ∙ described-none _ _ _ none.0 none.1
