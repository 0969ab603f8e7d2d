-- The facts are told of an accepted file alone; a refused one is refused here too.
use mathlib.Core.Path.{sym}
use Rattle.std.proofs.lemmas.Result.{err_from_is_err_and}
use Rattle.reader.proofs.AskLaws.{accepted, refused_as}
use Rattle.reader.proofs.PartLaws.{inspected_no, inspected}
use Rattle.reader.proofs.inspect.Goals as goal

pub returns-in_err-whole : goal.returns-in_err-whole
returns-in_err-whole c =
    let p = err_from_is_err_and c.from_residual.result c.from_residual.ensures.1 in
    rw (p.1, p.2) (inspected_no _ _ _ _ _ _ _ (refused_as _ _ _ _ (sym c.in_err-whole.ensures)))

pub facts-requires : goal.facts-requires
facts-requires c = let j = c.in_ok-whole.ensures in ((accepted _ _ _ _ (sym j.0)).passed, j.1)

pub returns : goal.returns
returns c = inspected _ _ _ _ _ _ (accepted _ _ _ _ (sym c.in_ok-whole.ensures.0)) _ c.facts.ensures
