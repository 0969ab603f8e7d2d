-- Of a file that the reader accepts the chunks behind the index are walked; of another one its refusal is handed on.
use Rattle.std.proofs.Common.{sym, ◌∙◌, ap, arith}
use Rattle.std.specs.Prelude.{Ok}
use Rattle.std.proofs.lemmas.Result.{err_from_is_err_and}
use Rattle.reader.proofs.Promises.{accepted_is, layout_is}
use Rattle.locate.proofs.LocateLaws.{located_no, located_go}
use Rattle.locate.proofs.by_type.Goals as goal

pub returns-in_err-accepted : goal.returns-in_err-accepted
returns-in_err-accepted c =
    let p = err_from_is_err_and c.from_residual.result c.from_residual.ensures.1 in
    rw (p.1, p.2) (located_no _ _ _ _ _ (sym c.in_err-accepted.ensures))

pub overflow_mul-accepted : goal.overflow_mul-accepted
overflow_mul-accepted c = omega (arith, (accepted_is _ _ _ _ (sym c.in_ok-accepted.ensures)).4)

pub overflow_add-accepted : goal.overflow_add-accepted
overflow_add-accepted c = omega (arith, (accepted_is _ _ _ _ (sym c.in_ok-accepted.ensures)).4)

pub from_on-requires : goal.from_on-requires
from_on-requires c = (layout_is _ _ _ _ (sym c.in_ok-accepted.ensures)).walks

pub returns : goal.returns
returns c = ap Ok c.from_on.ensures ∙ located_go _ _ _ _ _ (sym c.in_ok-accepted.ensures)
