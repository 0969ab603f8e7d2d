-- 52, then what is left once 1 to 16 and 27 to 29 are ruled out: 17 to 19 decide, which ordinary chunks never break.
use mathlib.Core.Path.{◌≡◌, sym}
use Rattle.std.proofs.lemmas.Result.{err_from_is_err_and}
use Rattle.blorb.specs.Verdict.{accept, refuse}
use Rattle.index.proofs.OptionalLaws.{ordinary_optional}
use Rattle.reader.proofs.PartLaws.{unknown_is, entries_no, rest-is}
use Rattle.index.specs.Optional.{optional_fault}
use borrow.Author.Tests.{not-false}
use Rattle.reader.proofs.judge_file.Goals as goal
use Rattle.reader.proofs.judge_file.Goals.{then-not-judged+in_ok-optional, else-not-judged}

pub returns-then-profile-gt1 : goal.returns-then-profile-gt1
returns-then-profile-gt1 c = unknown_is _ _ c.if-profile-gt1.true

pub returns-in_err-judged : goal.returns-in_err-judged
returns-in_err-judged c =
    let p = err_from_is_err_and c.from_residual.result c.from_residual.ensures.1 in
    rw (p.1, p.2) (entries_no _ _ _ _ c.if-profile-gt1.false c.in_err-judged.ensures)

pub optional-requires : goal.optional-requires
optional-requires c = c.in_ok-judged.ensures.0

pub returns-in_err-optional : goal.returns-in_err-optional
returns-in_err-optional c =
    let r = c.from_residual-in_err-optional in
    let p = err_from_is_err_and r.result r.ensures.1 in
    rw (p.1, p.2) (rest-is _ _ _ (refuse _ _) c.if-profile-gt1.false c.in_ok-judged.ensures.1 (sym c.in_err-optional.ensures))

pub returns : goal.returns
returns c =
    let g = c.in_ok-judged.ensures in
    let rest : optional_fault c.args.file.now c.in_ok-judged.judged.count ≡ accept =
    elim c.if-not-judged.branch [
      | then-not-judged+in_ok-optional w ↦ sym w.in_ok-optional.ensures
      | else-not-judged w ↦ ordinary_optional _ _ (g.2 (not-false _ w.if-not-judged.false))
    ] in
    (rest-is _ _ _ accept c.if-profile-gt1.false g.1 rest, g.2)
