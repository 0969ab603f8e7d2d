-- The reading says that the file is accepted; then entry i lies in the index, and the numbers read there are the entry's.
use native.Mathlib.Omega.{arith}
use mathlib.Core.Path.{sym, ◌∙◌}
use Rattle.std.proofs.lemmas.Result.{err_from_is_err_and}
use Rattle.reader.proofs.AskLaws.{Good, accepted, refused_as, entry_no, entry_22, entry_unknown, entry_known}
use Rattle.reader.proofs.entry.Goals as goal
use Rattle.reader.proofs.entry.Goals.{In_ok-accepted}

-- the file is accepted, with as many entries
good-file : (c : In_ok-accepted) → Good c.args.profile c.args.file.now c.in_ok-accepted.accepted.count
good-file c = let r = c.in_ok-accepted.accepted in accepted _ _ r.length r.count (sym c.in_ok-accepted.ensures)

pub returns-in_err-accepted : goal.returns-in_err-accepted
returns-in_err-accepted c =
    let p = err_from_is_err_and c.from_residual.result c.from_residual.ensures.1 in
    rw (p.1, p.2) (entry_no _ _ _ _ _ (refused_as _ _ _ _ (sym c.in_err-accepted.ensures)))

pub returns-then-accepted-i : goal.returns-then-accepted-i
returns-then-accepted-i c = entry_22 _ _ _ _ (good-file (goal.at.returns-then-accepted-i c).In_ok-accepted) c.if-accepted-i.true

pub overflow_mul-p : goal.overflow_mul-p
overflow_mul-p c = let g = good-file (goal.at.overflow_mul-p c).In_ok-accepted in omega (arith, g.passed.judged.few, c.if-accepted-i.false)

pub overflow_add-p : goal.overflow_add-p
overflow_add-p c = let g = good-file (goal.at.overflow_add-p c).In_ok-accepted in omega (arith, g.passed.judged.few, c.if-accepted-i.false)

pub be32_at-requires : goal.be32_at-requires
be32_at-requires c = let g = good-file (goal.at.be32_at-requires c).In_ok-accepted in omega (arith, g.passed.judged.room, c.if-accepted-i.false)

pub overflow_add-p-2 : goal.overflow_add-p-2
overflow_add-p-2 c = let g = good-file (goal.at.overflow_add-p-2 c).In_ok-accepted in omega (arith, g.passed.judged.few, c.if-accepted-i.false)

pub be32_at-number-requires : goal.be32_at-number-requires
be32_at-number-requires c = let g = good-file (goal.at.be32_at-number-requires c).In_ok-accepted in omega (arith, g.passed.judged.room, c.if-accepted-i.false)

pub overflow_add-p-3 : goal.overflow_add-p-3
overflow_add-p-3 c = let g = good-file (goal.at.overflow_add-p-3 c).In_ok-accepted in omega (arith, g.passed.judged.few, c.if-accepted-i.false)

pub be32_at-start-requires : goal.be32_at-start-requires
be32_at-start-requires c = let g = good-file (goal.at.be32_at-start-requires c).In_ok-accepted in omega (arith, g.passed.judged.room, c.if-accepted-i.false)

pub returns-in_default : goal.returns-in_default
returns-in_default c =
    entry_unknown _ _ _ _ (good-file (goal.at.returns-in_default c).In_ok-accepted) c.if-accepted-i.false _ c.be32_at.ensures.0
    (sym c.of_code.ensures ∙ c.in_default.is)

pub returns : goal.returns
returns c =
    entry_known _ _ _ _ (good-file (goal.at.returns c).In_ok-accepted) c.if-accepted-i.false _ c.be32_at.ensures.0 _ _ _
    (sym c.of_code.ensures ∙ c.in-Some.is) c.be32_at-number.ensures.0 c.be32_at-start.ensures.0
