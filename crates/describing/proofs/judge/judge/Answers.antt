-- The rows up to the first bad text are asked for a repeated pair: one there comes first, else the bad text does.
use Rattle.std.proofs.Common.{◌<◌, ℕ, ◌∙◌, arith, get_or}
use Rattle.std.proofs.lemmas.Result.{err_from_is_err_and}
use Rattle.shared_texts.proofs.SegmentLaws.{remembers_none}
use Rattle.describing.proofs.PairLaws.{again_38, found_39, found-all}
use Rattle.describing.proofs.judge.judge.Goals as goal
use Rattle.describing.proofs.judge.judge.Goals.{After-first_bad}

-- the list's numbers have 32 bits
small : (c : After-first_bad) → (i : ℕ) → get_or c.args.rows.now i 0 < 4294967296
small c i = omega (arith, c.type_inv.rows i)

pub new-requires : goal.new-requires
new-requires c = remembers_none c.args.texts.now

pub returns-in-None : goal.returns-in-None
returns-in-None c =
    let bad = rw c.new.ensures.texts at c.in-None.ensures in
    c.distinct.ensures ∙ found-all c.args.rows.now c.args.texts.now (small (goal.at.returns-in-None c).After-first_bad) c.args.n c.args.n bad (omega arith)

pub returns-in_err-distinct-in-Some : goal.returns-in_err-distinct-in-Some
returns-in_err-distinct-in-Some c =
    let bad = rw c.new.ensures.texts at c.in-Some.ensures.1 in
    let p = err_from_is_err_and c.from_residual.result c.from_residual.ensures.1 in
    rw (p.1, p.2)
    (again_38 c.args.rows.now c.args.texts.now (small (goal.at.returns-in_err-distinct-in-Some c).After-first_bad) c.args.n _ bad _ _ _
    c.in_err-distinct-in-Some.ensures (omega (arith, c.in-Some.ensures.0)) (omega arith))

pub returns-in_ok-distinct-in-Some : goal.returns-in_ok-distinct-in-Some
returns-in_ok-distinct-in-Some c =
    let bad = rw c.new.ensures.texts at c.in-Some.ensures.1 in
    found_39 c.args.rows.now c.args.texts.now (small (goal.at.returns-in_ok-distinct-in-Some c).After-first_bad) c.args.n _ bad _
    c.in_ok-distinct-in-Some.ensures c.in-Some.ensures.0 (omega arith)
