-- The reading says that the file is accepted; then the entry found starts at a chunk that lies in the file, and the numbers read there are the chunk's.
use native.Mathlib.Omega.{arith}
use mathlib.Core.Path.{sym, ◌∙◌}
use Rattle.std.proofs.lemmas.Result.{err_from_is_err_and}
use Rattle.chunks.proofs.ChunkLaws.{Whole, fine}
use Rattle.index.proofs.IndexLaws.{hit_begun}
use Rattle.reader.proofs.AskLaws.{Good, accepted, refused_as, look_no, look_22, look_found}
use Rattle.reader.proofs.lookup.Goals as goal
use Rattle.reader.proofs.lookup.Goals.{In_ok-accepted, In-Some}

-- the file is accepted, with as many entries
good-file : (c : In_ok-accepted) → Good c.args.profile c.args.file.now c.in_ok-accepted.accepted.count
good-file c = let r = c.in_ok-accepted.accepted in accepted _ _ r.length r.count (sym c.in_ok-accepted.ensures)

good-file-in-chunk : (c : In-Some) → Good c.args.profile c.args.file.now c.in_ok-accepted.accepted.count
good-file-in-chunk c = let r = c.in_ok-accepted.accepted in accepted _ _ r.length r.count (sym c.in_ok-accepted.ensures)

-- a chunk begins where the entry found starts, and lies in the file
chunk : (c : In-Some) → Whole c.args.file.now c.in-Some.at
chunk c = let b = hit_begun _ _ _ _ _ (good-file-in-chunk c).passed.judged (sym c.find.ensures ∙
    c.in-Some.is) in fine _ _ b.0 b.1

pub find-requires : goal.find-requires
find-requires c = let g = good-file (goal.at.find-requires c).In_ok-accepted in (g.passed.judged.few, g.passed.judged.room)

pub returns-in_default : goal.returns-in_default
returns-in_default c =
    rw (← c.code.ensures)
    (look_22 _ _ _ _ _ (good-file (goal.at.returns-in_default c).In_ok-accepted) (sym c.find.ensures ∙ c.in_default.is))

pub be32_at-kind-requires : goal.be32_at-kind-requires
be32_at-kind-requires c = omega (arith, (chunk (goal.at.be32_at-kind-requires c).In-Some).header)

pub overflow_add-at : goal.overflow_add-at
overflow_add-at c = omega (arith, (chunk (goal.at.overflow_add-at c).In-Some).header)

pub be32_at-m-requires : goal.be32_at-m-requires
be32_at-m-requires c = omega (arith, (chunk (goal.at.be32_at-m-requires c).In-Some).header)

pub overflow_add-result : goal.overflow_add-result
overflow_add-result c = omega (arith, (chunk (goal.at.overflow_add-result c).In-Some).header)

pub returns-in_err-accepted : goal.returns-in_err-accepted
returns-in_err-accepted c =
    let p = err_from_is_err_and c.from_residual.result c.from_residual.ensures.1 in
    rw (p.1, p.2) (look_no _ _ _ _ _ _ (refused_as _ _ _ _ (sym c.in_err-accepted.ensures)))

pub returns : goal.returns
returns c =
    rw (← c.code.ensures)
    (look_found _ _ _ _ _ (good-file (goal.at.returns c).In_ok-accepted) _ _ _ _ (sym c.find.ensures ∙
    c.in-Some.is) c.be32_at-kind.ensures.0
    c.be32_at-m.ensures.0 c.left_out-skipped.ensures.0)
