use mathlib.Core.Path.{refl, sym, ◌∙◌}
use native.Mathlib.Omega.{arith}
use Rattle.chunks.proofs.ChunkLaws.{chunk_good_header, along_next, walk-fault, walk_end, ordinary_end}
use Rattle.std.proofs.lemmas.Result.{err_from_is_err_and}
use Rattle.chunks.proofs.walk_rest.Goals as goal

pub loop-at-init : goal.loop-at-init
loop-at-init c = record { rest = refl; ordinary = λ e. refl }

pub be32_at-requires : goal.be32_at-requires
be32_at-requires c =
    omega (arith, chunk_good_header _ _ c.loop-at-test.true (sym c.in_ok-chunk.ensures))

pub skip-at-requires : goal.skip-at-requires
skip-at-requires c =
    chunk_good_header _ _ c.loop-at-test.true (sym c.in_ok-chunk.ensures)

pub loop-at-smaller : goal.loop-at-smaller
loop-at-smaller c = omega (arith, c.skip-at.ensures)

pub loop-at-preserved : goal.loop-at-preserved
loop-at-preserved c =
    along_next _ _ _ _ _ _ _ c.loop-at-test.true (sym c.in_ok-chunk.ensures)
    c.be32_at.ensures.0 c.is_ordinary-ordinary.ensures c.skip-at.ensures c.loop-at.invariant

pub returns-in_err-chunk : goal.returns-in_err-chunk
returns-in_err-chunk c =
    let p = err_from_is_err_and c.from_residual.result c.from_residual.ensures.1 in
    rw (p.1, p.2) (walk-fault _ _ _ _ c.loop-at-test.true (sym c.in_err-chunk.ensures) ∙ c.loop-at.invariant.rest, tt)

pub returns : goal.returns
returns c =
    let inv = c.loop-at.invariant in
    (sym (walk_end _ _ c.loop-at-test.false) ∙ inv.rest, λ e. sym (inv.ordinary e) ∙ ordinary_end _ _ c.loop-at-test.false)
