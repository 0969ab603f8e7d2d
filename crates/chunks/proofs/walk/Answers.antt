-- The first chunk by itself, the rest by walk_rest: where the first chunk has no fault, the walk from 12 on is the walk from behind it on.
use Prim.Native.Nat.{ℕ}
use mathlib.Core.Path.{sym, ap, ◌∙◌}
use Rattle.chunks.specs.Ordinary.{all_ordinary}
use Rattle.chunks.specs.Walk.{walk_from, chunks_from}
use Rattle.chunks.proofs.ChunkLaws.{walk-next, walk-fault, walk_end, chunk_good_header, no_ordinary}
use Rattle.std.proofs.lemmas.Result.{err_from_is_err_and, IfOk-weaker}
use Rattle.chunks.proofs.walk.Goals as goal

pub returns-then-s-le12 : goal.returns-then-s-le12
returns-then-s-le12 c = (sym (walk_end _ _ c.if-s-le12.true), λ e. no_ordinary _ e)

pub skip-requires : goal.skip-requires
skip-requires c =
    chunk_good_header c.args.s.now 12 c.if-s-le12.false
    (sym c.in_ok-chunk.ensures)

pub returns-in_err-chunk : goal.returns-in_err-chunk
returns-in_err-chunk c =
    let p = err_from_is_err_and c.from_residual.result c.from_residual.ensures.1 in
    rw (p.1, p.2) (walk-fault _ _ _ _ c.if-s-le12.false (sym c.in_err-chunk.ensures), tt)

pub returns : goal.returns
returns c =
    let s = c.args.s.now in
    let good = sym c.in_ok-chunk.ensures in
    let rest = c.walk_rest.ensures in
    let next = c.skip.ensures in (
      rest.0 ∙ ap (λ (x : ℕ). walk_from s x) next ∙ walk-next s 12 c.if-s-le12.false good,
      IfOk-weaker c.walk_rest.result _ _ (λ o h e. ap (λ (x : ℕ). all_ordinary (chunks_from s x)) (sym next) ∙ h e) rest.1,
    )
