-- The parts of the verdict are judged in its order, each where those before it accept: for each way out there is one law (read_1 and on).
use native.Mathlib.Omega.{arith}
use mathlib.Core.Path.{sym, ap, ◌∙◌}
use Prim.Native.Nat.{ℕ}
use Rattle.std.proofs.lemmas.Result.{err_from_is_err_and}
use Rattle.chunks.specs.Ordinary.{all_ordinary}
use Rattle.chunks.specs.Walk.{chunks_from}
use Rattle.chunks.proofs.ChunkLaws.{fine, walked}
use Rattle.index.proofs.IndexLaws.{shaped}
use Rattle.reader.proofs.ReadLaws.{first-long, is-shaped, is-judged, ordinary_behind, read_1, read_2, read_3, read_4, read_5, read_6, read-rest}
use Rattle.reader.proofs.judge_in_turn.Goals as goal

pub returns-in_err-head : goal.returns-in_err-head
returns-in_err-head c =
    let p = err_from_is_err_and c.from_residual.result c.from_residual.ensures.1 in
    rw (p.1, p.2) (read_1 _ _ _ _ (sym c.in_err-head.ensures))

pub returns-in_err-ordinary : goal.returns-in_err-ordinary
returns-in_err-ordinary c =
    let r = c.from_residual-in_err-ordinary in
    let p = err_from_is_err_and r.result r.ensures.1 in
    rw (p.1, p.2) (read_2 _ _ (sym c.in_ok-head.ensures) _ _ (sym c.in_err-ordinary.ensures.0))

pub first-requires : goal.first-requires
first-requires c = sym c.in_ok-ordinary.ensures.0

pub returns-in_err-first : goal.returns-in_err-first
returns-in_err-first c =
    let r = c.from_residual-in_err-first in
    let p = err_from_is_err_and r.result r.ensures.1 in
    rw (p.1, p.2) (read_3 _ _ (sym c.in_ok-head.ensures) (sym c.in_ok-ordinary.ensures.0) _ _ (sym c.in_err-first.ensures))

pub skip-requires : goal.skip-requires
skip-requires c = (fine _ 12 (first-long _ (sym c.in_ok-first.ensures)) (sym c.in_ok-ordinary.ensures.0)).header

pub second_if-requires : goal.second_if-requires
second_if-requires c = (
  rw c.skip.ensures (walked _ 12 (first-long _ (sym c.in_ok-first.ensures)) (sym c.in_ok-ordinary.ensures.0)),
  λ e. ap (λ (x : ℕ). all_ordinary (chunks_from c.args.file.now x)) c.skip.ensures ∙ c.in_ok-ordinary.ensures.1 e,
)

pub returns-in_err-second_if : goal.returns-in_err-second_if
returns-in_err-second_if c =
    let r = c.from_residual-in_err-second_if in
    let p = err_from_is_err_and r.result r.ensures.1 in
    rw (p.1, p.2)
    (read_4 _ _ (sym c.in_ok-head.ensures) (sym c.in_ok-ordinary.ensures.0) (sym c.in_ok-first.ensures) _ c.skip.ensures _ _
    (sym c.in_err-second_if.ensures))

pub shape-requires : goal.shape-requires
shape-requires c = (first-long _ (sym c.in_ok-first.ensures), sym c.in_ok-ordinary.ensures.0)

pub returns-in_err-shape : goal.returns-in_err-shape
returns-in_err-shape c =
    let r = c.from_residual-in_err-shape in
    let p = err_from_is_err_and r.result r.ensures.1 in
    rw (p.1, p.2)
    (read_5 _ _ (sym c.in_ok-head.ensures) (sym c.in_ok-ordinary.ensures.0) (sym c.in_ok-first.ensures) _ c.skip.ensures
    (sym c.in_ok-second_if.ensures) _ _ (sym c.in_err-shape.ensures))

pub be32_at-count-requires : goal.be32_at-count-requires
be32_at-count-requires c =
    omega (arith, (shaped _ (first-long _ (sym c.in_ok-first.ensures)) (sym c.in_ok-ordinary.ensures.0) (sym c.in_ok-shape.ensures)).room)

pub entries-requires : goal.entries-requires
entries-requires c =
    let s = is-shaped _ (sym c.in_ok-ordinary.ensures.0) (sym c.in_ok-first.ensures) (sym c.in_ok-shape.ensures) _ c.be32_at-count.ensures.0 in
    (s.few, s.room, s.walks)

pub returns-in_err-entries : goal.returns-in_err-entries
returns-in_err-entries c =
    let r = c.from_residual-in_err-entries in
    let p = err_from_is_err_and r.result r.ensures.1 in
    rw (p.1, p.2)
    (read_6 _ _ (sym c.in_ok-head.ensures) (sym c.in_ok-ordinary.ensures.0) (sym c.in_ok-first.ensures) _ c.skip.ensures
    (sym c.in_ok-second_if.ensures) (sym c.in_ok-shape.ensures) _ c.be32_at-count.ensures.0 _ _ (sym c.in_err-entries.ensures))

pub returns : goal.returns
returns c =
    let walk = sym c.in_ok-ordinary.ensures.0 in
    let first = sym c.in_ok-first.ensures in
    let shape = sym c.in_ok-shape.ensures in (
      is-judged _ _ (sym c.in_ok-head.ensures) walk first _ c.skip.ensures (sym c.in_ok-second_if.ensures) shape _ c.be32_at-count.ensures.0
          (sym c.in_ok-entries.ensures),
      read-rest _ _ (sym c.in_ok-head.ensures) walk first _ c.skip.ensures (sym c.in_ok-second_if.ensures) shape _ c.be32_at-count.ensures.0
          (sym c.in_ok-entries.ensures),
      ordinary_behind _ walk first shape _ c.be32_at-count.ensures.0 _ c.in_ok-ordinary.ensures.1,
    )
