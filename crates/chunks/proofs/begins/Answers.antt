use Prim.Native.Nat.{◌<◌}
use mathlib.Core.Path.{refl, ◌∙◌}
use native.Mathlib.Omega.{arith}
use lib.ListN.{length}
use Rattle.chunks.proofs.ChunkLaws.{walked, fine}
use Rattle.chunks.proofs.StartLaws.{start-next, start-behind, start_reached}
use Rattle.chunks.proofs.begins.Goals as goal

pub returns-then-s-start : goal.returns-then-s-start
returns-then-s-start c = start-behind _ _ _ c.requires c.if-s-start.true

pub loop-at-init : goal.loop-at-init
loop-at-init c = (c.requires, refl)

pub skip-at-requires : goal.skip-at-requires
skip-at-requires c =
    let l = c.loop-at in
    (fine c.args.s.now l.at (omega arith) l.invariant.0).header

pub loop-at-smaller : goal.loop-at-smaller
loop-at-smaller c = omega (arith, c.skip-at.ensures)

pub loop-at-preserved : goal.loop-at-preserved
loop-at-preserved c =
    let l = c.loop-at in
    let a = c.args in
    let h : l.at < length a.s.now = omega arith in
    rw c.skip-at.ensures
    (walked a.s.now l.at h l.invariant.0, start-next a.s.now a.start l.at h l.invariant.0 (λ e. omega arith) ∙ l.invariant.1)

pub returns : goal.returns
returns c =
    let l = c.loop-at in
    let a = c.args in
    start_reached a.s.now a.start l.at l.invariant.0 (omega arith) (omega arith) ∙ l.invariant.1
