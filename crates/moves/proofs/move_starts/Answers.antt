use Prim.Native.Nat.{ℕ, ◌+◌, ◌*◌}
use mathlib.Core.Path.{◌≡◌, ap, sym, ◌∙◌}
use native.Mathlib.Omega.{arith}
use lib.ListN.{drop}
use Rattle.blorb.specs.Bytes.{be32, rd32}
use Rattle.edits.specs.Run.{noted}
use Rattle.moves.proofs.MoveLaws.{start-turn, starts_done}
use Rattle.moves.specs.Moves.{relocated}
use Rattle.moves.proofs.move_starts.Goals as goal

pub loop-i-preserved : goal.loop-i-preserved
loop-i-preserved c =
    let l = c.loop-i in
    let a = c.args in
    let f = relocated a.m in
    let p = a.at + 12 * l.i in
    let e : c.put32.new.buf ≡ noted l.buf (p + 8) (be32 (f (rd32 (drop (p + 8) l.buf)))) = c.put32.ensures ∙ ap (λ (v : ℕ). noted l.buf (p + 8) (be32 v))
    (c.start.ensures ∙ ap f c.be32_at-t.ensures.0) in
    let q : a.at + 12 * (l.i + 1) ≡ p + 12 = omega arith in
    rw (q, e) (start-turn f a.n l.i a.at p l.buf c.loop-i-test.true) ∙ l.invariant

pub returns : goal.returns
returns c =
    let l = c.loop-i in
    let a = c.args in
    sym (starts_done (relocated a.m) a.n l.i (a.at + 12 * l.i) l.buf (omega arith)) ∙ l.invariant
