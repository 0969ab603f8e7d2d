use Prim.Native.Nat.{ℕ, ◌+◌, ◌-◌}
use mathlib.Core.Path.{◌≡◌, ap, ◌∙◌}
use native.Mathlib.Omega.{arith}
use lib.ListN.{replicate, length-replicate}
use Rattle.moves.proofs.MoveLaws.{put_over}
use Rattle.moves.proofs.clear.Goals as goal

pub returns : goal.returns
returns c =
    let a = c.args in
    let e : c.fill.new.self ≡ replicate a.n 0 = c.fill.ensures.after (λ y h. h) ∙ ap (λ (k : ℕ). replicate k 0) (omega arith) in
    rw e (put_over a.buf.now (replicate a.n 0) a.at (a.at + a.n - a.at) (simp length-replicate (omega arith)))
