use Prim.Native.Nat.{ℕ}
use mathlib.Core.Path.{refl, ap, ◌∙◌}
use native.Mathlib.Omega.{arith}
use Rattle.blorb.proofs.Accept.{bytes-all}
use Rattle.moves.specs.declared.Move.{Move}
use Rattle.moves.specs.Moves.{starts_moved}
use Rattle.rewrite.proofs.ReplaceBytes.{relocated-behind, starts_kept}
use Rattle.rewrite.proofs.move_behind.Goals as goal

pub returns-then-old-new : goal.returns-then-old-new
returns-then-old-new c =
    let a = c.args in
    let b = a.buf.now in
    starts_kept b a.count a.start a.old a.new c.if-old-new.true (bytes-all b (λ i. omega (arith, c.type_inv.buf i)))
    c.requires.0

pub returns : goal.returns
returns c =
    let a = c.args in
    let mv : Move = record { limit = a.start; behind = record { up = a.new; down = a.old }; others = record { up = 0; down = 0 } } in
    c.move_starts.ensures ∙ ap (λ (f : ℕ → ℕ). starts_moved f a.count 24 a.buf.now) (relocated-behind mv a.start a.old
    a.new refl refl refl refl refl)
