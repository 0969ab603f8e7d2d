-- No padding byte is asked for, it is outside the parent, or it is looked at.
use native.Mathlib.Omega.{arith}
use Prim.Native.Nat.{◌%◌}
use mathlib.Core.Path.{◌≡◌, refl, ◌∙◌}
use borrow.Author.Tests.{le-ltb}
use Rattle.members.specs.Faults.{size_at}
use Rattle.members.proofs.FaultLaws.{pad_even, pad_missing, pad_there}
use Rattle.members.proofs.spot.Spot.is_padded.Goals as goal

pub returns-then-size-eq0 : goal.returns-then-size-eq0
returns-then-size-eq0 c = pad_even _ _ _ _ c.size.ensures.0 c.if-size-eq0.true

pub returns-then-close-self : goal.returns-then-close-self
returns-then-close-self c =
    let a = c.args.self.now in
    let odd : size_at a.file.now a.at % 2 ≡ 0 → ⊥ = rw c.size.ensures.0 at c.if-size-eq0.false in
    rw c.close-close.ensures (pad_there a.file.now a.end a.at _ refl odd (omega (arith, c.close-close.ensures, c.if-close-self.true)))

pub returns-else-close-self : goal.returns-else-close-self
returns-else-close-self c =
    let a = c.args.self.now in
    let odd : size_at a.file.now a.at % 2 ≡ 0 → ⊥ = rw c.size.ensures.0 at c.if-size-eq0.false in
    le-ltb _ _ c.if-close-self.false ∙ pad_missing a.file.now a.end a.at _ refl odd (omega (arith, c.close-close.ensures, c.if-close-self.false))
