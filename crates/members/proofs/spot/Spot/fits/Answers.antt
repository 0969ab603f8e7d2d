-- The three tests of 41, by differences where a sum could pass 64 bits.
use native.Mathlib.Omega.{arith}
use Prim.Native.Nat.{◌+◌, ◌<◌, ◌≤◌}
use mathlib.Core.Path.{refl, sym, ap, ◌∙◌}
use Rattle.members.specs.Kinds.{is_plain}
use Rattle.members.specs.Faults.{size_at}
use Rattle.members.proofs.FaultLaws.{fits_head, fits-past, fits_plain, fits-four}
use Rattle.members.proofs.spot.Spot.fits.Goals as goal
use Rattle.members.proofs.spot.Spot.fits.Goals.{then-self-lt8-via-then-self-lt8, then-self-lt8-via-else-self-lt8+then-self}

pub returns-then-self-lt8 : goal.returns-then-self-lt8
returns-then-self-lt8 c =
    let a = c.args.self.now in
    let h : a.end < a.at + 8 =
    elim c.then-self-lt8.branch [
      | then-self-lt8-via-then-self-lt8 w ↦ omega (arith, w.if-self-lt8)
      | then-self-lt8-via-else-self-lt8+then-self w ↦ omega (arith, w.if-self-lt8, w.if-self)
    ]
    in
    fits_head a.file.now a.end a.at (size_at a.file.now a.at) refl h

pub returns-then-self-close : goal.returns-then-self-close
returns-then-self-close c =
    let a = c.args.self.now in
    let h : a.at + 8 ≤ a.end = omega arith in
    fits-past a.file.now a.end a.at (size_at a.file.now a.at) refl h (omega (arith, c.close.ensures, c.if-self-close.true))

pub returns-then-is_plain : goal.returns-then-is_plain
returns-then-is_plain c =
    let a = c.args.self.now in
    let h : a.at + 8 ≤ a.end = omega arith in
    let plain = ap is_plain (sym c.kind.ensures) ∙ sym c.is_plain.ensures ∙ c.if-is_plain.true in
    c.if-is_plain.true ∙ fits_plain a.file.now a.end a.at (size_at a.file.now a.at) refl h (omega (arith, c.close.ensures, c.if-self-close.false)) plain

pub returns-else-is_plain : goal.returns-else-is_plain
returns-else-is_plain c =
    let a = c.args.self.now in
    let h : a.at + 8 ≤ a.end = omega arith in
    let holds = ap is_plain (sym c.kind.ensures) ∙ sym c.is_plain.ensures ∙ c.if-is_plain.false in
    fits-four a.file.now a.end a.at _ c.size.ensures.0 h (omega (arith, c.close.ensures, c.if-self-close.false, c.size.ensures.0)) holds
