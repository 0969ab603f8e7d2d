-- The entry before i starts no later than the chunk: at first that is the original, and then each one that was passed over.
use native.Mathlib.Omega.{arith}
use mathlib.Core.Path.{◌≡◌}
use Prim.Native.Nat.{◌+◌, ◌-◌, ◌<◌}
use Rattle.blorb.specs.Bytes.{Byte}
use Rattle.blorb.specs.All.{All}
use Rattle.blorb.proofs.Accept.{bytes-all}
use Rattle.linking.proofs.PlaceLaws.{own-start, place_here}
use Rattle.linking.proofs.link_place.Goals as goal

pub loop-i-init : goal.loop-i-init
loop-i-init c =
    let a = c.args in
    let bytes : All Byte a.s.now = bytes-all a.s.now (λ i. omega (arith, c.type_inv.s i)) in
    let e : a.piece.place + 1 - 1 ≡ a.piece.place = omega arith in
    rw e (own-start a.s.now a.count a.piece c.requires bytes)

pub returns-then-at-be32_at : goal.returns-then-at-be32_at
returns-then-at-be32_at c =
    let a = c.args in
    let bytes : All Byte a.s.now = bytes-all a.s.now (λ i. omega (arith, c.type_inv.s i)) in
    let h : c.loop-i.i < a.count = c.loop-i-test.true in (
      place_here a.s.now a.count a.piece c.requires bytes c.loop-i.i (omega arith) (omega arith) c.loop-i.invariant
          (λ l. omega (arith, c.if-at-be32_at.true, c.be32_at.ensures.0)),
      omega arith,
    )

pub returns : goal.returns
returns c =
    let a = c.args in
    let bytes : All Byte a.s.now = bytes-all a.s.now (λ i. omega (arith, c.type_inv.s i)) in
    let e : c.loop-i.i ≡ a.count = omega (arith, c.loop-i-test.false, c.requires.there) in (
      place_here a.s.now a.count a.piece c.requires bytes a.count (omega (arith, c.requires.there)) (omega arith) (rw (← e) c.loop-i.invariant)
          (λ h. omega (arith, h)),
      omega arith,
    )
