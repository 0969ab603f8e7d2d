-- Without a frontispiece nothing is refused; with one, only where the entry is its picture.
use native.Mathlib.Omega.{arith}
use mathlib.Core.Path.{sym, ap, ◌∙◌}
use Prim.Native.Nat.{ℕ, ◌+◌}
use Rattle.blorb.specs.Verdict.{refuse}
use Rattle.blorb.specs.Bytes.{Byte}
use Rattle.blorb.proofs.Accept.{bytes-all}
use Rattle.blorb.specs.All.{All}
use Rattle.judging.proofs.RemoveFault.{no_front, lost_front_lem, kept-front}
use Rattle.judging.proofs.judge.remove_fault.Goals as goal

pub returns-in_default : goal.returns-in_default
returns-in_default c =
    let a = c.args in
    let f = a.s.now in
    let bytes : All Byte f = bytes-all f (λ i. omega (arith, c.type_inv.s i)) in
    no_front a.profile f a.front a.pair.usage a.pair.number a.start a.size bytes c.requires (omega arith) (omega arith)
    c.in_default.is

pub returns-then-is_picture : goal.returns-then-is_picture
returns-then-is_picture c =
    let a = c.args in
    let f = a.s.now in
    let bytes : All Byte f = bytes-all f (λ i. omega (arith, c.type_inv.s i)) in
    ap (λ (z : ℕ). refuse 119 (z + 8)) c.fallen_start.ensures ∙ lost_front_lem a.profile f a.front
    a.pair.usage a.pair.number a.start a.size bytes c.requires (omega arith)
    (omega arith) c.in-Some.front c.in-Some.is (sym c.is_picture.ensures ∙ c.if-is_picture.true)

pub returns : goal.returns
returns c =
    let a = c.args in
    let f = a.s.now in
    let bytes : All Byte f = bytes-all f (λ i. omega (arith, c.type_inv.s i)) in
    kept-front a.profile f a.front a.pair.usage a.pair.number a.start a.size bytes c.requires
    (omega arith) (omega arith) c.in-Some.front c.in-Some.is (sym c.is_picture.ensures ∙ c.if-is_picture.false)
