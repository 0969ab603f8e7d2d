-- Each way out is a law of ReplaceFault; the tests that came before it are the same at every later one.
use native.Mathlib.Omega.{arith}
use mathlib.Core.Path.{sym, ap, ◌∙◌}
use mathlib.Core.Bool.{Bool, ◌&&◌}
use lib.Dec.{eqb}
use Rattle.blorb.specs.Tags.{Rect}
use Prim.Native.Nat.{ℕ, ◌+◌}
use Rattle.blorb.specs.Verdict.{refuse}
use Rattle.blorb.specs.Bytes.{Byte}
use Rattle.blorb.proofs.Accept.{bytes-all}
use Rattle.blorb.specs.All.{All}
use Rattle.judging.proofs.ReplaceFault.{out_101, out_109, out_114, out_nothing, out_119, out_kept}
use Rattle.judging.proofs.judge.replace_fault.Goals as goal

pub returns-then-len-old-gt16777216 : goal.returns-then-len-old-gt16777216
returns-then-len-old-gt16777216 c =
    let a = c.args in
    let f = a.s.now in
    let bytes : All Byte f = bytes-all f (λ i. omega (arith, c.type_inv.s i)) in
    out_101 a.profile f a.front a.piece a.pair.usage a.pair.number a.kind a.d.now bytes
    c.requires (omega arith) (omega arith) (omega arith) c.if-len-old-gt16777216.true

pub returns-then-kind-eq-RIDX : goal.returns-then-kind-eq-RIDX
returns-then-kind-eq-RIDX c =
    let a = c.args in
    let f = a.s.now in
    let bytes : All Byte f = bytes-all f (λ i. omega (arith, c.type_inv.s i)) in
    out_109 a.profile f a.front a.piece a.pair.usage a.pair.number a.kind a.d.now bytes
    c.requires (omega arith) (omega arith) (omega arith)
    c.if-len-old-gt16777216.false c.if-kind-eq-RIDX.true

pub returns-then-not-type_allowed : goal.returns-then-not-type_allowed
returns-then-not-type_allowed c =
    let a = c.args in
    let f = a.s.now in
    let bytes : All Byte f = bytes-all f
    (λ i. omega (arith, c.type_inv.s i)) in
    out_114 a.profile f a.front a.piece a.pair.usage a.pair.number a.kind a.d.now bytes
    c.requires (omega arith) (omega arith) (omega arith)
    c.if-len-old-gt16777216.false c.if-kind-eq-RIDX.false
    (sym c.type_allowed.ensures ∙ c.if-not-type_allowed.true)

pub returns-in_default : goal.returns-in_default
returns-in_default c =
    let a = c.args in
    let f = a.s.now in
    let bytes : All Byte f = bytes-all f (λ i. omega (arith, c.type_inv.s i)) in
    out_nothing a.profile f a.front a.piece a.pair.usage a.pair.number a.kind a.d.now bytes
    c.requires (omega arith) (omega arith) (omega arith)
    c.if-len-old-gt16777216.false c.if-kind-eq-RIDX.false
    (sym c.type_allowed.ensures ∙ c.if-not-type_allowed.false) c.in_default.is

pub returns-then-is_picture-kind : goal.returns-then-is_picture-kind
returns-then-is_picture-kind c =
    let a = c.args in
    let f = a.s.now in
    let bytes : All Byte f = bytes-all f (λ i. omega (arith, c.type_inv.s i)) in
    ap (λ (z : ℕ). refuse 119 (z + 8)) c.behind_start.ensures.0 ∙ out_119 a.profile f a.front a.piece a.pair.usage a.pair.number a.kind a.d.now bytes
    c.requires (omega arith) (omega arith) (omega arith)
    c.if-len-old-gt16777216.false c.if-kind-eq-RIDX.false
    (sym c.type_allowed.ensures ∙ c.if-not-type_allowed.false)
    c.in-Some.front c.in-Some.is (ap (λ (b : Bool). b && eqb a.kind Rect) (sym c.is_picture.ensures) ∙ c.if-is_picture-kind.true)

pub returns : goal.returns
returns c =
    let a = c.args in
    let f = a.s.now in
    let bytes : All Byte f = bytes-all f (λ i. omega (arith, c.type_inv.s i)) in
    out_kept a.profile f a.front a.piece a.pair.usage a.pair.number a.kind a.d.now bytes
    c.requires (omega arith) (omega arith) (omega arith)
    c.if-len-old-gt16777216.false c.if-kind-eq-RIDX.false
    (sym c.type_allowed.ensures ∙ c.if-not-type_allowed.false)
    c.in-Some.front c.in-Some.is (ap (λ (b : Bool). b && eqb a.kind Rect) (sym c.is_picture.ensures) ∙ c.if-is_picture-kind.false)
