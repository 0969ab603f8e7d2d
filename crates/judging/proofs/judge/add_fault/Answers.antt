-- Each way out is a law of AddFault; the tests that came before it are the same at every later one.
use native.Mathlib.Omega.{arith}
use mathlib.Core.Path.{sym, ◌∙◌}
use Rattle.blorb.specs.Bytes.{Byte}
use Rattle.blorb.proofs.Accept.{bytes-all}
use Rattle.blorb.specs.All.{All}
use Rattle.blorb.proofs.UsageLaws.{known_is, known_not, allows_known}
use Rattle.judging.proofs.AddFault.{out_101, out_109, out_111, out_112, out_114, out_115, out_116, out_done}
use Rattle.judging.proofs.judge.add_fault.Goals as goal

pub returns-then-len-m-gt16777216 : goal.returns-then-len-m-gt16777216
returns-then-len-m-gt16777216 c =
    let a = c.args in
    let f = a.s.now in
    let bytes : All Byte f = bytes-all f (λ i. omega (arith, c.type_inv.s i)) in
    out_101 a.profile f a.count a.target a.pair.usage a.pair.number a.kind a.d.now bytes
    c.requires (omega arith) (omega arith) (omega arith) c.if-len-m-gt16777216.true

pub returns-then-kind-eq-RIDX : goal.returns-then-kind-eq-RIDX
returns-then-kind-eq-RIDX c =
    let a = c.args in
    let f = a.s.now in
    let bytes : All Byte f = bytes-all f (λ i. omega (arith, c.type_inv.s i)) in
    out_109 a.profile f a.count a.target a.pair.usage a.pair.number a.kind a.d.now bytes
    c.requires (omega arith) (omega arith) (omega arith) c.if-len-m-gt16777216.false c.if-kind-eq-RIDX.true

pub returns-then-count-gt4096 : goal.returns-then-count-gt4096
returns-then-count-gt4096 c =
    let a = c.args in
    let f = a.s.now in
    let bytes : All Byte f = bytes-all f (λ i. omega (arith, c.type_inv.s i)) in
    out_111 a.profile f a.count a.target a.pair.usage a.pair.number a.kind a.d.now bytes
    c.requires (omega arith) (omega arith) (omega arith) c.if-len-m-gt16777216.false
    c.if-kind-eq-RIDX.false c.if-count-gt4096.true

pub returns-in_default : goal.returns-in_default
returns-in_default c =
    let a = c.args in
    let f = a.s.now in
    let bytes : All Byte f = bytes-all f (λ i. omega (arith, c.type_inv.s i)) in
    out_112 a.profile f a.count a.target a.pair.usage a.pair.number a.kind a.d.now bytes
    c.requires (omega arith) (omega arith) (omega arith)
    c.if-len-m-gt16777216.false c.if-kind-eq-RIDX.false
    c.if-count-gt4096.false (known_not _ (sym c.of_code.ensures ∙ c.in_default.is))

pub returns-then-not-allows : goal.returns-then-not-allows
returns-then-not-allows c =
    let a = c.args in
    let f = a.s.now in
    let bytes : All Byte f = bytes-all f (λ i. omega (arith, c.type_inv.s i)) in
    out_114 a.profile f a.count a.target a.pair.usage a.pair.number a.kind a.d.now bytes
    c.requires (omega arith) (omega arith) (omega arith)
    c.if-len-m-gt16777216.false c.if-kind-eq-RIDX.false c.if-count-gt4096.false
    (known_is _ _ (sym c.of_code.ensures ∙ c.in-Some.is)).0 (sym (c.allows.ensures ∙ allows_known _ _ _ _ (sym c.of_code.ensures ∙ c.in-Some.is)) ∙
    c.if-not-allows.true)

pub returns-then-not-number_fits : goal.returns-then-not-number_fits
returns-then-not-number_fits c =
    let a = c.args in
    let f = a.s.now in
    let bytes : All Byte f = bytes-all f (λ i. omega (arith, c.type_inv.s i)) in
    out_115 a.profile f a.count a.target a.pair.usage a.pair.number a.kind a.d.now bytes
    c.requires (omega arith) (omega arith) (omega arith)
    c.if-len-m-gt16777216.false c.if-kind-eq-RIDX.false c.if-count-gt4096.false
    (known_is _ _ (sym c.of_code.ensures ∙ c.in-Some.is)).0
    (sym (c.allows.ensures ∙ allows_known _ _ _ _ (sym c.of_code.ensures ∙ c.in-Some.is)) ∙ c.if-not-allows.false)
    (sym c.number_fits.ensures ∙ c.if-not-number_fits.true)

pub returns-in-Some-target : goal.returns-in-Some-target
returns-in-Some-target c =
    let a = c.args in
    let f = a.s.now in
    let bytes : All Byte f = bytes-all f (λ i. omega (arith, c.type_inv.s i)) in
    out_116 a.profile f a.count a.target a.pair.usage a.pair.number a.kind a.d.now bytes
    c.requires (omega arith) (omega arith) (omega arith)
    c.if-len-m-gt16777216.false c.if-kind-eq-RIDX.false c.if-count-gt4096.false
    (known_is _ _ (sym c.of_code.ensures ∙ c.in-Some.is)).0
    (sym (c.allows.ensures ∙ allows_known _ _ _ _ (sym c.of_code.ensures ∙ c.in-Some.is)) ∙ c.if-not-allows.false)
    (sym c.number_fits.ensures ∙ c.if-not-number_fits.false) c.in-Some-target.field-0 c.in-Some-target.is

pub returns-in-None : goal.returns-in-None
returns-in-None c =
    let a = c.args in
    let f = a.s.now in
    let bytes : All Byte f = bytes-all f (λ i. omega (arith, c.type_inv.s i)) in
    out_done a.profile f a.count a.target a.pair.usage a.pair.number a.kind a.d.now bytes
    c.requires (omega arith) (omega arith) (omega arith)
    c.if-len-m-gt16777216.false c.if-kind-eq-RIDX.false c.if-count-gt4096.false
    (known_is _ _ (sym c.of_code.ensures ∙ c.in-Some.is)).0
    (sym (c.allows.ensures ∙ allows_known _ _ _ _ (sym c.of_code.ensures ∙ c.in-Some.is)) ∙ c.if-not-allows.false)
    (sym c.number_fits.ensures ∙ c.if-not-number_fits.false) c.in-None.is
