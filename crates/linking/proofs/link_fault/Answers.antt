-- The tests stand in the order of the verdict on the linked file, and LinkFault tells for each of them what that verdict is by the present file.
use native.Mathlib.Omega.{arith}
use mathlib.Core.Path.{◌≡◌, refl, sym, ap, ◌∙◌}
use mathlib.Core.Bool.{Bool, true, false, not}
use Prim.Native.Nat.{ℕ}
use Rattle.std.specs.Prelude.{Option, Some, None}
use Rattle.std.specs.Option.{is_some}
use Rattle.blorb.specs.Bytes.{Byte}
use Rattle.blorb.specs.All.{All}
use Rattle.blorb.specs.Usages.{usage_of}
use Rattle.blorb.specs.Verdict.{known_usage_of}
use Rattle.blorb.specs.declared.Usage.{Usage}
use Rattle.blorb.proofs.Accept.{bytes-all}
use Rattle.blorb.proofs.UsageLaws.{known_is, known_not}
use Rattle.linking.proofs.IndexRead.{pair_there, pair_missing}
use Rattle.linking.proofs.LinkFault.{chunk_lies, out_101, out_111, out_112, out_114, out_115, out_116, out_116_old, out_done}
use Rattle.linking.proofs.link_fault.Goals as goal

known : (u : ℕ) (o : Option Usage) (b : Bool) → usage_of u ≡ o → is_some o ≡ not b → known_usage_of u ≡ not b
known u (Some k) b e h = (known_is u k e).0 ∙ h
known u None b e h = known_not u e ∙ h

pub returns-then-s-gt16777216 : goal.returns-then-s-gt16777216
returns-then-s-gt16777216 c =
    let a = c.args in
    let bytes : All Byte a.s.now = bytes-all a.s.now (λ i. omega (arith, c.type_inv.s i)) in
    out_101 a.profile a.s.now a.count a.piece a.place a.pair.usage a.pair.number bytes
    c.requires (omega arith) (omega arith) c.if-s-gt16777216.true

pub returns-then-count-gt4096 : goal.returns-then-count-gt4096
returns-then-count-gt4096 c =
    let a = c.args in
    let bytes : All Byte a.s.now = bytes-all a.s.now (λ i. omega (arith, c.type_inv.s i)) in
    out_111 a.profile a.s.now a.count a.piece a.place a.pair.usage a.pair.number bytes
    c.requires (omega arith) (omega arith) c.if-s-gt16777216.false c.if-count-gt4096.true

pub returns-then-is_none : goal.returns-then-is_none
returns-then-is_none c =
    let a = c.args in
    let bytes : All Byte a.s.now = bytes-all a.s.now (λ i. omega (arith, c.type_inv.s i)) in
    out_112 a.profile a.s.now a.count a.piece a.place a.pair.usage a.pair.number bytes
    c.requires (omega arith) (omega arith) c.if-s-gt16777216.false c.if-count-gt4096.false
    (known a.pair.usage _ true (sym c.of_code.ensures) (c.is_none.ensures ∙ ap not c.if-is_none.true))

pub chunk_allowed-requires : goal.chunk_allowed-requires
chunk_allowed-requires c =
    let a = c.args in
    let bytes : All Byte a.s.now = bytes-all a.s.now (λ i. omega (arith, c.type_inv.s i)) in
    chunk_lies a.profile a.s.now a.count a.piece a.place a.pair.usage a.pair.number bytes
    c.requires (omega arith) (omega arith)

pub returns-then-not-chunk_allowed : goal.returns-then-not-chunk_allowed
returns-then-not-chunk_allowed c =
    let a = c.args in
    let bytes : All Byte a.s.now = bytes-all a.s.now (λ i. omega (arith, c.type_inv.s i)) in
    out_114 a.profile a.s.now a.count a.piece a.place a.pair.usage a.pair.number bytes
    c.requires (omega arith) (omega arith) c.if-s-gt16777216.false c.if-count-gt4096.false
    (known a.pair.usage _ false (sym c.of_code.ensures) (c.is_none.ensures ∙ ap not c.if-is_none.false))
    (sym c.chunk_allowed.ensures ∙ c.if-not-chunk_allowed.true)

pub returns-then-not-number_fits : goal.returns-then-not-number_fits
returns-then-not-number_fits c =
    let a = c.args in
    let bytes : All Byte a.s.now = bytes-all a.s.now (λ i. omega (arith, c.type_inv.s i)) in
    out_115 a.profile a.s.now a.count a.piece a.place a.pair.usage a.pair.number bytes
    c.requires (omega arith) (omega arith) c.if-s-gt16777216.false c.if-count-gt4096.false
    (known a.pair.usage _ false (sym c.of_code.ensures) (c.is_none.ensures ∙ ap not c.if-is_none.false))
    (sym c.chunk_allowed.ensures ∙ c.if-not-chunk_allowed.false)
    (sym c.number_fits.ensures ∙ c.if-not-number_fits.true)

pub returns-in_default : goal.returns-in_default
returns-in_default c =
    let a = c.args in
    let bytes : All Byte a.s.now = bytes-all a.s.now (λ i. omega (arith, c.type_inv.s i)) in
    out_done a.profile a.s.now a.count a.piece a.place a.pair.usage a.pair.number bytes
    c.requires (omega arith) (omega arith) c.if-s-gt16777216.false c.if-count-gt4096.false
    (known a.pair.usage _ false (sym c.of_code.ensures) (c.is_none.ensures ∙ ap not c.if-is_none.false))
    (sym c.chunk_allowed.ensures ∙ c.if-not-chunk_allowed.false)
    (sym c.number_fits.ensures ∙ c.if-not-number_fits.false) _ refl
    (omega (arith, pair_missing _ _ (sym c.find_pair.ensures ∙ c.in_default.is), c.requires.1.0.indexed.counted.entries))

pub returns-then-other-place : goal.returns-then-other-place
returns-then-other-place c =
    let a = c.args in
    let bytes : All Byte a.s.now = bytes-all a.s.now (λ i. omega (arith, c.type_inv.s i)) in
    out_116 a.profile a.s.now a.count a.piece a.place a.pair.usage a.pair.number bytes
    c.requires (omega arith) (omega arith) c.if-s-gt16777216.false c.if-count-gt4096.false
    (known a.pair.usage _ false (sym c.of_code.ensures) (c.is_none.ensures ∙ ap not c.if-is_none.false))
    (sym c.chunk_allowed.ensures ∙ c.if-not-chunk_allowed.false)
    (sym c.number_fits.ensures ∙ c.if-not-number_fits.false) _ (pair_there _ _ _ (sym c.find_pair.ensures ∙ c.in-Some.is)).0
    c.if-other-place.true

pub returns : goal.returns
returns c =
    let a = c.args in
    let bytes : All Byte a.s.now = bytes-all a.s.now (λ i. omega (arith, c.type_inv.s i)) in
    out_116_old a.profile a.s.now a.count a.piece a.place a.pair.usage a.pair.number bytes
    c.requires (omega arith) (omega arith) c.if-s-gt16777216.false c.if-count-gt4096.false
    (known a.pair.usage _ false (sym c.of_code.ensures) (c.is_none.ensures ∙ ap not c.if-is_none.false))
    (sym c.chunk_allowed.ensures ∙ c.if-not-chunk_allowed.false)
    (sym c.number_fits.ensures ∙ c.if-not-number_fits.false) _ (pair_there _ _ _ (sym c.find_pair.ensures ∙ c.in-Some.is)).0
    c.if-other-place.false (omega (arith, (pair_there _ _ _ (sym c.find_pair.ensures ∙ c.in-Some.is)).1, c.requires.1.0.indexed.counted.entries))
