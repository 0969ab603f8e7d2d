-- An entry that has the pair is the first one, for none before it had; where the loop ends there is none.
use native.Mathlib.Omega.{arith}
use Rattle.blorb.specs.Bytes.{Byte}
use Rattle.blorb.specs.All.{All}
use Rattle.blorb.proofs.Accept.{bytes-all}
use Rattle.linking.proofs.IndexRead.{pair_hit, pair-next, found}
use Rattle.linking.proofs.find_pair.Goals as goal

pub returns-then-be32_at-pair : goal.returns-then-be32_at-pair
returns-then-be32_at-pair c =
    let a = c.args in
    let bytes : All Byte a.s.now = bytes-all a.s.now (λ i. omega (arith, c.type_inv.s i)) in
    found a.s.now a.count c.requires bytes a.pair.usage a.pair.number c.loop-i.i c.loop-i-test.true
    (pair_hit a.s.now a.count c.requires bytes a.pair.usage a.pair.number c.loop-i.i c.loop-i-test.true _ _ c.be32_at.ensures.0
    c.be32_at-in-loop-i.ensures.0 c.loop-i.invariant c.if-be32_at-pair.true)

pub loop-i-preserved : goal.loop-i-preserved
loop-i-preserved c =
    let a = c.args in
    let bytes : All Byte a.s.now = bytes-all a.s.now (λ i. omega (arith, c.type_inv.s i)) in
    pair-next a.s.now a.count c.requires bytes a.pair.usage a.pair.number c.loop-i.i c.loop-i-test.true _ _ c.be32_at.ensures.0
    c.be32_at-in-loop-i.ensures.0 c.loop-i.invariant c.if-be32_at-pair.false
