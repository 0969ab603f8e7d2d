use mathlib.Core.Path.{◌≡◌, refl, ◌∙◌, subst}
use Prim.Native.Nat.{ℕ}
use native.Mathlib.Omega.{arith}
use Rattle.repeats.specs.Source.{key}
use Rattle.repeats.specs.Repeats.{Apart}
use Rattle.repeats.proofs.SearchLaws.{apart_none}
use Rattle.repeats.proofs.SuspectLaws.{apart_round}
use Rattle.repeats.proofs.SourceLaws.{inside_to}
use Rattle.repeats.proofs.mark_block.Goals as goal

pub loop-here-init : goal.loop-here-init
loop-here-init g c =
    let a = c.args in
    let x = g.L.Keys.source a.from.list in
    record { list = refl; first = omega arith; within = omega arith; apart = apart_none (key x) a.from.entry }

pub mark_all-requires-clause-inside : goal.mark_all-requires-clause-inside
mark_all-requires-clause-inside g c =
    inside_to (g.L.Keys.source c.args.from.list) c.args.e _ c.requires.inside c.loop-here.invariant.within

pub first_again-end-requires-clause-inside : goal.first_again-end-requires-clause-inside
first_again-end-requires-clause-inside g c =
    inside_to (g.L.Keys.source c.args.from.list) c.args.e _ c.requires.inside c.mark_round-next.ensures.within

pub returns-then-end-next : goal.returns-then-end-next
returns-then-end-next g c =
    let a = c.args in
    let x = g.L.Keys.source a.from.list in
    let l = c.loop-here in
    let i = l.invariant in
    let r = c.mark_round-next.ensures in
    let w = c.first_again-end.ensures in
    let h = rw i.list at r.held in (
      w.first,
      omega (arith, c.if-end-next.true, r.within),
      apart_round (key x) _ _ a.from.entry l.here.entry _ _ i.apart h w.once w.within,
      w.again c.if-end-next.true,
    )

pub loop-here-preserved : goal.loop-here-preserved
loop-here-preserved g c =
    let a = c.args in
    let x = g.L.Keys.source a.from.list in
    let l = c.loop-here in
    let i = l.invariant in
    let r = c.mark_round-next.ensures in
    let w = c.first_again-end.ensures in
    let h = rw i.list at r.held in
    let q : c.first_again-end.result ≡ c.mark_round-next.result.entry = omega (arith, w.within, c.if-end-next.false) in
    record {
      list = r.list ∙ i.list;
      first = omega (arith, i.first, r.further);
      within = r.within;
      apart = subst (λ (z : ℕ). Apart (key x) a.from.entry z) q (apart_round (key x) _ _ a.from.entry l.here.entry _ _ i.apart h w.once w.within);
    }
