use mathlib.Core.Path.{◌∙◌}
use native.Mathlib.Omega.{arith}
use Rattle.repeats.specs.Source.{key}
use Rattle.repeats.proofs.SearchLaws.{across_none, hit_among}
use Rattle.repeats.proofs.SuspectLaws.{across_round, held-among}
use Rattle.repeats.proofs.SourceLaws.{inside_to, inside_in}
use Rattle.repeats.proofs.first_across.Goals as goal

pub loop-here-init : goal.loop-here-init
loop-here-init g c =
    let a = c.args in
    let x = g.L.Keys.source a.from.list in
    let s = c.start-here.ensures in
    record {
      list = s.list;
      within = omega arith;
      first = omega arith;
      below = omega arith;
      across = rw s.entry (across_none (key x) a.from.entry a.e);
      hit = λ m. absurd (omega arith);
    }

pub mark_all-requires-clause-inside : goal.mark_all-requires-clause-inside
mark_all-requires-clause-inside g c =
    inside_to (g.L.Keys.source c.args.from.list) c.args.e c.loop-here.best c.requires.inside c.loop-here.invariant.below

pub hold_round-here-requires-clause-inside : goal.hold_round-here-requires-clause-inside
hold_round-here-requires-clause-inside g c =
    inside_in g.L.Keys.source _ _ c.args.e _ c.loop-here.invariant.list c.requires.inside c.requires.order

pub first_held-best-requires-clause-inside : goal.first_held-best-requires-clause-inside
first_held-best-requires-clause-inside g c =
    inside_to (g.L.Keys.source c.args.from.list) c.args.e c.loop-here.best c.requires.inside c.loop-here.invariant.below

pub loop-here-preserved : goal.loop-here-preserved
loop-here-preserved g c =
    let a = c.args in
    let x = g.L.Keys.source a.from.list in
    let l = c.loop-here in
    let i = l.invariant in
    let r = c.hold_round-here.ensures in
    let w = c.first_held-best.ensures in
    let q = rw i.list at r.caught in
    let d = rw i.list at r.earlier in
    record {
      list = r.list ∙ i.list;
      within = r.within;
      first = w.first;
      below = omega (arith, w.within, i.below);
      across = across_round (key x) _ l.by _ _ l.here.entry _ a.from.entry l.best _ i.across w.within c.mark_all.ensures q w.free;
      hit = λ m. hit_among (key x) _ l.best a.e w.within m (λ h. held-among (key x) _ _ a.from.entry _ d w.first (w.hit h)) i.hit;
    }
