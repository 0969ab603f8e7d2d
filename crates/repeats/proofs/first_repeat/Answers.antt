use mathlib.Core.Path.{◌∙◌}
use native.Mathlib.Omega.{arith}
use Prim.Native.Nat.{◌+◌}
use Rattle.repeats.specs.Source.{key}
use Rattle.repeats.proofs.Answers.{first-at, first-none}
use Rattle.repeats.proofs.SearchLaws.{apart_join, apart_to, hit_among}
use Rattle.repeats.proofs.SourceLaws.{inside_in}
use Rattle.repeats.proofs.first_repeat.Goals as goal

pub mark_block-requires-clause-inside : goal.mark_block-requires-clause-inside
mark_block-requires-clause-inside g c =
    inside_in g.L.Keys.source _ _ c.args.n _ c.loop-here.invariant.list c.requires.inside c.block_end-e.ensures.1

pub first_across-best-requires-clause-inside : goal.first_across-best-requires-clause-inside
first_across-best-requires-clause-inside g c =
    inside_in g.L.Keys.source _ _ c.args.n _ c.loop-here.invariant.list c.requires.inside c.block_end-e.ensures.1

pub first_across-requires-clause-inside : goal.first_across-requires-clause-inside
first_across-requires-clause-inside g c =
    let m = c.in-Err.ensures in
    inside_in g.L.Keys.source _ _ c.args.n _ c.loop-here.invariant.list c.requires.inside (omega (arith, m.1, c.block_end-e.ensures.1))

pub returns-then-best-e : goal.returns-then-best-e
returns-then-best-e g c =
    let x = g.L.Keys.source c.args.from.list in
    let l = c.loop-here in
    let i = l.invariant in
    let f = c.first_across-best.ensures in
    let o = rw i.list at f.across in
    let h = rw i.list at f.hit in
    let p = rw i.list at c.in-Ok.ensures.2 in
    first-at (key x) c.args.n _ (omega (arith, c.if-best-e.true, c.block_end-e.ensures.1)) (apart_join (key x) l.here.entry _ _ i.apart o p f.within)
    (h c.if-best-e.true)

pub loop-here-preserved : goal.loop-here-preserved
loop-here-preserved g c =
    let x = g.L.Keys.source c.args.from.list in
    let l = c.loop-here in
    let i = l.invariant in
    let m = c.in-Ok.ensures in
    let f = c.first_across-best.ensures in
    let o = rw i.list at f.across in
    let p = rw i.list at m.2 in
    record {
      list = m.0 ∙ i.list;
      within = omega (arith, m.1, c.block_end-e.ensures.1);
      apart = rw m.1 (apart_to (key x) _ _ c.if-best-e.false (apart_join (key x) l.here.entry _ _ i.apart o p f.within));
    }

pub returns-in-Err : goal.returns-in-Err
returns-in-Err g c =
    let x = g.L.Keys.source c.args.from.list in
    let l = c.loop-here in
    let i = l.invariant in
    let m = c.in-Err.ensures in
    let f = c.first_across.ensures in
    let o = rw i.list at f.across in
    let h = rw i.list at f.hit in
    let p = rw i.list at m.2 in
    let q = rw i.list at m.3 in
    first-at (key x) c.args.n _ (omega (arith, f.within, m.1, c.block_end-e.ensures.1)) (apart_join (key x) l.here.entry _ _ i.apart o p f.within)
    (hit_among (key x) _ _ (c.in-Err.end + 1) f.within (omega (arith, f.within)) h (λ _. q))

pub returns : goal.returns
returns g c =
    let l = c.loop-here in
    first-none (key (g.L.Keys.source c.args.from.list)) c.args.n l.here.entry l.invariant.within c.loop-here-test.false l.invariant.apart
