use mathlib.Core.Path.{◌≡◌, refl, ◌∙◌}
use borrow.Author.Rules.{rules}
use native.Mathlib.Omega.{arith}
use Prim.Native.Nat.{◌<◌}
use lib.ListN.{length}
use Rattle.repeats.specs.Source.{key}
use Rattle.repeats.proofs.SuspectLaws.{caught_none, caught_more, earlier-none, earlier_more}
use Rattle.repeats.proofs.SourceLaws.{reads_in}
use Rattle.repeats.proofs.hold_round.Goals as goal

pub loop-here-init : goal.loop-here-init
loop-here-init g c =
    let a = c.args in
    let x = g.L.Keys.source a.from.list in
    record {
      list = refl;
      within = omega arith;
      few = omega arith;
      on = omega arith;
      caught = caught_none (key x) a.marks.now a.by _ 0 a.from.entry;
      earlier = earlier-none (key x) _ a.b;
    }

pub key-k-requires : goal.key-k-requires
key-k-requires g c =
    let l = c.loop-here in
    reads_in g.L.Keys.source _ _ c.args.b _ _ l.invariant.list refl c.requires.inside (omega arith)

pub next-here-requires-clause-reads : goal.next-here-requires-clause-reads
next-here-requires-clause-reads g c =
    let l = c.loop-here in
    reads_in g.L.Keys.source _ _ c.args.b _ _ l.invariant.list refl c.requires.inside (omega arith)

pub loop-here-preserved : goal.loop-here-preserved
loop-here-preserved g c =
    let a = c.args in
    let x = g.L.Keys.source a.from.list in
    let l = c.loop-here in
    let i = l.invariant in
    let t = c.next-here.ensures in
    let word = c.word.ensures in
    let w = c.covered-count.ensures in
    let e : c.key-k.result ≡ key x l.here.entry = rw i.list at c.key-k.ensures in
    let h : l.count < length l.suspects.keys = search rules in
    record {
      list = t.list ∙ i.list;
      within = omega arith;
      few = omega (arith, w.0);
      on = omega (arith, w.0);
      caught = rw t.entry (caught_more (key x) a.marks.now a.by l.suspects.keys l.count _ a.from.entry l.here.entry _ _ e word.0 h
          (omega arith) (λ q. omega (arith, w.1 q)) i.caught);
      earlier = earlier_more (key x) l.suspects.keys l.count _ a.b l.here.entry _ e c.loop-here-test.true h (omega (arith, w.0)) i.earlier;
    }
