use mathlib.Core.Path.{◌≡◌, refl, ◌∙◌}
use borrow.Author.Rules.{rules}
use native.Mathlib.Omega.{arith}
use Rattle.repeats.specs.Source.{key}
use Rattle.repeats.proofs.MarkLaws.{marked_at}
use Rattle.repeats.proofs.SuspectLaws.{repeats-none, repeats_more}
use Rattle.repeats.proofs.SourceLaws.{reads_in}
use Rattle.repeats.proofs.mark_round.Goals as goal

pub loop-here-init : goal.loop-here-init
loop-here-init g c =
    let a = c.args in
    let x = g.L.Keys.source a.from.list in
    record {
      list = refl;
      within = omega arith;
      few = omega arith;
      on = omega arith;
      marked = c.requires.marked;
      held = repeats-none (key x) _ 0 a.b a.from.entry;
    }

pub key-k-requires : goal.key-k-requires
key-k-requires g c =
    let l = c.loop-here in
    reads_in g.L.Keys.source _ _ c.args.e _ _ l.invariant.list refl c.requires.inside (omega arith)

pub next-here-requires-clause-reads : goal.next-here-requires-clause-reads
next-here-requires-clause-reads g c =
    let l = c.loop-here in
    reads_in g.L.Keys.source _ _ c.args.e _ _ l.invariant.list refl c.requires.inside (omega arith)

pub loop-here-preserved : goal.loop-here-preserved
loop-here-preserved g c =
    let a = c.args in
    let x = g.L.Keys.source a.from.list in
    let l = c.loop-here in
    let i = l.invariant in
    let t = c.next-here.ensures in
    let word = c.word-w.ensures in
    let w = c.covered-count.ensures in
    let e : c.key-k.result ≡ key x l.here.entry = rw i.list at c.key-k.ensures in
    record {
      list = t.list ∙ i.list;
      within = omega arith;
      few = omega (arith, w.0);
      on = omega (arith, w.0);
      marked = rw t.entry (marked_at (key x) a.by l.marks a.b l.here.entry _ _ _ e word.0 c.bits.ensures (search rules) word.1 i.marked);
      held = rw t.entry (repeats_more (key x) l.marks a.by l.suspects.keys l.count _ a.b a.from.entry l.here.entry _ _ e word.0 (search rules)
          (omega arith) (λ q. omega (arith, w.1 q)) i.marked i.held);
    }
