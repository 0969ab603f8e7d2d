use mathlib.Core.Path.{◌≡◌, refl, ◌∙◌}
use borrow.Author.Rules.{rules}
use native.Mathlib.Omega.{arith}
use Rattle.repeats.specs.Source.{key}
use Rattle.repeats.proofs.MarkLaws.{marked_none, marked_at}
use Rattle.repeats.proofs.SourceLaws.{reads_in}
use Rattle.repeats.proofs.mark_all.Goals as goal

pub loop-here-init : goal.loop-here-init
loop-here-init g c =
    let a = c.args in
    let x = g.L.Keys.source a.from.list in
    record { list = refl; within = omega arith; marked = marked_none (key x) a.by _ a.from.entry }

pub key-k-requires : goal.key-k-requires
key-k-requires g c =
    let l = c.loop-here in
    reads_in g.L.Keys.source _ _ c.args.e _ _ l.invariant.list refl c.requires.inside (omega arith)

pub next-here-requires-clause-reads : goal.next-here-requires-clause-reads
next-here-requires-clause-reads g c =
    let l = c.loop-here in
    reads_in g.L.Keys.source _ _ c.args.e _ _ l.invariant.list refl c.requires.inside (omega arith)

pub loop-here-preserved : goal.loop-here-preserved
loop-here-preserved g c =
    let a = c.args in
    let x = g.L.Keys.source a.from.list in
    let l = c.loop-here in
    let t = c.next-here.ensures in
    let word = c.word-w.ensures in
    let e : c.key-k.result ≡ key x l.here.entry = rw l.invariant.list at c.key-k.ensures in
    record {
      list = t.list ∙ l.invariant.list;
      within = omega arith;
      marked = rw t.entry (marked_at (key x) a.by l.marks a.from.entry l.here.entry _ _ _ e word.0 c.bits.ensures (search rules) word.1 l.invariant.marked);
    }
