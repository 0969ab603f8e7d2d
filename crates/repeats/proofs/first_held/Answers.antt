use mathlib.Core.Path.{◌≡◌, refl, sym, ◌∙◌}
use native.Mathlib.Omega.{arith}
use Rattle.repeats.specs.Source.{key}
use Rattle.repeats.proofs.SuspectLaws.{free_none, free_empty, free_more}
use Rattle.repeats.proofs.SourceLaws.{reads_in}
use Rattle.repeats.proofs.first_held.Goals as goal

pub returns-then-suspects-eq0-clause-free : goal.returns-then-suspects-eq0-clause-free
returns-then-suspects-eq0-clause-free g c =
    let a = c.args in
    let x = g.L.Keys.source a.from.list in
    free_empty (key x) a.suspects.now.keys a.suspects.now.count a.from.entry a.e c.if-suspects-eq0.true

pub loop-here-init : goal.loop-here-init
loop-here-init g c =
    let a = c.args in
    let x = g.L.Keys.source a.from.list in
    record { list = refl; first = omega arith; within = omega arith; free = free_none (key x) _ _ a.from.entry }

pub key-k-requires : goal.key-k-requires
key-k-requires g c =
    let l = c.loop-here in
    reads_in g.L.Keys.source _ _ c.args.e _ _ l.invariant.list refl c.requires.inside (omega arith)

pub next-here-requires-clause-reads : goal.next-here-requires-clause-reads
next-here-requires-clause-reads g c =
    let l = c.loop-here in
    reads_in g.L.Keys.source _ _ c.args.e _ _ l.invariant.list refl c.requires.inside (omega arith)

pub loop-here-preserved : goal.loop-here-preserved
loop-here-preserved g c =
    let a = c.args in
    let x = g.L.Keys.source a.from.list in
    let s = a.suspects.now in
    let l = c.loop-here in
    let t = c.next-here.ensures in
    let e : c.key-k.result ≡ key x l.here.entry = rw l.invariant.list at c.key-k.ensures in
    record {
      list = t.list ∙ l.invariant.list;
      first = omega arith;
      within = omega arith;
      free = rw t.entry (free_more (key x) s.keys s.count a.from.entry l.here.entry _ e (sym c.contains.ensures ∙ c.if-contains.false) l.invariant.free);
    }
