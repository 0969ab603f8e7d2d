use mathlib.Core.Path.{◌≡◌, refl, ◌∙◌}
use native.Mathlib.Omega.{arith}
use Rattle.repeats.specs.Source.{key}
use Rattle.repeats.proofs.SearchLaws.{apart_none, apart_one, apart_rise, below_one, below_rise}
use Rattle.repeats.proofs.SourceLaws.{reads_in}
use Rattle.repeats.proofs.rising.Goals as goal

pub returns-then-n-eq0-clause-apart : goal.returns-then-n-eq0-clause-apart
returns-then-n-eq0-clause-apart g c =
    rw c.start-here.ensures.entry (apart_none (key (g.L.Keys.source c.args.list)) 0)

pub key-top-requires : goal.key-top-requires
key-top-requires g c =
    let s = c.start-here.ensures in
    reads_in g.L.Keys.source _ _ c.args.n 0 _ s.list s.entry c.requires (omega arith)

pub next-here-requires-clause-reads : goal.next-here-requires-clause-reads
next-here-requires-clause-reads g c =
    let s = c.start-here.ensures in
    reads_in g.L.Keys.source _ _ c.args.n 0 _ s.list s.entry c.requires (omega arith)

pub loop-here-init : goal.loop-here-init
loop-here-init g c =
    let x = g.L.Keys.source c.args.list in
    let s = c.start-here.ensures in
    let t = c.next-here.ensures in
    let e : c.key-top.result ≡ key x 0 = rw (s.list, s.entry) at c.key-top.ensures in
    record {
      list = t.list ∙ s.list;
      within = omega arith;
      apart = rw (t.entry, s.entry) (apart_one (key x));
      below = rw (t.entry, s.entry) (below_one (key x) _ e);
    }

pub key-k-requires : goal.key-k-requires
key-k-requires g c =
    let l = c.loop-here in
    reads_in g.L.Keys.source _ _ c.args.n _ _ l.invariant.list refl c.requires (omega arith)

pub next-here-requires-in-loop-here-clause-reads : goal.next-here-requires-in-loop-here-clause-reads
next-here-requires-in-loop-here-clause-reads g c =
    let l = c.loop-here in
    reads_in g.L.Keys.source _ _ c.args.n _ _ l.invariant.list refl c.requires (omega arith)

pub loop-here-preserved : goal.loop-here-preserved
loop-here-preserved g c =
    let x = g.L.Keys.source c.args.list in
    let l = c.loop-here in
    let t = c.next-here-in-loop-here.ensures in
    let e : c.key-k.result ≡ key x l.here.entry = rw l.invariant.list at c.key-k.ensures in
    record {
      list = t.list ∙ l.invariant.list;
      within = omega arith;
      apart = rw t.entry (apart_rise (key x) l.top _ l.here.entry e c.if-k-top.false l.invariant.below l.invariant.apart);
      below = rw t.entry (below_rise (key x) l.top _ l.here.entry e c.if-k-top.false l.invariant.below);
    }
