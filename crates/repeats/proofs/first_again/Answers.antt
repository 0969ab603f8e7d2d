use mathlib.Core.Path.{◌≡◌, refl, sym, ◌∙◌}
use borrow.Author.Rules.{rules}
use Prim.Native.Nat.{◌≤◌}
use lib.ListN.{length, length-set}
use native.Mathlib.Omega.{arith}
use Rattle.repeats.specs.Source.{key}
use Rattle.repeats.proofs.SeenLaws.{none_there, first_there, once_none, once_empty, once_more, some_none, some_skip}
use Rattle.repeats.proofs.SeenLaws.{some_more, all_none, all_skip, all_more, seen_again}
use Rattle.std.specs.Prelude.{None}
use Rattle.repeats.proofs.SourceLaws.{reads_in}
use Rattle.repeats.proofs.first_again.Goals as goal
use Rattle.repeats.proofs.first_again.Goals.{in-Some+else-seen-c, in_default}

pub returns-then-suspects-eq0-clause-once : goal.returns-then-suspects-eq0-clause-once
returns-then-suspects-eq0-clause-once g c =
    let a = c.args in
    let x = g.L.Keys.source a.from.list in
    once_empty (key x) a.suspects.now.keys a.suspects.now.count a.from.entry a.e c.if-suspects-eq0.true

pub loop-here-init : goal.loop-here-init
loop-here-init g c =
    let a = c.args in
    let x = g.L.Keys.source a.from.list in
    let s = a.suspects.now in
    record {
      list = refl;
      first = omega arith;
      within = omega arith;
      seen = refl;
      once = once_none (key x) s.keys s.count a.from.entry;
      some = some_none (key x) 32 s.keys s.count a.from.entry;
      all = all_none (key x) _ s.keys s.count a.from.entry;
    }

pub key-k-requires : goal.key-k-requires
key-k-requires g c =
    let l = c.loop-here in
    reads_in g.L.Keys.source _ _ c.args.e _ _ l.invariant.list refl c.requires.inside (omega arith)

pub next-here-requires-clause-reads : goal.next-here-requires-clause-reads
next-here-requires-clause-reads g c =
    let l = c.loop-here in
    reads_in g.L.Keys.source _ _ c.args.e _ _ l.invariant.list refl c.requires.inside (omega arith)

pub returns-then-seen-c-clause-again : goal.returns-then-seen-c-clause-again
returns-then-seen-c-clause-again g c m =
    let a = c.args in
    let x = g.L.Keys.source a.from.list in
    let s = a.suspects.now in
    let l = c.loop-here in
    let e : c.key-k.result ≡ key x l.here.entry = rw l.invariant.list at c.key-k.ensures in
    let h : s.count ≤ length s.keys = search rules in
    let p = first_there s.keys s.count c.key-k.result h c.in-Some.c c.in-Some.ensures in
    seen_again (key x) l.seen s.keys s.count l.here.entry c.in-Some.c _ e p.1 c.if-seen-c.true l.invariant.some

pub loop-here-preserved : goal.loop-here-preserved
loop-here-preserved g c =
    let a = c.args in
    let x = g.L.Keys.source a.from.list in
    let s = a.suspects.now in
    let l = c.loop-here in
    let i = l.invariant in
    let t = c.next-here.ensures in
    let e : c.key-k.result ≡ key x l.here.entry = rw i.list at c.key-k.ensures in
    let h : s.count ≤ length s.keys = search rules in
    let absent = λ (z : c.position.result ≡ None). none_there s.keys s.count c.key-k.result h (sym z ∙ c.position.ensures) in
    record {
      list = t.list ∙ i.list;
      first = omega arith;
      within = omega arith;
      seen = elim c.match-position.branch [
        | in-Some+else-seen-c w ↦ rw w.seen-is (simp length-set i.seen)
        | in_default w ↦ rw w.seen-is i.seen
      ];
      once = rw t.entry (elim c.match-position.branch [
        | in-Some+else-seen-c w ↦
            let p = first_there s.keys s.count c.key-k.result h w.in-Some.c w.in-Some.ensures in
            once_more (key x) l.seen s.keys s.count a.from.entry l.here.entry w.in-Some.c _ e (omega (arith, p.0)) p.2 (λ _. p.1) (λ _ z. cc) i.all i.once
        | in_default w ↦
            once_more (key x) l.seen s.keys s.count a.from.entry l.here.entry s.count _ e (omega arith) (absent w.in_default.is)
            (λ m. absurd (omega arith)) (λ m. absurd (omega arith)) i.all i.once
      ]);
      some = rw t.entry (elim c.match-position.branch [
        | in-Some+else-seen-c w ↦
            let p = first_there s.keys s.count c.key-k.result h w.in-Some.c w.in-Some.ensures in
            rw w.seen-is (some_more (key x) l.seen s.keys s.count l.here.entry w.in-Some.c _ e (omega (arith, p.0, h, i.seen)) p.0 p.1 i.some)
        | in_default w ↦ rw w.seen-is (some_skip (key x) l.seen s.keys s.count l.here.entry i.some)
      ]);
      all = rw t.entry (elim c.match-position.branch [
        | in-Some+else-seen-c w ↦
            let p = first_there s.keys s.count c.key-k.result h w.in-Some.c w.in-Some.ensures in
            rw w.seen-is (all_more (key x) l.seen s.keys s.count a.from.entry l.here.entry w.in-Some.c _ e p.0 (omega (arith, p.0, h, i.seen)) p.2 p.1 i.all)
        | in_default w ↦ rw w.seen-is (all_skip (key x) l.seen s.keys s.count a.from.entry l.here.entry _ e (absent w.in_default.is) i.all)
      ]);
    }
