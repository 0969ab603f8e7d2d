use native.Mathlib.Omega.{arith}
use mathlib.Core.Path.{◌∙◌}
use borrow.Author.Tests.{eqb-true}
use Rattle.table.proofs.FrontLaws.{front_right, known_held, skip_count, skip-held, take_count, take-held, upto_end}
use Rattle.table.proofs.front.Goals as goal

pub loop-j-preserved-then-last-k : goal.loop-j-preserved-then-last-k
loop-j-preserved-then-last-k c =
    let a = c.args in
    let x = a.index.now in
    let t = a.t.now in
    let l = c.loop-j in
    let i = l.invariant in
    let h = c.loop-j-test.true in
    let f = c.first-first.ensures in
    let first = rw (f.0, f.1, f.2, f.3) at c.last_key-last.ensures.0 in
    let last = first (omega arith) in
    let e = c.key-k.ensures in
    record {
      few = omega arith;
      count = skip_count x.file.now t.numbers.now x.count t.rows t.step t.gap a.i l.j h _ _ _ _ last.1 last.0 e.0 e.1 l.n i.count i.held c.if-last-k.true;
      held = skip-held x.file.now t.numbers.now x.count t.rows t.step t.gap a.i l.j h _ _ _ _ last.1 last.0 e.0 e.1 l.n i.count i.held c.if-last-k.true;
    }

pub loop-j-preserved-then-k-known : goal.loop-j-preserved-then-k-known
loop-j-preserved-then-k-known c =
    let a = c.args in
    let x = a.index.now in
    let t = a.t.now in
    let l = c.loop-j in
    let i = l.invariant in
    let h = c.loop-j-test.true in
    let f = c.first-first.ensures in
    let first = rw (f.0, f.1, f.2, f.3) at c.last_key-last.ensures.0 in
    let last = first (omega arith) in
    let e = c.key-k.ensures in
    let p = c.requires in
    let g = c.first.ensures in
    let some = rw g.1 at (c.last_key-known.ensures.1 (omega arith)) in
    let of_known = rw (g.0, g.1, g.2, g.3) at c.last_key-known.ensures.0 in
    let known = of_known some in
    record {
      few = omega arith;
      count = take_count x.file.now t.numbers.now x.count t.rows t.step t.gap a.i l.j h _ _ _ _ last.1 last.0 e.0 e.1 l.n i.count i.held c.if-last-k.false;
      held = take-held x.file.now t.numbers.now x.count t.rows t.step t.gap a.i l.j h _ _ _ _ last.1 last.0 e.0 e.1 l.n i.count i.held
          (known_held x.file.now t.numbers.now x.count t.rows t.step t.gap a.i l.j h a.low some p.below p.rows p.once p.known _ _ known.1 known.0 e.0 e.1
          c.if-k-known.true);
    }

pub loop-j-preserved : goal.loop-j-preserved
loop-j-preserved c =
    let a = c.args in
    let x = a.index.now in
    let t = a.t.now in
    let l = c.loop-j in
    let i = l.invariant in
    let h = c.loop-j-test.true in
    let f = c.first-first.ensures in
    let first = rw (f.0, f.1, f.2, f.3) at c.last_key-last.ensures.0 in
    let last = first (omega arith) in
    let e = c.key-k.ensures in
    let m = rw (f.0, f.1, f.2, f.3) at c.in-Some.ensures.1 in
    record {
      few = omega arith;
      count = take_count x.file.now t.numbers.now x.count t.rows t.step t.gap a.i l.j h _ _ _ _ last.1 last.0 e.0 e.1 l.n i.count i.held c.if-last-k.false;
      held = take-held x.file.now t.numbers.now x.count t.rows t.step t.gap a.i l.j h _ _ _ _ last.1 last.0 e.0 e.1 l.n i.count i.held m;
    }

pub returns : goal.returns
returns c =
    let a = c.args in
    let x = a.index.now in
    let t = a.t.now in
    let l = c.loop-j in
    let p = c.requires in
    let f = c.first-first.ensures in
    let r = rw (f.0, f.1, f.2, f.3) at (c.rises.ensures c.if-not-rises.false) in
    λ e. (let q = eqb-true _ _ e in
    front_right x.file.now t.numbers.now x.count t.rows t.step t.gap a.i p.rows p.entries p.once r _ _
    (upto_end x.file.now t.numbers.now x.count t.rows t.step t.gap a.i _ _ l.j l.n (omega arith) l.invariant.count ∙ q)
    (λ m h. l.invariant.held m (omega arith)))
