use native.Mathlib.Omega.{arith}
use Rattle.table.proofs.AnswerLaws.{differ_stop, differ_next, differ_end}
use Rattle.table.proofs.differing.Goals as goal

pub returns-then-not-ranked : goal.returns-then-not-ranked
returns-then-not-ranked c =
    let x = c.args.index.now in
    let t = c.args.t.now in
    let l = c.loop-i in
    let r = rw (c.usage.ensures, c.number.ensures, c.start.ensures) at c.ranked.ensures in
    differ_stop x.file.now t.numbers.now x.count t.rows t.step t.gap l.i c.requires l.invariant (omega arith) (omega arith) c.ranked.result r
    c.if-not-ranked.true

pub loop-i-preserved : goal.loop-i-preserved
loop-i-preserved c =
    let x = c.args.index.now in
    let t = c.args.t.now in
    let l = c.loop-i in
    let r = rw (c.usage.ensures, c.number.ensures, c.start.ensures) at c.ranked.ensures in
    differ_next x.file.now t.numbers.now x.count t.rows t.step t.gap l.i c.requires l.invariant (omega arith) (omega arith) c.ranked.result r
    c.if-not-ranked.false

pub returns : goal.returns
returns c =
    let x = c.args.index.now in
    let t = c.args.t.now in
    let l = c.loop-i in
    differ_end x.file.now t.numbers.now x.count t.rows t.step t.gap l.i c.requires l.invariant _ c.min-most.ensures (omega arith)
