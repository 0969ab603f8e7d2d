use Rattle.std.proofs.Common.{◌+◌, arith, ap}
use Rattle.describing.proofs.ChunkLaws.{size-over, size-turn, size-done, size-start}
use Rattle.describing.proofs.chunk.data_size.Goals as goal

pub loop-i-init : goal.loop-i-init
loop-i-init c = (omega arith, ap (λ k. 4 + k) (size-start c.args.rows.now c.args.n))

pub returns-then-size-gt16777216 : goal.returns-then-size-gt16777216
returns-then-size-gt16777216 c =
    let l = c.loop-i in
    size-over c.args.rows.now _ _ _ l.invariant.1 c.loop-i-test.true (omega (arith, c.at.ensures.3, c.if-size-gt16777216.true))

pub loop-i-preserved : goal.loop-i-preserved
loop-i-preserved c =
    let l = c.loop-i in
    (c.if-size-gt16777216.false, rw c.at.ensures.3 (size-turn c.args.rows.now _ _ _ l.invariant.1 c.loop-i-test.true))

pub returns : goal.returns
returns c =
    let l = c.loop-i in
    (size-done c.args.rows.now _ _ _ l.invariant.1 c.loop-i-test.false, l.invariant.0)
