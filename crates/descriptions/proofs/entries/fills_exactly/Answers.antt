use Rattle.std.proofs.Common.{arith, ◌∙◌}
use Rattle.rdes.proofs.EntryLaws.{fills-none, fills_some, fills-start, fills_short, fills_cut, fills-next, fills_end}
use Rattle.descriptions.proofs.entries.fills_exactly.Goals as goal

pub returns-then-d-lt4 : goal.returns-then-d-lt4
returns-then-d-lt4 c = fills-none _ c.if-d-lt4.true

pub loop-init : goal.loop-init
loop-init c = (omega arith, fills-start _ _ _)

pub returns-then-d-at-lt12 : goal.returns-then-d-at-lt12
returns-then-d-at-lt12 c =
    let l = c.loop in
    let d = c.args.d.now in
    fills_some d _ _ c.if-d-lt4.false c.be32_at-count.ensures.0
    (fills_short d c.be32_at-count.result l.counter l.at c.loop-test.true l.invariant.0 c.if-d-at-lt12.true ∙ l.invariant.1)

pub returns-then-d-at : goal.returns-then-d-at
returns-then-d-at c =
    let l = c.loop in
    let d = c.args.d.now in
    fills_some d _ _ c.if-d-lt4.false c.be32_at-count.ensures.0
    (fills_cut d c.be32_at-count.result l.counter l.at c.loop-test.true (omega arith) _ c.be32_at-size.ensures.0 c.if-d-at.true ∙ l.invariant.1)

pub loop-preserved : goal.loop-preserved
loop-preserved c =
    let l = c.loop in
    let d = c.args.d.now in (
      omega arith,
      fills-next d c.be32_at-count.result l.counter l.at c.loop-test.true (omega arith) _ c.be32_at-size.ensures.0 c.if-d-at.false ∙ l.invariant.1,
    )

pub returns : goal.returns
returns c =
    fills_some c.args.d.now _ _ c.if-d-lt4.false c.be32_at-count.ensures.0 (fills_end _ _ _ _ c.loop-test.false ∙ c.loop.invariant.1)
