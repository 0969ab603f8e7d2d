use Rattle.std.proofs.Common.{◌∙◌, arith}
use Rattle.shared_texts.proofs.SegmentLaws.{leads_join, next_border, border_64}
use Rattle.shared_texts.proofs.Segments.pass.Goals as goal

pub loop-x-preserved-then-word_joins : goal.loop-x-preserved-then-word_joins
loop-x-preserved-then-word_joins c =
    let l = c.loop-x in
    let joined = c.word_joins.ensures c.if-word_joins.true in (
      omega (arith, c.if-size-q.true, l.invariant.0),
      border_64 l.self.texts l.g l.x c.size-size.result l.invariant.1,
      λ p w. leads_join l.self.texts p l.x _ (l.invariant.2 p w) joined,
      l.invariant.3,
    )

pub loop-x-preserved : goal.loop-x-preserved
loop-x-preserved c =
    let l = c.loop-x in
    let told = c.segment_joins.ensures in
    let joined = told.0 c.if-not-segment_joins.false in (
      omega (arith, c.loop-x-test.true, l.invariant.0),
      next_border l.self.texts l.g l.x c.size-size.result l.invariant.1,
      λ p w. rw told.1 (leads_join l.self.texts p l.x _ (l.invariant.2 p (rw (← told.1) w)) joined),
      told.1 ∙ l.invariant.3,
    )
