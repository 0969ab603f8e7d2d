use mathlib.Core.Path.{◌≡◌, sym, ◌∙◌}
use Prim.Native.Nat.{◌<◌}
use mathlib.Core.Bool.{true}
use native.Mathlib.Omega.{arith}
use lib.ListN.{length}
use borrow.Author.Count.{below_more}
use Rattle.utf8.specs.Runs.{tail}
use Rattle.shared_texts.proofs.SegmentLaws.{tail_inside}
use Rattle.shared_texts.proofs.first_start.Goals as goal
use Rattle.shared_texts.proofs.first_start.Goals.{In-loop-at}

-- the byte looked at is a tail
passed : (c : In-loop-at) → tail c.args.texts.now c.loop-at.at ≡ true
passed c = sym c.is_tail.ensures ∙ c.loop-at-test.true

there : (c : In-loop-at) → c.loop-at.at < length c.args.texts.now
there c = tail_inside c.args.texts.now c.loop-at.at (passed c)

pub loop-at-init : goal.loop-at-init
loop-at-init c = (omega arith, c.requires, λ k h g. absurd (omega arith))

pub overflow_add-at : goal.overflow_add-at
overflow_add-at c = omega (arith, there (goal.at.overflow_add-at c).In-loop-at)

pub loop-at-smaller : goal.loop-at-smaller
loop-at-smaller c = omega (arith, there (goal.at.loop-at-smaller c).In-loop-at)

pub loop-at-preserved : goal.loop-at-preserved
loop-at-preserved c =
    let l = c.loop-at in
    (omega arith, omega (arith, there (goal.at.loop-at-preserved c).In-loop-at), below_more _ _ l.invariant.2 (λ g. passed (goal.at.loop-at-preserved c).In-loop-at))

pub returns : goal.returns
returns c =
    let l = c.loop-at in
    let begins = sym c.is_tail.ensures ∙ c.loop-at-test.false in
    (record { from = l.invariant.0; inside = λ k g h. l.invariant.2 k h g; begins = begins }, l.invariant.1)
