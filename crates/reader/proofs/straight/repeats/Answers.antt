use native.Mathlib.Omega.{arith}
use mathlib.Core.Path.{◌≡◌}
use Prim.Native.Nat.{ℕ}
use Rattle.index.proofs.EntryLaws.{pair-none}
use Rattle.reader.proofs.straight.repeats.Goals as goal

pub loop-i-init : goal.loop-i-init
loop-i-init c = (omega arith, λ base. pair-none c.args.s.now base c.args.j)

pub returns-then-in_four : goal.returns-then-in_four
returns-then-in_four c = λ e. absurd (let z : ◌≡◌ {A = ℕ} 0 1 = cc in omega arith)

pub loop-i-preserved : goal.loop-i-preserved
loop-i-preserved c = (omega arith, λ base. c.in_four.ensures c.if-in_four.false base (c.loop-i.invariant.1 base))

pub returns : goal.returns
returns c = λ e base. c.in_rest.ensures e base (c.loop-i.invariant.1 base)
