use native.Mathlib.Omega.{arith}
use mathlib.Core.Path.{◌≡◌, sym, ◌∙◌}
use Prim.Native.Nat.{ℕ}
use Rattle.index.proofs.EntryLaws.{pair_more}
use Rattle.reader.proofs.straight.in_rest.Goals as goal

pub loop-i-init : goal.loop-i-init
loop-i-init c = (omega arith, λ base h. h)

pub returns-then-same_pair : goal.returns-then-same_pair
returns-then-same_pair c = λ e. absurd (let z : ◌≡◌ {A = ℕ} 0 1 = cc in omega arith)

pub loop-i-preserved : goal.loop-i-preserved
loop-i-preserved c = (
  omega arith,
  λ base h.
      let a = c.args in
      let l = c.loop-i in
      pair_more a.s.now base l.i a.j (l.invariant.1 base h) (sym c.same_pair.ensures ∙ c.if-same_pair.false),
)

pub returns : goal.returns
returns c = λ e base h.
    let a = c.args in
    let end : c.loop-i.i ≡ a.j = omega (arith, c.loop-i.invariant.0) in
    rw end at (c.loop-i.invariant.1 base h)
