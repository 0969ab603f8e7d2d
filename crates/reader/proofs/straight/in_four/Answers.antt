-- Where none of the four has the pair, none of the entries up to the last of them has it.
use native.Mathlib.Omega.{arith}
use mathlib.Core.Path.{◌≡◌, sym, ◌∙◌}
use mathlib.Core.List.{List}
use mathlib.Core.Bool.{false}
use Prim.Native.Nat.{ℕ, ◌+◌}
use Rattle.blorb.proofs.Checks.{neither}
use Rattle.index.specs.Entries.{same_pair}
use Rattle.index.proofs.EntryLaws.{pair_more}
use Rattle.reader.specs.Straight.{FreshTo}
use Rattle.reader.proofs.straight.in_four.Goals as goal

module _ (f : List ℕ) (base j i : ℕ) where
  -- entry i + k too
  further : (k : ℕ) → FreshTo f base j (i + k) → same_pair f (i + k) j ≡ false → FreshTo f base j (i + (k + 1))
  further k h e = let sum : i + k + 1 ≡ i + (k + 1) = omega arith in rw sum at (pair_more f base (i + k) j h e)

pub returns : goal.returns
returns c = λ e base h.
    let a = c.args in
    let first = neither c.same_pair.result _ e in
    let second = neither c.same_pair-2.result _ first.1 in
    let others = neither c.same_pair-3.result c.same_pair-4.result second.1 in
    let more = further a.s.now base a.j a.i in
    more 3 (more 2 (more 1 (pair_more a.s.now base a.i a.j h (sym c.same_pair.ensures ∙ first.0))
    (sym c.same_pair-2.ensures ∙ second.0)) (sym c.same_pair-3.ensures ∙ others.0)) (sym c.same_pair-4.ensures ∙ others.1)
