-- What the ratio and the sides by it keep, for all fractions: exactly one rounding, between the limits, never smaller for a larger window.
use mathlib.Core.Path.{◌≡◌, refl, ap, ◌∙◌}
use Prim.Native.Nat.{ℕ, zero, suc, ◌+◌, ◌*◌, ◌/◌, ◌≤◌, ◌<◌}
use mathlib.Core.Logic.{◌⊎◌, ⊎_elim, inl, inr}
use native.Mathlib.Omega.{arith}
use native.Mathlib.Nat.{mul-pos, mul_comm, mul-mul-mul_comm, mul-le-mul, le_refl, div-mul-le_self, lt-mul-div-succ, mul-div_cancel}
use Rattle.ratio.specs.declared.Fraction.{Fraction}
use Rattle.ratio.specs.Ratio.{over, smaller, times, raised, lowered, ratio_by, side_by}
use Rattle.ratio.proofs.OrderLaws.{Whole, Limit, Under, under_trans, side_mono, smaller_under, smaller_either}
use Rattle.ratio.proofs.OrderLaws.{raised-over, lowered_under, raised_either, lowered_either, raised-kept, lowered-kept}

-- "multiplied exactly and rounded down", once: n is the greatest whole number that is at most the side times the ratio
abbrev pub RoundedDown : Fraction → ℕ → ℕ → Type 0
RoundedDown r s n = (n * r.den ≤ s * r.num) × (s * r.num < (n + 1) * r.den)

pub rounded_down : (r : Fraction) (s : ℕ) → Whole r → RoundedDown r s (side_by r s)
unfolding side_by
rounded_down r s w =
    (div-mul-le_self (s * r.num) r.den, rw (mul_comm (s * r.num / r.den + 1) r.den) (lt-mul-div-succ (s * r.num) w))

-- the fractions that a ratio is made of, as a good 'Reso' has them
pub record Sound (across down standard least greatest : Fraction) : Type 0 where
  pub wide : Whole across
  pub high : Whole down
  pub whole : Whole standard
  pub low : Limit least
  pub top : Limit greatest

none_or : (l : Fraction) → (l.num ≡ 0) ⊎ (l.num ≡ 0 → ⊥)
none_or l = zero_or l.num
  where
    zero_or : (n : ℕ) → (n ≡ 0) ⊎ (n ≡ 0 → ⊥)
    zero_or zero = inl refl
    zero_or (suc n) = inr (λ e. absurd (omega arith))

-- each step: a denominator that is not zero, and the order
module _ (l x : Fraction) (p : Limit l) (w : Whole x) where
  raised_whole : Whole (raised l x)
  raised_whole = ⊎_elim (λ e. rw (raised-kept l x e) w) (λ n. raised_either l x n Whole w (p n)) (none_or l)

  lowered_whole : Whole (lowered l x)
  lowered_whole = ⊎_elim (λ e. rw (lowered-kept l x e) w) (λ n. lowered_either l x n Whole w (p n)) (none_or l)

  module _ (y : Fraction) (v : Whole y) (h : Under x y) where
    raised-grows : Under (raised l x) (raised l y)
    raised-grows =
        ⊎_elim
        (λ e. rw (raised-kept l x e, raised-kept l y e) h)
        (λ n. let o = raised-over l y n in raised_either l x n (λ (z : Fraction). Under z (raised l y)) (under_trans x y (raised l y) v h o.1) o.0)
        (none_or l)

    lowered-grows : Under (lowered l x) (lowered l y)
    lowered-grows =
        ⊎_elim
        (λ e. rw (lowered-kept l x e, lowered-kept l y e) h)
        (λ n. let o = lowered_under l x n in
        lowered_either l y n (λ (z : Fraction). Under (lowered l x) z) (under_trans (lowered l x) x y w o.1 h) o.0)
        (none_or l)

times-grows : (x y s : Fraction) → Under x y → Under (times x s) (times y s)
unfolding times
times-grows x y s h =
    let k : x.num * y.den * (s.num * s.den) ≤ y.num * x.den * (s.num * s.den) = mul-le-mul h (le_refl (s.num * s.den)) in
    rw (mul-mul-mul_comm x.num s.num y.den s.den, mul-mul-mul_comm y.num s.num x.den s.den) k

times_whole : (x s : Fraction) → Whole x → Whole s → Whole (times x s)
unfolding times
times_whole x s p q = mul-pos p q

smaller-grows : (a d b e : Fraction) → Whole a → Whole d → Under a b → Under d e → Under (smaller a d) (smaller b e)
smaller-grows a d b e wa wd h k =
    let o = smaller_under a d in
    smaller_either b e (λ (z : Fraction). Under (smaller a d) z) (under_trans (smaller a d) a b wa o.0 h) (under_trans (smaller a d) d e wd o.1 k)

module _ (a d s l g : Fraction) (m : Sound a d s l g) where
  factor_whole : Whole (times (smaller a d) s)
  factor_whole = times_whole (smaller a d) s (smaller_either a d Whole m.wide m.high) m.whole

  pub ratio_whole : Whole (ratio_by a d s l g)
  unfolding ratio_by
  ratio_whole = lowered_whole g (raised l (times (smaller a d) s)) m.top (raised_whole l (times (smaller a d) s) m.low factor_whole)

  -- a larger window never gives a smaller ratio
  pub ratio_grows : (b e : Fraction) → Sound b e s l g → Under a b → Under d e → Under (ratio_by a d s l g) (ratio_by b e s l g)
  unfolding ratio_by
  ratio_grows b e n h k =
      let x : Fraction = times (smaller a d) s in
      let y : Fraction = times (smaller b e) s in
      let wy : Whole y = times_whole (smaller b e) s (smaller_either b e Whole n.wide n.high) n.whole in
      let u : Under x y = times-grows (smaller a d) (smaller b e) s (smaller-grows a d b e m.wide m.high h k) in
      lowered-grows g (raised l x) m.top (raised_whole l x m.low factor_whole) (raised l y) (raised_whole l y m.low wy)
      (raised-grows l x m.low factor_whole y wy u)

  -- with both limits, and those in order, the ratio lies between them
  module _ (nl : l.num ≡ 0 → ⊥) (ng : g.num ≡ 0 → ⊥) (o : Under l g) where
    pub ratio_least : Under l (ratio_by a d s l g)
    unfolding ratio_by
    ratio_least =
        let y : Fraction = raised l (times (smaller a d) s) in
        lowered_either g y ng (λ (z : Fraction). Under l z) (raised-over l (times (smaller a d) s) nl).0 o

    pub ratio_greatest : Under (ratio_by a d s l g) g
    unfolding ratio_by
    ratio_greatest = (lowered_under g (raised l (times (smaller a d) s)) ng).0

    -- "its sides lie between those that the two limits alone would give"
    pub side-between : (n : ℕ) → (side_by l n ≤ side_by (ratio_by a d s l g) n) × (side_by (ratio_by a d s l g) n ≤ side_by g n)
    side-between n =
        (side_mono l (ratio_by a d s l g) n (m.low nl) ratio_whole ratio_least, side_mono (ratio_by a d s l g) g n ratio_whole (m.top ng) ratio_greatest)

-- the standard window, standard ratio 1 and no limit: the side itself
by_one : (k s n : ℕ) → 0 < k → 0 < s → side_by (times (over k k) (over s s)) n ≡ n
unfolding side_by times
by_one k s n p q = mul-div_cancel n (mul-pos p q)

pub side-own : (w h s : ℕ) (l g : Fraction) (n : ℕ) → 0 < w → 0 < h → 0 < s → l.num ≡ 0 → g.num ≡ 0
    → side_by (ratio_by (over w w) (over h h) (over s s) l g) n ≡ n
unfolding ratio_by
side-own w h s l g n pw ph ps el eg =
    let x : Fraction = times (smaller (over w w) (over h h)) (over s s) in
    ap (λ (k : Fraction). side_by k n) (lowered-kept g (raised l x) eg ∙ raised-kept l x el)
    ∙ smaller_either (over w w) (over h h) (λ (z : Fraction). side_by (times z (over s s)) n ≡ n) (by_one w s n pw ps) (by_one h s n ph ps)
