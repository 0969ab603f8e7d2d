-- The order of fractions by cross multiplication, where denominators are not zero, and how each step of the ratio goes with it.
use mathlib.Core.Path.{◌≡◌, refl}
use Prim.Native.Nat.{ℕ, ◌*◌, ◌/◌, ◌≤◌, ◌<◌}
use mathlib.Core.Bool.{Bool, true, false, cond}
use native.Mathlib.Nat.{mul_assoc, mul_right_comm, mul-le-mul_left, mul-le-mul_right}
use native.Mathlib.Nat.{le_of_mul-le-mul_right, le-div_iff_mul-le, div-mul-le_self, le_trans, le_refl, le_of_lt}
use borrow.Author.Tests.{leb-true, leb-false, eq-eqb, ne_eqb}
use Rattle.ratio.specs.declared.Fraction.{Fraction}
use Rattle.ratio.specs.Ratio.{at_most, smaller, raised, lowered, side_by}
use Rattle.ratio.proofs.RatioLaws.{pick_either}

-- no denominator of the ratio is zero
abbrev pub Whole : Fraction → Type 0
Whole a = 0 < a.den

-- a limit, unless it is none
abbrev pub Limit : Fraction → Type 0
Limit a = (a.num ≡ 0 → ⊥) → 0 < a.den

-- cross multiplication, as an order
abbrev pub Under : Fraction → Fraction → Type 0
Under a b = a.num * b.den ≤ b.num * a.den

pub under_self : (a : Fraction) → Under a a
under_self a = le_refl (a.num * a.den)

pub under_trans : (a b c : Fraction) → Whole b → Under a b → Under b c → Under a c
under_trans a b c w h k =
    let p : a.num * b.den * c.den ≤ b.num * a.den * c.den = mul-le-mul_right c.den h in
    let q : b.num * c.den * a.den ≤ c.num * b.den * a.den = mul-le-mul_right a.den k in
    let q2 : b.num * a.den * c.den ≤ c.num * b.den * a.den = rw (mul_right_comm b.num a.den c.den) q in
    let r : a.num * c.den * b.den ≤ c.num * a.den * b.den =
    rw (mul_right_comm a.num c.den b.den, mul_right_comm c.num a.den b.den) (le_trans p q2) in
    le_of_mul-le-mul_right r w

-- what a test of two fractions tells
pub under_yes : (a b : Fraction) → at_most a b ≡ true → Under a b
under_yes a b e = leb-true _ _ e

pub under_no : (a b : Fraction) → at_most a b ≡ false → Under b a
under_no a b e = le_of_lt (leb-false _ _ e)

-- a in cross multiplication at most b: so are their sides
pub side_mono : (a b : Fraction) (s : ℕ) → Whole a → Whole b → Under a b → side_by a s ≤ side_by b s
unfolding side_by
side_mono a b s pa pb h =
    let q : ℕ = s * a.num / a.den in
    let l : q * a.den ≤ s * a.num = div-mul-le_self (s * a.num) a.den in
    let m : q * a.den * b.den ≤ s * a.num * b.den = mul-le-mul_right b.den l in
    let c : s * (a.num * b.den) ≤ s * (b.num * a.den) = mul-le-mul_left s h in
    let n : q * a.den * b.den ≤ s * (a.num * b.den) = rw (mul_assoc s a.num b.den) at m in
    let g : q * b.den * a.den ≤ s * b.num * a.den = rw (mul_right_comm q b.den a.den, mul_assoc s b.num a.den) (le_trans n c) in
    (le-div_iff_mul-le pb).1 (le_of_mul-le-mul_right g pa)

-- the smaller of two is at most each, and is one of them
module _ (a b : Fraction) where
  smaller_by : (t : Bool) → at_most a b ≡ t → Under (cond t a b) a × Under (cond t a b) b
  smaller_by true e = (under_self a, under_yes a b e)
  smaller_by false e = (under_no a b e, under_self b)

  pub smaller_under : Under (smaller a b) a × Under (smaller a b) b
  unfolding smaller
  smaller_under = smaller_by (at_most a b) refl

  pub smaller_either : (P : Fraction → Type 0) → P a → P b → P (smaller a b)
  unfolding smaller
  smaller_either P p q = pick_either P (at_most a b) a b p q

-- a limit that is one: what is raised to it is at least both, what is lowered to it at most both; either is one of the two
module _ (l x : Fraction) (n : l.num ≡ 0 → ⊥) where
  over_by : (t : Bool) → at_most l x ≡ t → Under l (cond t x l) × Under x (cond t x l)
  over_by true e = (under_yes l x e, under_self x)
  over_by false e = (under_self l, under_no l x e)

  pub raised-over : Under l (raised l x) × Under x (raised l x)
  unfolding raised
  raised-over = rw (ne_eqb l.num 0 n) (over_by (at_most l x) refl)

  under_by : (t : Bool) → at_most x l ≡ t → Under (cond t x l) l × Under (cond t x l) x
  under_by true e = (under_yes x l e, under_self x)
  under_by false e = (under_self l, under_no x l e)

  pub lowered_under : Under (lowered l x) l × Under (lowered l x) x
  unfolding lowered
  lowered_under = rw (ne_eqb l.num 0 n) (under_by (at_most x l) refl)

  pub raised_either : (P : Fraction → Type 0) → P x → P l → P (raised l x)
  unfolding raised
  raised_either P p q = rw (ne_eqb l.num 0 n) (pick_either P (at_most l x) x l p q)

  pub lowered_either : (P : Fraction → Type 0) → P x → P l → P (lowered l x)
  unfolding lowered
  lowered_either P p q = rw (ne_eqb l.num 0 n) (pick_either P (at_most x l) x l p q)

-- a limit that is none changes nothing
module _ (l x : Fraction) (n : l.num ≡ 0) where
  pub raised-kept : raised l x ≡ x
  unfolding raised
  raised-kept = rw (eq-eqb l.num 0 n)

  pub lowered-kept : lowered l x ≡ x
  unfolding lowered
  lowered-kept = rw (eq-eqb l.num 0 n)
