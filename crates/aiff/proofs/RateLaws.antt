-- The rate: what its definition means in plain numbers, and a law for each way out of the code. Of a field below 16,446 the value is the significand over
-- a power of two, above it the significand times one (below, above). Halving and doubling the significand keep the value (halve, double), and no whole
-- number can come of an odd significand that is to be halved (odd-none), nor of a large one to be doubled (large_none).
-- A power of two is a number that nobody looks into.
use Prim.Native.Nat.{ℕ, zero, suc, ◌+◌, ◌-◌, ◌*◌, ◌/◌, ◌%◌, ◌^◌, ◌≤◌, ◌<◌}
use mathlib.Core.Path.{◌≡◌, refl, ap, sym, ◌∙◌}
use mathlib.Core.List.{List}
use mathlib.Core.Bool.{Bool, true, false, cond, ◌&&◌}
use native.Mathlib.Omega.{arith}
use native.Mathlib.Numerals.{add-one}
use native.Mathlib.Nat.{mul_assoc, mul_comm, add_comm, one-mul, zero-mul, mul-pos, mul-le-mul, add-zero, pow-suc, lt_of_lt_of_le, div-eq_of_lt}
use lib.Arith.{mod-mul}
use lib.Pow.{pow-add, pow_pos, pow_mono, shr-shr, shl-shr, shl_exact, mod-pow-add}
use native.Mathlib.Nat.{mul-mod_left, mul-div_cancel, div-add-mod'}
use lib.ListN.{drop, get_or}
use lib.Seq.{get_or-drop}
use lib.Dec.{eqb, leb}
use borrow.Author.Tests.{le-leb, lt-leb, eq-eqb, ne_eqb, leb-true, eqb-true}
use Rattle.blorb.proofs.Checks.{and_both}
use Rattle.std.specs.Prelude.{Option, Some, None}
use Rattle.std.specs.Option.{SomeIff}
use Rattle.aiff.specs.Rate.{rd16, numerator, denominator, whole_of, rate_of, rate_in}
use Rattle.aiff.specs.Meaning.{Exactly}

last_false : (a b : Bool) → a && b && false ≡ false
last_false true true = refl
last_false true false = refl
last_false false b = refl

-- the denominator, as a number that nobody looks into
denominator_pos : 0 < denominator
unfolding denominator
denominator_pos = pow_pos 16446

numerator_unit : (m : ℕ) → numerator m 16446 ≡ m * denominator
unfolding numerator denominator
numerator_unit m = refl

module _ (m : ℕ) where
  unit_mod : m * denominator % denominator ≡ 0
  unit_mod = mul-mod_left m denominator

  unit_div : m * denominator / denominator ≡ m
  unit_div = mul-div_cancel m denominator_pos

  pub range-zero : m ≡ 0 → None ≡ whole_of (numerator m 16446)
  unfolding whole_of
  range-zero e = rw (numerator_unit m, unit_mod, unit_div, e)

  pub range_whole : (m ≡ 0 → ⊥) → m ≤ 4294967295 → Some m ≡ whole_of (numerator m 16446)
  unfolding whole_of
  range_whole z h =
      let p : 1 ≤ m = omega arith in
      rw (numerator_unit m, unit_mod, unit_div, le-leb 1 m p, le-leb m 4294967295 h)

nil : (e : ℕ) → numerator 0 e ≡ 0
unfolding numerator
nil e = omega arith

pub zero-none : (e : ℕ) → None ≡ whole_of (numerator 0 e)
zero-none e = range-zero 0 refl ∙ ap whole_of (nil 16446 ∙ sym (nil e))

-- q, if nothing is left of it and it is "a whole number from 1 to 4,294,967,295"
abbrev pub kept : (left q : ℕ) → Option ℕ
kept left q = cond (eqb left 0 && leb 1 q && leb q 4294967295) (Some q) None

times_zero : (a b : ℕ) → 0 < b → eqb (a * b) 0 ≡ eqb a 0
times_zero zero b h = rw (zero-mul b)
times_zero (suc a) b h =
    let p : 0 < suc a * b = mul-pos (omega arith) h in
    rw (ne_eqb (suc a * b) 0 (λ z. omega arith), ne_eqb (suc a) 0 (λ z. omega arith))

module _ (m e k : ℕ) where
  below_unit : e + k ≡ 16446 → denominator ≡ 2 ^ (k + e)
  unfolding denominator
  below_unit h = ap (λ (n : ℕ). 2 ^ n) (sym h ∙ add_comm e k)

  pub below : e + k ≡ 16446 → whole_of (numerator m e) ≡ kept (m % 2 ^ k) (m / 2 ^ k)
  unfolding whole_of numerator
  below h =
      let q : m * 2 ^ e / 2 ^ (k + e) ≡ m / 2 ^ k
      = ap (λ (n : ℕ). m * 2 ^ e / 2 ^ n) (add_comm k e) ∙ sym (shr-shr (m * 2 ^ e) e k) ∙ ap (λ (n : ℕ). n / 2 ^ k) (shl-shr m e) in
      let r : m * 2 ^ e % 2 ^ (k + e) ≡ m % 2 ^ k * 2 ^ e
      = mod-pow-add (m * 2 ^ e) k e ∙ rw (shl-shr m e, mul-mod_left m (2 ^ e)) (add-zero (m % 2 ^ k * 2 ^ e)) in
      rw (below_unit h, q, r, times_zero (m % 2 ^ k) (2 ^ e) (pow_pos e))

  above_unit : 16446 + k ≡ e → numerator m e ≡ m * 2 ^ k * denominator
  unfolding numerator denominator
  above_unit h =
      ap (λ (x : ℕ). m * 2 ^ x) (sym h ∙ add_comm 16446 k)
      ∙ ap (λ (x : ℕ). m * x) (pow-add 2 k 16446) ∙ sym (mul_assoc m (2 ^ k) (2 ^ 16446))

  pub above : 16446 + k ≡ e → whole_of (numerator m e) ≡ kept 0 (m * 2 ^ k)
  unfolding whole_of
  above h = rw (above_unit h, mul-mod_left (m * 2 ^ k) denominator, mul-div_cancel (m * 2 ^ k) denominator_pos)

kept_left : (r q : ℕ) → (r ≡ 0 → ⊥) → None ≡ kept r q
kept_left r q h = rw (ne_eqb r 0 h)

kept_none : (r : ℕ) → None ≡ kept r 0
kept_none r = by (eqb r 0)
  where
    by : (b : Bool) → ◌≡◌ {A = Option ℕ} None (cond (b && leb 1 0 && leb 0 4294967295) (Some 0) None)
    by true = refl
    by false = refl

kept_large : (r q : ℕ) → 4294967295 < q → None ≡ kept r q
kept_large r q h = rw (lt-leb q 4294967295 h, last_false (eqb r 0) (leb 1 q))

kept-fit : (q : ℕ) → 1 ≤ q → q ≤ 4294967295 → Some q ≡ kept 0 q
kept-fit q l h = rw (le-leb 1 q l, le-leb q 4294967295 h)

-- whether it fits into 32 bits, as the code answers it
kept_if : (r q : ℕ) (t : Option ℕ) → r ≡ 0 → 1 ≤ q → SomeIff t (q ≤ 4294967295) q → t ≡ kept r q
kept_if r q (Some x) z l o = rw (z, o.1) (kept-fit q l o.0)
kept_if r q None z l o = rw z (kept_large 0 q (omega arith))

-- The code's ways out: k is how far the field is from 16,446, and u the power of two as the code has it.
power : (k u : ℕ) → k < 64 → u ≡ (1 * 2 ^ k) % 2 ^ 64 → u ≡ 2 ^ k
power k u l e = e ∙ shl_exact {a = 1} 1 k 64 (omega arith) (omega arith) ∙ one-mul (2 ^ k)

module _ (m e : ℕ) where
  pub none_of_zero : m ≡ 0 → None ≡ whole_of (numerator m e)
  none_of_zero h = rw h (zero-none e)

  module _ (l : e < 16446) where
    pub none_of_few : (16446 - e < 64 → ⊥) → m < 2 ^ 64 → None ≡ whole_of (numerator m e)
    none_of_few h s =
        let k : 64 ≤ 16446 - e = omega arith in
        let p : m < 2 ^ (16446 - e) = lt_of_lt_of_le s (pow_mono k) in
        rw (below m e (16446 - e) (omega arith), div-eq_of_lt p) (kept_none (m % 2 ^ (16446 - e)))

    module _ (u : ℕ) (s : 16446 - e < 64) (eu : u ≡ (1 * 2 ^ (16446 - e)) % 2 ^ 64) where
      parted : whole_of (numerator m e) ≡ kept (m % u) (m / u)
      parted = below m e (16446 - e) (omega arith) ∙ rw (power (16446 - e) u s eu)

      pub none_of_left : (m % u ≡ 0 → ⊥) → None ≡ whole_of (numerator m e)
      none_of_left h = rw parted (kept_left (m % u) (m / u) h)

      pub part_if : (t : Option ℕ) → m % u ≡ 0 → (m ≡ 0 → ⊥) → SomeIff t (m / u ≤ 4294967295) (m / u) → t ≡ whole_of (numerator m e)
      part_if t z n o =
          let d : m / u * u + m % u ≡ m = div-add-mod' m u in
          let q : (m / u ≡ 0 → ⊥) = λ y. n (sym d ∙ rw (y, z) (add-zero (0 * u) ∙ zero-mul u)) in
          rw parted (kept_if (m % u) (m / u) t z (omega arith) o)

  module _ (g : 16446 ≤ e) (n : m ≡ 0 → ⊥) where
    pub none_of_many : (e - 16446 < 64 → ⊥) → None ≡ whole_of (numerator m e)
    none_of_many h =
        let k : 64 ≤ e - 16446 = omega arith in
        let p : 2 ^ 64 ≤ 2 ^ (e - 16446) = pow_mono k in
        let q : 1 ≤ m = omega arith in
        let r : 1 * 2 ^ 64 ≤ m * 2 ^ (e - 16446) = mul-le-mul q p in
        let l : 4294967295 < m * 2 ^ (e - 16446) = omega arith in
        rw (above m e (e - 16446) (omega arith)) (kept_large 0 (m * 2 ^ (e - 16446)) l)

    module _ (u : ℕ) (s : e - 16446 < 64) (eu : u ≡ (1 * 2 ^ (e - 16446)) % 2 ^ 64) where
      timed : whole_of (numerator m e) ≡ kept 0 (m * u)
      timed = above m e (e - 16446) (omega arith) ∙ rw (power (e - 16446) u s eu)

      pub none_of_large : (m * u < 2 ^ 64 → ⊥) → None ≡ whole_of (numerator m e)
      none_of_large h = rw timed (kept_large 0 (m * u) (omega arith))

      pub times_if : (t : Option ℕ) (q : ℕ) → q ≡ m * u → SomeIff t (q ≤ 4294967295) q → t ≡ whole_of (numerator m e)
      times_if t q eq o =
          let a : 0 < u = rw (power (e - 16446) u s eu) (pow_pos (e - 16446)) in
          let b : 0 < m * u = mul-pos (omega arith) a in
          rw (timed, ← eq) (kept_if 0 q t refl (omega arith) o)

-- halving and doubling the significand keep the numerator
pub halve : (m e : ℕ) → m % 2 ≡ 0 → numerator (m / 2) (e + 1) ≡ numerator m e
unfolding numerator
halve m e h =
    let q : m / 2 * 2 ≡ m = omega arith in
    rw (add-one e, pow-suc 2 e, mul_comm (2 ^ e) 2, ← mul_assoc (m / 2) 2 (2 ^ e), q)

pub double : (m e : ℕ) → 0 < e → numerator (m * 2) (e - 1) ≡ numerator m e
unfolding numerator
double m zero h = absurd (omega arith)
double m (suc k) h =
    let q : suc k - 1 ≡ k = omega arith in
    rw (q, pow-suc 2 k, mul_comm (2 ^ k) 2, mul_assoc m 2 (2 ^ k))

-- what a power of two divides, 2 divides
even : (m j : ℕ) → m % 2 ^ suc j ≡ 0 → m % 2 ≡ 0
even m j z =
    let e : m % (2 ^ j * 2) ≡ m / 2 % 2 ^ j * 2 + m % 2 = mod-mul m (pow_pos j) (omega arith) in
    let y : m % (2 ^ j * 2) ≡ 0 = rw pow-suc at z in
    omega arith

pub odd-none : (m e : ℕ) → e < 16446 → (m % 2 ≡ 0 → ⊥) → None ≡ whole_of (numerator m e)
odd-none m e l h =
    let j : ℕ = 16446 - e - 1 in
    rw (below m e (suc j) (omega arith)) (kept_left (m % 2 ^ suc j) (m / 2 ^ suc j) (λ z. h (even m j z)))

pub large_none : (m e : ℕ) → 16446 < e → 2147483647 < m → None ≡ whole_of (numerator m e)
large_none m e l h =
    let j : ℕ = e - 16446 - 1 in
    let p : 1 ≤ suc j = omega arith in
    let a : 2 ^ 1 ≤ 2 ^ suc j = pow_mono p in
    let b : 2147483648 ≤ m = omega arith in
    let c : 2147483648 * 2 ^ 1 ≤ m * 2 ^ suc j = mul-le-mul b a in
    let d : 4294967295 < m * 2 ^ suc j = omega arith in
    rw (above m e (suc j) (omega arith)) (kept_large 0 (m * 2 ^ suc j) d)

-- the rate's own branches
module _ (sign e m : ℕ) where
  pub negative : (sign ≡ 0 → ⊥) → None ≡ rate_of sign e m
  unfolding rate_of
  negative h = rw (ne_eqb sign 0 h)

  pub positive : sign ≡ 0 → whole_of (numerator m e) ≡ rate_of sign e m
  unfolding rate_of
  positive h = rw (eq-eqb sign 0 h)

pub rd16-at : (s : List ℕ) (at : ℕ) → rd16 (drop at s) ≡ get_or s at 0 * 256 + get_or s (at + 1) 0
unfolding rd16
rd16-at s at = rw (get_or-drop at s 0 0, get_or-drop at s 1 0, add-zero at)

-- What the definition means, both ways: the rate is r exactly if the value is r.
pub exactly_rate : (sign e m r : ℕ) → Exactly sign e m r → rate_of sign e m ≡ Some r
unfolding numerator denominator
exactly_rate sign e m r x =
    let n : (r ≡ 0 → ⊥) = λ z. omega (arith, x.least) in
    sym (positive sign e m x.clear) ∙ rw x.equal (sym (range_whole r n x.most))

taken : (a : Bool) (x r : ℕ) → cond a (Some x) None ≡ Some r → (a ≡ true) × (x ≡ r)
taken true x r e = (refl, cc)
taken false x r e = cc

pub whole_exactly : (n r : ℕ) → whole_of n ≡ Some r → (n ≡ r * denominator) × (1 ≤ r) × (r ≤ 4294967295)
unfolding whole_of
whole_exactly n r e =
    let t = taken _ (n / denominator) r e in
    let a = and_both (eqb (n % denominator) 0 && leb 1 (n / denominator)) (leb (n / denominator) 4294967295) t.0 in
    let b = and_both (eqb (n % denominator) 0) (leb 1 (n / denominator)) a.0 in
    let z : n % denominator ≡ 0 = eqb-true _ _ b.0 in
    let d : n / denominator * denominator + n % denominator ≡ n = div-add-mod' n denominator in
    let d2 : n / denominator * denominator ≡ n = omega arith in
    let l : 1 ≤ n / denominator = leb-true _ _ b.1 in
    let g : n / denominator ≤ 4294967295 = leb-true _ _ a.1 in
    (sym d2 ∙ ap (λ (x : ℕ). x * denominator) t.1, rw t.1 at l, rw t.1 at g)

signed : (b : Bool) (w : Option ℕ) (r : ℕ) → cond b w None ≡ Some r → (b ≡ true) × (w ≡ Some r)
signed true w r e = (refl, e)
signed false w r e = cc

pub rate_exactly : (sign e m r : ℕ) → rate_of sign e m ≡ Some r → Exactly sign e m r
unfolding rate_of numerator denominator
rate_exactly sign e m r h =
    let t = signed (eqb sign 0) (whole_of (numerator m e)) r h in
    let w = whole_exactly (numerator m e) r t.1 in
    record { clear = eqb-true _ _ t.0; least = w.1; most = w.2; equal = w.0 }

pub rate_least : (s : List ℕ) (r : ℕ) → rate_in s ≡ Some r → 1 ≤ r
unfolding rate_in
rate_least s r e = (rate_exactly _ _ _ r e).least
