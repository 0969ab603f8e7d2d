-- Laws of the order of pairs, and of pairs of numbers of 32 bits as one number each.
use mathlib.Core.Path.{◌≡◌, refl, sym}
use Prim.Native.Nat.{ℕ, zero, suc, ◌+◌, ◌*◌, ◌≤◌, ◌<◌}
use mathlib.Core.List.{List, [], ◌∷◌}
use mathlib.Core.Bool.{Bool, true, false, ◌&&◌, ◌||◌}
use mathlib.Core.Logic.{◌⊎◌, inl, inr}
use native.Mathlib.Omega.{arith}
use native.Mathlib.Nat.{not-suc-le-zero, le_of_suc-le-suc}
use lib.ListN.{length, get_or}
use lib.Dec.{eqb, ltb}
use borrow.Author.Tests.{lt-ltb, le-ltb, ltb-true, ltb-false, eq-eqb, ne_eqb, eqb-true, eqb-false}
use Rattle.blorb.specs.Format.{Entry}
use Rattle.blorb.proofs.AllLaws.{all_get_d}
use Rattle.blorb.proofs.NumberLaws.{same?, key-eqb}
use Rattle.blorb.proofs.Checks.{and_both}
use Rattle.rows.specs.Order.{before, is_pair, Below, Rising}
use Rattle.rows.specs.Bridging.{one}
use mir.Val.{bool_byte}

-- the pair (a, b) is less than (u, n)
abbrev pub Less : ℕ → ℕ → ℕ → ℕ → Type 0
Less a b u n = (a < u) ⊎ ((a ≡ u) × (b < n))

pub less-before : (a b u n : ℕ) → Less a b u n → before a b u n ≡ true
less-before a b u n (inl h) = rw (lt-ltb a u h)
less-before a b u n (inr h) = let p : u ≤ a = omega arith in rw (le-ltb a u p, eq-eqb a u h.0, lt-ltb b n h.1)

before_go : (a b u n : ℕ) (p q r : Bool) → ltb a u ≡ p → eqb a u ≡ q → ltb b n ≡ r → p || (q && r) ≡ true → Less a b u n
before_go a b u n true q r hp hq hr e = inl (ltb-true a u hp)
before_go a b u n false true true hp hq hr e = inr (eqb-true a u hq, ltb-true b n hr)
before_go a b u n false true false hp hq hr e = let z : ◌≡◌ {A = ℕ} 0 1 = cc in absurd (omega arith)
before_go a b u n false false r hp hq hr e = let z : ◌≡◌ {A = ℕ} 0 1 = cc in absurd (omega arith)

pub before-less : (a b u n : ℕ) → before a b u n ≡ true → Less a b u n
before-less a b u n e = before_go a b u n (ltb a u) (eqb a u) (ltb b n) refl refl refl e

-- of two pairs the one that is not less is greater, or the same
after : (a b u n : ℕ) → u ≤ a → (a ≡ u → n ≤ b) → Less u n a b ⊎ ((a ≡ u) × (b ≡ n))
after a b u n h g = go (same? a u) (same? b n)
  where
    go : (a ≡ u) ⊎ (a ≡ u → ⊥) → (b ≡ n) ⊎ (b ≡ n → ⊥) → Less u n a b ⊎ ((a ≡ u) × (b ≡ n))
    go (inr e) y = inl (inl (omega arith))
    go (inl e) (inr y) = let l : n ≤ b = g e in inl (inr (sym e, omega arith))
    go (inl e) (inl y) = inr (e, y)

after_go : (a b u n : ℕ) (p q r : Bool) → ltb a u ≡ p → eqb a u ≡ q → ltb b n ≡ r → p || (q && r) ≡ false → Less u n a b ⊎ ((a ≡ u) × (b ≡ n))
after_go a b u n true q r hp hq hr e = let z : ◌≡◌ {A = ℕ} 0 1 = cc in absurd (omega arith)
after_go a b u n false true true hp hq hr e = let z : ◌≡◌ {A = ℕ} 0 1 = cc in absurd (omega arith)
after_go a b u n false true false hp hq hr e = after a b u n (ltb-false a u hp) (λ w. ltb-false b n hr)
after_go a b u n false false r hp hq hr e = after a b u n (ltb-false a u hp) (λ w. absurd (eqb-false a u hq w))

-- a pair that is not before another is after it, or the same
pub before_not : (a b u n : ℕ) → before a b u n ≡ false → Less u n a b ⊎ ((a ≡ u) × (b ≡ n))
before_not a b u n e = after_go a b u n (ltb a u) (eqb a u) (ltb b n) refl refl refl e

pub less_not : (a b u n : ℕ) → Less u n a b ⊎ ((a ≡ u) × (b ≡ n)) → before a b u n ≡ false
less_not a b u n (inl (inl h)) = let p : u ≤ a = omega arith in let q : eqb a u ≡ false = ne_eqb a u (λ e. omega arith) in rw (le-ltb a u p, q)
less_not a b u n (inl (inr h)) = let p : u ≤ a = omega arith in let q : n ≤ b = omega arith in rw (le-ltb a u p, eq-eqb a u (sym h.0), le-ltb b n q)
less_not a b u n (inr h) = let p : u ≤ a = omega arith in let q : n ≤ b = omega arith in rw (le-ltb a u p, eq-eqb a u h.0, le-ltb b n q)

pub less_trans : (a b c d u n : ℕ) → Less a b c d → Less c d u n → Less a b u n
less_trans a b c d u n (inl p) (inl q) = inl (omega arith)
less_trans a b c d u n (inl p) (inr q) = inl (omega arith)
less_trans a b c d u n (inr p) (inl q) = inl (omega arith)
less_trans a b c d u n (inr p) (inr q) = inr (omega arith)

pub less_irreflexive : (a b : ℕ) → Less a b a b → ⊥
less_irreflexive a b (inl p) = omega arith
less_irreflexive a b (inr p) = omega arith

pub before_trans : (a b c d u n : ℕ) → before a b c d ≡ true → before c d u n ≡ true → before a b u n ≡ true
before_trans a b c d u n p q = less-before a b u n (less_trans a b c d u n (before-less a b c d p) (before-less c d u n q))

-- the same pair
pub pair_true : (u n : ℕ) (e : Entry) → is_pair u n e ≡ true → (e.usage ≡ u) × (e.number ≡ n)
pair_true u n e h = let p = and_both _ _ h in (eqb-true _ _ p.0, eqb-true _ _ p.1)

pub pair_is : (u n : ℕ) (e : Entry) → e.usage ≡ u → e.number ≡ n → is_pair u n e ≡ true
pair_is u n e p q = rw (eq-eqb e.usage u p, eq-eqb e.number n q)

pub pair_not : (u n : ℕ) (e : Entry) → ((e.usage ≡ u) × (e.number ≡ n) → ⊥) → is_pair u n e ≡ false
pair_not u n e h = go (eqb e.usage u) (eqb e.number n) refl refl
  where
    go : (p q : Bool) → eqb e.usage u ≡ p → eqb e.number n ≡ q → p && q ≡ false
    go true true x y = absurd (h (eqb-true _ _ x, eqb-true _ _ y))
    go true false x y = refl
    go false q x y = refl

pub pair_false : (u n : ℕ) (e : Entry) → is_pair u n e ≡ false → (e.usage ≡ u) × (e.number ≡ n) → ⊥
pair_false u n e h s = let w : ◌≡◌ {A = ℕ} 0 1 = cc (h, pair_is u n e s.0 s.1) in omega arith

module _ (a b u n : ℕ) (hb : b < 4294967296) (hn : n < 4294967296) where
  key-less : a * 4294967296 + b < u * 4294967296 + n → (t : Bool) → ltb a u ≡ t → Less a b u n
  key-less l true e = inl (ltb-true a u e)
  key-less l false e = inr (omega (arith, ltb-false a u e), omega (arith, ltb-false a u e))

  pub key-before : a * 4294967296 + b < u * 4294967296 + n → before a b u n ≡ true
  key-before l = less-before a b u n (key-less l (ltb a u) refl)

  pub key-same : a * 4294967296 + b ≡ u * 4294967296 + n → (a ≡ u) × (b ≡ n)
  key-same e = omega arith

  pub key_differ : (a * 4294967296 + b ≡ u * 4294967296 + n → ⊥) → (a ≡ u) × (b ≡ n) → ⊥
  key_differ h s = h (omega arith)

module _ (a b u n : ℕ) (hb : b < 4294967296) (hn : n < 4294967296) where
  pub key_not : u * 4294967296 + n ≤ a * 4294967296 + b → before a b u n ≡ false
  key_not l = less_not a b u n (after a b u n (omega arith) (λ e. omega arith))

pub rising-at : (es : List Entry) (d : Entry) (i k : ℕ) → Rising es → i < k → k < length es → Below (get_or es i d) (get_or es k d)
unfolding Rising
rising-at [] d i k h l m = absurd (not-suc-le-zero m)
rising-at (e ∷ es) d i zero h l m = absurd (not-suc-le-zero l)
rising-at (e ∷ es) d zero (suc k) h l m = all_get_d (Below e) es k d h.0 (le_of_suc-le-suc m)
rising-at (e ∷ es) d (suc i) (suc k) h l m = rising-at es d i k h.1 (le_of_suc-le-suc l) (le_of_suc-le-suc m)

-- what holds of each number below i, and of i, holds of each below i + 1
pub more : (P : ℕ → Type 0) (i : ℕ) → ((k : ℕ) → k < i → P k) → P i → (k : ℕ) → k < i + 1 → P k
more P i h p k l = go (ltb k i) refl
  where
    go : (b : Bool) → ltb k i ≡ b → P k
    go true e = h k (ltb-true k i e)
    go false e = let q : k ≡ i = omega (arith, ltb-false k i e) in rw q p

pub same-entry : (x y : Entry) → x.usage ≡ y.usage → x.number ≡ y.number → x.start ≡ y.start → x ≡ y
same-entry x y a b d = λ i. record { usage = a i; number = b i; start = d i }

pub ltb-key : (a b u n : ℕ) → b < 4294967296 → n < 4294967296 → ltb (a * 4294967296 + b) (u * 4294967296 + n) ≡ before a b u n
ltb-key a b u n hb hn = go (ltb (a * 4294967296 + b) (u * 4294967296 + n)) refl
  where
    go : (c : Bool) → ltb (a * 4294967296 + b) (u * 4294967296 + n) ≡ c → c ≡ before a b u n
    go true e = sym (key-before a b u n hb hn (ltb-true _ _ e))
    go false e = sym (key_not a b u n hb hn (ltb-false _ _ e))

pub eqb-key : (u n : ℕ) (e : Entry) → e.number < 4294967296 → n < 4294967296 → eqb (e.usage * 4294967296 + e.number) (u * 4294967296 + n) ≡ is_pair u n e
eqb-key u n e hb hn = key-eqb e.usage e.number u n hb hn

-- a test that is counted
pub one_small : (b : Bool) → one b ≤ 1
one_small true = omega arith
one_small false = omega arith

pub counted : (b : Bool) → bool_byte b ≡ one b
counted true = refl
counted false = refl
