-- What the first repeat is, from the keys to the answer and back: the search goes up entry by entry, so it stops at the first whose key is among the
-- earlier ones, and ends with nothing where no two keys are the same.
use Prim.Native.Nat.{ℕ, zero, suc, ◌+◌, ◌≤◌, ◌<◌}
use mathlib.Core.Path.{◌≡◌, refl, ap, sym, ◌∙◌, subst}
use mathlib.Core.Bool.{Bool, true, false, ◌||◌, or-true, false≢true}
use mathlib.Core.Logic.{⊎_elim}
use native.Mathlib.Omega.{arith}
use native.Mathlib.Nat.{eq-or-lt_of_le, le_of_suc-le-suc}
use borrow.Author.Tests.{eq-eqb, ne_eqb, eqb-true}
use lib.Dec.{eqb}
use Rattle.std.specs.Prelude.{Some, None}
use Rattle.repeats.specs.Repeats.{among, pick_first, repeat_from, first_repeat_of, Apart}

module _ (k : ℕ → ℕ) where
  pub among_none : (v n : ℕ) → ((i : ℕ) → i < n → k i ≡ v → ⊥) → among k v n ≡ false
  unfolding among
  among_none v zero h = refl
  among_none v (suc n) h = rw (ne_eqb (k n) v (h n (omega arith)), among_none v n (λ i l. h i (omega arith)))

  pub among_hit : (v n i : ℕ) → i < n → k i ≡ v → among k v n ≡ true
  unfolding among
  among_hit v zero i l e = absurd (omega arith)
  among_hit v (suc n) i l e =
      ⊎_elim
      (λ q. rw (eq-eqb (k n) v (ap k (sym q) ∙ e)))
      (λ m. rw (among_hit v n i m e) (or-true (eqb (k n) v)))
      (eq-or-lt_of_le (le_of_suc-le-suc l))

  -- the answer
  first_from : (n a j : ℕ) → a ≤ j → j < a + n → Apart k 0 j → among k (k j) j ≡ true → Some j ≡ repeat_from k n a
  unfolding repeat_from Apart
  first_from zero a j h l d e = absurd (omega arith)
  first_from (suc n) a j h l d e =
      ⊎_elim
      (λ q. subst (λ (x : ℕ). Some j ≡ repeat_from k (suc n) x) (sym q) (rw e))
      (λ m. rw (among_none (k a) a (λ i x. d i a (omega arith) x m)) (first_from n (suc a) j m (omega arith) d e))
      (eq-or-lt_of_le h)

  none_from : (n a e : ℕ) → e ≡ a + n → Apart k 0 e → None ≡ repeat_from k n a
  unfolding repeat_from Apart
  none_from zero a e q d = refl
  none_from (suc n) a e q d =
      rw (among_none (k a) a (λ i x. d i a (omega arith) x (omega arith))) (none_from n (suc a) e (omega arith) d)

  pub first-at : (n j : ℕ) → j < n → Apart k 0 j → among k (k j) j ≡ true → Some j ≡ first_repeat_of k n
  unfolding first_repeat_of
  first-at n j l d e = first_from n 0 j (omega arith) (omega arith) d e

  pub first-none : (n b : ℕ) → b ≤ n → n ≤ b → Apart k 0 b → None ≡ first_repeat_of k n
  unfolding first_repeat_of
  first-none n b h g d = none_from n 0 b (omega arith) d

  pub at_answer : (n j : ℕ) → j < n → Apart k 0 j → among k (k j) j ≡ true → first_repeat_of k n ≡ Some j
  at_answer n j l d e = sym (first-at n j l d e)

  pub nothing_answer : (n : ℕ) → Apart k 0 n → first_repeat_of k n ≡ None
  nothing_answer n d = sym (first-none n n (omega arith) (omega arith) d)

  -- and back from the answer: the entry has a key that is among the earlier ones, and each before it, from the a-th on, has not
  abbrev Stops : ℕ → ℕ → ℕ → Type 0
  Stops n a j = (j < a + n) × (among k (k j) j ≡ true) × ((m : ℕ) → a ≤ m → m < j → among k (k m) m ≡ false)

  at-step : (n a j : ℕ) (b : Bool) → among k (k a) a ≡ b → ((x : ℕ) → repeat_from k n x ≡ Some j → Stops n x j)
      → pick_first b a (λ next. repeat_from k n next) (suc a) ≡ Some j → Stops (suc n) a j
  at-step n a j true e ih q =
      let p : a ≡ j = cc in
      (omega arith, subst (λ (x : ℕ). among k (k x) x ≡ true) p e, λ m l h. absurd (omega arith))
  at-step n a j false e ih q =
      let h = ih (suc a) q in (
        omega (arith, h.0),
        h.1,
        λ m l u. ⊎_elim (λ (p : a ≡ m). subst (λ (x : ℕ). among k (k x) x ≡ false) p e) (λ (v : a < m). h.2 m v u) (eq-or-lt_of_le l),
      )

  at_from : (n a j : ℕ) → repeat_from k n a ≡ Some j → Stops n a j
  unfolding repeat_from
  at_from zero a j q = cc
  at_from (suc n) a j q = at-step n a j (among k (k a) a) refl (λ x. at_from n x j) q

  -- no entry's key is among the earlier ones: no two are the same
  all_apart : (e : ℕ) → ((m : ℕ) → m < e → among k (k m) m ≡ false) → Apart k 0 e
  unfolding Apart
  all_apart e h i j z l m q = false≢true (sym (h j m) ∙ among_hit (k j) j i l q)

  pub answer_at : (n j : ℕ) → first_repeat_of k n ≡ Some j → (j < n) × (among k (k j) j ≡ true) × Apart k 0 j
  unfolding first_repeat_of
  answer_at n j q = let h = at_from n 0 j q in (omega (arith, h.0), h.1, all_apart j (λ m l. h.2 m (omega arith) l))

  -- the earlier entry that has the key
  pub among-earlier : (v n : ℕ) → among k v n ≡ true → (i : ℕ) × ((i < n) × (k i ≡ v))
  unfolding among
  among-earlier v zero q = absurd (false≢true q)
  among-earlier v (suc n) q = go (eqb (k n) v) refl q (among-earlier v n)
    where
      go : (b : Bool) → eqb (k n) v ≡ b → b || among k v n ≡ true → (among k v n ≡ true → (i : ℕ) × ((i < n) × (k i ≡ v)))
          → (i : ℕ) × ((i < suc n) × (k i ≡ v))
      go true e h ih = (n, (omega arith, eqb-true _ _ e))
      go false e h ih = let r = ih h in (r.0, (omega (arith, r.1.0), r.1.1))

  none-step : (n a : ℕ) (b : Bool) → among k (k a) a ≡ b → ((x : ℕ) → repeat_from k n x ≡ None → (j : ℕ) → x ≤ j → j < x + n → among k (k j) j ≡ false)
      → pick_first b a (λ next. repeat_from k n next) (suc a) ≡ None → (j : ℕ) → a ≤ j → j < a + suc n → among k (k j) j ≡ false
  none-step n a true e ih q j h l = cc
  none-step n a false e ih q j h l =
      ⊎_elim
      (λ (p : a ≡ j). subst (λ (x : ℕ). among k (k x) x ≡ false) p e)
      (λ (m : a < j). ih (suc a) q j m (omega arith))
      (eq-or-lt_of_le h)

  none-back : (n a : ℕ) → repeat_from k n a ≡ None → (j : ℕ) → a ≤ j → j < a + n → among k (k j) j ≡ false
  unfolding repeat_from
  none-back zero a q j h l = absurd (omega arith)
  none-back (suc n) a q j h l = none-step n a (among k (k a) a) refl (λ x. none-back n x) q j h l

  pub answer_nothing : (n : ℕ) → first_repeat_of k n ≡ None → Apart k 0 n
  unfolding first_repeat_of
  answer_nothing n q = all_apart n (λ m l. none-back n 0 q m (omega arith) (omega arith))
