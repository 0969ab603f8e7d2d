-- What each turn of the loops needs: one entry more is apart from, across or without the others. k gives the key of an entry by its number.
use Prim.Native.Nat.{ℕ, ◌+◌, ◌≤◌, ◌<◌}
use mathlib.Core.Path.{◌≡◌, ap, sym, ◌∙◌, subst}
use mathlib.Core.Bool.{true}
use mathlib.Core.Logic.{⊎_elim}
use native.Mathlib.Omega.{arith}
use native.Mathlib.Numerals.{add-one}
use native.Mathlib.Nat.{eq-or-lt_of_le, le_of_suc-le-suc}
use Rattle.repeats.specs.Repeats.{among, Apart, Across, Without, Below}
use Rattle.blorb.proofs.NumberLaws.{below?}

module _ (k : ℕ → ℕ) where
  -- one entry more
  pub apart_none : (b : ℕ) → Apart k b b
  unfolding Apart
  apart_none b i j l m n e = absurd (omega arith)

  pub apart_more : (b j : ℕ) → Apart k b j → Without k (k j) b j → Apart k b (j + 1)
  unfolding Apart Without
  apart_more b j d w x y l m n e =
      ⊎_elim
      (λ q. w x l (omega arith) (e ∙ ap k q))
      (λ z. d x y l m z e)
      (eq-or-lt_of_le (le_of_suc-le-suc (subst (λ (z : ℕ). y < z) (add-one j) n)))

  pub across_none : (b e : ℕ) → Across k 0 b e
  unfolding Across
  across_none b e i j l m n q = absurd (omega arith)

  pub apart_join : (b best end : ℕ) → Apart k 0 b → Across k b b best → Apart k b end → best ≤ end → Apart k 0 best
  unfolding Apart Across
  apart_join b best end d a w h i j l m n e =
      ⊎_elim
      (λ (x : j < b). d i j l m x e)
      (λ (x : b ≤ j). ⊎_elim (λ (y : i < b). a i j y x n e) (λ (y : b ≤ i). w i j y m (omega arith) e) (below? i b))
      (below? j b)

  pub apart_to : (b e : ℕ) → e ≤ b → Apart k 0 b → Apart k 0 e
  unfolding Apart
  apart_to b e h d i j l m n q = d i j l m (omega arith) q

  pub hit_among : (best end e : ℕ) → best ≤ end → best < e → (best < end → among k (k best) best ≡ true)
      → (end < e → among k (k end) end ≡ true) → among k (k best) best ≡ true
  hit_among best end e h l f g =
      ⊎_elim
      (λ q. subst (λ (z : ℕ). z < e → among k (k z) z ≡ true) (sym q) g l)
      f
      (eq-or-lt_of_le h)

  -- keys that rise
  pub apart_one : Apart k 0 1
  unfolding Apart
  apart_one i j l m n e = absurd (omega arith)

  pub below_one : (v : ℕ) → v ≡ k 0 → Below k v 1
  unfolding Below
  below_one v e i l = let q : i ≡ 0 = omega arith in subst (λ (z : ℕ). k z ≤ v) (sym q) (omega (arith, e))

  pub apart_rise : (top v j : ℕ) → v ≡ k j → top < v → Below k top j → Apart k 0 j → Apart k 0 (j + 1)
  unfolding Below Without
  apart_rise top v j e h b d = apart_more 0 j d (λ i l m q. let g = b i m in absurd (omega (arith, e, h, g, q)))

  pub below_rise : (top v j : ℕ) → v ≡ k j → top < v → Below k top j → Below k v (j + 1)
  unfolding Below
  below_rise top v j e h b i l =
      ⊎_elim
      (λ (q : i ≡ j). subst (λ (z : ℕ). k z ≤ v) (sym q) (omega (arith, e)))
      (λ (m : i < j). let g = b i m in omega (arith, g, h))
      (eq-or-lt_of_le (le_of_suc-le-suc (subst (λ (z : ℕ). i < z) (add-one j) l)))
