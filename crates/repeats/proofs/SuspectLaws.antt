-- What a round needs of its suspects: one more of them, one entry more that is none of them, and what the two say of the block. k gives the key of an
-- entry by its number.
use Prim.Native.Nat.{ℕ, ◌+◌, ◌≤◌, ◌<◌}
use mathlib.Core.Path.{◌≡◌, refl, ap, sym, ◌∙◌, subst}
use mathlib.Core.Bool.{true, false, ◌||◌, false≢true}
use mathlib.Core.List.{List}
use mathlib.Core.Logic.{⊎_elim}
use native.Mathlib.Omega.{arith}
use native.Mathlib.Numerals.{add-one}
use native.Mathlib.Nat.{eq-or-lt_of_le, le_of_suc-le-suc}
use lib.Dec.{eqb}
use lib.ListN.{length, get_or, set}
use lib.Seq.{get_or-set_same, get_or-set_other}
use Rattle.repeats.specs.Marks.{word_of, bits_of, Covers, Marked}
use Rattle.repeats.specs.Repeats.{among, Apart, Across}
use Rattle.repeats.specs.Suspects.{held, Caught, Earlier, Free, RepeatsHeld, Once}
use Rattle.repeats.proofs.Answers.{among_hit, among-earlier}
use Rattle.blorb.proofs.NumberLaws.{below?}

-- one suspect more is looked at
pub held_none : (xs : List ℕ) (v : ℕ) → false ≡ held xs 0 v
unfolding held among
held_none xs v = refl

pub held_next : (xs : List ℕ) (n v : ℕ) → (eqb (get_or xs n 0) v || held xs n v) ≡ held xs (n + 1) v
unfolding held among
held_next xs n v = rw (add-one n)

-- one suspect more is written
held_kept : (xs : List ℕ) (n m v u : ℕ) → n < length xs → n ≤ m → held xs n u ≡ true → held (set xs n v) m u ≡ true
unfolding held
held_kept xs n m v u h g q =
    let e = among-earlier (λ c. get_or xs c 0) u n q in
    let l = e.1.0 in
    among_hit (λ c. get_or (set xs n v) c 0) u m e.0 (omega (arith, l)) (get_or-set_other xs n e.0 v 0 (λ p. absurd (omega (arith, l, p))) ∙ e.1.1)

held-own : (xs : List ℕ) (n m v : ℕ) → n < length xs → n < m → held (set xs n v) m v ≡ true
unfolding held
held-own xs n m v h g = among_hit (λ c. get_or (set xs n v) c 0) v m n g (get_or-set_same xs n v 0 h)

-- the marks of a key, under another name for it
cover_at : (ms : List ℕ) (f v w : ℕ) → w ≡ word_of f v → (u : ℕ) → u ≡ v → Covers (get_or ms (word_of f u) 0) (bits_of f u)
    → Covers (get_or ms w 0) (bits_of f v)
cover_at ms f v w p u s q =
    subst (λ (j : ℕ). Covers (get_or ms j 0) (bits_of f v)) (sym p) (subst (λ (j : ℕ). Covers (get_or ms (word_of f j) 0) (bits_of f j)) s q)

module _ (k : ℕ → ℕ) where
  pub caught_none : (ms : List ℕ) (f : ℕ) (xs : List ℕ) (n a : ℕ) → Caught ms f xs n k a a
  unfolding Caught
  caught_none ms f xs n a i l m q = absurd (omega arith)

  pub caught_more : (ms : List ℕ) (f : ℕ) (xs : List ℕ) (n m a i v w : ℕ) → v ≡ k i → w ≡ word_of f v → n < length xs → n ≤ m
      → (Covers (get_or ms w 0) (bits_of f v) → n < m) → Caught ms f xs n k a i → Caught ms f (set xs n v) m k a (i + 1)
  unfolding Caught
  caught_more ms f xs n m a i v w e p h g t c x l y q =
      ⊎_elim
      (λ (z : x ≡ i).
      let s : k x ≡ v = ap k z ∙ sym e in
      subst (λ (j : ℕ). held (set xs n v) m j ≡ true) (sym s) (held-own xs n m v h (t (cover_at ms f v w p (k x) s q))))
      (λ (z : x < i). held_kept xs n m v (k x) h g (c x l z q))
      (eq-or-lt_of_le (le_of_suc-le-suc (subst (λ (z : ℕ). x < z) (add-one i) y)))

  pub earlier-none : (xs : List ℕ) (b : ℕ) → Earlier xs 0 k b
  unfolding Earlier
  earlier-none xs b c l = absurd (omega arith)

  pub earlier_more : (xs : List ℕ) (n m b i v : ℕ) → v ≡ k i → i < b → n < length xs → m ≤ n + 1 → Earlier xs n k b → Earlier (set xs n v) m k b
  unfolding Earlier
  earlier_more xs n m b i v e l h g r c y =
      ⊎_elim
      (λ (z : c ≡ n). subst (λ (x : ℕ). among k x b ≡ true) (sym (ap (λ (x : ℕ). get_or (set xs n v) x 0) z ∙ get_or-set_same xs n v 0 h))
      (among_hit k v b i l (sym e)))
      (λ (z : c < n). subst (λ (x : ℕ). among k x b ≡ true) (sym (get_or-set_other xs n c v 0 (λ p. absurd (omega arith)))) (r c z))
      (eq-or-lt_of_le (omega arith))

  pub free_none : (xs : List ℕ) (n b : ℕ) → Free xs n k b b
  unfolding Free
  free_none xs n b j l m = absurd (omega arith)

  pub free_empty : (xs : List ℕ) (n b e : ℕ) → n ≡ 0 → Free xs n k b e
  unfolding Free held among
  free_empty xs n b e z j l m = ap (λ (x : ℕ). held xs x (k j)) z

  pub free_more : (xs : List ℕ) (n b j v : ℕ) → v ≡ k j → held xs n v ≡ false → Free xs n k b j → Free xs n k b (j + 1)
  unfolding Free
  free_more xs n b j v e q f x l m =
      ⊎_elim
      (λ (z : x ≡ j). subst (λ (y : ℕ). held xs n y ≡ false) (e ∙ ap k (sym z)) q)
      (λ (z : x < j). f x l z)
      (eq-or-lt_of_le (le_of_suc-le-suc (subst (λ (z : ℕ). x < z) (add-one j) m)))

  -- an earlier entry of the round has a block's key only if it is a suspect
  pub across_round : (ms : List ℕ) (f : ℕ) (xs : List ℕ) (n a m b best r : ℕ) → Across k a b best → r ≤ best → Marked ms f k b best
      → Caught ms f xs n k a m → Free xs n k b r → Across k m b r
  unfolding Across Marked Caught Free
  across_round ms f xs n a m b best r d h w c g i j l o u q =
      ⊎_elim
      (λ (x : i < a). d i j x o (omega arith) q)
      (λ (x : a ≤ i).
      let s : Covers (get_or ms (word_of f (k i)) 0) (bits_of f (k i))
      = subst (λ (z : ℕ). Covers (get_or ms (word_of f z) 0) (bits_of f z)) (sym q) (w j o (omega arith)) in
      false≢true (sym (g j o u) ∙ subst (λ (z : ℕ). held xs n z ≡ true) q (c i x l s)))
      (below? i a)

  pub held-among : (xs : List ℕ) (n b r : ℕ) → Earlier xs n k b → b ≤ r → held xs n (k r) ≡ true → among k (k r) r ≡ true
  unfolding Earlier held
  held-among xs n b r d h q =
      let e = among-earlier (λ c. get_or xs c 0) (k r) n q in
      let g = among-earlier k (get_or xs e.0 0) b (d e.0 e.1.0) in
      let l = g.1.0 in
      among_hit k (k r) r g.0 (omega (arith, l)) (g.1.1 ∙ e.1.1)

  -- repeats inside a block
  pub repeats-none : (xs : List ℕ) (n b a : ℕ) → RepeatsHeld xs n k b a a
  unfolding RepeatsHeld
  repeats-none xs n b a i j l m g h q = absurd (omega arith)

  pub repeats_more : (ms : List ℕ) (f : ℕ) (xs : List ℕ) (n m b a i v w : ℕ) → v ≡ k i → w ≡ word_of f v → n < length xs → n ≤ m
      → (Covers (get_or ms w 0) (bits_of f v) → n < m) → Marked ms f k b i → RepeatsHeld xs n k b a i → RepeatsHeld (set xs n v) m k b a (i + 1)
  unfolding RepeatsHeld Marked
  repeats_more ms f xs n m b a i v w e p h g t d r x y l o u z q =
      ⊎_elim
      (λ (j : y ≡ i).
      let s : k y ≡ v = ap k j ∙ sym e in
      subst (λ (c : ℕ). held (set xs n v) m c ≡ true) (sym s) (held-own xs n m v h (t (cover_at ms f v w p (k x) (q ∙ s) (d x l (omega arith))))))
      (λ (j : y < i). held_kept xs n m v (k y) h g (r x y l o u j q))
      (eq-or-lt_of_le (le_of_suc-le-suc (subst (λ (c : ℕ). y < c) (add-one i) z)))

  pub apart_round : (xs : List ℕ) (n b a m r : ℕ) → Apart k b a → RepeatsHeld xs n k b a m → Once xs n k b r → r ≤ m → Apart k b r
  unfolding Apart RepeatsHeld Once
  apart_round xs n b a m r d h o g i j l u z q =
      ⊎_elim (λ (x : j < a). d i j l u x q) (λ (x : a ≤ j). o i j l u z q (h i j l u x (omega arith) q)) (below? j a)
