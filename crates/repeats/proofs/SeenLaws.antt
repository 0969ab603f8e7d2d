-- A suspect's key met a second time: each key that is met is marked as seen at the first suspect that has it, so it is found there again. k gives the key
-- of an entry by its number.
use Prim.Native.Nat.{ℕ, zero, suc, ◌+◌, ◌≤◌, ◌<◌}
use mathlib.Core.Path.{◌≡◌, refl, ap, sym, ◌∙◌, subst}
use mathlib.Core.Bool.{Bool, true, false, false≢true}
use mathlib.Core.List.{List}
use mathlib.Core.Logic.{⊎_elim}
use native.Mathlib.Omega.{arith}
use native.Mathlib.Numerals.{add-one}
use native.Mathlib.Nat.{eq-or-lt_of_le, le_of_suc-le-suc}
use borrow.Author.Tests.{eq-eqb, eqb-true, ltb-true, ltb-false}
use lib.Dec.{eqb, ltb}
use lib.ListN.{length, get_or, set, take, replicate}
use lib.Seq.{get_or-set_same, get_or-set_other, get_or-take, length-take-le}
use Rattle.std.specs.Prelude.{Some, None, cond}
use Rattle.std.specs.List.{position, position_or_len}
use Rattle.std.proofs.lemmas.List.Quantifiers.{position-Some}
use Rattle.std.proofs.lemmas.List.Sums.{fails_before_first, passes_at_first}
use Rattle.repeats.specs.Repeats.{among, Without}
use Rattle.repeats.specs.Suspects.{held, Once, SeenSome, SeenAll}
use Rattle.repeats.proofs.Answers.{among_hit, among-earlier}
use Rattle.blorb.proofs.NumberLaws.{same?, below?}

-- the first place of a suspect, as the library finds it
module _ (xs : List ℕ) (n v : ℕ) (h : n ≤ length xs) where
  abbrev is : ℕ → Bool
  is x = eqb x v

  place_in : position_or_len is (take n xs) < length (take n xs)
      → (position_or_len is (take n xs) < n) × (get_or xs (position_or_len is (take n xs)) 0 ≡ v)
  place_in l =
      let m : position_or_len is (take n xs) < n = omega (arith, l, length-take-le n xs h) in
      (m, sym (get_or-take n xs (position_or_len is (take n xs)) 0 m) ∙ eqb-true _ _ (passes_at_first is (take n xs) 0 l))

  pub position_none : held xs n v ≡ false → None ≡ position is (take n xs)
  unfolding held
  position_none q = go (ltb (position_or_len is (take n xs)) (length (take n xs))) refl
    where
      go : (b : Bool) → ltb (position_or_len is (take n xs)) (length (take n xs)) ≡ b → None ≡ cond b (Some (position_or_len is (take n xs))) None
      go true e = let p = place_in (ltb-true _ _ e) in absurd (false≢true (sym q ∙ among_hit (λ c. get_or xs c 0) v n _ p.0 p.1))
      go false e = refl

  pub none_there : None ≡ position is (take n xs) → Without (λ c. get_or xs c 0) v 0 n
  unfolding Without
  none_there q j l m e = go (ltb (position_or_len is (take n xs)) (length (take n xs))) refl q
    where
      go : (b : Bool) → ltb (position_or_len is (take n xs)) (length (take n xs)) ≡ b → None ≡ cond b (Some (position_or_len is (take n xs))) None → ⊥
      go true r z = cc
      go false r z =
          let f : j < position_or_len is (take n xs) = omega (arith, ltb-false _ _ r, length-take-le n xs h) in
          false≢true (sym (fails_before_first is (take n xs) j 0 f) ∙ eq-eqb _ _ (get_or-take n xs j 0 m ∙ e))

  pub first_there : (c : ℕ) → Some c ≡ position is (take n xs) → (c < n) × (get_or xs c 0 ≡ v) × Without (λ i. get_or xs i 0) v 0 c
  unfolding Without
  first_there c q =
      let p = position-Some is (take n xs) c 0 (sym q) in
      let m : c < n = omega (arith, p.0, length-take-le n xs h) in
      (m, sym (get_or-take n xs c 0 m) ∙ eqb-true _ _ p.1, λ j l b e. false≢true (sym (p.2 j b) ∙ eq-eqb _ _ (get_or-take n xs j 0 (omega arith) ∙ e)))

-- there is only one first place
one_place : (xs : List ℕ) (n v c x : ℕ) → c ≤ n → x < n → Without (λ y. get_or xs y 0) v 0 c → (c < n → get_or xs c 0 ≡ v)
    → Without (λ y. get_or xs y 0) v 0 x → get_or xs x 0 ≡ v → x ≡ c
unfolding Without
one_place xs n v c x h g w e u q =
    ⊎_elim
    (λ (l : x < c). absurd (w x (omega arith) l q))
    (λ (l : c ≤ x). ⊎_elim (λ (p : c ≡ x). sym p) (λ (p : c < x). absurd (u c (omega arith) p (e (omega arith)))) (eq-or-lt_of_le l))
    (below? x c)

unseen : (m c : ℕ) → get_or (replicate m false) c false ≡ false
unseen zero c = refl
unseen (suc m) zero = refl
unseen (suc m) (suc c) = unseen m c

module _ (k : ℕ → ℕ) where
  pub once_none : (xs : List ℕ) (n b : ℕ) → Once xs n k b b
  unfolding Once
  once_none xs n b i j l m g q h = absurd (omega arith)

  pub once_empty : (xs : List ℕ) (n b e : ℕ) → n ≡ 0 → Once xs n k b e
  unfolding Once held among
  once_empty xs n b e z i j l m g q h = false≢true (subst (λ (x : ℕ). held xs x (k j) ≡ true) z h)

  pub once_more : (seen : List Bool) (xs : List ℕ) (n b j c v : ℕ) → v ≡ k j → c ≤ n → Without (λ x. get_or xs x 0) v 0 c → (c < n → get_or xs c 0 ≡ v)
      → (c < n → get_or seen c false ≡ true → ⊥) → SeenAll seen xs n k b j → Once xs n k b j → Once xs n k b (j + 1)
  unfolding Once SeenAll Without held
  once_more seen xs n b j c v e h w t s a o i y l m g q p =
      ⊎_elim
      (λ (z : y ≡ j).
      let u : v ≡ k y = e ∙ ap k (sym z) in
      ⊎_elim
      (λ (x : c < n). s x (a i c l (omega arith) x (λ d f r d'. w d f r (d' ∙ q ∙ sym u)) (t x ∙ u ∙ sym q)))
      (λ (x : n ≤ c). let f = among-earlier (λ d. get_or xs d 0) (k y) n p in let r = f.1.0 in w f.0 (omega arith) (omega (arith, r)) (f.1.1 ∙ sym u))
      (below? c n))
      (λ (z : y < j). o i y l m z q p)
      (eq-or-lt_of_le (le_of_suc-le-suc (subst (λ (x : ℕ). y < x) (add-one j) g)))

  among_more : (v j : ℕ) → among k v j ≡ true → among k v (j + 1) ≡ true
  among_more v j q = let e = among-earlier k v j q in let l = e.1.0 in among_hit k v (j + 1) e.0 (omega (arith, l)) e.1.1

  pub some_none : (m : ℕ) (xs : List ℕ) (n j : ℕ) → SeenSome (replicate m false) xs n k j
  unfolding SeenSome
  some_none m xs n j c q = absurd (false≢true (sym (unseen m c) ∙ q))

  -- an entry that has no suspect's key
  pub some_skip : (seen : List Bool) (xs : List ℕ) (n j : ℕ) → SeenSome seen xs n k j → SeenSome seen xs n k (j + 1)
  unfolding SeenSome
  some_skip seen xs n j d x q = let p = d x q in (p.0, among_more (get_or xs x 0) j p.1)

  pub some_more : (seen : List Bool) (xs : List ℕ) (n j c v : ℕ) → v ≡ k j → c < length seen → c < n → get_or xs c 0 ≡ v
      → SeenSome seen xs n k j → SeenSome (set seen c true) xs n k (j + 1)
  unfolding SeenSome
  some_more seen xs n j c v e h t f d x q =
      ⊎_elim
      (λ (z : x ≡ c).
      (omega arith, among_hit k (get_or xs x 0) (j + 1) j (omega arith) (sym e ∙ sym f ∙ ap (λ (y : ℕ). get_or xs y 0) (sym z))))
      (λ (z : x ≡ c → ⊥). let p = d x (sym (get_or-set_other seen c x true false z) ∙ q) in (p.0, among_more (get_or xs x 0) j p.1))
      (same? x c)

  pub all_none : (seen : List Bool) (xs : List ℕ) (n b : ℕ) → SeenAll seen xs n k b b
  unfolding SeenAll
  all_none seen xs n b i c l m h w q = absurd (omega arith)

  pub all_skip : (seen : List Bool) (xs : List ℕ) (n b j v : ℕ) → v ≡ k j → Without (λ x. get_or xs x 0) v 0 n
      → SeenAll seen xs n k b j → SeenAll seen xs n k b (j + 1)
  unfolding SeenAll Without
  all_skip seen xs n b j v e w a i x l m y o q =
      ⊎_elim
      (λ (z : i ≡ j). absurd (w x (omega arith) y (q ∙ ap k z ∙ sym e)))
      (λ (z : i < j). a i x l z y o q)
      (eq-or-lt_of_le (le_of_suc-le-suc (subst (λ (d : ℕ). i < d) (add-one j) m)))

  pub all_more : (seen : List Bool) (xs : List ℕ) (n b j c v : ℕ) → v ≡ k j → c < n → c < length seen → Without (λ x. get_or xs x 0) v 0 c
      → get_or xs c 0 ≡ v → SeenAll seen xs n k b j → SeenAll (set seen c true) xs n k b (j + 1)
  unfolding SeenAll
  all_more seen xs n b j c v e h g w t a i x l m y o q =
      let own : x ≡ c → get_or (set seen c true) x false ≡ true
      = λ z. subst (λ (d : ℕ). get_or (set seen c true) d false ≡ true) (sym z) (get_or-set_same seen c true false g) in
      ⊎_elim
      (λ (z : i ≡ j).
      let p : k i ≡ v = ap k z ∙ sym e in
      own (one_place xs n v c x (omega arith) y w (λ _. t) (subst (λ (d : ℕ). Without (λ (r : ℕ). get_or xs r 0) d 0 x) p o) (q ∙ p)))
      (λ (z : i < j). ⊎_elim own (λ (d : x ≡ c → ⊥). get_or-set_other seen c x true false d ∙ a i x l z y o q) (same? x c))
      (eq-or-lt_of_le (le_of_suc-le-suc (subst (λ (d : ℕ). i < d) (add-one j) m)))

  pub seen_again : (seen : List Bool) (xs : List ℕ) (n j c v : ℕ) → v ≡ k j → get_or xs c 0 ≡ v → get_or seen c false ≡ true → SeenSome seen xs n k j
      → among k (k j) j ≡ true
  unfolding SeenSome
  seen_again seen xs n j c v e t q d =
      let p = d c q in
      subst (λ (x : ℕ). among k x j ≡ true) (t ∙ e) p.1
