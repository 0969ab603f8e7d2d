-- The verdict on the rows from three facts: the first bad text, the first repeated pair, and which of them comes first.
use mathlib.Core.Path.{◌≡◌, refl, sym, ap, subst, ◌∙◌}
use Prim.Native.Nat.{ℕ, zero, suc, ◌+◌, ◌-◌, ◌≤◌, ◌<◌}
use mathlib.Core.List.{List}
use mathlib.Core.Bool.{Bool, true, false, not}
use mathlib.Core.Logic.{⊎_elim}
use native.Mathlib.Omega.{arith}
use native.Mathlib.Nat.{eq-or-lt_of_le, le_of_suc-le-suc}
use native.Mathlib.Numerals.{add-one}
use lib.ListN.{length, take, drop, length-take, length-drop}
use borrow.Author.Tests.{le-leb, lt-leb, leb-true, not-true}
use Rattle.blorb.specs.Verdict.{accept, refuse, check}
use Rattle.blorb.proofs.Checks.{pass, stop, holds_last, fails_last, accepts, refuses, then_accept, check_accept, and_both}
use Rattle.shared_texts.specs.Segments.{text_between}
use Rattle.describing.specs.List.{place_of, length_of}
use Rattle.describing.specs.Writing.{repeated, text_good_of, row_fault, rows_fault}
use Rattle.describing.specs.Bridging.{Within}
use Rattle.describing.specs.Judging.{FirstBad}

-- one row's text
module _ (rows texts : List ℕ) (i : ℕ) where
  pub text-past : length texts < place_of rows i + length_of rows i → false ≡ text_good_of rows texts i
  unfolding text_good_of
  text-past h = rw (lt-leb (place_of rows i + length_of rows i) (length texts) h)

  pub text-told : (r : Bool) → place_of rows i + length_of rows i ≤ length texts
      → r ≡ text_between texts (place_of rows i) (place_of rows i + length_of rows i)
      → r ≡ text_good_of rows texts i
  unfolding text_good_of text_between
  text-told r h e =
      let q : place_of rows i + length_of rows i - place_of rows i ≡ length_of rows i = omega arith in
      let l : length (take (length_of rows i) (drop (place_of rows i) texts)) ≡ length_of rows i = simp (length-take, length-drop) (omega arith) in
      rw (le-leb (place_of rows i + length_of rows i) (length texts) h, e, q, l)

  -- one row
  pub row_fine : repeated rows texts i ≡ false → text_good_of rows texts i ≡ true → row_fault rows texts i ≡ accept
  unfolding row_fault
  row_fine r t = pass _ _ _ _ (ap not r) ∙ holds_last _ _ _ t

  row_38 : repeated rows texts i ≡ true → row_fault rows texts i ≡ refuse 38 i
  unfolding row_fault
  row_38 r = stop _ _ _ _ (ap not r)

  row_39 : repeated rows texts i ≡ false → text_good_of rows texts i ≡ false → row_fault rows texts i ≡ refuse 39 i
  unfolding row_fault
  row_39 r t = pass _ _ _ _ (ap not r) ∙ fails_last _ _ _ t

  -- and back
  pub row_told : row_fault rows texts i ≡ accept → (repeated rows texts i ≡ false) × (text_good_of rows texts i ≡ true)
  unfolding row_fault
  row_told e =
      let q = then_accept (check (not (repeated rows texts i)) 38 i) (check (text_good_of rows texts i) 39 i) e in
      (not-true (repeated rows texts i) (check_accept _ _ _ q.0), check_accept _ _ _ q.1)

module _ (rows texts : List ℕ) where
  -- all rows
  rows_through : (n a : ℕ) → ((i : ℕ) → a ≤ i → i < a + n → row_fault rows texts i ≡ accept) → rows_fault rows texts n a ≡ accept
  unfolding rows_fault
  rows_through zero a h = refl
  rows_through (suc n) a h = accepts _ _ (h a (omega arith) (omega arith)) ∙ rows_through n (a + 1) (λ i l m. h i (omega arith) (omega arith))

  rows_stop : (n a j k p : ℕ) → a ≤ j → j < a + n → ((i : ℕ) → a ≤ i → i < j → row_fault rows texts i ≡ accept) → row_fault rows texts j ≡ refuse k p
      → rows_fault rows texts n a ≡ refuse k p
  unfolding rows_fault
  rows_stop zero a j k p l m h e = absurd (omega arith)
  rows_stop (suc n) a j k p l m h e =
      ⊎_elim
      (λ (q : a ≡ j). refuses _ _ _ _ (ap (row_fault rows texts) q ∙ e))
      (λ (q : a < j). accepts _ _ (h a (omega arith) q) ∙ rows_stop n (a + 1) j k p (omega arith) (omega arith) (λ i x y. h i (omega arith) y) e)
      (eq-or-lt_of_le l)

  pub rows_told : (n a : ℕ) → rows_fault rows texts n a ≡ accept → (i : ℕ) → a ≤ i → i < a + n → row_fault rows texts i ≡ accept
  unfolding rows_fault
  rows_told zero a e i l m = absurd (omega arith)
  rows_told (suc n) a e i l m =
      let q = then_accept (row_fault rows texts a) (rows_fault rows texts n (a + 1)) e in
      ⊎_elim
      (λ (p : a ≡ i). ap (row_fault rows texts) (sym p) ∙ q.0)
      (λ (p : a < i). rows_told n (a + 1) q.1 i (omega arith) (omega arith))
      (eq-or-lt_of_le l)

  -- the texts of rows that are accepted lie in their slice
  pub told-within : (n : ℕ) → rows_fault rows texts n 0 ≡ accept → Within rows texts n
  unfolding Within text_good_of
  told-within n e i h =
      let t = (row_told rows texts i (rows_told n 0 e i (omega arith) (omega arith))).1 in
      leb-true _ _ (and_both _ _ t).0

  module _ (n t : ℕ) (b : FirstBad rows texts n t) where
    pub judged_38 : (j : ℕ) → j < n → j ≤ t → ((i : ℕ) → i < j → repeated rows texts i ≡ false) → repeated rows texts j ≡ true
        → refuse 38 j ≡ rows_fault rows texts n 0
    judged_38 j h l r e =
        sym (rows_stop n 0 j 38 j (omega arith) (omega arith) (λ i x y. row_fine rows texts i (r i y) (b.good i (omega arith))) (row_38 rows texts j e))

    pub judged_39 : t < n → ((i : ℕ) → i < t + 1 → repeated rows texts i ≡ false) → refuse 39 t ≡ rows_fault rows texts n 0
    judged_39 h r =
        sym (rows_stop n 0 t 39 t (omega arith) (omega arith) (λ i x y. row_fine rows texts i (r i (omega arith)) (b.good i y))
        (row_39 rows texts t (r t (omega arith)) (b.bad h)))

    pub judged-good : n ≤ t → ((i : ℕ) → i < n → repeated rows texts i ≡ false) → accept ≡ rows_fault rows texts n 0
    judged-good h r = sym (rows_through n 0 (λ i x y. row_fine rows texts i (r i (omega arith)) (b.good i (omega arith))))

-- one good text more
pub good_more : (rows texts : List ℕ) (n : ℕ) → ((i : ℕ) → i < n → text_good_of rows texts i ≡ true) → text_good_of rows texts n ≡ true
    → (i : ℕ) → i < n + 1 → text_good_of rows texts i ≡ true
good_more rows texts n g e i h =
    ⊎_elim
    (λ (q : i ≡ n). ap (text_good_of rows texts) q ∙ e)
    (λ (q : i < n). g i q)
    (eq-or-lt_of_le (le_of_suc-le-suc (subst (λ (k : ℕ). i < k) (add-one n) h)))
