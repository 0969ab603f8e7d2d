-- No picture number twice: by the places of the rows, as the search for a repeated one tells it.
use mathlib.Core.Path.{◌≡◌, refl, sym, ap, ◌∙◌}
use Prim.Native.Nat.{ℕ, zero, suc, ◌+◌, ◌*◌, ◌≤◌, ◌<◌}
use mathlib.Core.List.{List, [], ◌∷◌}
use mathlib.Core.Bool.{Bool, true, false, not, or-true}
use mathlib.Core.Logic.{⊎_elim}
use native.Mathlib.Omega.{arith}
use native.Mathlib.Nat.{eq-or-lt_of_le}
use borrow.Author.Tests.{eq-eqb, ne_eqb}
use lib.Dec.{eqb}
use Rattle.blorb.specs.Rules.{one_of}
use Rattle.blorb.proofs.Checks.{and_both}
use Rattle.std.specs.Prelude.{Option, Some, None}
use Rattle.std.specs.Option.{is_some}
use Rattle.repeats.specs.Repeats.{first_repeat_of, Apart}
use Rattle.repeats.specs.Keys.{row_key_of}
use Rattle.repeats.proofs.Answers.{first-none, answer_nothing}
use Rattle.reso.specs.Reso.{word_at, rows_from, distinct, pictures}

-- n numbers from number i on
unfoldable keys_from : (ℕ → ℕ) → ℕ → ℕ → List ℕ
keys_from k zero i = []
keys_from k (suc n) i = k i ∷ keys_from k n (suc i)

module _ (k : ℕ → ℕ) where
  one_none : (v n i : ℕ) → ((j : ℕ) → i ≤ j → j < i + n → v ≡ k j → ⊥) → one_of v (keys_from k n i) ≡ false
  unfolding one_of keys_from
  one_none v zero i h = refl
  one_none v (suc n) i h =
      rw (ne_eqb v (k i) (h i (omega arith) (omega arith)), one_none v n (suc i) (λ j l m. h j (omega arith) (omega arith)))

  one_hit : (v n i j : ℕ) → i ≤ j → j < i + n → v ≡ k j → one_of v (keys_from k n i) ≡ true
  unfolding one_of keys_from
  one_hit v zero i j l m e = absurd (omega arith)
  one_hit v (suc n) i j l m e =
      ⊎_elim
      (λ (q : i ≡ j). rw (eq-eqb v (k i) (e ∙ ap k (sym q))))
      (λ (q : i < j). rw (one_hit v n (suc i) j q (omega arith) e) (or-true (eqb v (k i))))
      (eq-or-lt_of_le l)

  -- no two of them at different places
  apart_distinct : (n a : ℕ) → ((i j : ℕ) → a ≤ i → i < j → j < a + n → k i ≡ k j → ⊥) → distinct (keys_from k n a) ≡ true
  unfolding distinct keys_from
  apart_distinct zero a h = refl
  apart_distinct (suc n) a h =
      rw (
        one_none (k a) n (suc a) (λ j l m. h a j (omega arith) l (omega arith)),
        apart_distinct n (suc a) (λ i j l m q. h i j (omega arith) m (omega arith)),
      )

  distinct_apart : (n a : ℕ) → distinct (keys_from k n a) ≡ true → (i j : ℕ) → a ≤ i → i < j → j < a + n → k i ≡ k j → ⊥
  unfolding distinct keys_from
  distinct_apart zero a h i j l m q e = omega arith
  distinct_apart (suc n) a h i j l m q e =
      let b = and_both (not (one_of (k a) (keys_from k n (suc a)))) (distinct (keys_from k n (suc a))) h in
      ⊎_elim
      (λ (x : a ≡ i). never (one_of (k a) (keys_from k n (suc a))) (one_hit (k a) n (suc a) j (omega arith) (omega arith) (ap k x ∙ e)) b.0)
      (λ (x : a < i). distinct_apart n (suc a) b.1 i j x m (omega arith) e)
      (eq-or-lt_of_le l)
    where
      never : (c : Bool) → c ≡ true → not c ≡ true → ⊥
      never true p r = cc
      never false p r = cc

-- the same as the search says it
apart : (k : ℕ → ℕ) (n : ℕ) → distinct (keys_from k n 0) ≡ true → Apart k 0 n
unfolding Apart
apart k n h i j l m q e = distinct_apart k n 0 h i j l m (omega arith) e

-- the keys of the rows
module _ (d : List ℕ) (k : ℕ → ℕ) (e : (i : ℕ) → k i ≡ word_at d (24 + 28 * i)) where
  pictures_keys : (n i : ℕ) → pictures (rows_from d n (24 + 28 * i)) ≡ keys_from k n i
  unfolding rows_from keys_from
  pictures_keys zero i = refl
  pictures_keys (suc n) i =
      let q : 24 + 28 * i + 28 ≡ 24 + 28 * suc i = omega arith in
      rw (← e i, q, pictures_keys n (suc i))

  module _ (n : ℕ) where
    from_start : distinct (pictures (rows_from d n 24)) ≡ distinct (keys_from k n 0)
    from_start = ap distinct (pictures_keys n 0)

    pub distinct_yes : first_repeat_of k n ≡ None → true ≡ distinct (pictures (rows_from d n 24))
    unfolding Apart
    distinct_yes h = sym (from_start ∙ apart_distinct k n 0 (λ i j l m q. answer_nothing k n h i j l m (omega arith)))

    pub distinct_no : (j : ℕ) → first_repeat_of k n ≡ Some j → false ≡ distinct (pictures (rows_from d n 24))
    distinct_no j h = sym (from_start ∙ by (distinct (keys_from k n 0)) refl)
      where
        by : (b : Bool) → distinct (keys_from k n 0) ≡ b → b ≡ false
        by true x = let a = first-none k n n (omega arith) (omega arith) (apart k n x) in cc
        by false x = refl

    -- so the search finds none exactly where they are all different
    pub distinct_by : (o : Option ℕ) (b : Bool) → is_some o ≡ not b → o ≡ first_repeat_of k n → b ≡ distinct (pictures (rows_from d n 24))
    distinct_by None true h q = distinct_yes (sym q)
    distinct_by (Some j) false h q = distinct_no j (sym q)
    distinct_by None false h q = cc
    distinct_by (Some j) true h q = cc

-- the key of row i is its picture number
pub row-key : (d : List ℕ) (i : ℕ) → row_key_of d 28 24 i ≡ word_at d (24 + 28 * i)
unfolding row_key_of
row-key d i = refl
