-- Marks that are set stay set, so each marked entry has all its marks set. This is all that is known of the marks.
use Prim.Native.Nat.{ℕ, ◌+◌, ◌<◌}
use mathlib.Core.Path.{◌≡◌, ap, sym, ◌∙◌, subst}
use mathlib.Core.List.{List}
use mathlib.Core.Logic.{⊎_elim}
use native.Mathlib.Omega.{arith}
use native.Mathlib.Numerals.{add-one}
use native.Mathlib.Nat.{eq-or-lt_of_le, le_of_suc-le-suc}
use lib.ListN.{length, get_or, set}
use lib.Seq.{get_or-set_same, get_or-set_other}
use lib.Bits.{bit_and, bit_or}
use Rattle.repeats.specs.Marks.{word_of, bits_of, Covers, Marked}
use Rattle.repeats.proofs.Bits.{cover_more, cover_own}
use Rattle.blorb.proofs.NumberLaws.{same?}

-- a mark that is set stays set
kept : (ms : List ℕ) (w u new old : ℕ) → w < length ms → Covers (get_or ms u 0) old → Covers (get_or (set ms w (bit_or (get_or ms w 0) new)) u 0) old
kept ms w u new old h c =
    ⊎_elim
    (λ (q : u ≡ w). subst (λ (z : ℕ). Covers (get_or (set ms w (bit_or (get_or ms w 0) new)) z 0) old) (sym q)
    (ap (λ (z : ℕ). bit_and z old) (get_or-set_same ms w _ 0 h) ∙ cover_more old (get_or ms w 0) new (subst (λ (z : ℕ). Covers (get_or ms z 0) old) q c)))
    (λ (n : u ≡ w → ⊥). ap (λ (z : ℕ). bit_and z old) (get_or-set_other ms w u _ 0 n) ∙ c)
    (same? u w)

module _ (k : ℕ → ℕ) where
  pub marked_none : (f : ℕ) (ms : List ℕ) (b : ℕ) → Marked ms f k b b
  unfolding Marked
  marked_none f ms b j l m = absurd (omega arith)

  abbrev with : ℕ → List ℕ → ℕ → List ℕ
  with f ms j = set ms (word_of f (k j)) (bit_or (get_or ms (word_of f (k j)) 0) (bits_of f (k j)))

  marked_more : (f : ℕ) (ms : List ℕ) (b j : ℕ) → word_of f (k j) < length ms → Marked ms f k b j → Marked (with f ms j) f k b (j + 1)
  unfolding Marked
  marked_more f ms b j h w x l m =
      ⊎_elim
      (λ (q : x ≡ j). subst (λ (z : ℕ). Covers (get_or (with f ms j) (word_of f (k z)) 0) (bits_of f (k z))) (sym q)
      (ap (λ (z : ℕ). bit_and z (bits_of f (k j))) (get_or-set_same ms (word_of f (k j)) _ 0 h) ∙ cover_own (bits_of f (k j)) (get_or ms (word_of f (k j)) 0)))
      (λ (y : x < j). kept ms (word_of f (k j)) (word_of f (k x)) (bits_of f (k j)) (bits_of f (k x)) h (w x l y))
      (eq-or-lt_of_le (le_of_suc-le-suc (subst (λ (z : ℕ). x < z) (add-one j) m)))

  pub marked_at : (f : ℕ) (ms : List ℕ) (b j v w bits : ℕ) → v ≡ k j → w ≡ word_of f v → bits ≡ bits_of f v → length ms ≡ 896 → w < 896
      → Marked ms f k b j
      → Marked (set ms w (bit_or (get_or ms w 0) bits)) f k b (j + 1)
  marked_at f ms b j v w bits e p q n l m =
      let u : w ≡ word_of f (k j) = p ∙ ap (word_of f) e in
      let x : bits ≡ bits_of f (k j) = q ∙ ap (bits_of f) e in
      let h : w < length ms = omega arith in
      rw (u, x) (marked_more f ms b j (subst (λ (z : ℕ). z < length ms) u h) m)
