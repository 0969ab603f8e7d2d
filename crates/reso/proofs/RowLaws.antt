-- The rows of a 'Reso' chunk one by one: what an iterator over them gives, and the row of a picture.
use mathlib.Core.Path.{◌≡◌, refl, sym, ap, ◌∙◌}
use Prim.Native.Nat.{ℕ, zero, suc, ◌+◌, ◌*◌, ◌-◌, ◌/◌, ◌≤◌}
use mathlib.Core.List.{List, [], ◌∷◌, ◌++◌}
use mathlib.Core.Bool.{Bool, true, false, cond, not}
use native.Mathlib.Omega.{arith}
use lib.ListN.{length, take, drop, length-append, length-drop}
use Rattle.std.proofs.lemmas.List.{drop-take}
use lib.Seq.{drop-drop, take-length, take-append_seam, drop-append_seam}
use Rattle.std.specs.declared.slice.ChunksExact.{ChunksExact}
use Rattle.blorb.specs.Bytes.{rd32}
use Rattle.blorb.proofs.UsageLaws.{rd32-take}
use lib.Dec.{eqb, ltb}
use borrow.Author.Tests.{ltb-true, ltb-false, lt-ltb, le-ltb}
use denote.Ref.{Bor}
use Rattle.std.specs.Prelude.{Option, Some, None}
use Rattle.std.specs.Option.{option_map}
use Rattle.std.specs.List.{list_all, position, position_or_len}
use Rattle.std.specs.Iterator.{AlwaysYields}
use Rattle.std.specs.Slice.Iter.{chunks_exact_rest, chunks_exact_size, chunks_exact_steps}
use Rattle.std.proofs.lemmas.Iterator.{YieldsList}
use Rattle.reso.specs.Reso.{word_at, count_of, Row, row_at, rows_from, row_good_of, rows_good_of, row_of}
use Rattle.reso.specs.Places.{row_place}

-- the bytes of n rows from at on
unfoldable pub row_bytes : List ℕ → ℕ → ℕ → List (List ℕ)
row_bytes d zero at = []
row_bytes d (suc n) at = take 28 (drop at d) ∷ row_bytes d n (at + 28)

four-take : (s : List ℕ) (k : ℕ) → k + 4 ≤ 28 → word_at (take 28 s) k ≡ word_at s k
four-take s k h = let e : 28 ≡ k + (28 - k) = omega arith in rw e (ap rd32 (drop-take k (28 - k) s) ∙ rd32-take (28 - k) (drop k s) (omega arith))

-- a row's own bytes say what the chunk says of it
word_there : (d : List ℕ) (at k : ℕ) → k + 4 ≤ 28 → word_at (take 28 (drop at d)) k ≡ word_at d (at + k)
word_there d at k h = four-take (drop at d) k h ∙ ap rd32 (drop-drop k at d)

row_there : (d : List ℕ) (at : ℕ) → row_at (take 28 (drop at d)) 0 ≡ row_at d at
row_there d at =
    let z : at + 0 ≡ at = omega arith in
    let s : at + 4 + 4 ≡ at + 8 = omega arith in
    let l : at + 12 + 4 ≡ at + 16 = omega arith in
    let g : at + 20 + 4 ≡ at + 24 = omega arith in
    rw (
      word_there d at 0 (omega arith),
      word_there d at 4 (omega arith),
      word_there d at 8 (omega arith),
      word_there d at 12 (omega arith),
      word_there d at 16 (omega arith),
      word_there d at 20 (omega arith),
      word_there d at 24 (omega arith),
      z,
      s,
      l,
      g,
    )

-- the iterator gives the rows one by one
module _ (d : List ℕ) where
  rows_come : (n at : ℕ) (s : ChunksExact ℕ) → chunks_exact_rest s ≡ drop at d → chunks_exact_size s ≡ 28 → length (drop at d) / 28 ≡ n
      → AlwaysYields (chunks_exact_steps {A = ℕ}) (λ (y : Bor (List ℕ)). y.now) s (row_bytes d n at)
  unfolding row_bytes
  rows_come zero at s r z n =
      λ x j p.
      let a = ap length (sym r ∙ p.1.0) in
      omega (arith, simp length-append at a, p.1.1)
  rows_come (suc n) at s r z e = (
    λ j p. omega (arith, p.1.0, ap length r),
    λ x j p.
        let l : length x.now ≡ 28 = p.1.1 ∙ z in
        let q : drop at d ≡ x.now ++ chunks_exact_rest j = sym r ∙ p.1.0 in
        let f : x.now ≡ take 28 (drop at d) = sym (rw (q, ← l) (take-append_seam x.now (chunks_exact_rest j))) in
        let g : chunks_exact_rest j ≡ drop (at + 28) d
        = sym (sym (drop-drop 28 at d) ∙ rw (q, ← l) (drop-append_seam x.now (chunks_exact_rest j))) in
        let a = ap length q in
        let b = ap length g in
        (f, rows_come n (at + 28) j g (p.0 ∙ z) (omega (arith, simp length-append at a, b, l))),
  )

  pub rows_yielded : (s : ChunksExact ℕ) → chunks_exact_rest s ≡ take (length d - 24) (drop 24 d) → chunks_exact_size s ≡ 28
      → YieldsList (chunks_exact_steps {A = ℕ}) (λ (y : Bor (List ℕ)). y.now) s (row_bytes d (count_of (length d)) 24)
  rows_yielded s r z =
      let l : length (drop 24 d) ≡ length d - 24 = length-drop 24 d in
      let a : take (length d - 24) (drop 24 d) ≡ drop 24 d = rw (← l) (take-length (drop 24 d)) in
      record { runs = rows_come (count_of (length d)) 24 s (r ∙ a) z (ap (λ (n : ℕ). n / 28) l) }

  -- each by itself
  pub all_good : (n at : ℕ) → list_all (λ (b : List ℕ). row_good_of (row_at b 0)) (row_bytes d n at) ≡ rows_good_of (rows_from d n at)
  unfolding row_bytes rows_from rows_good_of
  all_good zero at = refl
  all_good (suc n) at = rw (row_there d at, all_good n (at + 28))

  -- the search for a picture
  module _ (p : ℕ) where
    abbrev pub Of : List ℕ → Bool
    Of b = eqb (word_at b 0) p

    abbrev pub placed : ℕ → Option ℕ → Option ℕ
    placed at None = None
    placed at (Some i) = Some (at + 28 * i)

    -- the place that the first row's test and the place among the others make
    later : (q l : ℕ) → ltb (1 + q) (suc l) ≡ ltb q l
    later q l = by (ltb q l) refl
      where
        by : (b : Bool) → ltb q l ≡ b → ltb (1 + q) (suc l) ≡ b
        by true e = lt-ltb _ _ (omega (arith, ltb-true q l e))
        by false e = le-ltb _ _ (omega (arith, ltb-false q l e))

    here : (at : ℕ) (b : Bool) (q l : ℕ) (t : Option ℕ) → placed (at + 28) (cond (ltb q l) (Some q) None) ≡ t
        → placed at (cond (ltb (cond (not b) (1 + q) 0) (suc l)) (Some (cond (not b) (1 + q) 0)) None) ≡ cond b (Some at) t
    here at true q l t e = let z : at + 28 * 0 ≡ at = omega arith in rw (lt-ltb 0 (suc l) (omega arith)) (ap Some z)
    here at false q l t e = rw (later q l) (by (ltb q l) e)
      where
        by : (c : Bool) → placed (at + 28) (cond c (Some q) None) ≡ t → placed at (cond c (Some (1 + q)) None) ≡ t
        by true k = let m : at + 28 * (1 + q) ≡ at + 28 + 28 * q = omega arith in ap Some m ∙ k
        by false k = k

    pub place_found : (n at : ℕ) → placed at (position Of (row_bytes d n at)) ≡ row_place p d n at
    unfolding row_bytes row_place
    place_found zero at = refl
    place_found (suc n) at =
        let z : at + 0 ≡ at = omega arith in
        rw (word_there d at 0 (omega arith), z)
        (here at (eqb (word_at d at) p) (position_or_len Of (row_bytes d n (at + 28))) (length (row_bytes d n (at + 28))) (row_place p d n (at + 28))
        (place_found n (at + 28)))

    module _ (n : ℕ) (o : Option ℕ) (e : o ≡ position Of (row_bytes d n 24)) where
      pub place_none : o ≡ None → None ≡ row_place p d n 24
      place_none h = ap (placed 24) (sym h ∙ e) ∙ place_found n 24

      pub place-at : (i : ℕ) → o ≡ Some i → Some (24 + 28 * i) ≡ row_place p d n 24
      place-at i h = ap (placed 24) (sym h ∙ e) ∙ place_found n 24

-- what stands where the search ends
pub place-row : (p : ℕ) (d : List ℕ) (n at : ℕ) → option_map (row_at d) (row_place p d n at) ≡ row_of p (rows_from d n at)
unfolding rows_from row_place row_of
place-row p d zero at = refl
place-row p d (suc n) at = by (eqb (word_at d at) p) _ _ (place-row p d n (at + 28))
  where
    by : (b : Bool) (o : Option ℕ) (r : Option Row) → option_map (row_at d) o ≡ r → option_map (row_at d) (cond b (Some at) o) ≡ cond b (Some (row_at d at)) r
    by true o r e = refl
    by false o r e = e

-- it lies in the data
pub place-room : (p : ℕ) (d : List ℕ) (n at x : ℕ) → row_place p d n at ≡ Some x → x + 28 ≤ at + 28 * n
unfolding row_place
place-room p d zero at x e = cc
place-room p d (suc n) at x e = by (eqb (word_at d at) p) _ (λ k. place-room p d n (at + 28) x k) e
  where
    by : (b : Bool) (o : Option ℕ) → (o ≡ Some x → x + 28 ≤ at + 28 + 28 * n) → cond b (Some at) o ≡ Some x → x + 28 ≤ at + 28 * suc n
    by true o r k = let q : at ≡ x = cc in omega arith
    by false o r k = omega (arith, r k)
