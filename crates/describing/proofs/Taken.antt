-- What the writer takes the reader takes: the two judge the same pairs and texts in the same order, so the data of a list that is written have no
-- fault of their own, wherever the chunk stands.
use mathlib.Core.Path.{◌≡◌, refl, sym, ap, ◌∙◌}
use Prim.Native.Nat.{ℕ, zero, suc, ◌+◌, ◌*◌, ◌≤◌, ◌<◌}
use mathlib.Core.List.{List, [], ◌∷◌, ◌++◌}
use mathlib.Core.Bool.{true, false, ◌&&◌, not}
use native.Mathlib.Omega.{arith}
use native.Mathlib.Nat.{not-suc-le-zero}
use lib.ListN.{length, take, drop, get_or, length-append, length-take}
use lib.Dec.{leb}
use borrow.Author.Tests.{leb-true}
use Rattle.blorb.specs.All.{All}
use Rattle.blorb.specs.Sound.{W}
use Rattle.blorb.specs.Bytes.{be32}
use Rattle.blorb.specs.Format.{sized}
use Rattle.blorb.specs.Verdict.{accept}
use Rattle.blorb.proofs.Checks.{pass, then_accept, check_accept, and_both}
use Rattle.blorb.proofs.ByteLaws.{length-be32}
use Rattle.rdes.specs.Rdes.{Desc, Fits, entries_bytes, body_of, pair_among, good_text, entries_fault, chunk_fault}
use Rattle.rdes.proofs.ReadBack.{body-fault}
use Rattle.describing.specs.List.{usage_of, number_of, place_of, length_of, row_text, row_at, rows_from, count_of, list_of}
use Rattle.describing.specs.Writing.{repeated, text_good_of, row_fault, rows_fault, whole_size, write_fault}
use Rattle.describing.proofs.JudgeLaws.{row_told, rows_told}
use Rattle.describing.proofs.PairLaws.{rows_snoc}

module _ (rows texts : List ℕ) where
  pub rows_get : (n i j : ℕ) (e : Desc) → j < n → get_or (rows_from rows texts n i) j e ≡ row_at rows texts (i + j)
  unfolding rows_from
  rows_get zero i j e h = absurd (not-suc-le-zero h)
  rows_get (suc n) i zero e h = let z : i + 0 ≡ i = omega arith in ap (row_at rows texts) (sym z)
  rows_get (suc n) i (suc j) e h = let z : i + 1 + j ≡ i + suc j = omega arith in rows_get n (i + 1) j e (omega arith) ∙ ap (row_at rows texts) z

  -- the entries of rows that are accepted are, behind those before them
  taken_from : (k i p : ℕ) → ((j : ℕ) → i ≤ j → j < i + k → row_fault rows texts j ≡ accept)
      → entries_fault (rows_from rows texts i 0) p (rows_from rows texts k i) ≡ accept
  unfolding entries_fault rows_from
  taken_from zero i p h = refl
  taken_from (suc k) i p h =
      let t = row_told rows texts i (h i (omega arith) (omega arith)) in
      let r : pair_among (usage_of rows i) (number_of rows i) (rows_from rows texts i 0) ≡ false = unfold repeated in t.0 in
      let w : (leb (place_of rows i + length_of rows i) (length texts) && good_text (row_text rows texts i)) ≡ true = unfold text_good_of in t.1 in
      let g : good_text (row_text rows texts i) ≡ true =
      (and_both (leb (place_of rows i + length_of rows i) (length texts)) (good_text (row_text rows texts i)) w).1 in
      let z : 0 + i ≡ i = omega arith in
      let s : suc i ≡ i + 1 = omega arith in
      let e : rows_from rows texts i 0 ++ (row_at rows texts i ∷ []) ≡ rows_from rows texts (i + 1) 0
      = sym (rows_snoc rows texts i 0 ∙ ap (λ (j : ℕ). rows_from rows texts i 0 ++ (row_at rows texts j ∷ [])) z) ∙ ap (λ (j : ℕ). rows_from rows texts j 0) s in
      pass _ _ _ _ (ap not r) ∙ pass _ _ _ _ g
      ∙ ap (λ (l : List Desc). entries_fault l (p + 12 + length (row_text rows texts i)) (rows_from rows texts k (i + 1))) e
      ∙ taken_from k (i + 1) (p + 12 + length (row_text rows texts i)) (λ j l m. h j (omega arith) (omega arith))

  pub taken : (n p : ℕ) → rows_fault rows texts n 0 ≡ accept → entries_fault [] p (rows_from rows texts n 0) ≡ accept
  taken n p e = unfold rows_from in taken_from n 0 p (λ j l m. rows_told rows texts n 0 e j l m)

-- as many entries as bytes at most
count_short : (ds : List Desc) → length ds ≤ length (entries_bytes ds)
unfolding entries_bytes
count_short [] = omega arith
count_short (e ∷ es) = let h = count_short es in simp (length-append, length-be32) (omega arith)

-- the numbers of rows of 32 bits fit their fields
rows_fit : (rows texts : List ℕ) → ((i : ℕ) → get_or rows i 0 < W) → (n i : ℕ) → All Fits (rows_from rows texts n i)
unfolding rows_from
rows_fit rows texts b zero i = tt
rows_fit rows texts b (suc n) i =
    let l : length (take (length_of rows i) (drop (place_of rows i) texts)) ≤ length_of rows i = simp length-take (omega arith) in
    let h = b (4 * i + 3) in
    (record { usage_fits = b (4 * i); number_fits = b (4 * i + 1); text_fits = omega arith }, rows_fit rows texts b n (i + 1))

-- a list that is written
module _ (rows texts : List ℕ) (room : ℕ) (b : (i : ℕ) → get_or rows i 0 < W) (e : write_fault rows texts room ≡ accept) where
  pub rows_fine : rows_fault rows texts (count_of rows) 0 ≡ accept
  unfolding write_fault
  rows_fine = (then_accept _ _ e).0

  pub fit : All Fits (list_of rows texts)
  fit = rows_fit rows texts b (count_of rows) 0

  limited : whole_size (list_of rows texts) ≤ 16777216
  unfolding write_fault
  limited =
      let t = check_accept (leb (whole_size (list_of rows texts)) room && leb (whole_size (list_of rows texts)) 16777216) 40 0
      (then_accept (rows_fault rows texts (count_of rows) 0) _ e).1 in
      leb-true _ _ (and_both (leb (whole_size (list_of rows texts)) room) (leb (whole_size (list_of rows texts)) 16777216) t).1

  pub body_short : length (body_of (list_of rows texts)) < W
  unfolding sized
  body_short = omega (arith, limited)

  pub short : length (list_of rows texts) < W
  unfolding body_of
  short =
      let l : length (be32 (length (list_of rows texts)) ++ entries_bytes (list_of rows texts)) ≡ 4 + length (entries_bytes (list_of rows texts))
      = simp (length-append, length-be32) in
      let h = count_short (list_of rows texts) in
      omega (arith, body_short)

  -- "a list that the writer takes is one that the reader takes"
  pub written_taken : (x : ℕ) → chunk_fault (body_of (list_of rows texts)) x ≡ accept
  written_taken x = body-fault (list_of rows texts) x fit short ∙ taken rows texts (count_of rows) (x + 12) rows_fine
