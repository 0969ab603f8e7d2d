-- Laws of the numbers of rows: rows and their numbers, there and back.
use mathlib.Core.Path.{◌≡◌, refl, ap, sym, ◌∙◌}
use Prim.Native.Nat.{ℕ, zero, suc, ◌+◌, ◌*◌, ◌/◌, ◌≤◌, ◌<◌}
use mathlib.Core.List.{List, [], ◌∷◌, ◌++◌}
use native.Mathlib.Omega.{arith}
use native.Mathlib.Numerals.{add-one}
use lib.ListN.{length, get_or, take, drop, length-append, length-drop, take-append-drop, get_or-append}
use lib.Seq.{take-suc, take_all, length-take-le, drop-drop, drop_at, take_at}
use Rattle.blorb.specs.Format.{Entry}
use Rattle.rows.specs.Rows.{listed, row_in, rows_by, rows_of, flat}
use Rattle.rows.specs.Halving.{no_row}
use Rattle.rows.proofs.RowLaws.{length-listed, listed_ext}
use Rattle.rows.proofs.OrderLaws.{same-entry}

pub length-flat : (es : List Entry) → length (flat es) ≡ 3 * length es
unfolding flat
length-flat [] = refl
length-flat (e ∷ es) = omega (arith, length-flat es)

pub flat_append : (es ds : List Entry) → flat (es ++ ds) ≡ flat es ++ flat ds
unfolding flat
flat_append [] ds = refl
flat_append (e ∷ es) ds = ap (λ (l : List ℕ). e.usage ∷ (e.number ∷ (e.start ∷ l))) (flat_append es ds)

pub length-rows_of : (t : List ℕ) → length (rows_of t) ≡ length t / 3
unfolding rows_of
length-rows_of t = length-listed (row_in t 3 1) (length t / 3)

flat_three : (a b d : ℕ) (t : List ℕ) (n : ℕ) → flat (rows_by (a ∷ b ∷ d ∷ t) (suc n) 3 1) ≡ a ∷ b ∷ d ∷ flat (rows_by t n 3 1)
unfolding flat listed
flat_three a b d t n =
    let q : listed (λ i. row_in (a ∷ b ∷ d ∷ t) 3 1 (suc i)) n ≡ listed (row_in t 3 1) n =
    listed_ext (λ i. row_in (a ∷ b ∷ d ∷ t) 3 1 (suc i)) (row_in t 3 1) n
    (λ i l.
    let x : suc i * 3 ≡ suc (suc (suc (i * 3))) = omega arith in
    let y : suc i * 3 + 1 ≡ suc (suc (suc (i * 3 + 1))) = omega arith in
    let z : suc i * 3 + 2 * 1 ≡ suc (suc (suc (i * 3 + 2 * 1))) = omega arith in
    same-entry _ _ (ap (λ (k : ℕ). get_or (a ∷ b ∷ d ∷ t) k 0) x) (ap (λ (k : ℕ). get_or (a ∷ b ∷ d ∷ t) k 0) y) (ap (λ (k : ℕ). get_or (a ∷ b ∷ d ∷ t) k 0) z)) in
    rw q

pub flat_rows_go : (n : ℕ) (t : List ℕ) → length t ≡ 3 * n → flat (rows_by t n 3 1) ≡ t
unfolding flat listed
flat_rows_go zero [] e = refl
flat_rows_go zero (a ∷ t) e = absurd (omega arith)
flat_rows_go (suc n) [] e = absurd (omega arith)
flat_rows_go (suc n) (a ∷ []) e = absurd (omega arith)
flat_rows_go (suc n) (a ∷ (b ∷ [])) e = absurd (omega arith)
flat_rows_go (suc n) (a ∷ (b ∷ (d ∷ t))) e = flat_three a b d t n ∙ ap (λ (l : List ℕ). a ∷ b ∷ d ∷ l) (flat_rows_go n t (omega arith))

-- whole rows: their numbers are the slice's
pub flat-rows_of : (t : List ℕ) (n : ℕ) → length t ≡ 3 * n → flat (rows_of t) ≡ t
unfolding rows_of
flat-rows_of t n e = let q : length t / 3 ≡ n = omega arith in rw q (flat_rows_go n t e)

pub rows_flat_go : (es : List Entry) → rows_by (flat es) (length es) 3 1 ≡ es
unfolding flat listed
rows_flat_go [] = refl
rows_flat_go (e ∷ es) =
    let t : List ℕ = flat es in
    let n : ℕ = length es in
    let q : listed (λ i. row_in (e.usage ∷ e.number ∷ e.start ∷ flat es) 3 1 (suc i)) n ≡ listed (row_in (flat es) 3 1) n =
    listed_ext (λ i. row_in (e.usage ∷ e.number ∷ e.start ∷ flat es) 3 1 (suc i)) (row_in (flat es) 3 1) n
    (λ i l.
    let x : suc i * 3 ≡ suc (suc (suc (i * 3))) = omega arith in
    let y : suc i * 3 + 1 ≡ suc (suc (suc (i * 3 + 1))) = omega arith in
    let z : suc i * 3 + 2 * 1 ≡ suc (suc (suc (i * 3 + 2 * 1))) = omega arith in
    same-entry _ _ (ap (λ (k : ℕ). get_or (e.usage ∷ e.number ∷ e.start ∷ flat es) k 0) x)
    (ap (λ (k : ℕ). get_or (e.usage ∷ e.number ∷ e.start ∷ flat es) k 0) y)
    (ap (λ (k : ℕ). get_or (e.usage ∷ e.number ∷ e.start ∷ flat es) k 0) z)) in
    rw (q, rows_flat_go es)

pub rows_of-flat : (es : List Entry) → rows_of (flat es) ≡ es
unfolding rows_of
rows_of-flat es = let q : length (flat es) / 3 ≡ length es = omega (arith, length-flat es) in rw q (rows_flat_go es)

pub flat-take : (q : ℕ) (es : List Entry) → take (3 * q) (flat es) ≡ flat (take q es)
unfolding flat
flat-take zero es = refl
flat-take (suc q) [] = let x : 3 * suc q ≡ suc (3 * q + 2) = omega arith in rw x
flat-take (suc q) (e ∷ es) = let x : 3 * suc q ≡ suc (suc (suc (3 * q))) = omega arith in rw (x, flat-take q es)

pub flat-drop : (q : ℕ) (es : List Entry) → drop (3 * q) (flat es) ≡ flat (drop q es)
unfolding flat
flat-drop zero es = refl
flat-drop (suc q) [] = let x : 3 * suc q ≡ suc (3 * q + 2) = omega arith in rw x
flat-drop (suc q) (e ∷ es) = let x : 3 * suc q ≡ suc (suc (suc (3 * q))) = omega arith in rw (x, flat-drop q es)

-- ---- rows that are put one by one, from the first on

module _ (es : List Entry) (t d : List ℕ) (i : ℕ) (w : d ≡ flat (take i es) ++ drop (3 * i) t) where
  pub entries-turn : (e : Entry) → i < length es → get_or es i no_row ≡ e → take (3 * i) d ++ (e.usage ∷ e.number ∷ e.start ∷ []) ++ drop (3 * i + 3) d
      ≡ flat (take (i + 1) es) ++ drop (3 * (i + 1)) t
  unfolding flat
  entries-turn e l g =
      let f : length (flat (take i es)) ≡ 3 * i = length-flat (take i es) ∙ ap (λ (k : ℕ). 3 * k) (length-take-le i es (omega arith)) in
      let a : take (3 * i) (flat (take i es) ++ drop (3 * i) t) ≡ flat (take i es) = take_at (flat (take i es)) (drop (3 * i) t) (3 * i) f in
      let b : drop (3 * i + 3) (flat (take i es) ++ drop (3 * i) t) ≡ drop (3 * (i + 1)) t =
      let k : 3 * i + 3 ≡ 3 * (i + 1) = omega arith in
      sym (drop-drop 3 (3 * i) (flat (take i es) ++ drop (3 * i) t)) ∙ ap (drop 3) (drop_at (flat (take i es)) (drop (3 * i) t) (3 * i) f)
      ∙ drop-drop 3 (3 * i) t ∙ ap (λ (n : ℕ). drop n t) k in
      let s : take (i + 1) es ≡ take i es ++ (e ∷ []) = ap (λ (n : ℕ). take n es) (add-one i) ∙ take-suc es i no_row l ∙ rw g in
      rw (w, a, b, s, flat_append (take i es) (e ∷ []))

  pub entries-length : i ≤ length es → 3 * length es ≤ length t → length d ≡ length t
  entries-length l m =
      let f : length (flat (take i es)) ≡ 3 * i = length-flat (take i es) ∙ ap (λ (k : ℕ). 3 * k) (length-take-le i es l) in
      ap length w ∙ simp (length-append, length-drop) (omega arith)

  pub entries-all : i ≡ length es → d ≡ flat es ++ drop (3 * i) t
  entries-all q = let a : take i es ≡ es = take_all i es (omega arith) in rw a at w

-- ---- rows and the numbers behind them

pub rows-front : (a b : List ℕ) (n : ℕ) → 3 * n ≤ length a → rows_by (a ++ b) n 3 1 ≡ rows_by a n 3 1
rows-front a b n h =
    listed_ext (row_in (a ++ b) 3 1) (row_in a 3 1) n
    (λ i l. same-entry _ _ (get_or-append a b 0 (i * 3) (omega arith)) (get_or-append a b 0 (i * 3 + 1) (omega arith))
    (get_or-append a b 0 (i * 3 + 2 * 1) (omega arith)))

pub rows_split : (t : List ℕ) (n : ℕ) → 3 * n ≤ length t → t ≡ flat (rows_by t n 3 1) ++ drop (3 * n) t
rows_split t n h =
    let l : length (take (3 * n) t) ≡ 3 * n = length-take-le (3 * n) t h in
    let s : take (3 * n) t ++ drop (3 * n) t ≡ t = take-append-drop (3 * n) t in
    let r : rows_by t n 3 1 ≡ rows_by (take (3 * n) t) n 3 1 = ap (λ (x : List ℕ). rows_by x n 3 1) (sym s) ∙ rows-front (take (3 * n) t) (drop (3 * n) t)
    n (omega arith) in
    let f : flat (rows_by t n 3 1) ≡ take (3 * n) t = ap flat r ∙ flat_rows_go n (take (3 * n) t) l in
    sym (ap (λ (x : List ℕ). x ++ drop (3 * n) t) f ∙ s)
