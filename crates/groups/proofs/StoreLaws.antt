-- Laws of the rows that the walk stores: a row lands in the slice where the slice has it, all rows fill its front, and of a slice of one row only the
-- row that it is based on is stored.
use Prim.Native.Nat.{ℕ, zero, suc, ◌+◌, ◌-◌, ◌*◌, ◌≤◌, ◌<◌}
use mathlib.Core.Path.{◌≡◌, refl, ap, sym, subst, ◌∙◌}
use mathlib.Core.List.{List, [], ◌∷◌, ◌++◌, append_assoc, append-nil}
use native.Mathlib.Omega.{arith}
use lib.ListN.{length, get_or, take, drop, length-append, length-drop, take-append-drop}
use borrow.Rule.Slice.PartMut.{put_mid}
use lib.Seq.{length-take-le, take_at, drop_at, drop-drop}
use borrow.Author.Tests.{le-leb, lt-leb}
use Rattle.groups.specs.Files.{Row, no_row, row_numbers, rows_numbers}
use Rattle.groups.specs.Store.{store}

-- a row of the slice
module _ (base n : ℕ) (rows : List ℕ) (t a m d : ℕ) where
  pub store-before : n < base → rows ≡ store base n rows t a m d
  unfolding store
  store-before h = rw (lt-leb base n h)

  module _ (h : base ≤ n) where
    pub store-past : length rows < 4 * (n - base) + 4 → rows ≡ store base n rows t a m d
    unfolding store
    store-past l = rw (le-leb base n h, lt-leb (4 * (n - base) + 4) (length rows) l)

    pub store_put : (k : ℕ) (ys : List ℕ) → k ≡ 4 → ys ≡ t ∷ a ∷ m ∷ d ∷ [] → 4 * (n - base) + 4 ≤ length rows
        → put_mid (4 * (n - base)) k rows ys ≡ store base n rows t a m d
    unfolding store
    store_put k ys e q l = rw (le-leb base n h, le-leb (4 * (n - base) + 4) (length rows) l, e, q, drop-drop 4 (4 * (n - base)) rows)
        (sym (append_assoc (take (4 * (n - base)) rows) (t ∷ a ∷ m ∷ d ∷ []) (drop (4 * (n - base) + 4) rows)))

-- rows stored one after another
unfoldable pub stores : ℕ → ℕ → List ℕ → List Row → List ℕ
stores base n rows [] = rows
stores base n rows (r ∷ rs) = stores base (n + 1) (store base n rows r.type r.start r.size r.depth) rs

-- all rows stored
put : (n : ℕ) (rows v : List ℕ) → 4 * n + 4 ≤ length rows → length v ≡ 4
    → (take (4 * (n + 1)) (take (4 * n) rows ++ v ++ drop (4 * n + 4) rows) ≡ take (4 * n) rows ++ v)
    × ((j : ℕ) → drop (4 * (n + 1) + j) (take (4 * n) rows ++ v ++ drop (4 * n + 4) rows) ≡ drop (4 * (n + 1) + j) rows)
    × (length (take (4 * n) rows ++ v ++ drop (4 * n + 4) rows) ≡ length rows)
put n rows v h e =
    let p : List ℕ = take (4 * n) rows ++ v in
    let l1 : length (take (4 * n) rows) ≡ 4 * n = length-take-le (4 * n) rows (omega arith) in
    let l2 : length p ≡ 4 * (n + 1) = length-append (take (4 * n) rows) v ∙ (omega arith) in
    let q : 4 * n + 4 ≡ 4 * (n + 1) = omega arith in
    let d : drop (4 * (n + 1)) (p ++ drop (4 * n + 4) rows) ≡ drop (4 * n + 4) rows = drop_at p (drop (4 * n + 4) rows) (4 * (n + 1)) l2 in (
      take_at p (drop (4 * n + 4) rows) (4 * (n + 1)) l2,
      (λ j. sym (drop-drop j (4 * (n + 1)) (p ++ drop (4 * n + 4) rows)) ∙ ap (drop j) d ∙ drop-drop j (4 * n + 4) rows ∙ rw q),
      length-append p (drop (4 * n + 4) rows) ∙ rw (length-drop (4 * n + 4) rows) (omega arith),
    )

pub stores-all : (n : ℕ) (rows : List ℕ) (rs : List Row) → 4 * (n + length rs) ≤ length rows
    → stores 0 n rows rs ≡ take (4 * n) rows ++ rows_numbers rs ++ drop (4 * (n + length rs)) rows
unfolding stores rows_numbers store
stores-all n rows [] h =
    let q : n + 0 ≡ n = omega arith in
    rw (q, append-nil (take (4 * n) rows)) (sym (take-append-drop (4 * n) rows))
stores-all n rows (r ∷ rs) h =
    let z : n - 0 ≡ n = omega arith in
    let l : 4 * n + 4 ≤ length rows = omega arith in
    let w = put n rows (row_numbers r) l refl in
    let m : List ℕ = take (4 * n) rows ++ row_numbers r ++ drop (4 * n + 4) rows in
    let lm : 4 * (n + 1 + length rs) ≤ length m = rw w.2 (omega arith) in
    let k : 4 * (n + 1 + length rs) ≡ 4 * (n + 1) + 4 * length rs = omega arith in
    let k2 : 4 * (n + 1) + 4 * length rs ≡ 4 * (n + suc (length rs)) = omega arith in
    let s : store 0 n rows r.type r.start r.size r.depth ≡ m = rw (le-leb 0 n (omega arith), z, le-leb (4 * n + 4) (length rows) l) in
    rw s (stores-all (n + 1) m rs lm ∙ rw (k, w.0, w.1 (4 * length rs), k2, append_assoc (take (4 * n) rows) (row_numbers r) (rows_numbers rs)))

-- one row stored
stores-after : (i n : ℕ) (rows : List ℕ) (rs : List Row) → i < n → length rows ≡ 4 → stores i n rows rs ≡ rows
unfolding stores
stores-after i n rows [] h l = refl
stores-after i n rows (r ∷ rs) h l =
    let p : length rows < 4 * (n - i) + 4 = omega arith in
    rw (← store-past i n rows r.type r.start r.size r.depth (omega arith) p) (stores-after i (n + 1) rows rs (omega arith) l)

put_only : (rows v : List ℕ) → length rows ≡ 4 → take 0 rows ++ v ++ drop 4 rows ≡ v
put_only rows v l =
    let d : drop 4 rows ≡ [] = rw (← l) (drop_all rows) in
    rw d (append-nil v)
  where
    drop_all : (x : List ℕ) → drop (length x) x ≡ []
    drop_all [] = refl
    drop_all (y ∷ x) = drop_all x

store_here : (n t a m d : ℕ) (rows : List ℕ) → length rows ≡ 4 → store n n rows t a m d ≡ t ∷ (a ∷ (m ∷ (d ∷ [])))
unfolding store
store_here n t a m d rows l =
    let z : n - n ≡ 0 = omega arith in
    let h : 4 ≤ length rows = omega arith in
    rw (le-leb n n (omega arith), z, le-leb 4 (length rows) h) (put_only rows (t ∷ (a ∷ (m ∷ (d ∷ [])))) l)

pub stores-pick : (j n : ℕ) (rows : List ℕ) (rs : List Row) → j < length rs → length rows ≡ 4 → stores (n + j) n rows rs ≡ row_numbers (get_or rs j no_row)
unfolding stores
stores-pick j n rows [] h l = absurd (omega arith)
stores-pick zero n rows (r ∷ rs) h l =
    let q : n + 0 ≡ n = omega arith in
    let s : store n n rows r.type r.start r.size r.depth ≡ row_numbers r = store_here n r.type r.start r.size r.depth rows l in
    subst (λ (m : ℕ). stores m n rows (r ∷ rs) ≡ row_numbers r) (sym q)
    (rw s (stores-after n (n + 1) (row_numbers r) rs (omega arith) refl))
stores-pick (suc j) n rows (r ∷ rs) h l =
    let b : n < n + 1 + j = omega arith in
    let q : n + suc j ≡ n + 1 + j = omega arith in
    subst (λ (m : ℕ). stores m n rows (r ∷ rs) ≡ row_numbers (get_or rs j no_row)) (sym q)
    (rw (← store-before (n + 1 + j) n rows r.type r.start r.size r.depth b) (stores-pick j (n + 1) rows rs (omega arith) l))
