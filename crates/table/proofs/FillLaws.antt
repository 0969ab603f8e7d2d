-- Laws of building: the rows of all entries, put in the file's order, stand in their own order after the sort.
use mathlib.Core.Path.{◌≡◌, refl, ap, sym, ◌∙◌}
use Prim.Native.Nat.{ℕ, zero, suc, ◌+◌, ◌*◌, ◌-◌, ◌/◌, ◌≤◌, ◌<◌}
use mathlib.Core.List.Permᴰ
use mathlib.Core.List.{List, ◌++◌, Memᴰ}
use native.Mathlib.Omega.{arith}
use lib.ListN.{length, get_or, drop, length-append, length-drop}
use lib.Seq.{get_or-drop, drop_at, ext_get_or}
use Rattle.blorb.specs.Format.{Entry}
use Rattle.rows.specs.Rows.{row_in, rows_by, flat}
use Rattle.rows.specs.Halving.{row_of, no_row}
use Rattle.rows.proofs.RowLaws.{length-listed, row_by, adjacent_all, row-there}
use Rattle.rows.proofs.OrderLaws.{key-before, key-same}
use mathlib.Core.Bool.{Bool, true, false}
use lib.Dec.{ltb}
use borrow.Author.Tests.{ltb-true, ltb-false}
use Rattle.rows.specs.Order.{sorted, Rising}
use Rattle.rows.specs.Bridging.{NoTwice}
use Rattle.rows.specs.Heaps.{key_in, Mixed, Climbs}
use Rattle.rows.proofs.SortLaws.{only_sorted, all_there, mem_at, one_place}
use Rattle.rows.proofs.HeapLaws.{mixed-back}
use Rattle.rows.proofs.FlatLaws.{length-flat, rows_flat_go, rows-front, rows_split}

less : (a b : ℕ) → a ≤ b → (a ≡ b → ⊥) → a < b
less a b l h = go (ltb a b) refl
  where
    go : (t : Bool) → ltb a b ≡ t → a < b
    go true e = ltb-true a b e
    go false e = absurd (h (omega (arith, ltb-false a b e)))

-- ---- the slice after the sort

module _ (es : List Entry) (once : NoTwice es) (n : ℕ) (ln : length es ≡ n) (t0 : List ℕ) (room : 3 * n ≤ length t0) (t1 : List ℕ)
    (w : t1 ≡ flat es ++ drop (3 * n) t0) where
  lf : length (flat es) ≡ 3 * n
  lf = length-flat es ∙ ap (λ (k : ℕ). 3 * k) ln

  pub put_long : 3 * n ≤ length t1
  put_long = rw w (simp (length-append, length-drop) (omega (arith, lf)))

  rows_put : rows_by t1 n 3 1 ≡ es
  rows_put = ap (λ (x : List ℕ). rows_by x n 3 1) w ∙ rows-front (flat es) (drop (3 * n) t0) n (omega (arith, lf)) ∙
      ap (λ (k : ℕ). rows_by (flat es) k 3 1) (sym ln) ∙ rows_flat_go es

  row_put : (k : ℕ) → k < n → row_in t1 3 1 k ≡ row_of es k
  row_put k l = sym (row_by t1 n 3 1 k l) ∙ ap (λ (r : List Entry). row_of r k) rows_put

  -- they rise already
  pub fill-risen : Rising (rows_by t1 n 3 1) → t1 ≡ flat (sorted es) ++ drop (3 * n) t0
  fill-risen r = let q : es ≡ sorted es = only_sorted es es once (rw rows_put at r) (Permᴰ.refl es) in w ∙ ap (λ (r : List Entry). flat r ++ drop (3 * n) t0) q

  module _ (t2 : List ℕ) (l2 : length t2 ≡ length t1) (x : Mixed t1 t2 n) (up : Climbs (key_in t2) n) (small : (k : ℕ) → get_or t2 k 0 < 4294967296) where
    row_now : (k : ℕ) → k < n → row_in t2 3 1 k ≡ row_of es (x.to k)
    row_now k l = x.row k ∙ row_put (x.to k) (x.inside k l)

    apart : (a b : ℕ) → a < b → b < n → key_in t2 a ≡ key_in t2 b → ⊥
    apart a b l m e =
        let s = key-same (get_or t2 (a * 3) 0) (get_or t2 (a * 3 + 1) 0) (get_or t2 (b * 3) 0) (get_or t2 (b * 3 + 1) 0) (small (a * 3 + 1)) (small (b * 3 + 1)) e in
        let p = row_now a (omega arith) in
        let q = row_now b m in
        let o : x.to a ≡ x.to b =
        one_place es no_row (x.to a) (x.to b) once (omega (arith, ln, x.inside a (omega arith))) (omega (arith, ln, x.inside b m))
        (sym (ap (λ (z : Entry). z.usage) p) ∙ s.0 ∙ ap (λ (z : Entry). z.usage) q)
        (sym (ap (λ (z : Entry). z.number) p) ∙ s.1 ∙ ap (λ (z : Entry). z.number) q) in
        let v : a ≡ b = sym (x.again a) ∙ ap x.from o ∙ x.again b in
        omega arith

    rise : Rising (rows_by t2 n 3 1)
    rise =
        adjacent_all (row_in t2 3 1) n
        (λ k l. key-before (get_or t2 (k * 3) 0) (get_or t2 (k * 3 + 1) 0) (get_or t2 (suc k * 3) 0) (get_or t2 (suc k * 3 + 1) 0) (small (k * 3 + 1))
        (small (suc k * 3 + 1))
        (less (key_in t2 k) (key_in t2 (suc k)) (up k (suc k) (omega arith) l) (apart k (suc k) (omega arith) l)))

    within : (e : Entry) → Memᴰ e es → Memᴰ e (rows_by t2 n 3 1)
    within e k =
        let m = mem_at no_row es k in
        let l : m.0 < n = omega (arith, m.1, ln) in
        let b : x.from m.0 < n = mixed-back t1 t2 n x m.0 l in
        row-there t2 n 3 1 (x.from m.0) e b (row_now (x.from m.0) b ∙ ap (row_of es) (x.there m.0) ∙ m.2)

    rows-sorted : rows_by t2 n 3 1 ≡ sorted es
    rows-sorted = all_there (rows_by t2 n 3 1) es once rise (length-listed (row_in t2 3 1) n ∙ sym ln) within

    number-at : (k q d : ℕ) → k ≡ q * 3 + d → d < 3 → row_in t2 3 1 q ≡ row_in t1 3 1 q → get_or t2 k 0 ≡ get_or t1 k 0
    number-at k q zero e l r = let v : k ≡ q * 3 = omega arith in rw v (ap (λ (z : Entry). z.usage) r)
    number-at k q (suc zero) e l r = let v : k ≡ q * 3 + 1 = omega arith in rw v (ap (λ (z : Entry). z.number) r)
    number-at k q (suc (suc zero)) e l r = let v : k ≡ q * 3 + 2 * 1 = omega arith in rw v (ap (λ (z : Entry). z.start) r)
    number-at k q (suc (suc (suc d))) e l r = absurd (omega arith)

    kept : (k : ℕ) → 3 * n ≤ k → get_or t2 k 0 ≡ get_or t1 k 0
    kept k l =
        let q : ℕ = k / 3 in
        number-at k (k / 3) (k - k / 3 * 3) (omega arith) (omega arith) (x.row (k / 3) ∙ ap (row_in t1 3 1) (x.beyond (k / 3) (omega arith)))

    behind : drop (3 * n) t2 ≡ drop (3 * n) t0
    behind =
        let a : drop (3 * n) t1 ≡ drop (3 * n) t0 = ap (drop (3 * n)) w ∙ drop_at (flat es) (drop (3 * n) t0) (3 * n) lf in
        let b : drop (3 * n) t2 ≡ drop (3 * n) t1 =
        ext_get_or 0 (drop (3 * n) t2) (drop (3 * n) t1) (length-drop (3 * n) t2 ∙ ap (λ (k : ℕ). k - 3 * n) l2 ∙ sym (length-drop (3 * n) t1))
        (λ i l. get_or-drop (3 * n) t2 i 0 ∙ kept (3 * n + i) (omega arith) ∙ sym (get_or-drop (3 * n) t1 i 0)) in
        b ∙ a

    pub fill-sorted : t2 ≡ flat (sorted es) ++ drop (3 * n) t0
    fill-sorted =
        let s = rows_split t2 n (omega (arith, put_long, l2)) in
        s ∙ rw (rows-sorted, behind)
