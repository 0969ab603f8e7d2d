-- Laws of the check: entries that are rows, the rank of a row, and the first differing row.
use mathlib.Core.Path.{◌≡◌, refl, ap, sym, ◌∙◌}
use Prim.Native.Nat.{ℕ, zero, suc, ◌+◌, ◌*◌, ◌≤◌, ◌<◌, min}
use mathlib.Core.List.Permᴰ
use mathlib.Core.List.{List, [], ◌∷◌, Memᴰ, Permᴰ}
use mathlib.Core.Bool.{Bool, true, false, ◌&&◌, ◌||◌, cond, or_assoc, or-false}
use mathlib.Core.Logic.{◌⊎◌, inl, inr}
use native.Mathlib.Omega.{arith}
use native.Mathlib.Numerals.{add-one}
use native.Mathlib.Nat.{not-suc-le-zero, le_of_suc-le-suc}
use lib.ListN.{length, get_or, drop, drop_of_length-le}
use lib.Seq.{drop-cons, drop-drop}
use lib.Dec.{eqb, ltb}
use borrow.Author.Tests.{eq-eqb, eqb-true}
use Rattle.blorb.specs.Bytes.{rd32}
use Rattle.blorb.specs.Format.{Entry, entry_from, entries_in}
use Rattle.blorb.specs.All.{All}
use Rattle.blorb.proofs.AllLaws.{all_get_d}
use Rattle.blorb.proofs.Checks.{and_both}
use Rattle.index.specs.Entries.{place}
use Rattle.blorb.proofs.EntryList.{length-entries_in, entry-get_or}
use Rattle.rows.specs.Bridging.{NoTwice, Within, one, rank, held, Alike}
use Rattle.rows.specs.Rows.{row_in}
use Rattle.rows.specs.Order.{before, is_pair, sorted, Below, Rising}
use Rattle.rows.specs.Halving.{row_of, no_row}
use Rattle.table.specs.Answers.{agree}
use Rattle.rows.proofs.OrderLaws.{same-entry, ltb-key, eqb-key, key-same, before-less, less_not, pair_true, pair_is}
use Rattle.rows.proofs.SortLaws.{sorted_perm, sorted-rising, perm_mem, perm_length, mem_at, at_mem}

-- ---- entries that are rows

pub entry_read : (f : List ℕ) (p : ℕ) → record { usage = rd32 (drop p f); number = rd32 (drop (p + 4) f); start = rd32 (drop (p + 8) f) } ≡ entry_from (drop p f)
unfolding entry_from
entry_read f p = same-entry _ _ refl (ap rd32 (sym (drop-drop 4 p f))) (ap rd32 (sym (drop-drop 8 p f)))

-- a row with the numbers of the entry at p is that entry
pub row_read : (f t : List ℕ) (p row step gap : ℕ)
    → get_or t (row * step) 0 * 4294967296 + get_or t (row * step + gap) 0 ≡ rd32 (drop p f) * 4294967296 + rd32 (drop (p + 4) f)
    → get_or t (row * step + gap) 0 < 4294967296 → rd32 (drop (p + 4) f) < 4294967296 → get_or t (row * step + 2 * gap) 0 ≡ rd32 (drop (p + 8) f)
    → row_in t step gap row ≡ entry_from (drop p f)
row_read f t p row step gap k hb hn w =
    let s = key-same (get_or t (row * step) 0) (get_or t (row * step + gap) 0) (rd32 (drop p f)) (rd32 (drop (p + 4) f)) hb hn k in
    same-entry _ _ s.0 s.1 w ∙ entry_read f p

abbrev pub Held : List ℕ → List Entry → ℕ → Type 0
Held f rows j = Memᴰ (entry_from (drop (place j) f)) rows

pub held_all : (f : List ℕ) (count : ℕ) (rows : List Entry) → ((j : ℕ) → j < count → Held f rows j) → Within (entries_in count (drop 24 f)) rows
held_all f count rows h x k =
    let m = mem_at no_row (entries_in count (drop 24 f)) k in
    let l : m.0 < count = rw (length-entries_in count (drop 24 f)) at m.1 in
    rw (sym (entry-get_or f count m.0 24 no_row l) ∙ m.2) at (h m.0 l)

-- ---- the rank of a row

module _ (f : List ℕ) (count u n x : ℕ) where
  abbrev index : List Entry
  index = entries_in count (drop 24 f)

  pub drop-none : drop count index ≡ []
  drop-none = let l : length index ≤ count = omega (arith, length-entries_in count (drop 24 f)) in drop_of_length-le index {i = count} l

  module _ (j : ℕ) (h : j < count) (k s : ℕ) (ek : k ≡ rd32 (drop (24 + 12 * j) f) * 4294967296 + rd32 (drop (24 + 12 * j + 4) f))
      (hb : rd32 (drop (24 + 12 * j + 4) f) < 4294967296) (es : s ≡ u * 4294967296 + n) (hn : n < 4294967296) where
    abbrev this : Entry
    this = record { usage = rd32 (drop (24 + 12 * j) f); number = rd32 (drop (24 + 12 * j + 4) f); start = rd32 (drop (24 + 12 * j + 8) f) }

    drop-this : drop j index ≡ this ∷ drop (j + 1) index
    drop-this =
        let l : j < length index = omega (arith, length-entries_in count (drop 24 f)) in
        drop-cons index j no_row l ∙ rw (add-one j, entry-get_or f count j 24 no_row h, ← entry_read f (24 + 12 * j))

    pub rank-turn : (below b : ℕ) → b ≡ one (ltb k s) → below + rank u n (drop j index) ≡ rank u n index → below + b + rank u n (drop (j + 1) index) ≡
        rank u n index
    unfolding rank
    rank-turn below b e r =
        let w : ltb k s ≡ before this.usage this.number u n = rw (ek, es) (ltb-key this.usage this.number u n hb hn) in
        let o : b ≡ one (before this.usage this.number u n) = rw w at e in
        let q : rank u n (drop j index) ≡ one (before this.usage this.number u n) + rank u n (drop (j + 1) index) = ap (rank u n) drop-this in
        omega arith

    pub held-turn : (there : Bool) (y : ℕ) → y ≡ rd32 (drop (24 + 12 * j + 8) f) → (there || held u n x (drop j index)) ≡ held u n x index
        → (there || (eqb k s && eqb y x)) || held u n x (drop (j + 1) index) ≡ held u n x index
    unfolding held
    held-turn there y ey r =
        let o : eqb k s ≡ is_pair u n this = rw (ek, es) (eqb-key u n this hb hn) in
        let q : held u n x (drop j index) ≡ (is_pair u n this && eqb this.start x) || held u n x (drop (j + 1) index) = ap (held u n x) drop-this in
        or_assoc there (eqb k s && eqb y x) (held u n x (drop (j + 1) index)) ∙ rw (o, ey) (ap (λ (c : Bool). there || c) (sym q) ∙ r)

-- ---- the row that stands at a place

module _ (u n : ℕ) where
  pub rank_perm : {l m : List Entry} → Permᴰ l m → rank u n l ≡ rank u n m
  unfolding rank
  rank_perm Permᴰ.nil = refl
  rank_perm (Permᴰ.cons e d) = rw (e, rank_perm d)
  rank_perm (Permᴰ.swap e g) = rw (e, g) (omega arith)
  rank_perm (Permᴰ.trans d g) = rank_perm d ∙ rank_perm g

rank-zero : (e : Entry) (es : List Entry) → All (Below e) es → rank e.usage e.number es ≡ 0
unfolding rank
rank-zero e [] h = refl
rank-zero e (x ∷ es) h =
    rw (less_not x.usage x.number e.usage e.number (inl (before-less e.usage e.number x.usage x.number h.0)), rank-zero e es h.1)

pub rank-rising : (rows : List Entry) (i : ℕ) → Rising rows → i < length rows → rank (row_of rows i).usage (row_of rows i).number rows ≡ i
unfolding rank Rising
rank-rising [] i r l = absurd (not-suc-le-zero l)
rank-rising (e ∷ es) zero r l = rw (less_not e.usage e.number e.usage e.number (inr (refl, refl)), rank-zero e es r.0)
rank-rising (e ∷ es) (suc i) r l =
    let p : before e.usage e.number (row_of es i).usage (row_of es i).number ≡ true = all_get_d (Below e) es i no_row r.0 (le_of_suc-le-suc l) in
    rw p (omega (arith, rank-rising es i r.1 (le_of_suc-le-suc l)))

pub held_mem : (u n x : ℕ) (es : List Entry) → held u n x es ≡ true → Memᴰ (record { usage = u; number = n; start = x }) es
unfolding held
held_mem u n x [] h = absurd (let z : ◌≡◌ {A = ℕ} 0 1 = cc in omega arith)
held_mem u n x (e ∷ es) h = go (is_pair u n e && eqb e.start x) refl h (held_mem u n x es)
  where
    go : (b : Bool) → (is_pair u n e && eqb e.start x) ≡ b → b || held u n x es ≡ true →
        (held u n x es ≡ true → Memᴰ (record { usage = u; number = n; start = x }) es)
        → Memᴰ (record { usage = u; number = n; start = x }) (e ∷ es)
    go true w g ih =
        let a = and_both (is_pair u n e) (eqb e.start x) w in
        let p = pair_true u n e a.0 in
        mathlib.Core.List.Memᴰ.head (same-entry _ _ (sym p.0) (sym p.1) (sym (eqb-true _ _ a.1)))
    go false w g ih = mathlib.Core.List.Memᴰ.tail (ih g)

pub mem_held : (u n x : ℕ) (es : List Entry) → Memᴰ (record { usage = u; number = n; start = x }) es → held u n x es ≡ true
unfolding held
mem_held u n x [] k = absurd (mathlib.Core.List.Memᴰ.not-nil k)
mem_held u n x (e ∷ es) k = go (mathlib.Core.List.Memᴰ.cases_cons k) (mem_held u n x es)
  where
    go : (record { usage = u; number = n; start = x } ≡ e) ⊎ Memᴰ (record { usage = u; number = n; start = x }) es
        → (Memᴰ (record { usage = u; number = n; start = x }) es → held u n x es ≡ true) → (is_pair u n e && eqb e.start x) || held u n x es ≡ true
    go (inl q) ih =
        let p : is_pair u n e ≡ true = pair_is u n e (ap (λ (y : Entry). y.usage) (sym q)) (ap (λ (y : Entry). y.number) (sym q)) in
        let r : eqb e.start x ≡ true = eq-eqb _ _ (ap (λ (y : Entry). y.start) (sym q)) in
        rw (p, r)
    go (inr q) ih = yes (is_pair u n e && eqb e.start x) (ih q)
      where
        yes : (b : Bool) → held u n x es ≡ true → b || held u n x es ≡ true
        yes true w = refl
        yes false w = w

module _ (es : List Entry) (h : NoTwice es) (u n x i : ℕ) where
  pub ranked-row : eqb (rank u n es) i && held u n x es ≡ true → row_of (sorted es) i ≡ record { usage = u; number = n; start = x }
  ranked-row t =
      let a = and_both (eqb (rank u n es) i) (held u n x es) t in
      let m = mem_at no_row (sorted es) (perm_mem (Permᴰ.symm (sorted_perm es)) (held_mem u n x es a.1)) in
      let r : rank (row_of (sorted es) m.0).usage (row_of (sorted es) m.0).number (sorted es) ≡ m.0 = rank-rising (sorted es) m.0
      (sorted-rising es h) m.1 in
      let r2 : rank u n (sorted es) ≡ m.0 = rw m.2 at r in
      let q : m.0 ≡ i = sym r2 ∙ rank_perm u n (sorted_perm es) ∙ eqb-true _ _ a.0 in
      rw q at m.2

  pub ranked_not : eqb (rank u n es) i && held u n x es ≡ false → i < length es → row_of (sorted es) i ≡ record { usage = u; number = n; start = x } → ⊥
  ranked_not t l e =
      let l2 : i < length (sorted es) = omega (arith, perm_length (sorted_perm es)) in
      let r : rank u n (sorted es) ≡ i = rw e at (rank-rising (sorted es) i (sorted-rising es h) l2) in
      let a : eqb (rank u n es) i ≡ true = eq-eqb _ _ (sym (rank_perm u n (sorted_perm es)) ∙ r) in
      let m : Memᴰ (record { usage = u; number = n; start = x }) (sorted es) = rw e at (at_mem no_row (sorted es) i l2) in
      let b : held u n x es ≡ true = mem_held u n x es (perm_mem (sorted_perm es) m) in
      let z : ◌≡◌ {A = ℕ} 0 1 = cc (t, a, b) in omega arith

-- ---- the first differing row

agree_same : (x y : Entry) → is_pair x.usage x.number y && eqb y.start x.start ≡ true → x ≡ y
agree_same x y t =
    let a = and_both (is_pair x.usage x.number y) (eqb y.start x.start) t in
    let p = pair_true x.usage x.number y a.0 in
    same-entry x y (sym p.0) (sym p.1) (sym (eqb-true _ _ a.1))

same-agree : (x y : Entry) → x ≡ y → is_pair x.usage x.number y && eqb y.start x.start ≡ true
same-agree x y e =
    let p : is_pair x.usage x.number y ≡ true = pair_is x.usage x.number y (ap (λ (z : Entry). z.usage) (sym e))
    (ap (λ (z : Entry). z.number) (sym e)) in
    rw (p, eq-eqb y.start x.start (ap (λ (z : Entry). z.start) (sym e)))

pub agree-first : (xs ys : List Entry) (i : ℕ) → i < length xs → i < length ys → Alike xs ys i → (row_of xs i ≡ row_of ys i → ⊥) → i ≡ agree xs ys
unfolding agree
agree-first [] ys i a b h d = absurd (not-suc-le-zero a)
agree-first (x ∷ xs) [] i a b h d = absurd (not-suc-le-zero b)
agree-first (x ∷ xs) (y ∷ ys) zero a b h d = go (is_pair x.usage x.number y && eqb y.start x.start) refl
  where
    go : (c : Bool) → (is_pair x.usage x.number y && eqb y.start x.start) ≡ c → zero ≡ cond c (suc (agree xs ys)) 0
    go true e = absurd (d (agree_same x y e))
    go false e = refl
agree-first (x ∷ xs) (y ∷ ys) (suc i) a b h d =
    rw (same-agree x y (h 0 (omega arith))) (ap suc (agree-first xs ys i (le_of_suc-le-suc a) (le_of_suc-le-suc b) (λ k l. h (suc k) (omega arith)) d))

pub agree-all : (xs ys : List Entry) (i : ℕ) → i ≡ min (length xs) (length ys) → Alike xs ys i → i ≡ agree xs ys
unfolding agree
agree-all [] ys i e h = omega arith
agree-all (x ∷ xs) [] i e h = omega arith
agree-all (x ∷ xs) (y ∷ ys) zero e h = absurd (omega arith)
agree-all (x ∷ xs) (y ∷ ys) (suc i) e h =
    rw (same-agree x y (h 0 (omega arith))) (ap suc (agree-all xs ys i (omega arith) (λ k l. h (suc k) (omega arith))))

-- as many rows as agree, and no more: the same rows
pub agree-same-rows : (xs ys : List Entry) → length xs ≡ length ys → agree xs ys ≡ length ys → xs ≡ ys
unfolding agree
agree-same-rows [] [] l e = refl
agree-same-rows [] (y ∷ ys) l e = absurd (omega arith)
agree-same-rows (x ∷ xs) [] l e = absurd (omega arith)
agree-same-rows (x ∷ xs) (y ∷ ys) l e = go (is_pair x.usage x.number y && eqb y.start x.start) refl e (agree-same-rows xs ys (omega arith))
  where
    go : (c : Bool) → (is_pair x.usage x.number y && eqb y.start x.start) ≡ c → cond c (suc (agree xs ys)) 0 ≡ suc (length ys)
        → (agree xs ys ≡ length ys → xs ≡ ys) → x ∷ xs ≡ y ∷ ys
    go true w g ih = let p : x ≡ y = agree_same x y w in let q : xs ≡ ys = ih (omega arith) in rw (p, q)
    go false w g ih = absurd (omega arith)

pub agree_self : (xs : List Entry) → agree xs xs ≡ length xs
unfolding agree
agree_self [] = refl
agree_self (x ∷ xs) = rw (same-agree x x refl) (ap suc (agree_self xs))

pub ranked_end : (f : List ℕ) (count u n x i j below : ℕ) (there : Bool) → j ≡ count → below + rank u n (drop j (entries_in count (drop 24 f))) ≡ rank u
    n (entries_in count (drop 24 f))
    → there || held u n x (drop j (entries_in count (drop 24 f))) ≡ held u n x (entries_in count (drop 24 f))
    → eqb below i && there ≡ eqb (rank u n (entries_in count (drop 24 f))) i && held u n x (entries_in count (drop 24 f))
unfolding rank held
ranked_end f count u n x i j below there e r h =
    let d : drop j (entries_in count (drop 24 f)) ≡ [] = rw e (drop-none f count u n x) in
    let r2 : below + 0 ≡ rank u n (entries_in count (drop 24 f)) = rw d at r in
    let b : below ≡ rank u n (entries_in count (drop 24 f)) = omega arith in
    let t : there ≡ held u n x (entries_in count (drop 24 f)) = sym (or-false there) ∙ rw d at h in
    rw (← b, ← t)
