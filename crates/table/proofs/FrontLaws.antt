-- Laws of the rows that are right from the first on: told by the entries that do not stand behind the last of them.
use mathlib.Core.Path.{◌≡◌, refl, ap, sym, ◌∙◌}
use Prim.Native.Nat.{ℕ, zero, suc, ◌+◌, ◌*◌, ◌-◌, ◌≤◌, ◌<◌}
use mathlib.Core.List.Permᴰ
use mathlib.Core.List.{List, [], ◌∷◌, Memᴰ, Permᴰ}
use mathlib.Core.Logic.{⊎_elim}
use mathlib.Core.Bool.{Bool, true, false, not}
use native.Mathlib.Omega.{arith}
use native.Mathlib.Numerals.{add-one}
use native.Mathlib.Nat.{not-suc-le-zero}
use lib.ListN.{length, get_or, take, drop, drop_of_length-le}
use lib.Seq.{drop-cons, length-take-le, get_or-take}
use borrow.Author.Tests.{ltb-true}
use Rattle.blorb.specs.Bytes.{rd32}
use Rattle.blorb.specs.Format.{Entry, entry_from, entries_in}
use Rattle.blorb.specs.All.{All}
use Rattle.blorb.proofs.AllLaws.{all_take}
use Rattle.blorb.proofs.NumberLaws.{below?}
use Rattle.blorb.proofs.EntryList.{length-entries_in, entry-get_or}
use Rattle.rows.specs.Rows.{row_in, rows_by}
use Rattle.rows.specs.Order.{before, sorted, Below, Rising}
use Rattle.rows.specs.Bridging.{NoTwice, Within, one, upto, Alike}
use Rattle.rows.specs.Halving.{row_of, no_row}
use Rattle.rows.proofs.OrderLaws.{before_trans, key-before, key_not, ltb-key, more, rising-at}
use Rattle.rows.proofs.SortLaws.{sorted_perm, sorted-rising, perm_mem, perm_length, mem_at, at_mem, rising-same}
use Rattle.rows.proofs.RowLaws.{length-listed, get_or-listed, row_by, row-there}
use Rattle.table.proofs.CheckLaws.{Held, entry_read}

rising-take : (i : ℕ) (es : List Entry) → Rising es → Rising (take i es)
unfolding Rising
rising-take zero es h = tt
rising-take (suc i) [] h = tt
rising-take (suc i) (e ∷ es) h = (all_take (Below e) i es h.0, rising-take i es h.1)

module _ (u n : ℕ) where
  upto_perm : {l m : List Entry} → Permᴰ l m → upto u n l ≡ upto u n m
  unfolding upto
  upto_perm Permᴰ.nil = refl
  upto_perm (Permᴰ.cons e d) = rw (e, upto_perm d)
  upto_perm (Permᴰ.swap e g) = rw (e, g) (omega arith)
  upto_perm (Permᴰ.trans d g) = upto_perm d ∙ upto_perm g

  upto-none : (x : Entry) (es : List Entry) → before u n x.usage x.number ≡ true → All (Below x) es → upto u n es ≡ 0
  unfolding upto
  upto-none x [] p h = refl
  upto-none x (e ∷ es) p h = rw (before_trans u n x.usage x.number e.usage e.number p h.0, upto-none x es p h.1)

  -- in rows that rise the first ones are those that do not stand behind
  upto-rising : (es : List Entry) (k : ℕ) → Rising es → k < upto u n es → before u n (row_of es k).usage (row_of es k).number ≡ false
  unfolding upto Rising
  upto-rising [] k r l = absurd (not-suc-le-zero l)
  upto-rising (e ∷ es) k r l = go (before u n e.usage e.number) refl k l (upto-rising es)
    where
      go : (b : Bool) → before u n e.usage e.number ≡ b → (j : ℕ) → j < one (not b) + upto u n es
          → ((m : ℕ) → Rising es → m < upto u n es → before u n (row_of es m).usage (row_of es m).number ≡ false)
          → before u n (row_of (e ∷ es) j).usage (row_of (e ∷ es) j).number ≡ false
      go true w j q ih = absurd (omega (arith, upto-none e es w r.0))
      go false w zero q ih = w
      go false w (suc j) q ih = ih j r.1 (omega arith)

module _ (f t : List ℕ) (count rows step gap i : ℕ) where
  -- the rows that are right, from what the loop has counted
  pub front_right : i ≤ rows → i ≤ count → NoTwice (entries_in count (drop 24 f)) → Rising (rows_by t i step gap) → (u n : ℕ) → upto u n
      (entries_in count (drop 24 f)) ≡ i
      → ((j : ℕ) → j < count → before u n (rd32 (drop (24 + 12 * j) f)) (rd32 (drop (24 + 12 * j + 4) f)) ≡ false → Held f (rows_by t i step gap) j)
      → Alike (rows_by t rows step gap) (sorted (entries_in count (drop 24 f))) i
  unfolding entry_from
  front_right lr lc once r u n c h k l =
      let E : List Entry = entries_in count (drop 24 f) in
      let S : List Entry = sorted (entries_in count (drop 24 f)) in
      let P : List Entry = rows_by t i step gap in
      let ls : length S ≡ count = perm_length (sorted_perm E) ∙ length-entries_in count (drop 24 f) in
      let lt : length (take i S) ≡ i = length-take-le i S (omega arith) in
      let lp : length P ≡ i = length-listed (row_in t step gap) i in
      let rs : Rising S = sorted-rising E once in
      let cs : upto u n S ≡ i = upto_perm u n (sorted_perm E) ∙ c in
      let inside : Within (take i S) P = λ x m.
      (let a = mem_at no_row (take i S) m in
      let b : a.0 < i = omega (arith, a.1) in
      let s : row_of S a.0 ≡ x = sym (get_or-take i S a.0 no_row b) ∙ a.2 in
      let w : before u n (row_of S a.0).usage (row_of S a.0).number ≡ false = upto-rising u n S a.0 rs (omega (arith, cs)) in
      let v : before u n x.usage x.number ≡ false = rw s at w in
      let e = mem_at no_row E (perm_mem (sorted_perm E) (rw s at (at_mem no_row S a.0 (omega (arith, ls))))) in
      let q : e.0 < count = omega (arith, e.1, length-entries_in count (drop 24 f)) in
      let y : record { usage = rd32 (drop (24 + 12 * e.0) f); number = rd32 (drop (24 + 12 * e.0 + 4) f); start = rd32 (drop (24 + 12 * e.0 + 8) f) } ≡ x =
      entry_read f (24 + 12 * e.0) ∙ sym (entry-get_or f count e.0 24 no_row q) ∙ e.2 in
      let z : entry_from (drop (24 + 12 * e.0) f) ≡ x = sym (entry-get_or f count e.0 24 no_row q) ∙ e.2 in
      rw z at (h e.0 q (ap (λ (g : Entry). before u n g.usage g.number) y ∙ v)))
      in
      let same : take i S ≡ P = rising-same (take i S) P (rising-take i S rs) r inside (omega arith) in
      get_or-listed (row_in t step gap) rows k no_row (omega arith) ∙ sym (get_or-listed (row_in t step gap) i k no_row l)
      ∙ ap (λ (g : List Entry). get_or g k no_row) (sym same) ∙ get_or-take i S k no_row l

  -- a turn of the loop
  module _ (j : ℕ) (h : j < count) where
    drop-next : drop j (entries_in count (drop 24 f)) ≡ record {
      usage = rd32 (drop (24 + 12 * j) f);
      number = rd32 (drop (24 + 12 * j + 4) f);
      start
          = rd32 (drop (24 + 12 * j + 8) f);
    } ∷ drop (j + 1) (entries_in count (drop 24 f))
    drop-next =
        drop-cons (entries_in count (drop 24 f)) j no_row (omega (arith, length-entries_in count (drop 24 f)))
        ∙ rw (add-one j, entry-get_or f count j 24 no_row h, ← entry_read f (24 + 12 * j))

    -- where the first low rows are right, an entry that stands before the last of them is one of them
    pub known_held : (low : ℕ) → 0 < low → low ≤ i → i ≤ rows → NoTwice (entries_in count (drop 24 f)) → Alike (rows_by t rows step gap)
        (sorted (entries_in count (drop 24 f))) low
        → (k s : ℕ) → get_or t ((low - 1) * step + gap) 0 < 4294967296 → s ≡ get_or t ((low - 1) * step) 0 * 4294967296 + get_or t ((low - 1) * step + gap) 0
        → k ≡ rd32 (drop (24 + 12 * j) f) * 4294967296 + rd32 (drop (24 + 12 * j + 4) f) → rd32 (drop (24 + 12 * j + 4) f) < 4294967296 → k < s
        → Held f (rows_by t i step gap) j
    known_held low lo li lr once alike k s hs es ek hk l =
        let E : List Entry = entries_in count (drop 24 f) in
        let S : List Entry = sorted (entries_in count (drop 24 f)) in
        let m = mem_at no_row S (perm_mem (Permᴰ.symm (sorted_perm E)) (at_mem no_row E j (omega (arith, length-entries_in count (drop 24 f))))) in
        let e : row_of S m.0 ≡ entry_from (drop (24 + 12 * j) f) = m.2 ∙ entry-get_or f count j 24 no_row h in
        ⊎_elim
        (λ b. row-there t i step gap m.0 _ (omega arith) (sym (row_by t rows step gap m.0 (omega arith)) ∙ alike m.0 b ∙ e))
        (λ b.
        let r : Below (row_of S (low - 1)) (row_of S m.0) = rising-at S no_row (low - 1) m.0 (sorted-rising E once) (omega arith) m.1 in
        let x : row_of S (low - 1) ≡ row_in t step gap (low - 1) = sym (alike (low - 1) (omega arith)) ∙ row_by t rows step gap (low - 1) (omega arith) in
        let g : s < k = ltb-true s k (rw (es, ek) (ltb-key _ _ _ _ hs hk ∙ rw (x, e ∙ sym (entry_read f (24 + 12 * j))) at r)) in
        absurd (omega arith))
        (below? m.0 low)

    module _ (u n k s : ℕ) (hu : n < 4294967296) (es : s ≡ u * 4294967296 + n)
        (ek : k ≡ rd32 (drop (24 + 12 * j) f) * 4294967296 + rd32 (drop (24 + 12 * j + 4) f))
        (hk : rd32 (drop (24 + 12 * j + 4) f) < 4294967296) (m : ℕ) (c : m + upto u n (drop j (entries_in count (drop 24 f))) ≡ upto u n
        (entries_in count (drop 24 f)))
        (g : (i2 : ℕ) → i2 < j → before u n (rd32 (drop (24 + 12 * i2) f)) (rd32 (drop (24 + 12 * i2 + 4) f)) ≡ false → Held f (rows_by t i step gap) i2) where
      pub skip_count : s < k → m + upto u n (drop (j + 1) (entries_in count (drop 24 f))) ≡ upto u n (entries_in count (drop 24 f))
      unfolding upto
      skip_count l =
          let b : before u n (rd32 (drop (24 + 12 * j) f)) (rd32 (drop (24 + 12 * j + 4) f)) ≡ true = key-before u n _ _ hu hk (omega arith) in
          let q = ap (upto u n) drop-next in
          let w : upto u n (drop j (entries_in count (drop 24 f))) ≡ 0 + upto u n (drop (j + 1) (entries_in count (drop 24 f))) = rw b at q in
          omega arith

      pub skip-held : s < k → (i2 : ℕ) → i2 < j + 1 → before u n (rd32 (drop (24 + 12 * i2) f)) (rd32 (drop (24 + 12 * i2 + 4) f)) ≡ false → Held f
          (rows_by t i step gap) i2
      skip-held l =
          let b : before u n (rd32 (drop (24 + 12 * j) f)) (rd32 (drop (24 + 12 * j + 4) f)) ≡ true = key-before u n _ _ hu hk (omega arith) in
          more (λ (i2 : ℕ). before u n (rd32 (drop (24 + 12 * i2) f)) (rd32 (drop (24 + 12 * i2 + 4) f)) ≡ false → Held f (rows_by t i step gap) i2) j g
          (λ w. absurd (let z : ◌≡◌ {A = ℕ} 0 1 = cc (b, w) in omega arith))

      pub take_count : k ≤ s → m + 1 + upto u n (drop (j + 1) (entries_in count (drop 24 f))) ≡ upto u n (entries_in count (drop 24 f))
      unfolding upto
      take_count l =
          let b : before u n (rd32 (drop (24 + 12 * j) f)) (rd32 (drop (24 + 12 * j + 4) f)) ≡ false = key_not u n _ _ hu hk (omega arith) in
          let q = ap (upto u n) drop-next in
          let w : upto u n (drop j (entries_in count (drop 24 f))) ≡ 1 + upto u n (drop (j + 1) (entries_in count (drop 24 f))) = rw b at q in
          omega arith

      pub take-held : Memᴰ (entry_from (drop (24 + 12 * j) f)) (rows_by t i step gap)
          → (i2 : ℕ) → i2 < j + 1 → before u n (rd32 (drop (24 + 12 * i2) f)) (rd32 (drop (24 + 12 * i2 + 4) f)) ≡ false → Held f (rows_by t i step gap) i2
      take-held x =
          more (λ (i2 : ℕ). before u n (rd32 (drop (24 + 12 * i2) f)) (rd32 (drop (24 + 12 * i2 + 4) f)) ≡ false → Held f (rows_by t i step gap) i2) j g (λ w. x)

  pub upto_end : (u n j m : ℕ) → j ≡ count → m + upto u n (drop j (entries_in count (drop 24 f))) ≡ upto u n (entries_in count (drop 24 f)) → upto u
      n (entries_in count (drop 24 f)) ≡ m
  unfolding upto
  upto_end u n j m e c =
      let l : length (entries_in count (drop 24 f)) ≤ j = omega (arith, length-entries_in count (drop 24 f)) in
      let d : drop j (entries_in count (drop 24 f)) ≡ [] = drop_of_length-le (entries_in count (drop 24 f)) {i = j} l in
      let w : m + 0 ≡ upto u n (entries_in count (drop 24 f)) = rw d at c in
      omega arith
