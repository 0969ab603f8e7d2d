-- Laws of the index: its shape (10 and 11), its entries, and the search for a pair.
use mathlib.Core.Path.{◌≡◌, refl, sym, ap, ◌∙◌}
use Prim.Native.Nat.{ℕ, zero, suc, ◌+◌, ◌*◌, ◌-◌, ◌≤◌, ◌<◌}
use mathlib.Core.List.{List, [], ◌∷◌, ◌++◌, map}
use mathlib.Core.Bool.{Bool, true, false, cond, ◌&&◌, ◌||◌, not, or-true, or-false}
use native.Mathlib.Omega.{arith}
use native.Mathlib.Numerals.{add-one}
use native.Mathlib.Nat.{not-suc-le-zero, le_of_suc-le-suc}
use lib.ListN.{length, get_or, take, drop}
use lib.Seq.{drop-drop, take-nil}
use lib.Dec.{eqb, leb, ltb}
use borrow.Author.Tests.{eq-eqb, ne_eqb, eqb-true, le-leb, lt-leb, leb-true, not-true, lt-ltb, le-ltb, ltb-true, ltb-false}
use Rattle.blorb.specs.Bytes.{rd32}
use Rattle.blorb.specs.Format.{Chunk, Entry, Ref, ref_of, chunk_in, entry_from, entries_in, entries_of, is_start, place_of}
use Rattle.blorb.specs.Verdict.{Rules, accept, refuse, no_chunk, pair_in, ref_fault, entries_fault, index_fault}
use Rattle.blorb.specs.Rules.{picture}
use Rattle.blorb.specs.Tags.{Pict, Rect}
use Rattle.chunks.specs.Walk.{chunk_from, next_at, chunks_from, walk_from}
use Rattle.chunks.proofs.ChunkLaws.{fine, walk-behind}
use Rattle.chunks.proofs.StartLaws.{begun}
use Rattle.blorb.proofs.Checks.{pass, stop, holds_last, fails_last, then_accept, check_accept, and_both}
use Rattle.index.specs.Entries.{usage_at, number_at, start_at, place, pair_place, place_in}
use Rattle.blorb.proofs.UsageLaws.{rd32-take}
use Rattle.blorb.proofs.EntryList.{length-entries_in, entry-get_or}
use Rattle.index.proofs.EntryLaws.{pair_snoc}
use Rattle.std.specs.Prelude.{Some, None}
use Rattle.index.specs.Hits.{hit_in, pick_hit}
use Rattle.index.specs.Optional.{picture_by, EntriesPassed}

none_some : {x : ℕ} → None ≡ Some x → ⊥
none_some e = let z : ◌≡◌ {A = ℕ} 0 1 = cc in absurd (omega arith)

-- parts of parts
pub drop-take : (n k m : ℕ) (s : List ℕ) → k ≡ n + m → drop n (take k s) ≡ take m (drop n s)
drop-take zero k m s e = let q : k ≡ m = omega arith in rw q refl
drop-take (suc n) zero m s e = absurd (omega arith)
drop-take (suc n) (suc k) m [] e = sym (take-nil m)
drop-take (suc n) (suc k) m (x ∷ s) e = drop-take n k m s (omega arith)

entry-take : (k : ℕ) (s : List ℕ) → 12 ≤ k → entry_from (take k s) ≡ entry_from s
unfolding entry_from
entry-take k s h =
    let a : rd32 (take k s) ≡ rd32 s = rd32-take k s (omega arith) in
    let b : rd32 (drop 4 (take k s)) ≡ rd32 (drop 4 s) = ap rd32 (drop-take 4 k (k - 4) s (omega arith)) ∙ rd32-take (k - 4) (drop 4 s) (omega arith) in
    let d : rd32 (drop 8 (take k s)) ≡ rd32 (drop 8 s) = ap rd32 (drop-take 8 k (k - 8) s (omega arith)) ∙ rd32-take (k - 8) (drop 8 s) (omega arith) in
    λ i. record { usage = a i; number = b i; start = d i }

entries-take : (n k : ℕ) (s : List ℕ) → 12 * n ≤ k → entries_in n (take k s) ≡ entries_in n s
unfolding entries_in
entries-take zero k s h = refl
entries-take (suc n) k s h =
    let r : entries_in n (drop 12 (take k s)) ≡ entries_in n (drop 12 s)
    = ap (entries_in n) (drop-take 12 k (k - 12) s (omega arith)) ∙ entries-take n (k - 12) (drop 12 s) (omega arith) in
    λ i. entry-take k s (omega arith) i ∷ r i

pub body_word : (f : List ℕ) (x : ℕ) → 4 ≤ rd32 (drop (x + 4) f) → rd32 (chunk_from f x).body ≡ rd32 (drop (x + 8) f)
unfolding chunk_in
body_word f x l = rd32-take (rd32 (drop 4 (drop x f))) (drop 8 (drop x f)) (rw (drop-drop 4 x f) l) ∙ ap rd32 (drop-drop 8 x f)

-- 10 and 11
pub record Shaped (f : List ℕ) (count : ℕ) : Type 0 where
  pub base : next_at f 12 ≡ place count
  pub room : place count ≤ length f
  pub walks : walk_from f (place count) ≡ accept
  pub index : entries_of (chunk_from f 12) ≡ entries_in count (drop 24 f)
  pub few : count ≤ 4096
  pub chunks : chunks_from f 12 ≡ chunk_from f 12 ∷ chunks_from f (place count)

module _ (f : List ℕ) (h : 12 < length f) (w : walk_from f 12 ≡ accept) where
  lb : length (chunk_from f 12).body ≡ rd32 (drop 16 f)
  lb = (fine f 12 h w).bodied

  pub shape_short : rd32 (drop 16 f) < 4 → refuse 10 16 ≡ index_fault (chunk_from f 12).body
  unfolding index_fault
  shape_short l = sym (stop _ _ _ _ (rw (lb, lt-leb 4 (rd32 (drop 16 f)) l)))

  pub shape-room : 4 ≤ rd32 (drop 16 f) → 24 ≤ length f
  shape-room l = let i = fine f 12 h w in omega (arith, i.inside, i.next)

  module _ (l4 : 4 ≤ rd32 (drop 16 f)) where
    word : rd32 (chunk_from f 12).body ≡ rd32 (drop 20 f)
    word = body_word f 12 l4

    pub shape_other : (rd32 (drop 16 f) ≡ 4 + 12 * rd32 (drop 20 f) → ⊥) → refuse 10 16 ≡ index_fault (chunk_from f 12).body
    unfolding index_fault
    shape_other n = sym (stop _ _ _ _ (rw (lb, word, le-leb 4 (rd32 (drop 16 f)) l4, ne_eqb (rd32 (drop 16 f)) (4 + 12 * rd32 (drop 20 f)) n)))

    module _ (e : rd32 (drop 16 f) ≡ 4 + 12 * rd32 (drop 20 f)) where
      t10 : leb 4 (length (chunk_from f 12).body) && eqb (length (chunk_from f 12).body) (4 + 12 * rd32 (chunk_from f 12).body) ≡ true
      t10 = rw (lb, word, le-leb 4 (rd32 (drop 16 f)) l4, eq-eqb (rd32 (drop 16 f)) (4 + 12 * rd32 (drop 20 f)) e)

      pub shape_many : 4096 < rd32 (drop 20 f) → refuse 11 20 ≡ index_fault (chunk_from f 12).body
      unfolding index_fault
      shape_many l = sym (pass _ _ _ _ t10 ∙ fails_last _ _ _ (rw word (lt-leb (rd32 (drop 20 f)) 4096 l)))

      pub shape-good : rd32 (drop 20 f) ≤ 4096 → accept ≡ index_fault (chunk_from f 12).body
      unfolding index_fault
      shape-good l = sym (pass _ _ _ _ t10 ∙ holds_last _ _ _ (rw word (le-leb (rd32 (drop 20 f)) 4096 l)))

      index_is : entries_of (chunk_from f 12) ≡ entries_in (rd32 (drop 20 f)) (drop 24 f)
      unfolding entries_of chunk_in
      index_is =
          let m : ℕ = rd32 (drop 16 f) in
          let n : ℕ = rd32 (drop 20 f) in
          let a : drop 4 (take m (drop 20 f)) ≡ take (12 * n) (drop 24 f) = drop-take 4 m (12 * n) (drop 20 f) e ∙ ap (take (12 * n)) (drop-drop 4 20 f) in
          let b : take (rd32 (drop 4 (drop 12 f))) (drop 8 (drop 12 f)) ≡ take m (drop 20 f) = rw (drop-drop 4 12 f, drop-drop 8 12 f) in
          ap (λ (k : ℕ). entries_in k (drop 4 (take (rd32 (drop 4 (drop 12 f))) (drop 8 (drop 12 f))))) word
          ∙ ap (λ (d : List ℕ). entries_in n (drop 4 d)) b ∙ ap (entries_in n) a ∙ entries-take n (12 * n) (drop 24 f) (omega arith)

  pub shaped : index_fault (chunk_from f 12).body ≡ accept → Shaped f (rd32 (drop 20 f))
  unfolding index_fault
  shaped ok =
      let p = then_accept _ _ ok in
      let q = and_both _ _ (check_accept _ _ _ p.0) in
      let a : 4 ≤ length (chunk_from f 12).body = leb-true _ _ q.0 in
      let l4 : 4 ≤ rd32 (drop 16 f) = omega (arith, lb) in
      let d : length (chunk_from f 12).body ≡ 4 + 12 * rd32 (chunk_from f 12).body = eqb-true _ _ q.1 in
      let e : rd32 (drop 16 f) ≡ 4 + 12 * rd32 (drop 20 f) = omega (arith, lb, word l4) in
      let g : rd32 (chunk_from f 12).body ≤ 4096 = leb-true _ _ (check_accept _ _ _ p.1) in
      let few : rd32 (drop 20 f) ≤ 4096 = omega (arith, word l4) in
      let i = fine f 12 h w in
      let b : next_at f 12 ≡ place (rd32 (drop 20 f)) = sym i.next ∙ omega arith in
      record {
        base = b;
        room = rw (← b) i.inside;
        walks = rw (← b) (walk-behind f 12 h w);
        index = index_is l4 e;
        few = few;
        chunks = rw (← b) i.chunks;
      }

-- the loop that looks for a pair
module _ (f : List ℕ) (u n : ℕ) where
  pair_on : (k i : ℕ) → pair_place u n (entries_in (suc k) (drop (place i) f))
      ≡ cond (eqb (usage_at f (place i)) u && eqb (number_at f (place i)) n) 0 (suc (pair_place u n (entries_in k (drop (place (suc i)) f))))
  unfolding pair_place entries_in entry_from
  pair_on k i =
      let q : place i + 12 ≡ place (suc i) = omega arith in
      rw (drop-drop 4 (place i) f, drop-drop 12 (place i) f, q)

  pub place_end : (i : ℕ) → i + pair_place u n (entries_in 0 (drop (place i) f)) ≡ i
  unfolding pair_place entries_in
  place_end i = omega arith

-- by the numbers that the code has read
module _ (f : List ℕ) (u n count i a b : ℕ) (h : i < count) (ea : a ≡ usage_at f (place i)) (eb : b ≡ number_at f (place i)) where
  place_on : pair_place u n (entries_in (count - i) (drop (place i) f)) ≡ cond (eqb a u && eqb b n) 0
      (suc (pair_place u n (entries_in (count - (i + 1)) (drop (place (i + 1)) f))))
  place_on =
      let left : count - i ≡ suc (count - (i + 1)) = omega arith in
      let more : suc i ≡ i + 1 = sym (add-one i) in
      ap (λ (k : ℕ). pair_place u n (entries_in k (drop (place i) f))) left ∙ pair_on f u n (count - (i + 1)) i
      ∙ ap (λ (k : ℕ). cond (eqb (usage_at f (place i)) u && eqb (number_at f (place i)) n) 0
      (suc (pair_place u n (entries_in (count - (i + 1)) (drop (place k) f))))) more
      ∙ rw (ea, eb) refl

  pub place_hit : eqb a u && eqb b n ≡ true → i ≡ i + pair_place u n (entries_in (count - i) (drop (place i) f))
  place_hit e = rw (place_on, e) (omega arith)

  pub place-next : eqb a u && eqb b n ≡ false → i + 1 + pair_place u n (entries_in (count - (i + 1)) (drop (place (i + 1)) f)) ≡ i + pair_place u n
      (entries_in (count - i) (drop (place i) f))
  place-next e = rw (place_on, e) (omega arith)

-- the start of the entry at the place found
place-start : (u n : ℕ) (es : List Entry) (d : Entry) → pair_place u n es < length es → hit_in u n es ≡ Some (get_or es (pair_place u n es) d).start
unfolding pair_place hit_in
place-start u n [] d h = absurd (not-suc-le-zero h)
place-start u n (e ∷ es) d h = go (eqb e.usage u && eqb e.number n) h (place-start u n es d)
  where
    go : (b : Bool) → cond b 0 (suc (pair_place u n es)) < suc (length es)
        → (pair_place u n es < length es → hit_in u n es ≡ Some (get_or es (pair_place u n es) d).start)
        → pick_hit b e.start (hit_in u n es) ≡ Some (get_or (e ∷ es) (cond b 0 (suc (pair_place u n es))) d).start
    go true h ih = refl
    go false h ih = ih (le_of_suc-le-suc h)

place_none : (u n : ℕ) (es : List Entry) → length es ≤ pair_place u n es → hit_in u n es ≡ None
unfolding pair_place hit_in
place_none u n [] h = refl
place_none u n (e ∷ es) h = go (eqb e.usage u && eqb e.number n) h (place_none u n es)
  where
    go : (b : Bool) → suc (length es) ≤ cond b 0 (suc (pair_place u n es)) → (length es ≤ pair_place u n es → hit_in u n es ≡ None) → pick_hit b e.start
        (hit_in u n es) ≡ None
    go true h ih = absurd (not-suc-le-zero h)
    go false h ih = ih (le_of_suc-le-suc h)

module _ (f : List ℕ) (u n count i : ℕ) (e : i ≡ pair_place u n (entries_in count (drop 24 f))) where
  pub find_at : i < count → (x : ℕ) → x ≡ start_at f (place i) → Some x ≡ hit_in u n (entries_in count (drop 24 f))
  unfolding entry_from
  find_at h x ex =
      let d : Entry = record { usage = 0; number = 0; start = 0 } in
      let l : pair_place u n (entries_in count (drop 24 f)) < length (entries_in count (drop 24 f)) = rw (length-entries_in count (drop 24 f)) (omega arith) in
      let g : (get_or (entries_in count (drop 24 f)) i d).start ≡ x = ap (λ (y : Entry). y.start) (entry-get_or f count i 24 d h)
      ∙ ap rd32 (drop-drop 8 (place i) f) ∙ sym ex in
      sym (place-start u n (entries_in count (drop 24 f)) d l ∙ ap (λ (k : ℕ). Some (get_or (entries_in count (drop 24 f)) k d).start) (sym e) ∙ ap Some g)

  pub find_none : count ≤ i → None ≡ hit_in u n (entries_in count (drop 24 f))
  find_none h = sym (place_none u n (entries_in count (drop 24 f)) (rw (length-entries_in count (drop 24 f)) (omega arith)))

-- a place below the count is that of an entry; the count itself, of none
module _ (f : List ℕ) (u n count i : ℕ) (e : i ≡ pair_place u n (entries_in count (drop 24 f))) where
  pub in_place : i < count → Some i ≡ place_in u n (entries_in count (drop 24 f))
  in_place h = rw (← e, length-entries_in count (drop 24 f), lt-ltb i count h) refl

  pub no_place : count ≤ i → None ≡ place_in u n (entries_in count (drop 24 f))
  no_place h = rw (← e, length-entries_in count (drop 24 f), le-ltb i count h) refl

module _ (f : List ℕ) (u n count : ℕ) where
  pub place_some : (i : ℕ) → place_in u n (entries_in count (drop 24 f)) ≡ Some i → (i ≡ pair_place u n (entries_in count (drop 24 f))) × (i < count)
  place_some i e = go (ltb (pair_place u n (entries_in count (drop 24 f))) (length (entries_in count (drop 24 f)))) refl e
    where
      go : (b : Bool) → ltb (pair_place u n (entries_in count (drop 24 f))) (length (entries_in count (drop 24 f))) ≡ b
          → cond b (Some (pair_place u n (entries_in count (drop 24 f)))) None ≡ Some i
          → (i ≡ pair_place u n (entries_in count (drop 24 f))) × (i < count)
      go true h q =
          let z : pair_place u n (entries_in count (drop 24 f)) ≡ i = cc in
          (sym z, omega (arith, ltb-true _ _ h, length-entries_in count (drop 24 f)))
      go false h q = absurd (none_some q)

  pub place_none_at : place_in u n (entries_in count (drop 24 f)) ≡ None → count ≤ pair_place u n (entries_in count (drop 24 f))
  place_none_at e = go (ltb (pair_place u n (entries_in count (drop 24 f))) (length (entries_in count (drop 24 f)))) refl e
    where
      go : (b : Bool) → ltb (pair_place u n (entries_in count (drop 24 f))) (length (entries_in count (drop 24 f))) ≡ b
          → cond b (Some (pair_place u n (entries_in count (drop 24 f)))) None ≡ None
          → count ≤ pair_place u n (entries_in count (drop 24 f))
      go true h q = absurd (none_some (sym q))
      go false h q = omega (arith, ltb-false _ _ h, length-entries_in count (drop 24 f))

-- what the acceptance of entries tells of the first of them
module _ (R : Rules) (f : List ℕ) (base : ℕ) (w : walk_from f base ≡ accept) where
  pub first_entry : (e : Entry) (es : List Entry) (earlier : List Ref) (p : ℕ) → entries_fault R base (chunks_from f base) earlier p (e ∷ es) ≡ accept
      → (is_start e.start base (chunks_from f base) ≡ true) × (pair_in e.usage e.number earlier ≡ false)
      × (entries_fault R base (chunks_from f base) (earlier ++ (ref_of base (chunks_from f base) e ∷ [])) (p + 12) es ≡ accept)
  unfolding entries_fault ref_fault ref_of
  first_entry e es earlier p h =
      let a = then_accept _ _ (then_accept _ _ h).1 in
      let b = then_accept _ _ a.1 in
      let d = then_accept _ _ (then_accept _ _ b.0).1 in
      (check_accept _ _ _ a.0, not-true (pair_in e.usage e.number earlier) (check_accept _ _ _ d.1), (then_accept _ _ b.1).1)

  -- a hit is a chunk's beginning
  pub hit_start : (u n x : ℕ) (es : List Entry) (earlier : List Ref) (p : ℕ) → entries_fault R base (chunks_from f base) earlier p es ≡ accept
      → hit_in u n es ≡ Some x → is_start x base (chunks_from f base) ≡ true
  unfolding hit_in
  hit_start u n x [] earlier p h e = let z : ◌≡◌ {A = ℕ} 0 1 = cc in absurd (omega arith)
  hit_start u n x (y ∷ es) earlier p h e =
      let a = first_entry y es earlier p h in
      go (eqb y.usage u && eqb y.number n) a.0 (hit_start u n x es (earlier ++ (ref_of base (chunks_from f base) y ∷ [])) (p + 12) a.2) e
    where
      go : (b : Bool) → is_start y.start base (chunks_from f base) ≡ true → (hit_in u n es ≡ Some x → is_start x base (chunks_from f base) ≡ true)
          → pick_hit b y.start (hit_in u n es) ≡ Some x → is_start x base (chunks_from f base) ≡ true
      go true s ih e = let q : y.start ≡ x = cc in rw (← q) s
      go false s ih e = ih e

  -- a pair that an earlier entry has is no later one's
  none_later : (n : ℕ) (es : List Entry) (earlier : List Ref) (p : ℕ) → entries_fault R base (chunks_from f base) earlier p es ≡ accept
      → pair_in Pict n earlier ≡ true → picture n (chunks_from f base) (map (ref_of base (chunks_from f base)) es) ≡ false
  unfolding picture ref_of
  none_later n [] earlier p h t = refl
  none_later n (y ∷ es) earlier p h t =
      let a = first_entry y es earlier p h in
      let r : Ref = ref_of base (chunks_from f base) y in
      let t2 : pair_in Pict n (earlier ++ (r ∷ [])) ≡ true = pair_snoc Pict n earlier r ∙ rw t in
      go (eqb y.usage Pict && eqb y.number n) refl a.1 _ (none_later n es (earlier ++ (r ∷ [])) (p + 12) a.2 t2)
    where
      go : (b : Bool) → eqb y.usage Pict && eqb y.number n ≡ b → pair_in y.usage y.number earlier ≡ false → (z : Bool)
          → picture n (chunks_from f base) (map (ref_of base (chunks_from f base)) es) ≡ false
          → b && z || picture n (chunks_from f base) (map (ref_of base (chunks_from f base)) es) ≡ false
      go true e a z ih =
          let q = and_both _ _ e in
          let q1 : y.usage ≡ Pict = eqb-true _ _ q.0 in
          let q2 : y.number ≡ n = eqb-true _ _ q.1 in
          let no : pair_in Pict n earlier ≡ false = rw (q1, q2) at a in
          let x : ◌≡◌ {A = ℕ} 0 1 = cc in
          absurd (omega arith)
      go false e a z ih = ih

  -- so the picture of rule 19 is the lookup's
  pub picture_hit : (n : ℕ) (es : List Entry) (earlier : List Ref) (p : ℕ) → entries_fault R base (chunks_from f base) earlier p es ≡ accept
      → picture n (chunks_from f base) (map (ref_of base (chunks_from f base)) es) ≡ picture_by f (hit_in Pict n es)
  unfolding picture ref_of hit_in chunk_in
  picture_hit n [] earlier p h = refl
  picture_hit n (y ∷ es) earlier p h =
      let a = first_entry y es earlier p h in
      let r : Ref = ref_of base (chunks_from f base) y in
      let k : not (eqb (get_or (chunks_from f base) (place_of y.start base (chunks_from f base)) no_chunk).type Rect) ≡ not (eqb (rd32 (drop y.start f)) Rect)
      = ap (λ (c : Chunk). not (eqb c.type Rect)) (begun f y.start base w a.0).chunk in
      rw k
      (go (eqb y.usage Pict && eqb y.number n) refl
      (λ t. none_later n es (earlier ++ (r ∷ [])) (p + 12) a.2 (pair_snoc Pict n earlier r ∙ t))
      (picture_hit n es (earlier ++ (r ∷ [])) (p + 12) a.2))
    where
      go : (b : Bool) → eqb y.usage Pict && eqb y.number n ≡ b
          → (pair_in Pict n earlier || (eqb y.usage Pict && eqb y.number n) ≡ true → picture n (chunks_from f base)
          (map (ref_of base (chunks_from f base)) es) ≡ false)
          → picture n (chunks_from f base) (map (ref_of base (chunks_from f base)) es) ≡ picture_by f (hit_in Pict n es)
          → b && not (eqb (rd32 (drop y.start f)) Rect) || picture n (chunks_from f base) (map (ref_of base (chunks_from f base)) es)
          ≡ picture_by f (pick_hit b y.start (hit_in Pict n es))
      go true e later ih =
          let no : picture n (chunks_from f base) (map (ref_of base (chunks_from f base)) es) ≡ false = later (rw e (or-true (pair_in Pict n earlier))) in
          rw no (or-false (not (eqb (rd32 (drop y.start f)) Rect)))
      go false e later ih = ih

-- the chunk of a hit
pub hit_begun : (f : List ℕ) (count u n x : ℕ) → EntriesPassed f count → hit_in u n (entries_in count (drop 24 f)) ≡ Some x
    → (x < length f) × (walk_from f x ≡ accept)
hit_begun f count u n x j e =
    let b = begun f x (place count) j.walks (hit_start j.rules f (place count) j.walks u n x (entries_in count (drop 24 f)) [] 24 j.entries e) in
    (b.below, b.walks)
