-- The edits move the starts as document 01 says.
use mathlib.Core.Path.{◌≡◌, refl, sym, ap, ◌∙◌}
use Prim.Native.Nat.{ℕ, zero, suc, ◌+◌, ◌*◌, ◌-◌, ◌≤◌, ◌<◌}
use mathlib.Core.List.{List, [], ◌∷◌, ◌++◌, map}
use mathlib.Core.Bool.{Bool, true, false, cond}
use native.Mathlib.Omega.{arith}
use native.Mathlib.Nat.{le_of_suc-le-suc, not-suc-le-zero}
use lib.ListN.{length, get_or, take, drop, set, length-append, length-map, length-take}
use lib.Seq.{take-append-le, take-set-le, take-take}
use lib.Dec.{eqb, ltb}
use borrow.Author.Tests.{ltb-true, ltb-false, lt-ltb, le-ltb}
use Rattle.blorb.specs.Format.{Ref, Chunk, size, total}
use Rattle.blorb.specs.Verdict.{no_chunk}
use Rattle.blorb.specs.Model.{Model, base, start_of, entry_of}
use Rattle.blorb.specs.Queries.{uses, shared, ref_at, chunk_at, without, start}
use Rattle.edits.specs.Edit.{lower, added, replaced, removed_both, removed_entry}
use Rattle.edits.specs.Starts.{moved, behind, fallen}
use Rattle.blorb.specs.All.{All}
use Rattle.blorb.specs.Sound.{RefOk, Sound}
use Rattle.blorb.proofs.Places.{size_pos}
use Rattle.edits.proofs.UndoLaws.{length_without}
use Rattle.blorb.proofs.ModelLaws.{entries}
use Rattle.blorb.proofs.Checks.{neither}

-- two ways to number the same entries give starts that differ by f, if the places do
moved_all : (f : ℕ → ℕ) (g : Ref → Ref) (P : Ref → Type 0) (at at' : ℕ) (cs cs' : List Chunk) (rs : List Ref)
    → ((r : Ref) → P r → entry_of at' cs' (g r) ≡ moved f (entry_of at cs r)) → All P rs → map (entry_of at' cs') (map g rs) ≡ map (moved f)
    (map (entry_of at cs) rs)
moved_all f g P at at' cs cs' [] h ok = refl
moved_all f g P at at' cs cs' (r ∷ rs) h ok = λ i. h r ok.0 i ∷ moved_all f g P at at' cs cs' rs h ok.1 i

map_id : {A : Type 0} (l : List A) → map (λ (x : A). x) l ≡ l
map_id [] = refl
map_id (x ∷ xs) = ap (λ r. x ∷ r) (map_id xs)

pub map-append : {A B : Type 0} (f : A → B) (l r : List A) → map f (l ++ r) ≡ map f l ++ map f r
map-append f [] r = refl
map-append f (x ∷ l) r = ap (λ z. f x ∷ z) (map-append f l r)

-- replace: a start behind the chunk's moves by the change in size
total-set : (cs : List Chunk) (k : ℕ) (c : Chunk) (j : ℕ) → k < length cs → k < j → total (take j (set cs k c)) + size (get_or cs k no_chunk) ≡ total
    (take j cs) + size c
unfolding total
total-set [] k c j h b = absurd (not-suc-le-zero h)
total-set (x ∷ cs) k c zero h b = absurd (not-suc-le-zero b)
total-set (x ∷ cs) zero c (suc j) h b = omega arith
total-set (x ∷ cs) (suc k) c (suc j) h b = omega (arith, total-set cs k c j (le_of_suc-le-suc h) (le_of_suc-le-suc b))

-- a later chunk starts behind
pub total_more : (cs : List Chunk) (k j : ℕ) → k < length cs → k < j → total (take k cs) + size (get_or cs k no_chunk) ≤ total (take j cs)
unfolding total
total_more [] k j h b = absurd (not-suc-le-zero h)
total_more (x ∷ cs) k zero h b = absurd (not-suc-le-zero b)
total_more (x ∷ cs) zero (suc j) h b = omega arith
total_more (x ∷ cs) (suc k) (suc j) h b = omega (arith, total_more cs k j (le_of_suc-le-suc h) (le_of_suc-le-suc b))

pub total_mono : (cs : List Chunk) (j k : ℕ) → j ≤ k → total (take j cs) ≤ total (take k cs)
unfolding total
total_mono cs zero k h = omega arith
total_mono cs (suc j) zero h = absurd (not-suc-le-zero h)
total_mono [] (suc j) (suc k) h = omega arith
total_mono (x ∷ cs) (suc j) (suc k) h = omega (arith, total_mono cs j k (le_of_suc-le-suc h))

-- add: all old starts grow by 12
grown : (n : ℕ) (cs : List Chunk) (c : Chunk) (j : ℕ) → j ≤ length cs → start_of (base (suc n)) (cs ++ (c ∷ [])) j ≡ start_of (base n) cs j + 12
unfolding start_of base
grown n cs c j h = rw (take-append-le j cs (c ∷ []) h) (omega arith)

pub starts_added : (m : Model) (u n : ℕ) (c : Chunk) → Sound m
    → entries (added m u n c) ≡ map (moved (λ s. s + 12)) (entries m) ++ (record { usage = u; number = n; start = start m (length m.chunks) + 12 } ∷ [])
unfolding added start entry_of
starts_added m u n c s =
    let k : ℕ = length m.refs in
    let x : Ref = record { usage = u; number = n; chunk = length m.chunks } in
    let cs : List Chunk = m.chunks ++ (c ∷ []) in
    let l : length (m.refs ++ (x ∷ [])) ≡ suc k = simp length-append (omega arith) in
    let old : map (entry_of (base (suc k)) cs) m.refs ≡ map (moved (λ s. s + 12)) (entries m)
    = ap (map (entry_of (base (suc k)) cs)) (sym (map_id m.refs))
    ∙ moved_all (λ s. s + 12) (λ r. r) (RefOk (length m.chunks)) (base k) (base (suc k)) m.chunks cs m.refs
    (λ r ok i. record { usage = r.usage; number = r.number; start = grown k m.chunks c r.chunk (omega (arith, ok.chunk_there)) i }) s.refs_ok in
    rw (l, map-append (entry_of (base (suc k)) cs) m.refs (x ∷ []), old)
    λ i. map (moved (λ s. s + 12)) (entries m) ++ (record { usage = u; number = n; start = grown k m.chunks c (length m.chunks) (omega arith) i } ∷ [])

pub shifted : (at : ℕ) (cs : List Chunk) (k : ℕ) (c : Chunk) (j : ℕ) → k < length cs
    → start_of at (set cs k c) j ≡ behind (start_of at cs k) (size (get_or cs k no_chunk)) (size c) (start_of at cs j)
unfolding start_of
shifted at cs k c j h = go (ltb k j) refl
  where
    go : (b : Bool) → ltb k j ≡ b → at + total (take j (set cs k c)) ≡ behind (at + total (take k cs)) (size (get_or cs k no_chunk)) (size c)
        (at + total (take j cs))
    go true e =
        let lt = ltb-true k j e in
        rw (lt-ltb (at + total (take k cs)) (at + total (take j cs)) (omega (arith, total_more cs k j h lt, size_pos (get_or cs k no_chunk))))
        (omega (arith, total-set cs k c j h lt))
    go false e =
        rw (
          take-set-le j cs k c (ltb-false k j e),
          le-ltb (at + total (take k cs)) (at + total (take j cs))
              (omega (arith, total_mono cs j k (ltb-false k j e))),
        )

pub starts_replaced : (m : Model) (k : ℕ) (c : Chunk) → k < length m.chunks
    → entries (replaced m k c) ≡ map (moved (behind (start m k) (size (chunk_at m k)) (size c))) (entries m)
unfolding replaced start entry_of
starts_replaced m k c h = all m.refs
  where
    at : ℕ
    at = base (length m.refs)

    all : (rs : List Ref) → map (entry_of at (set m.chunks k c)) rs ≡ map (moved (behind (start_of at m.chunks k) (size (chunk_at m k)) (size c)))
        (map (entry_of at m.chunks) rs)
    all [] = refl
    all (r ∷ rs) = λ i. record { usage = r.usage; number = r.number; start = shifted at m.chunks k c r.chunk h i } ∷ all rs i

-- remove: starts behind fall by 12 and the chunk's size, the others by 12
take-without-before : (cs : List Chunk) (k j : ℕ) → k < length cs → j ≤ k → take j (without k cs) ≡ take j cs
unfolding without
take-without-before cs k j h b = take-append-le j (take k cs) (drop (suc k) cs) (simp length-take (omega arith)) ∙ take-take j k cs b

total-without : (cs : List Chunk) (k j : ℕ) → k < length cs → k ≤ j → total (take j (without k cs)) + size (get_or cs k no_chunk) ≡ total (take (suc j) cs)
unfolding total without
total-without [] k j h b = absurd (not-suc-le-zero h)
total-without (x ∷ cs) zero j h b = omega arith
total-without (x ∷ cs) (suc k) zero h b = absurd (not-suc-le-zero b)
total-without (x ∷ cs) (suc k) (suc j) h b = omega (arith, total-without cs k j (le_of_suc-le-suc h) (le_of_suc-le-suc b))

pub fell : (n : ℕ) (cs : List Chunk) (k : ℕ) (r : Ref) → k < length cs → eqb r.chunk k ≡ false
    → start_of (base n) (without k cs) (lower k r).chunk ≡ fallen (start_of (base (suc n)) cs k) (size (get_or cs k no_chunk))
    (start_of (base (suc n)) cs r.chunk)
unfolding start_of base lower
fell n cs k r h ne = go r.chunk (ltb k r.chunk) refl ne
  where
    B : ℕ
    B = 24 + 12 * n

    go : (j : ℕ) (b : Bool) → ltb k j ≡ b → eqb j k ≡ false
        → B + total (take (cond b (j - 1) j) (without k cs)) ≡ fallen (24 + 12 * suc n + total (take k cs)) (size (get_or cs k no_chunk))
        (24 + 12 * suc n + total (take j cs))
    go j true e ne =
        let lt = ltb-true k j e in
        let s : suc (j - 1) ≡ j = omega arith in
        let w : total (take (j - 1) (without k cs)) + size (get_or cs k no_chunk) ≡ total (take j cs) = total-without cs k (j - 1) h (omega arith)
        ∙ ap (λ (i : ℕ). total (take i cs)) s in
        rw (lt-ltb (24 + 12 * suc n + total (take k cs)) (24 + 12 * suc n + total (take j cs))
        (omega (arith, total_more cs k j h lt, size_pos (get_or cs k no_chunk)))) (omega arith)
    go j false e ne =
        let le = ltb-false k j e in
        rw (
          take-without-before cs k j h le,
          le-ltb (24 + 12 * suc n + total (take k cs)) (24 + 12 * suc n + total (take j cs))
              (omega (arith, total_mono cs j k le)),
        ) (omega arith)

pub map-without : {A B : Type 0} (f : A → B) (i : ℕ) (l : List A) → map f (without i l) ≡ without i (map f l)
unfolding without
map-without f zero [] = refl
map-without f (suc i) [] = refl
map-without f zero (x ∷ l) = refl
map-without f (suc i) (x ∷ l) = ap (λ r. f x ∷ r) (map-without f i l)

pub starts_removed : (m : Model) (i : ℕ) → i < length m.refs → (ref_at m i).chunk < length m.chunks → shared m i ≡ false
    → entries (removed_both m i (ref_at m i).chunk) ≡ map (moved (fallen (start m (ref_at m i).chunk) (size (chunk_at m (ref_at m i).chunk))))
    (without i (entries m))
unfolding removed_both start entry_of shared uses lower
starts_removed m i h valid alone =
    rw (length-map (without i m.refs) (lower k), ← map-without (entry_of (base (length m.refs)) m.chunks) i m.refs, ← length_without i m.refs h)
    (all (without i m.refs) alone)
  where
    k : ℕ
    k = (ref_at m i).chunk

    n : ℕ
    n = length (without i m.refs)

    all : (rs : List Ref) → uses k rs ≡ false → map (entry_of (base n) (without k m.chunks)) (map (lower k) rs)
        ≡ map (moved (fallen (start_of (base (suc n)) m.chunks k) (size (chunk_at m k)))) (map (entry_of (base (suc n)) m.chunks) rs)
    all [] u = refl
    all (r ∷ rs) u =
        let p = neither (eqb r.chunk k) (uses k rs) u in
        λ j. record { usage = r.usage; number = r.number; start = fell n m.chunks k r valid p.0 j } ∷ all rs p.1 j

-- "A shared chunk stays and every start falls by 12"
pub starts_unlisted : (m : Model) (i : ℕ) → i < length m.refs → entries (removed_entry m i) ≡ map (moved (λ t. t - 12)) (without i (entries m))
unfolding removed_entry entry_of start_of base
starts_unlisted m i h =
    rw (← map-without (entry_of (base (length m.refs)) m.chunks) i m.refs, ← length_without i m.refs h)
    (all (without i m.refs))
  where
    n : ℕ
    n = length (without i m.refs)

    all : (rs : List Ref) → map (entry_of (base n) m.chunks) rs ≡ map (moved (λ t. t - 12)) (map (entry_of (base (suc n)) m.chunks) rs)
    all [] = refl
    all (r ∷ rs) =
        let less : 24 + 12 * n + total (take r.chunk m.chunks) ≡ 24 + 12 * suc n + total (take r.chunk m.chunks) - 12 = omega arith in
        λ z. record { usage = r.usage; number = r.number; start = less z } ∷ all rs z
