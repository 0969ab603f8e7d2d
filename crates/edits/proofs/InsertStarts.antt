-- How starts move where an entry goes in, alone or with its chunk; and that a record which fits says where.
use mathlib.Core.Path.{◌≡◌, refl, sym, ap, ◌∙◌}
use Prim.Native.Nat.{ℕ, zero, suc, ◌+◌, ◌*◌, ◌-◌, ◌≤◌}
use mathlib.Core.List.{List, [], ◌∷◌, map}
use mathlib.Core.Bool.{Bool, true, false, cond, ◌||◌}
use native.Mathlib.Omega.{arith}
use native.Mathlib.Nat.{le_of_suc-le-suc, not-suc-le-zero}
use lib.ListN.{length, get_or, take, drop, length-map, length-take}
use lib.Seq.{take-append-le, take-take}
use lib.Dec.{eqb, leb}
use borrow.Author.Tests.{le-leb, lt-leb, leb-true, leb-false, eqb-true}
use Rattle.blorb.specs.Format.{Ref, Chunk, Entry, size, total, is_start, place_of}
use Rattle.blorb.specs.Verdict.{no_chunk}
use Rattle.blorb.specs.Model.{Model, base, start_of, entry_of}
use Rattle.blorb.specs.Queries.{start}
use Rattle.edits.specs.Edit.{with_at, raise, entered, inserted}
use Rattle.edits.specs.Journal.{Rec, old_place, fits3, fits4}
use Rattle.blorb.proofs.Places.{size_pos, start_of-place_of, place_of-start_of}
use Rattle.blorb.proofs.ModelLaws.{entries}
use Rattle.blorb.proofs.Checks.{and_both}
use Rattle.edits.specs.Starts.{moved}
use Rattle.edits.proofs.Starts.{total_more, total_mono}
use Rattle.edits.proofs.InsertJudged.{length-with}

pub map_with : {A B : Type 0} (f : A → B) (i : ℕ) (x : A) (l : List A) → map f (with_at i x l) ≡ with_at i (f x) (map f l)
unfolding with_at
map_with f zero x l = refl
map_with f (suc i) x [] = refl
map_with f (suc i) x (y ∷ l) = ap (λ r. f y ∷ r) (map_with f i x l)

take-with : (cs : List Chunk) (k : ℕ) (c : Chunk) (j : ℕ) → k ≤ length cs → j ≤ k → take j (with_at k c cs) ≡ take j cs
unfolding with_at
take-with cs k c j h b = take-append-le j (take k cs) (c ∷ drop k cs) (simp length-take (omega arith)) ∙ take-take j k cs b

total-with : (cs : List Chunk) (k : ℕ) (c : Chunk) (j : ℕ) → k ≤ length cs → k ≤ j → total (take (suc j) (with_at k c cs)) ≡ total (take j cs) + size c
unfolding total with_at
total-with cs zero c j h b = omega arith
total-with [] (suc k) c j h b = absurd (not-suc-le-zero h)
total-with (x ∷ cs) (suc k) c zero h b = absurd (not-suc-le-zero b)
total-with (x ∷ cs) (suc k) c (suc j) h b = omega (arith, total-with cs k c j (le_of_suc-le-suc h) (le_of_suc-le-suc b))

-- a start at or behind s rises by 12 and a, any other by 12
abbrev pub risen : ℕ → ℕ → ℕ → ℕ
risen s a t = cond (leb s t) (t + (12 + a)) (t + 12)

rose : (n : ℕ) (cs : List Chunk) (k : ℕ) (c : Chunk) (j : ℕ) → k ≤ length cs
    → start_of (base (suc n)) (with_at k c cs) (cond (leb k j) (suc j) j) ≡ risen (start_of (base n) cs k) (size c) (start_of (base n) cs j)
unfolding start_of base
rose n cs k c j h = go (leb k j) refl
  where
    go : (b : Bool) → leb k j ≡ b
        → 24 + 12 * suc n + total (take (cond b (suc j) j) (with_at k c cs)) ≡ risen (24 + 12 * n + total (take k cs)) (size c)
        (24 + 12 * n + total (take j cs))
    go true e =
        let le = leb-true k j e in
        rw (le-leb (24 + 12 * n + total (take k cs)) (24 + 12 * n + total (take j cs)) (omega (arith, total_mono cs k j le)))
        (omega (arith, total-with cs k c j h le))
    go false e =
        let lt = leb-false k j e in
        rw (
          lt-leb (24 + 12 * n + total (take k cs)) (24 + 12 * n + total (take j cs))
              (omega (arith, total_more cs j k (omega arith) lt, size_pos (get_or cs j no_chunk))),
          take-with cs k c j h (omega arith),
        ) (omega arith)

-- the new chunk itself starts where the next one did, 12 further
rose_own : (n : ℕ) (cs : List Chunk) (k : ℕ) (c : Chunk) → k ≤ length cs → start_of (base (suc n)) (with_at k c cs) k ≡ start_of (base n) cs k + 12
unfolding start_of base
rose_own n cs k c h = rw (take-with cs k c k h (omega arith)) (omega arith)

pub place_inside : (s at : ℕ) (cs : List Chunk) → place_of s at cs ≤ length cs
unfolding place_of
place_inside s at [] = omega arith
place_inside s at (c ∷ cs) = go (eqb s at) (place_inside s (at + size c) cs)
  where
    go : (b : Bool) → place_of s (at + size c) cs ≤ length cs → cond b 0 (suc (place_of s (at + size c) cs)) ≤ suc (length cs)
    go true h = omega arith
    go false h = omega arith

-- an entry and a chunk go in at places i and k: starts at or behind the chunk's place rise by 12 and the chunk's size, the others by 12
pub starts_inserted : (m : Model) (i k u n : ℕ) (c : Chunk) → k ≤ length m.chunks
    → entries (inserted m i k u n c) ≡ with_at i (record { usage = u; number = n; start = start m k + 12 }) (map (moved (risen (start m k) (size c)))
    (entries m))
unfolding inserted start entry_of raise
starts_inserted m i k u n c inside =
    let f : Ref → Entry = entry_of (base (suc N)) cs' in
    let l : length (with_at i x (map (raise k) m.refs)) ≡ suc N = length-with i x (map (raise k) m.refs) ∙ ap suc (length-map m.refs (raise k)) in
    ap (λ (z : ℕ). map (entry_of (base z) cs') (with_at i x (map (raise k) m.refs))) l
    ∙ map_with f i x (map (raise k) m.refs)
    ∙ (λ z. with_at i (record { usage = u; number = n; start = rose_own N m.chunks k c inside z }) (all m.refs z))
  where
    N : ℕ
    N = length m.refs

    x : Ref
    x = record { usage = u; number = n; chunk = k }

    cs' : List Chunk
    cs' = with_at k c m.chunks

    all : (rs : List Ref) → map (entry_of (base (suc N)) cs') (map (raise k) rs) ≡ map (moved (risen (start_of (base N) m.chunks k) (size c)))
        (map (entry_of (base N) m.chunks) rs)
    all [] = refl
    all (y ∷ rs) = λ z. record { usage = y.usage; number = y.number; start = rose N m.chunks k c y.chunk inside z } ∷ all rs z

-- an entry goes in at place i: every start rises by 12
pub starts_entered : (m : Model) (i k u n : ℕ)
    → entries (entered m i k u n) ≡ with_at i (record { usage = u; number = n; start = start m k + 12 }) (map (moved (λ t. t + 12)) (entries m))
unfolding entered start entry_of
starts_entered m i k u n =
    let l : length (with_at i x m.refs) ≡ suc N = length-with i x m.refs in
    ap (λ (z : ℕ). map (entry_of (base z) m.chunks) (with_at i x m.refs)) l
    ∙ map_with (entry_of (base (suc N)) m.chunks) i x m.refs
    ∙ (λ z. with_at i (record { usage = u; number = n; start = grown k z }) (all m.refs z))
  where
    N : ℕ
    N = length m.refs

    x : Ref
    x = record { usage = u; number = n; chunk = k }

    grown : (j : ℕ) → start_of (base (suc N)) m.chunks j ≡ start_of (base N) m.chunks j + 12
    grown j = unfold start_of base in omega arith

    all : (rs : List Ref) → map (entry_of (base (suc N)) m.chunks) rs ≡ map (moved (λ t. t + 12)) (map (entry_of (base N) m.chunks) rs)
    all [] = refl
    all (y ∷ rs) = λ z. record { usage = y.usage; number = y.number; start = grown y.chunk z } ∷ all rs z

-- a record that fits: its start less 12 is where the chunk at its place begins, or the file's end
further : (n : ℕ) (cs : List Chunk) (k s : ℕ) → start_of (base n) cs k ≡ s - 12 → s ≡ start_of (base n) cs k + 12
unfolding start_of base
further n cs k s e = omega arith

pub fit3 : (m : Model) (r : Rec) → fits3 r m ≡ true → (r.place ≤ length m.refs) × (r.start ≡ start m (old_place r m) + 12)
unfolding fits3 start
fit3 m r h = (leb-true r.place (length m.refs) p.0, go (is_start (r.start - 12) (base (length m.refs)) m.chunks) refl p.1)
  where
    at : ℕ
    at = base (length m.refs)

    p : (leb r.place (length m.refs) ≡ true) × ((is_start (r.start - 12) (base (length m.refs)) m.chunks || eqb (r.start - 12)
        (start_of (base (length m.refs)) m.chunks (length m.chunks))) ≡ true)
    p = and_both (leb r.place (length m.refs)) (is_start (r.start - 12) (base (length m.refs)) m.chunks || eqb (r.start - 12)
        (start_of (base (length m.refs)) m.chunks (length m.chunks))) h

    back : start_of at m.chunks (old_place r m) ≡ r.start - 12 → r.start ≡ start_of at m.chunks (old_place r m) + 12
    back e = further (length m.refs) m.chunks (old_place r m) r.start e

    go : (b : Bool) → is_start (r.start - 12) at m.chunks ≡ b → b || eqb (r.start - 12) (start_of at m.chunks (length m.chunks)) ≡ true
        → r.start ≡ start_of at m.chunks (old_place r m) + 12
    go true e q = back (start_of-place_of (r.start - 12) at m.chunks e).0
    go false e q =
        let z : r.start - 12 ≡ start_of at m.chunks (length m.chunks) = eqb-true (r.start - 12) (start_of at m.chunks (length m.chunks)) q in
        let k : old_place r m ≡ length m.chunks = ap (λ (i : ℕ). place_of i at m.chunks) z ∙ place_of-start_of at m.chunks (length m.chunks)
        (omega arith) in
        back (ap (start_of at m.chunks) k ∙ sym z)

pub fit4 : (m : Model) (r : Rec) → fits4 r m ≡ true → (r.place ≤ length m.refs) × (r.start ≡ start m (old_place r m) + 12)
unfolding fits4 start
fit4 m r h =
    let p = and_both (leb r.place (length m.refs)) (is_start (r.start - 12) (base (length m.refs)) m.chunks) h in
    let e : start_of (base (length m.refs)) m.chunks (old_place r m) ≡ r.start - 12 = (start_of-place_of (r.start - 12) (base (length m.refs))
    m.chunks p.1).0 in
    (leb-true r.place (length m.refs) p.0, further (length m.refs) m.chunks (old_place r m) r.start e)
