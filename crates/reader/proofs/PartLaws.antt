-- The parts of an inspection: from the offsets of a file that the reader has passed to its model.
use Rattle.std.specs.Prelude.{Ok, Some, None, Option, Result}
use Rattle.blorb.specs.Refusals.{Refused}
use Rattle.blorb.specs.declared.refusal.Refusal.{Refusal}
use Rattle.reader.specs.declared.Judged.{Judged}
use Rattle.reader.specs.declared.Frontispiece.{Frontispiece}
use mathlib.Core.Path.{◌≡◌, refl, sym, ap, ◌∙◌}
use Prim.Native.Nat.{ℕ, zero, suc, ◌+◌, ◌≤◌, ◌<◌}
use mathlib.Core.List.{List, [], ◌∷◌, map}
use mathlib.Core.Bool.{Bool, true, false, cond, ◌&&◌, ◌||◌}
use native.Mathlib.Omega.{arith}
use native.Mathlib.Nat.{not-suc-le-zero, le_of_suc-le-suc}
use lib.ListN.{length, get_or, drop, length-map}
use lib.Seq.{drop-drop}
use lib.Dec.{eqb, ltb}
use borrow.Author.Tests.{eq-eqb, ne_eqb, eqb-true, eqb-false, lt-ltb, le-ltb, le-leb, lt-leb}
use Rattle.blorb.specs.Bytes.{rd32}
use Rattle.blorb.specs.Format.{Chunk, Entry, Ref, ref_of, chunk_in, entry_from, entries_in, is_start, place_of}
use Rattle.blorb.specs.Verdict.{Verdict, refuse, no_chunk, verdict, reading}
use Rattle.blorb.specs.Rules.{rules_of, profile_verdict}
use Rattle.blorb.specs.Model.{base, model, start_of}
use Rattle.blorb.specs.Queries.{find, uses, without, no_ref, ref_at, shared, start}
use Rattle.blorb.specs.All.{All}
use Rattle.blorb.proofs.AllLaws.{all_get_d}
use Rattle.blorb.proofs.Places.{start_of-place_of}
use Rattle.blorb.proofs.Accept.{starts_ok}
use Rattle.blorb.proofs.Profiles.{profile_known}
use Rattle.blorb.proofs.Checks.{stop}
use Rattle.chunks.specs.Walk.{chunk_from, chunks_from}
use Rattle.chunks.specs.Ordinary.{all_ordinary}
use Rattle.index.specs.Entries.{start_at, place, pair_place, start_again_of}
use Rattle.index.specs.Optional.{optional_fault}
use Rattle.reader.specs.Passed.{read_known, Judges, JudgesEntries, Passed, model_at}
use Rattle.reader.specs.Inspecting.{piece_of, target_by, target_of, front_of, facts_of, inspection_of}
use Rattle.reader.specs.declared.Piece.{Piece}
use Rattle.reader.specs.declared.Facts.{Facts}
use Rattle.reader.specs.Reading.{accepted_with, read_by, read_of}
use Rattle.reader.proofs.AskLaws.{Good}
use Rattle.chunks.proofs.ChunkLaws.{fine}
use Rattle.chunks.proofs.StartLaws.{begun, Begun}
use Rattle.blorb.proofs.EntryList.{length-entries_in, entry-get_or}

-- an element of a list and of its image
get_or_map_in : {A B : Type 0} (g : A → B) (l : List A) (i : ℕ) (d : A) (z : B) → i < length l → get_or (map g l) i z ≡ g (get_or l i d)
get_or_map_in g [] i d z h = absurd (not-suc-le-zero h)
get_or_map_in g (x ∷ l) zero d z h = refl
get_or_map_in g (x ∷ l) (suc i) d z h = get_or_map_in g l i d z (le_of_suc-le-suc h)

pub refs_count : (f : List ℕ) (count : ℕ) → length (model_at f count).refs ≡ count
refs_count f count = simp (length-map, length-entries_in)

-- two starts are the same exactly if their chunks are
same_place : (a b at : ℕ) (cs : List Chunk) → is_start a at cs ≡ true → is_start b at cs ≡ true → eqb a b ≡ eqb (place_of a at cs) (place_of b at cs)
same_place a b at cs ha hb = go (eqb a b) refl
  where
    go : (t : Bool) → eqb a b ≡ t → t ≡ eqb (place_of a at cs) (place_of b at cs)
    go true e = sym (eq-eqb _ _ (ap (λ (x : ℕ). place_of x at cs) (eqb-true a b e)))
    go false e =
        sym (ne_eqb _ _ (λ q. eqb-false a b e (sym (start_of-place_of a at cs ha).0 ∙ ap (start_of at cs) q ∙ (start_of-place_of b at cs hb).0)))

-- so an entry's chunk is shared exactly if its start stands again
module _ (at : ℕ) (cs : List Chunk) (x i : ℕ) (s : is_start x at cs ≡ true) where
  behind : (j : ℕ) (es : List Entry) → All (λ e. is_start e.start at cs ≡ true) es → i < j → start_again_of x i j es ≡ uses (place_of x at cs)
      (map (ref_of at cs) es)
  unfolding start_again_of uses ref_of
  behind j [] ok l = refl
  behind j (e ∷ es) ok l =
      let n : eqb j i ≡ false = ne_eqb j i (λ q. omega arith) in
      rw (n, same_place e.start x at cs ok.0 s, behind (suc j) es ok.1 (omega arith))

  others : (d j : ℕ) (es : List Entry) → All (λ e. is_start e.start at cs ≡ true) es → i ≡ j + d → start_again_of x i j es ≡ uses (place_of x at cs)
      (without d (map (ref_of at cs) es))
  unfolding start_again_of uses ref_of without
  others zero j [] ok q = refl
  others (suc d) j [] ok q = refl
  others zero j (e ∷ es) ok q =
      let y : eqb j i ≡ true = eq-eqb j i (omega arith) in
      rw y (behind (suc j) es ok.1 (omega arith))
  others (suc d) j (e ∷ es) ok q =
      let n : eqb j i ≡ false = ne_eqb j i (λ r. omega arith) in
      rw (n, same_place e.start x at cs ok.0 s) (ap (λ (b : Bool). eqb (place_of e.start at cs) (place_of x at cs) || b)
      (others d (suc j) es ok.1 (omega arith)))

-- the starts of a passed file's entries
pub starts : (f : List ℕ) (count : ℕ) → Passed f count → All (λ e. is_start e.start (place count) (chunks_from f (place count)) ≡ true)
    (entries_in count (drop 24 f))
starts f count g = starts_ok g.judged.rules (place count) (chunks_from f (place count)) [] 24 (entries_in count (drop 24 f)) g.judged.entries

-- entry i of a passed file
module _ (f : List ℕ) (count i : ℕ) (g : Passed f count) (h : i < count) where
  abbrev nothing : Entry
  nothing = record { usage = 0; number = 0; start = 0 }

  pub start_of_lem : (get_or (entries_in count (drop 24 f)) i nothing).start ≡ start_at f (place i)
  unfolding entry_from
  start_of_lem = ap (λ (e : Entry). e.start) (entry-get_or f count i 24 nothing h) ∙ ap rd32 (drop-drop 8 (place i) f)

  pub begins-there : is_start (start_at f (place i)) (place count) (chunks_from f (place count)) ≡ true
  begins-there =
      let l : i < length (entries_in count (drop 24 f)) = rw (length-entries_in count (drop 24 f)) h in
      rw (← start_of_lem) (all_get_d (λ e. is_start e.start (place count) (chunks_from f (place count)) ≡ true) (entries_in count (drop 24 f)) i nothing
      (starts f count g) l)

  pub entry_begun : Begun f (start_at f (place i)) (get_or (chunks_from f (place count)) (place_of (start_at f (place i)) (place count)
      (chunks_from f (place count))) no_chunk)
  entry_begun = begun f (start_at f (place i)) (place count) g.judged.walks begins-there

  pub entry-room : (x : ℕ) → x ≡ start_at f (place i) → x + 8 ≤ length f
  entry-room x e = rw e (fine f (start_at f (place i)) entry_begun.below entry_begun.walks).header

  ref_of_lem : ref_at (model_at f count) i ≡ ref_of (place count) (chunks_from f (place count)) (get_or (entries_in count (drop 24 f)) i nothing)
  ref_of_lem = get_or_map_in (ref_of (place count) (chunks_from f (place count))) (entries_in count (drop 24 f)) i nothing no_ref
      (rw (length-entries_in count (drop 24 f)) h)

  pub chunk_of : (ref_at (model_at f count) i).chunk ≡ place_of (start_at f (place i)) (place count) (chunks_from f (place count))
  unfolding ref_of
  chunk_of = ap (λ (r : Ref). r.chunk) ref_of_lem ∙ ap (λ (x : ℕ). place_of x (place count) (chunks_from f (place count))) start_of_lem

  -- by the numbers that the code has read
  pub piece_is : (x t m : ℕ) (again : Bool) → x ≡ start_at f (place i) → t ≡ rd32 (drop x f) → m ≡ rd32 (drop (x + 4) f)
      → again ≡ start_again_of x i 0 (entries_in count (drop 24 f))
      → ◌≡◌ {A = Piece} (record { place = i; start = x; kind = t; length = m; shared = again }) (piece_of (model_at f count) i)
  unfolding start base shared chunk_in
  piece_is x t m again ex et em ea =
      let cs : List Chunk = chunks_from f (place count) in
      let b : Begun f (start_at f (place i)) (get_or cs (place_of (start_at f (place i)) (place count) cs) no_chunk) = entry_begun in
      let k : (ref_at (model_at f count) i).chunk ≡ place_of x (place count) cs = chunk_of ∙ ap (λ (y : ℕ). place_of y (place count) cs) (sym ex) in
      let s : is_start x (place count) cs ≡ true = rw ex begins-there in
      let c : get_or cs (place_of x (place count) cs) no_chunk ≡ chunk_from f x = rw ex b.chunk in
      let es : x ≡ start (model_at f count) (ref_at (model_at f count) i).chunk = rw (k, refs_count f count) (sym (start_of-place_of x (place count) cs s).0) in
      let ek : t ≡ (get_or cs (ref_at (model_at f count) i).chunk no_chunk).type = rw (k, c) et in
      let el : m ≡ length (get_or cs (ref_at (model_at f count) i).chunk no_chunk).body = rw (k, c, (fine f x (rw ex b.below) (rw ex b.walks)).bodied) em in
      let eg : again ≡ shared (model_at f count) i = ea ∙ (rw k (others (place count) cs x i s i 0 (entries_in count (drop 24 f)) (starts f count g)
      (omega arith))) in
      λ j. record { place = i; start = es j; kind = ek j; length = el j; shared = eg j }

-- the entry of a pair
pub find-pair : (at : ℕ) (cs : List Chunk) (u n : ℕ) (es : List Entry) → find u n (map (ref_of at cs) es) ≡ pair_place u n es
unfolding find pair_place ref_of
find-pair at cs u n [] = refl
find-pair at cs u n (e ∷ es) = ap (λ (k : ℕ). cond (eqb e.usage u && eqb e.number n) 0 (suc k)) (find-pair at cs u n es)

module _ (f : List ℕ) (count u n i : ℕ) (e : i ≡ pair_place u n (entries_in count (drop 24 f))) where
  target_on : target_of (model_at f count) u n ≡ target_by (ltb i count) (model_at f count) i
  unfolding target_of
  target_on =
      let k : find u n (model_at f count).refs ≡ i = find-pair (place count) (chunks_from f (place count)) u n (entries_in count (drop 24 f)) ∙ sym e in
      rw (k, refs_count f count)

  pub target-there : i < count → (p : Piece) → p ≡ piece_of (model_at f count) i → Some p ≡ target_of (model_at f count) u n
  target-there h p q = sym (target_on ∙ rw (lt-ltb i count h) (ap Some (sym q)))

  pub target_none : count ≤ i → None ≡ target_of (model_at f count) u n
  target_none h = sym (target_on ∙ rw (le-ltb i count h))

-- all together
pub facts_are : (f : List ℕ) (count u n x : ℕ) (t : Option Piece) (r : Option Frontispiece) (b : Bool)
    → t ≡ target_of (model_at f count) u n → r ≡ front_of (model_at f count) → b ≡ is_start x (place count) (chunks_from f (place count))
    → ◌≡◌ {A = Facts} (record { count = count; target = t; front = r; begins = b }) (facts_of (model_at f count) u n x)
unfolding base
facts_are f count u n x t r b et er eb =
    let c : count ≡ length (model_at f count).refs = sym (refs_count f count) in
    let s : b ≡ is_start x (base (length (model_at f count).refs)) (chunks_from f (place count)) = rw (refs_count f count) eb in
    λ j. record { count = c j; target = et j; front = er j; begins = s j }

-- the verdict by its parts, and the inspection by it
module _ (profile : ℕ) (f : List ℕ) where
  -- 52 comes first; of a known profile the table decides
  pub unknown_profile : 1 < profile → profile_verdict profile f ≡ refuse 52 0
  unfolding profile_verdict reading
  unknown_profile h = stop _ _ _ _ (lt-leb _ _ h)

  pub unknown_is : 1 < profile → Refused 52 0 ≡ read_of profile f
  unfolding read_of
  unknown_is h = rw (unknown_profile h)

  known_is : profile ≤ 1 → read_known profile f ≡ read_of profile f
  unfolding read_of read_known
  known_is h = let q : profile_verdict profile f ≡ verdict (rules_of profile) f = profile_known profile f (le-leb _ _ h) in rw q

  -- what is left once refusals 1 to 16 and 27 to 29 are ruled out
  pub entries_no : (k p : ℕ) → profile ≤ 1 → Refused k p ≡ read_known profile f → Refused k p ≡ read_of profile f
  entries_no k p h j = j ∙ known_is h

  -- 17 to 19 decide
  pub rest-is : (n : ℕ) (v : Verdict) → profile ≤ 1 → read_by (optional_fault f n) (length f) n ≡ read_known profile f → optional_fault f n ≡ v
      → read_by v (length f) n ≡ read_of profile f
  rest-is n v h q e = ap (λ (x : Verdict). read_by x (length f) n) (sym e) ∙ q ∙ known_is h

  pub inspected_no : (u n x k p : ℕ) → profile_verdict profile f ≡ refuse k p → Refused k p ≡ inspection_of (profile_verdict profile f) (model f) u n x
  inspected_no u n x k p e = rw e

  pub inspected : (u n x count : ℕ) → Good profile f count → (t : Facts) → t ≡ facts_of (model_at f count) u n x → Ok t ≡ inspection_of
      (profile_verdict profile f) (model f) u n x
  inspected u n x count g t e = rw (g.verdict, g.model) (ap Ok e)
