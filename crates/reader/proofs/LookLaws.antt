-- The lookup of an accepted file and the lookup over its model.
use Rattle.blorb.specs.declared.refusal.Refusal.{Refusal}
use Rattle.reader.specs.declared.Resource.{Resource}
use Rattle.std.specs.Prelude.{Some, Result}
use Rattle.blorb.specs.Refusals.{Refused}
use mathlib.Core.Path.{◌≡◌, refl, sym, ap, ◌∙◌}
use Prim.Native.Nat.{ℕ, zero, suc, ◌+◌, ◌-◌, ◌≤◌, ◌<◌}
use mathlib.Core.List.{List, [], ◌∷◌, ◌++◌}
use mathlib.Core.Bool.{Bool, true, false, ◌&&◌}
use native.Mathlib.Omega.{arith}
use native.Mathlib.Nat.{not-suc-le-zero, le_of_suc-le-suc}
use lib.ListN.{length, get_or, drop, length-drop}
use lib.Seq.{drop-drop}
use lib.Dec.{eqb, ltb}
use borrow.Author.Tests.{eq-eqb, lt-ltb, le-ltb, ltb-true, ltb-false}
use Rattle.blorb.specs.All.{All}
use Rattle.blorb.specs.Bytes.{rd32, Byte}
use Rattle.blorb.specs.Format.{Entry, Ref, ref_of, Chunk, chunk_in, entries_in, place_of}
use Rattle.blorb.specs.Verdict.{Rules, accept, entries_fault, pair_in}
use Rattle.blorb.specs.Rules.{profile_verdict}
use Rattle.blorb.specs.Model.{Model, base, model}
use Rattle.blorb.specs.Queries.{find, ref_at, start}
use Rattle.blorb.specs.Lookup.{missing, here, lookup, left_out_of, shown}
use Rattle.blorb.proofs.AllLaws.{all_drop}
use Rattle.blorb.proofs.Places.{start_of-place_of}
use Rattle.blorb.proofs.ShownLaws.{left_most, shown_in}
use Rattle.blorb.proofs.Checks.{neither}
use Rattle.blorb.proofs.FindLaws.{look_find, look_missing, pair_found}
use Rattle.chunks.specs.Walk.{chunk_from, chunks_from, walk_from}
use Rattle.index.specs.Entries.{start_at, place, pair_place}
use Rattle.reader.specs.Reading.{found_at, found_by, lookup_of, part_of}
use Rattle.index.specs.Hits.{hit_in}
use Rattle.chunks.proofs.ChunkLaws.{fine}
use Rattle.index.proofs.EntryLaws.{pair_snoc}
use Rattle.index.proofs.IndexLaws.{drop-take, find_at, find_none, first_entry}
use Rattle.reader.proofs.AskLaws.{good, look_on}
use Rattle.reader.proofs.PartLaws.{refs_count, entry_begun, begins-there, chunk_of, find-pair}

-- the part that a lookup names of the chunk at x, as what is shown of the chunk
pub part_at : (f : List ℕ) (x : ℕ) → x < length f → walk_from f x ≡ accept → All Byte f → part_of (found_at (chunk_from f x) x) f ≡ shown (chunk_from f x)
unfolding chunk_in
part_at f x below walks bytes =
    let i = fine f x below walks in
    let c : Chunk = chunk_from f x in
    let k : ℕ = left_out_of c.type in
    let e : length c.body ≡ rd32 (drop 4 (drop x f)) = i.bodied ∙ ap rd32 (sym (drop-drop 4 x f)) in
    let q : 8 + length c.body ≡ k + (8 + length c.body - k) = omega (arith, left_most c.type) in
    rw (← drop-drop k x f) (sym (drop-take k _ _ (drop x f) q))
    ∙ sym (shown_in (drop x f) (length c.body) e (all_drop Byte x f bytes) (simp length-drop (omega (arith, i.inside, i.next, i.bodied))))

-- a lookup finds the chunk that starts at x, or nothing
pub record There (profile : ℕ) (f : List ℕ) (u n x : ℕ) : Type 0 where
  pub found : lookup_of profile f u n ≡ found_at (chunk_from f x) x
  pub part : All Byte f → part_of (lookup_of profile f u n) f ≡ shown (chunk_from f x)
  pub looked : lookup (model f) u n ≡ here (chunk_from f x)
  pub begins : start (model f) (ref_at (model f) (find u n (model f).refs)).chunk ≡ x
  pub pair : pair_in u n (model f).refs ≡ true

pub record Absent (profile : ℕ) (f : List ℕ) (u n : ℕ) : Type 0 where
  pub found : lookup_of profile f u n ≡ Refused 22 0
  pub looked : lookup (model f) u n ≡ missing
  pub pair : pair_in u n (model f).refs ≡ false

module _ (profile : ℕ) (f : List ℕ) (u n : ℕ) (h : profile_verdict profile f ≡ accept) where
  abbrev at_place : ℕ
  at_place = pair_place u n (entries_in (rd32 (drop 20 f)) (drop 24 f))

  find-is : find u n (model f).refs ≡ at_place
  find-is = rw (good profile f h).model (find-pair (place (rd32 (drop 20 f))) (chunks_from f (place (rd32 (drop 20 f)))) u n
      (entries_in (rd32 (drop 20 f)) (drop 24 f)))

  many_is : length (model f).refs ≡ rd32 (drop 20 f)
  many_is = rw (good profile f h).model (refs_count f (rd32 (drop 20 f)))

  there : at_place < rd32 (drop 20 f) → There profile f u n (start_at f (place at_place))
  unfolding lookup start base
  there l =
      let g = good profile f h in
      let count : ℕ = rd32 (drop 20 f) in
      let x : ℕ = start_at f (place at_place) in
      let b = entry_begun f count at_place g.passed l in
      let found : lookup_of profile f u n ≡ found_at (chunk_from f x) x
      = look_on profile f u n count g ∙ ap (found_by f) (sym (find_at f u n count at_place refl l x refl)) in
      let r : find u n (model f).refs < length (model f).refs = rw (find-is, many_is) l in
      let k : (ref_at (model f) (find u n (model f).refs)).chunk ≡ place_of x (place count) (chunks_from f (place count)) = rw (find-is, g.model)
      (chunk_of f count at_place g.passed l) in
      let cs : (model f).chunks ≡ chunks_from f (place count) = ap (λ (m : Model). m.chunks) g.model in
      record {
        found = found;
        part = λ bytes. ap (λ (a : Result Resource Refusal). part_of a f) found ∙ part_at f x b.below b.walks bytes;
        looked = look_find (model f).chunks u n (model f).refs r ∙ rw (k, cs) (ap here b.chunk);
        begins = rw (k, cs, many_is) (start_of-place_of x (place count) (chunks_from f (place count)) (begins-there f count at_place g.passed l)).0;
        pair = pair_found u n (model f).refs ∙ lt-ltb _ _ r;
      }

  absent : rd32 (drop 20 f) ≤ at_place → Absent profile f u n
  unfolding lookup
  absent l =
      let g = good profile f h in
      let count : ℕ = rd32 (drop 20 f) in
      let r : length (model f).refs ≤ find u n (model f).refs = rw (find-is, many_is) l in
      record {
        found = look_on profile f u n count g ∙ ap (found_by f) (sym (find_none f u n count at_place refl l));
        looked = look_missing (model f).chunks u n (model f).refs (pair_found u n (model f).refs ∙ le-ltb _ _ r);
        pair = pair_found u n (model f).refs ∙ le-ltb _ _ r;
      }

  pub either : (P : Type 0) → ((x : ℕ) → There profile f u n x → P) → (Absent profile f u n → P) → P
  either P is none = go (ltb at_place (rd32 (drop 20 f))) refl
    where
      go : (b : Bool) → ltb at_place (rd32 (drop 20 f)) ≡ b → P
      go true e = is (start_at f (place at_place)) (there (ltb-true _ _ e))
      go false e = none (absent (ltb-false _ _ e))

-- no pair stands twice, so the first entry with a pair is the only one
module _ (R : Rules) (f : List ℕ) (base : ℕ) (w : walk_from f base ≡ accept) where
  new-pair : (es : List Entry) (earlier : List Ref) (p i : ℕ) (d : Entry) → entries_fault R base (chunks_from f base) earlier p es ≡ accept → i < length es
      → pair_in (get_or es i d).usage (get_or es i d).number earlier ≡ false
  new-pair [] earlier p i d h l = absurd (not-suc-le-zero l)
  new-pair (e ∷ es) earlier p zero d h l = (first_entry R f base w e es earlier p h).1
  new-pair (e ∷ es) earlier p (suc i) d h l =
      let r : Ref = ref_of base (chunks_from f base) e in
      let q = new-pair es (earlier ++ (r ∷ [])) (p + 12) i d (first_entry R f base w e es earlier p h).2 (le_of_suc-le-suc l) in
      (neither _ _ (sym (pair_snoc (get_or es i d).usage (get_or es i d).number earlier r) ∙ q)).0

  -- an entry's pair is none behind it
  new-behind : (e : Entry) (es : List Entry) (earlier : List Ref) (p i : ℕ) (d : Entry) → entries_fault R base (chunks_from f base) earlier p (e ∷ es) ≡ accept
      → i < length es → eqb e.usage (get_or es i d).usage && eqb e.number (get_or es i d).number ≡ false
  unfolding ref_of
  new-behind e es earlier p i d h l =
      let r : Ref = ref_of base (chunks_from f base) e in
      let q = new-pair es (earlier ++ (r ∷ [])) (p + 12) i d (first_entry R f base w e es earlier p h).2 l in
      (neither (pair_in (get_or es i d).usage (get_or es i d).number earlier) _ (sym (pair_snoc (get_or es i d).usage (get_or es i d).number earlier r) ∙ q)).1

  pub apart : (es : List Entry) (earlier : List Ref) (p i j : ℕ) (d : Entry) → entries_fault R base (chunks_from f base) earlier p es ≡ accept → i < j
      → j < length es → ((get_or es i d).usage ≡ (get_or es j d).usage) × ((get_or es i d).number ≡ (get_or es j d).number) → ⊥
  apart [] earlier p i j d h l m s = not-suc-le-zero m
  apart (e ∷ es) earlier p i zero d h l m s = not-suc-le-zero l
  apart (e ∷ es) earlier p zero (suc j) d h l m s =
      let z : ◌≡◌ {A = ℕ} 0 1 =
      cc (new-behind e es earlier p j d h (le_of_suc-le-suc m), eq-eqb _ _ s.0, eq-eqb _ _ s.1) in
      omega arith
  apart (e ∷ es) earlier p (suc i) (suc j) d h l m s =
      apart es (earlier ++ (ref_of base (chunks_from f base) e ∷ [])) (p + 12) i j d (first_entry R f base w e es earlier p h).2 (le_of_suc-le-suc l)
      (le_of_suc-le-suc m) s

  pub only_hit : (es : List Entry) (earlier : List Ref) (p i : ℕ) (d : Entry) → entries_fault R base (chunks_from f base) earlier p es ≡ accept → i < length es
      → hit_in (get_or es i d).usage (get_or es i d).number es ≡ Some (get_or es i d).start
  unfolding hit_in ref_of
  only_hit [] earlier p i d h l = absurd (not-suc-le-zero l)
  only_hit (e ∷ es) earlier p zero d h l = rw (eq-eqb e.usage e.usage refl, eq-eqb e.number e.number refl)
  only_hit (e ∷ es) earlier p (suc i) d h l =
      let r : Ref = ref_of base (chunks_from f base) e in
      let k : i < length es = le_of_suc-le-suc l in
      rw (new-behind e es earlier p i d h k) (only_hit es (earlier ++ (r ∷ [])) (p + 12) i d (first_entry R f base w e es earlier p h).2 k)
