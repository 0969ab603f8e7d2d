-- Whether a record fits, told from what the reader tells of an accepted file: the count, the entry of the record's pair with its place, its chunk's start
-- and length and whether that is shared, and whether a chunk begins at the record's start less 12.
use mathlib.Core.Path.{◌≡◌, refl, sym, ap, ◌∙◌}
use Prim.Native.Nat.{ℕ, zero, suc, ◌+◌, ◌*◌, ◌-◌, ◌≤◌, ◌<◌, ◌%◌}
use mathlib.Core.List.{List, [], ◌∷◌}
use mathlib.Core.Bool.{Bool, true, false, ◌&&◌, ◌||◌, not}
use native.Mathlib.Omega.{arith}
use native.Mathlib.Nat.{le_of_suc-le-suc, not-suc-le-zero}
use lib.ListN.{length, get_or, take}
use lib.Seq.{take-length}
use lib.Dec.{eqb, leb, ltb}
use borrow.Author.Tests.{eqb-true, eq-eqb, leb-true, lt-ltb, ltb-true}
use Rattle.blorb.specs.Format.{Chunk, size, sized, total, is_start, place_of}
use Rattle.blorb.specs.Verdict.{accept, no_chunk}
use Rattle.blorb.specs.Rules.{rules_of}
use Rattle.blorb.specs.Model.{Model, base, start_of, file}
use Rattle.blorb.specs.Queries.{find, ref_at, chunk_at, shared, start}
use Rattle.blorb.specs.Sound.{Sound}
use Rattle.blorb.proofs.Places.{size_pos, place_of-start_of, start_of-place_of}
use Rattle.blorb.proofs.ModelLaws.{length-file, total-take, chunk_in}
use Rattle.blorb.proofs.VerdictLaws.{model_fault}
use Rattle.blorb.proofs.FindLaws.{find-pair}
use Rattle.blorb.proofs.Checks.{and_both, same_test}
use Rattle.edits.specs.Journal.{Rec, has_pair_of, fits1, fits2, fits3, fits4, fits5, old_place}
use Rattle.edits.proofs.UndoJudged.{fits1-facts, fits_at, fits-at, fits2-at, fits5-at, found_at}

-- the bytes of a chunk, by the length of its data
pub size_is : (c : Chunk) → size c ≡ 8 + (length c.body + length c.body % 2)
unfolding size sized
size_is c = refl

-- the file's end is where a chunk behind the last would start
pub start_end : (m : Model) → start m (length m.chunks) ≡ length (file m)
unfolding start start_of
start_end m = rw (take-length m.chunks) (sym (length-file m))

-- a chunk is the last one if it ends where the file ends
total_last : (cs : List Chunk) (k : ℕ) → k < length cs → suc k ≡ length cs → total (take k cs) + size (get_or cs k no_chunk) ≡ total cs
unfolding total
total_last [] k h e = absurd (not-suc-le-zero h)
total_last (c ∷ []) zero h e = omega arith
total_last (c ∷ (d ∷ cs)) zero h e = absurd (omega arith)
total_last (c ∷ cs) (suc k) h e = omega (arith, total_last cs k (le_of_suc-le-suc h) (omega arith))

last_total : (cs : List Chunk) (k : ℕ) → k < length cs → total (take k cs) + size (get_or cs k no_chunk) ≡ total cs → suc k ≡ length cs
unfolding total
last_total [] k h e = absurd (not-suc-le-zero h)
last_total (c ∷ []) zero h e = refl
last_total (c ∷ (d ∷ cs)) zero h e = absurd (omega (arith, size_pos d))
last_total (c ∷ cs) (suc k) h e = ap suc (last_total cs k (le_of_suc-le-suc h) (omega arith))

module _ (m : Model) (k : ℕ) (h : k < length m.chunks) where
  ends_last : suc k ≡ length m.chunks → start m k + size (chunk_at m k) ≡ length (file m)
  unfolding start start_of
  ends_last e = omega (arith, total_last m.chunks k h e, length-file m)

  last_ends : start m k + size (chunk_at m k) ≡ length (file m) → suc k ≡ length m.chunks
  unfolding start start_of
  last_ends e = last_total m.chunks k h (omega (arith, length-file m))

-- kind 1, L being the file's length and i the place that the reader gives for the record's pair: there is such an entry, it has the record's place, it is the
-- last one,
-- and its chunk, which no other entry has, ends where the file ends
abbrev pub told1 : Rec → Model → ℕ → ℕ → Bool
told1 r m L i =
    ltb i (length m.refs) && (eqb i r.place && (eqb (length m.refs) (r.place + 1)
    && (eqb (start m (ref_at m i).chunk + (8 + (length (chunk_at m (ref_at m i).chunk).body + length (chunk_at m (ref_at m i).chunk).body % 2))) L
    && not (shared m i))))

-- kinds 2 and 5: there is such an entry, it has the record's place, its chunk starts where the record says, and q holds of it
abbrev pub told_fits : (ℕ → Bool) → Rec → Model → ℕ → Bool
told_fits q r m i = ltb i (length m.refs) && (eqb i r.place && (eqb (start m (ref_at m i).chunk) r.start && q i))

-- kind 2: no other entry has the chunk; kind 5: another has it too
abbrev pub told2 : Rec → Model → ℕ → Bool
told2 r m i = told_fits (λ j. not (shared m j)) r m i

abbrev pub told5 : Rec → Model → ℕ → Bool
told5 r m i = told_fits (λ j. shared m j) r m i

module _ (profile : ℕ) (r : Rec) (m : Model) (s : Sound m) (ok : model_fault (rules_of profile) m ≡ accept) where
  abbrev at : ℕ
  at = find r.usage r.number m.refs

  pair_is : at < length m.refs → has_pair_of r (ref_at m at) ≡ true
  pair_is h = let p = find-pair r.usage r.number m.refs h in rw (
    eq-eqb (ref_at m at).usage r.usage p.0,
    eq-eqb (ref_at m at).number
        r.number p.1,
  )

  fits1_tells : fits1 r m ≡ true → told1 r m (length (file m)) at ≡ true
  fits1_tells fit =
      let f = fits1-facts r m fit in
      let l : r.place < length m.refs = omega (arith, f.count) in
      let k : ℕ = (ref_at m r.place).chunk in
      let e : start m k + (8 + (length (chunk_at m k).body + length (chunk_at m k).body % 2)) ≡ length (file m)
      = ap (λ (z : ℕ). start m k + z) (sym (size_is (chunk_at m k))) ∙ ends_last m k (chunk_in m r.place s l) f.last in
      ap (told1 r m (length (file m))) (found_at profile r m ok l f.usage_is f.number_is)
      ∙ rw (
        lt-ltb r.place (length m.refs) l,
        eq-eqb r.place r.place refl,
        eq-eqb (length m.refs) (r.place + 1) (omega (arith, f.count)),
        eq-eqb _ _ e,
        f.alone,
      )

  told1-fits : told1 r m (length (file m)) at ≡ true → fits1 r m ≡ true
  unfolding fits1
  told1-fits h =
      let k : ℕ = (ref_at m at).chunk in
      let end : Bool = eqb (start m k + (8 + (length (chunk_at m k).body + length (chunk_at m k).body % 2))) (length (file m)) in
      let a = and_both (ltb at (length m.refs)) (eqb at r.place && (eqb (length m.refs) (r.place + 1) && (end && not (shared m at)))) h in
      let b = and_both (eqb at r.place) (eqb (length m.refs) (r.place + 1) && (end && not (shared m at))) a.1 in
      let c = and_both (eqb (length m.refs) (r.place + 1)) (end && not (shared m at)) b.1 in
      let d = and_both end (not (shared m at)) c.1 in
      let l : at < length m.refs = ltb-true at (length m.refs) a.0 in
      let n : length m.refs ≡ suc r.place = omega (arith, eqb-true (length m.refs) (r.place + 1) c.0) in
      let e : suc k ≡ length m.chunks = last_ends m k (chunk_in m at s l) (ap (λ (z : ℕ). start m k + z) (size_is (chunk_at m k)) ∙ eqb-true _ _ d.0) in
      ap (λ (i : ℕ). eqb (length m.refs) (suc r.place) && has_pair_of r (ref_at m i) && eqb (suc (ref_at m i).chunk) (length m.chunks) && not
      (shared m i)) (sym (eqb-true at r.place b.0))
      ∙ rw (eq-eqb (length m.refs) (suc r.place) n, pair_is l, eq-eqb (suc k) (length m.chunks) e, d.1)

  pub fits1-told : fits1 r m ≡ told1 r m (length (file m)) (find r.usage r.number m.refs)
  fits1-told = same_test (fits1 r m) (told1 r m (length (file m)) at) fits1_tells told1-fits

  module _ (q : ℕ → Bool) where
    at_tells : fits_at q r m ≡ true → told_fits q r m at ≡ true
    at_tells fit =
        let f = fits-at q r m fit in
        ap (told_fits q r m) (found_at profile r m ok f.inside f.usage_is f.number_is)
        ∙ rw (
          lt-ltb r.place (length m.refs) f.inside,
          eq-eqb r.place r.place refl,
          eq-eqb (start m (ref_at m r.place).chunk) r.start
              f.starts,
          f.holds,
        )

    told_at : told_fits q r m at ≡ true → fits_at q r m ≡ true
    told_at h =
        let k : ℕ = (ref_at m at).chunk in
        let a = and_both (ltb at (length m.refs)) (eqb at r.place && (eqb (start m k) r.start && q at)) h in
        let b = and_both (eqb at r.place) (eqb (start m k) r.start && q at) a.1 in
        let d = and_both (eqb (start m k) r.start) (q at) b.1 in
        let l : at < length m.refs = ltb-true at (length m.refs) a.0 in
        ap (λ (i : ℕ). ltb i (length m.refs) && has_pair_of r (ref_at m i) && eqb (start m (ref_at m i).chunk) r.start && q i)
        (sym (eqb-true at r.place b.0))
        ∙ rw (a.0, pair_is l, d.0, d.1)

    fits_at-told : fits_at q r m ≡ told_fits q r m at
    fits_at-told = same_test (fits_at q r m) (told_fits q r m at) at_tells told_at

  pub fits2-told : fits2 r m ≡ told2 r m (find r.usage r.number m.refs)
  fits2-told = fits2-at r m ∙ fits_at-told (λ i. not (shared m i))

  pub fits5-told : fits5 r m ≡ told5 r m (find r.usage r.number m.refs)
  fits5-told = fits5-at r m ∙ fits_at-told (λ i. shared m i)

-- kind 3: the place is at most the count, and the record's start less 12 is a chunk's beginning behind the index, or the file's end
abbrev pub told3 : Rec → Model → ℕ → Bool
told3 r m L = leb r.place (length m.refs) && (is_start (r.start - 12) (base (length m.refs)) m.chunks || eqb (r.start - 12) L)

-- kind 4: the same, but it must be a chunk's beginning
abbrev pub told4 : Rec → Model → Bool
told4 r m = leb r.place (length m.refs) && is_start (r.start - 12) (base (length m.refs)) m.chunks

module _ (r : Rec) (m : Model) where
  abbrev back : ℕ
  back = r.start - 12

  pub fits3-told : fits3 r m ≡ told3 r m (length (file m))
  unfolding fits3
  fits3-told = ap (λ (z : ℕ). leb r.place (length m.refs) && (is_start back (base (length m.refs)) m.chunks || eqb back z)) (start_end m)

  pub fits4-told : fits4 r m ≡ told4 r m
  unfolding fits4
  fits4-told = refl

  -- where entry and chunk go in: the chunk at that place, or the file's end, starts there
  pub record GoesIn : Type 0 where
    pub place_in : r.place ≤ length m.refs
    pub chunk_place : old_place r m ≤ length m.chunks
    pub starts : start m (old_place r m) ≡ r.start - 12
    pub behind : 36 + 12 * length m.refs ≤ r.start
    pub before : r.start - 12 ≤ length (file m)

  goes_in : r.place ≤ length m.refs → old_place r m ≤ length m.chunks → start m (old_place r m) ≡ r.start - 12 → GoesIn
  unfolding start start_of base
  goes_in p c e = record {
    place_in = p;
    chunk_place = c;
    starts = e;
    behind = omega arith;
    before = omega (arith, total-take (old_place r m) m.chunks, length-file m);
  }

  begin_in : r.place ≤ length m.refs → is_start (r.start - 12) (base (length m.refs)) m.chunks ≡ true → GoesIn
  unfolding start
  begin_in p h =
      let a = start_of-place_of back (base (length m.refs)) m.chunks h in
      goes_in p (omega (arith, a.1)) a.0

  pub fits3_in : fits3 r m ≡ true → GoesIn
  unfolding fits3
  fits3_in fit =
      let a = and_both (leb r.place (length m.refs)) (is_start back (base (length m.refs)) m.chunks || eqb back (start m (length m.chunks)))
      fit in
      go (is_start back (base (length m.refs)) m.chunks) refl (leb-true _ _ a.0) a.1
    where
      go : (b : Bool) → is_start back (base (length m.refs)) m.chunks ≡ b → r.place ≤ length m.refs → b || eqb back (start m (length m.chunks)) ≡
          true → GoesIn
      go true e p h = begin_in p e
      go false e p h =
          let x : back ≡ start m (length m.chunks) = eqb-true back (start m (length m.chunks)) h in
          let y : old_place r m ≡ length m.chunks
          = ap (λ (z : ℕ). place_of z (base (length m.refs)) m.chunks) x ∙ (unfold start in place_of-start_of (base (length m.refs)) m.chunks
          (length m.chunks) (omega arith)) in
          goes_in p (omega arith) (ap (start m) y ∙ sym x)

  pub fits4_in : fits4 r m ≡ true → GoesIn
  unfolding fits4
  fits4_in fit =
      let a = and_both (leb r.place (length m.refs)) (is_start back (base (length m.refs)) m.chunks) fit in
      begin_in (leb-true _ _ a.0) a.1
