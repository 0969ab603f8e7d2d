-- Whether the file after an undo is accepted, told from the present file and the record: one test for each kind.
use mathlib.Core.Path.{◌≡◌, refl, sym, ap, ◌∙◌}
use Prim.Native.Nat.{ℕ, suc, ◌+◌, ◌-◌, ◌≤◌, ◌<◌}
use mathlib.Core.List.{List, [], ◌∷◌, map, append-nil}
use mathlib.Core.Bool.{Bool, true, false, cond, ◌&&◌, not}
use native.Mathlib.Omega.{arith}
use lib.ListN.{length, take, drop_of_length-le}
use lib.Dec.{eqb, leb, ltb}
use borrow.Author.Tests.{eqb-true, eq-eqb, le-ltb, ltb-true, not-true}
use Rattle.blorb.specs.Format.{is_start, Ref, size}
use Rattle.blorb.specs.Tags.{RIdx, Rect}
use Rattle.blorb.specs.Verdict.{accept, no_chunk, verdict, accepted}
use Rattle.blorb.specs.Rules.{allows, rules_of}
use Rattle.blorb.specs.Model.{Model, base, model, file}
use Rattle.blorb.specs.Queries.{find, ref_at, chunk_at, without, shared, start}
use Rattle.blorb.specs.All.{All}
use Rattle.blorb.proofs.AllLaws.{all_take}
use Rattle.blorb.specs.Sound.{W, RefOk, Sound}
use Rattle.blorb.proofs.Places.{start_of-place_of}
use Rattle.blorb.specs.Bytes.{Byte}
use Rattle.blorb.proofs.Accept.{accept_back}
use Rattle.blorb.proofs.ModelLaws.{length-file, size-get_or, chunk_in}
use Rattle.blorb.proofs.VerdictLaws.{model_fault, refs_in_order, file-judged, file-ordered}
use Rattle.blorb.proofs.Checks.{and_both}
use Rattle.edits.specs.Edit.{lower, replaced, removed, removed_both}
use Rattle.edits.specs.Journal.{Rec, has_pair_of, fits, fits1, fits2, fits3, fits4, fits5, undone, undo1, undo2, undo3, undo4, undo5, old_chunk, old_place}
use Rattle.edits.proofs.Lengths.{length-replaced}
use Rattle.edits.proofs.JudgedLaws.{model_parts, is_front_of, find_at}
use Rattle.edits.proofs.RemoveJudged.{removed-length, removed-accepted, unlisted_length, unlisted_accepted}
use Rattle.edits.proofs.ReplaceJudged.{replaced-accepted}
use Rattle.edits.proofs.InsertStarts.{place_inside}
use Rattle.edits.proofs.InsertJudged.{entry_tests, entered-length, entered-accepted, inserted-length, inserted-accepted}

-- ---- kind 1
pub record Fits1 (r : Rec) (m : Model) : Type 0 where
  pub count : length m.refs ≡ suc r.place
  pub usage_is : (ref_at m r.place).usage ≡ r.usage
  pub number_is : (ref_at m r.place).number ≡ r.number
  pub last : suc (ref_at m r.place).chunk ≡ length m.chunks
  pub alone : shared m r.place ≡ false

pub fits1-facts : (r : Rec) (m : Model) → fits1 r m ≡ true → Fits1 r m
unfolding fits1
fits1-facts r m h =
    let e : Ref = ref_at m r.place in
    let a : Bool = eqb (length m.refs) (suc r.place) in
    let b : Bool = eqb (suc e.chunk) (length m.chunks) in
    let p3 = and_both (a && has_pair_of r e && b) (not (shared m r.place)) h in
    let p2 = and_both (a && has_pair_of r e) b p3.0 in
    let p1 = and_both a (has_pair_of r e) p2.0 in
    let p0 = and_both (eqb e.usage r.usage) (eqb e.number r.number) p1.1 in
    record {
      count = eqb-true _ _ p1.0;
      usage_is = eqb-true _ _ p0.0;
      number_is = eqb-true _ _ p0.1;
      last = eqb-true _ _ p2.1;
      alone = not-true _ p3.1;
    }

-- entries on chunks up to k stay as they are when chunk k goes
lower-none : (k : ℕ) (rs : List Ref) → All (RefOk (suc k)) rs → map (lower k) rs ≡ rs
unfolding lower
lower-none k [] ok = refl
lower-none k (r ∷ rs) ok =
    let t : ltb k r.chunk ≡ false = le-ltb k r.chunk (omega (arith, ok.0.chunk_there)) in
    λ i. record { usage = r.usage; number = r.number; chunk = cond (t i) (r.chunk - 1) r.chunk } ∷ lower-none k rs ok.1 i

without_end : {A : Type 0} (i : ℕ) (l : List A) → length l ≡ suc i → without i l ≡ take (length l - 1) l
unfolding without
without_end i l h =
    let e : length l - 1 ≡ i = omega arith in
    let le : length l ≤ suc i = omega arith in
    rw (drop_of_length-le l le, e) (append-nil (take i l))

pub undo1-removed : (r : Rec) (m : Model) → Sound m → fits1 r m ≡ true → undo1 m ≡ removed m r.place
unfolding undo1 removed removed_both
undo1-removed r m s fit =
    let f = fits1-facts r m fit in
    let k : ℕ = (ref_at m r.place).chunk in
    let a = without_end r.place m.refs f.count in
    let c = without_end k m.chunks (sym f.last) in
    let ok : All (RefOk (suc k)) (take (length m.refs - 1) m.refs) = all_take (RefOk (suc k)) (length m.refs - 1) m.refs
    (rw f.last s.refs_ok) in
    let b : map (lower k) (without r.place m.refs) ≡ take (length m.refs - 1) m.refs = ap (map (lower k)) a
    ∙ lower-none k (take (length m.refs - 1) m.refs) ok in
    rw f.alone (λ i. record { refs = sym b i; chunks = sym c i })

pub undo1-length : (profile : ℕ) (r : Rec) (m : Model) → Sound m → model_fault (rules_of profile) m ≡ accept → fits1 r m ≡ true
    → length (file (undo1 m)) + (12 + size (chunk_at m (ref_at m r.place).chunk)) ≡ length (file m)
undo1-length profile r m s ok fit =
    let f = fits1-facts r m fit in
    ap (λ (z : Model). length (file z) + (12 + size (chunk_at m (ref_at m r.place).chunk))) (undo1-removed r m s fit)
    ∙ removed-length profile m r.place s ok (omega (arith, f.count)) f.alone

-- accepted unless the frontispiece's picture goes
pub undo1-accepted : (profile : ℕ) (r : Rec) (m : Model) → Sound m → model_fault (rules_of profile) m ≡ accept → refs_in_order 0 m.refs ≡ true
    → length (file m) ≤ 16777216
    → fits1 r m ≡ true
    → accepted (verdict (rules_of profile) (file (undo1 m))) ≡ not (is_front_of m.chunks r.usage r.number)
undo1-accepted profile r m s ok ord short fit =
    let f = fits1-facts r m fit in
    ap (λ (z : Model). accepted (verdict (rules_of profile) (file z))) (undo1-removed r m s fit)
    ∙ removed-accepted profile m r.place s ok (omega (arith, f.count)) f.alone short ord
    ∙ (λ i. not (is_front_of m.chunks (f.usage_is i) (f.number_is i)))

-- ---- kinds 2 and 5: the entry at the record's place has its pair and start, and q holds of it
abbrev pub fits_at : (ℕ → Bool) → Rec → Model → Bool
fits_at q r m =
    ltb r.place (length m.refs) && has_pair_of r (ref_at m r.place)
    && eqb (start m (ref_at m r.place).chunk) r.start && q r.place

pub record FitsAt (q : ℕ → Bool) (r : Rec) (m : Model) : Type 0 where
  pub inside : r.place < length m.refs
  pub usage_is : (ref_at m r.place).usage ≡ r.usage
  pub number_is : (ref_at m r.place).number ≡ r.number
  pub starts : start m (ref_at m r.place).chunk ≡ r.start
  pub holds : q r.place ≡ true

pub fits-at : (q : ℕ → Bool) (r : Rec) (m : Model) → fits_at q r m ≡ true → FitsAt q r m
fits-at q r m h =
    let e : Ref = ref_at m r.place in
    let a : Bool = ltb r.place (length m.refs) in
    let b : Bool = eqb (start m e.chunk) r.start in
    let p3 = and_both (a && has_pair_of r e && b) (q r.place) h in
    let p2 = and_both (a && has_pair_of r e) b p3.0 in
    let p1 = and_both a (has_pair_of r e) p2.0 in
    let p0 = and_both (eqb e.usage r.usage) (eqb e.number r.number) p1.1 in
    record {
      inside = ltb-true _ _ p1.0;
      usage_is = eqb-true _ _ p0.0;
      number_is = eqb-true _ _ p0.1;
      starts = eqb-true _ _ p2.1;
      holds = p3.1;
    }

-- kind 2: no other entry shares the chunk; kind 5: another does
pub fits2-at : (r : Rec) (m : Model) → fits2 r m ≡ fits_at (λ i. not (shared m i)) r m
unfolding fits2
fits2-at r m = refl

pub fits5-at : (r : Rec) (m : Model) → fits5 r m ≡ fits_at (λ i. shared m i) r m
unfolding fits5
fits5-at r m = refl

pub fits2-facts : (r : Rec) (m : Model) → fits2 r m ≡ true → FitsAt (λ i. not (shared m i)) r m
fits2-facts r m h = fits-at (λ i. not (shared m i)) r m (sym (fits2-at r m) ∙ h)

pub fits5-facts : (r : Rec) (m : Model) → fits5 r m ≡ true → FitsAt (λ i. shared m i) r m
fits5-facts r m h = fits-at (λ i. shared m i) r m (sym (fits5-at r m) ∙ h)

-- the entry at that place is the one of that pair
pub found_at : (profile : ℕ) (r : Rec) (m : Model) → model_fault (rules_of profile) m ≡ accept → r.place < length m.refs
    → (ref_at m r.place).usage ≡ r.usage → (ref_at m r.place).number ≡ r.number → find r.usage r.number m.refs ≡ r.place
found_at profile r m ok h u n =
    find_at (rules_of profile) m.chunks [] 24 r.usage r.number r.place m.refs (model_parts profile m ok).entries_fine h
    (rw (eq-eqb (ref_at m r.place).usage r.usage u, eq-eqb (ref_at m r.place).number r.number n))

module _ (profile : ℕ) (r : Rec) (m : Model) (s : Sound m) (ok : model_fault (rules_of profile) m ≡ accept) (fit : fits2 r m ≡ true) where
  pub undo2-length : length (file (undo2 r m)) ≡ length (file m) - size (chunk_at m (ref_at m r.place).chunk) + size (old_chunk r)
  unfolding undo2
  undo2-length =
      let f = fits2-facts r m fit in
      let there = chunk_in m r.place s f.inside in
      omega (
        arith,
        length-replaced m (ref_at m r.place).chunk (old_chunk r) there,
        size-get_or m.chunks (ref_at m r.place).chunk no_chunk there,
        length-file m,
      )

  -- accepted if it is short enough, the old chunk is no index and one that rule 5 allows, and the frontispiece's picture doesn't become a 'Rect'
  pub undo2-accepted : r.type < W → refs_in_order 0 m.refs ≡ true → accepted (verdict (rules_of profile) (file (undo2 r m)))
      ≡ (leb (length (file m) - size (chunk_at m (ref_at m r.place).chunk) + size (old_chunk r)) 16777216
      && (not (eqb r.type RIdx) && (allows profile r.usage (old_chunk r) && not (is_front_of m.chunks r.usage r.number && eqb r.type Rect))))
  unfolding undo2
  undo2-accepted ht ord =
      let f = fits2-facts r m fit in
      let e : find r.usage r.number m.refs ≡ r.place = found_at profile r m ok f.inside f.usage_is f.number_is in
      let h : find r.usage r.number m.refs < length m.refs = rw e f.inside in
      let al : shared m (find r.usage r.number m.refs) ≡ false = rw e (not-true _ f.holds) in
      ap (λ (i : ℕ). accepted (verdict (rules_of profile) (file (replaced m (ref_at m i).chunk (old_chunk r))))) (sym e)
      ∙ replaced-accepted profile m r.usage r.number r.type r.body s ok h al ht ord
      ∙ ap (λ (i : ℕ). leb (length (file m) - size (chunk_at m (ref_at m i).chunk) + size (old_chunk r)) 16777216
      && (not (eqb r.type RIdx) && (allows profile r.usage (old_chunk r) && not (is_front_of m.chunks r.usage r.number && eqb r.type Rect)))) e

-- ---- kinds 3 and 4
module _ (profile : ℕ) (r : Rec) (m : Model) (s : Sound m) (ok : model_fault (rules_of profile) m ≡ accept) where
  pub undo3-length : length (file (undo3 r m)) ≡ length (file m) + 12 + size (old_chunk r)
  unfolding undo3
  undo3-length = inserted-length profile m r.place (old_place r m) r.usage r.number (old_chunk r) s ok
      (place_inside (r.start - 12) (base (length m.refs)) m.chunks)

  pub undo3-accepted : r.usage < W → r.number < W → r.type < W → accepted (verdict (rules_of profile) (file (undo3 r m)))
      ≡ (refs_in_order 0 (undo3 r m).refs
      && (leb (length (file m) + 12 + size (old_chunk r)) 16777216 && (not (eqb r.type RIdx) && (leb (suc (length m.refs)) 4096
      && entry_tests profile r.usage r.number (old_chunk r) m.refs))))
  unfolding undo3
  undo3-accepted hu hn ht = inserted-accepted profile m r.place (old_place r m) r.usage r.number (old_chunk r) s ok
      (place_inside (r.start - 12) (base (length m.refs)) m.chunks) hu hn ht

  module _ (hu : r.usage < W) (hn : r.number < W) (fit : fits4 r m ≡ true) where
    fits4-start : is_start (r.start - 12) (base (length m.refs)) m.chunks ≡ true
    unfolding fits4
    fits4-start = (and_both (leb r.place (length m.refs)) (is_start (r.start - 12) (base (length m.refs)) m.chunks) fit).1

    old_ok : RefOk (length m.chunks) (record { usage = r.usage; number = r.number; chunk = old_place r m })
    old_ok = record { usage_fits = hu; number_fits = hn; chunk_there = (start_of-place_of (r.start - 12) (base (length m.refs)) m.chunks fits4-start).1 }

    pub undo4-length : length (file (undo4 r m)) ≡ length (file m) + 12
    unfolding undo4
    undo4-length = entered-length profile m r.place (old_place r m) r.usage r.number s ok old_ok

    pub undo4-accepted : accepted (verdict (rules_of profile) (file (undo4 r m)))
        ≡ (refs_in_order 0 (undo4 r m).refs
        && (leb (length (file m) + 12) 16777216 && (leb (suc (length m.refs)) 4096 && entry_tests profile r.usage r.number (chunk_at m (old_place r m))
        m.refs)))
    unfolding undo4
    undo4-accepted = entered-accepted profile m r.place (old_place r m) r.usage r.number s ok old_ok

-- ---- kind 5
pub undo5-length : (r : Rec) (m : Model) → fits5 r m ≡ true → length (file (undo5 r m)) + 12 ≡ length (file m)
unfolding undo5
undo5-length r m fit = unlisted_length m r.place (fits5-facts r m fit).inside

-- accepted unless the frontispiece's picture goes
pub undo5-accepted : (profile : ℕ) (r : Rec) (m : Model) → Sound m → model_fault (rules_of profile) m ≡ accept → refs_in_order 0 m.refs ≡ true
    → length (file m) ≤ 16777216
    → fits5 r m ≡ true
    → accepted (verdict (rules_of profile) (file (undo5 r m))) ≡ not (is_front_of m.chunks r.usage r.number)
unfolding undo5
undo5-accepted profile r m s ok ord short fit =
    let f = fits5-facts r m fit in
    unlisted_accepted profile m r.place s ok f.inside short ord
    ∙ (λ i. not (is_front_of m.chunks (f.usage_is i) (f.number_is i)))

-- ---- by kind
pub kind_1 : (r : Rec) (m : Model) → r.kind ≡ 1 → (fits r m ≡ fits1 r m) × (undone r m ≡ undo1 m)
unfolding fits undone
kind_1 r m h = (rw h, rw h)

pub kind_2 : (r : Rec) (m : Model) → r.kind ≡ 2 → (fits r m ≡ fits2 r m) × (undone r m ≡ undo2 r m)
unfolding fits undone
kind_2 r m h = (rw h, rw h)

pub kind_3 : (r : Rec) (m : Model) → r.kind ≡ 3 → (fits r m ≡ fits3 r m) × (undone r m ≡ undo3 r m)
unfolding fits undone
kind_3 r m h = (rw h, rw h)

pub kind_4 : (r : Rec) (m : Model) → r.kind ≡ 4 → (fits r m ≡ fits4 r m) × (undone r m ≡ undo4 r m)
unfolding fits undone
kind_4 r m h = (rw h, rw h)

pub kind_5 : (r : Rec) (m : Model) → r.kind ≡ 5 → (fits r m ≡ fits5 r m) × (undone r m ≡ undo5 r m)
unfolding fits undone
kind_5 r m h = (rw h, rw h)

-- an accepted file's model is as the laws above want it
pub record AcceptedFile (profile : ℕ) (f : List ℕ) : Type 0 where
  pub sound : Sound (model f)
  pub judged : model_fault (rules_of profile) (model f) ≡ accept
  pub ordered : refs_in_order 0 (model f).refs ≡ true
  pub whole : file (model f) ≡ f
  pub short : length (file (model f)) ≤ 16777216

pub accepted-facts : (profile : ℕ) (f : List ℕ) → All Byte f → verdict (rules_of profile) f ≡ accept → AcceptedFile profile f
accepted-facts profile f bytes fine =
    let g = accept_back (rules_of profile) f bytes fine in
    let v : verdict (rules_of profile) (file (model f)) ≡ accept = ap (verdict (rules_of profile)) g.0 ∙ fine in
    record {
      sound = g.1;
      judged = file-judged (rules_of profile) (model f) g.1 v;
      ordered = file-ordered (rules_of profile) (model f) g.1 v;
      whole = g.0;
      short = omega (arith, ap length g.0, g.2);
    }
