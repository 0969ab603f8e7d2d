-- Kind by kind: the plan that the code makes of the record's numbers and of what the reader tells is the one that the definitions give.
use mathlib.Core.Path.{◌≡◌, refl, sym, ap, ◌∙◌}
use Prim.Native.Nat.{ℕ, suc, ◌+◌, ◌*◌, ◌-◌, ◌≤◌, ◌<◌}
use mathlib.Core.List.{List}
use mathlib.Core.Bool.{Bool, true, false, ◌&&◌, not, and_assoc}
use native.Mathlib.Omega.{arith}
use lib.ListN.{length, drop, length-append, length-drop}
use lib.Dec.{eqb, leb, ltb}
use borrow.Author.Tests.{ltb-true, ltb-false, le-leb, lt-leb}
use Rattle.std.specs.Prelude.{Some}
use Rattle.blorb.specs.Bytes.{rd32, Byte}
use Rattle.blorb.specs.Tags.{RIdx, Pict, Rect, Fspc}
use Rattle.blorb.specs.Format.{Chunk, size, chunk_in, chunk_bytes, chunks_bytes, is_start}
use Rattle.blorb.specs.Layout.{size_of}
use Rattle.blorb.specs.Verdict.{verdict, accepted}
use Rattle.blorb.specs.Rules.{allows, type_in, rules_of}
use Rattle.blorb.specs.Model.{Model, base, model, file}
use Rattle.blorb.specs.Queries.{find, ref_at, chunk_at, start, front_number}
use Rattle.blorb.specs.All.{All}
use Rattle.blorb.specs.Sound.{W, Sound}
use Rattle.blorb.proofs.Places.{size_pos, start_of-place_of}
use Rattle.blorb.proofs.Codec.{length-chunk_bytes}
use Rattle.edits.specs.Journal.{Rec, last_rec, fits, fits1, fits2, fits5, old_chunk, old_place}
use Rattle.edits.specs.Run.{undone_file}
use Rattle.edits.proofs.JudgedLaws.{is_front_of}
use Rattle.edits.proofs.InsertJudged.{entry_tests, entry_new, entry-twice}
use Rattle.edits.proofs.UndoJudged.{AcceptedFile, fits1-facts, fits2-facts, fits5-facts, found_at, kind_1, kind_2, kind_4, kind_5}
use Rattle.edits.proofs.FitFacts.{size_is, told3, told4}
use Rattle.edits.specs.Order.{between}
use Rattle.edits.proofs.OrderTold.{between_alike}
use Rattle.blorb.proofs.Parts.{start_in_lem}
use Rattle.blorb.proofs.Checks.{and_both, and_where}
use Rattle.edits.proofs.UndoTold.{entry_start, accepted2, accepted4, test_1, test_2, test_3, test_4, test_5, after_1, after_2, after_3, after_4, after_5}
use Rattle.reader.specs.declared.Piece.{Piece}
use Rattle.reader.specs.declared.Facts.{Facts}
use Rattle.undoing.specs.declared.Undoing.{Undoing}
use Rattle.undoing.specs.LastRecord.{numbers_of}
use Rattle.reader.specs.Inspecting.{piece_of, target_by, target_of, front_by, front_of, facts_of}
use Rattle.undoing.specs.UndoPlan.{
  chunk_start,
  chunk_size_of,
  go_of,
  fitting,
  fitting_plan,
  front_matches,
  entry_fine_of,
  ChunkInside,
  on_piece,
  fits_added_of,
  added_plan,
  fits_replaced_of,
  old_fine_of,
  replaced_plan,
  start_in,
  removed_plan,
  unlisted_plan,
  fits_linked_of,
  linked_plan,
}
use Rattle.undoing.proofs.ChunkAt.{drop-start, length_at, chunk_in_place}

-- what the reader's answers mean
front-told : (m : Model) (u n : ℕ) → front_matches (front_of m) u n ≡ is_front_of m.chunks u n
unfolding front_of
front-told m u n = go (type_in Fspc m.chunks)
  where
    go : (b : Bool) → front_matches (front_by b m) u n ≡ (b && (eqb u Pict && eqb n (front_number m.chunks)))
    go true = refl
    go false = refl

entry-told : (profile : ℕ) (m : Model) (u n : ℕ) (c : Chunk) → entry_fine_of u n (allows profile u c) (target_of m u n) ≡ entry_tests profile u n c m.refs
unfolding target_of
entry-told profile m u n c = go (ltb (find u n m.refs) (length m.refs)) refl
  where
    go : (b : Bool) → ltb (find u n m.refs) (length m.refs) ≡ b → entry_fine_of u n (allows profile u c) (target_by b m (find u n m.refs)) ≡ entry_tests
        profile u n c m.refs
    go true e = sym (entry-twice profile u n c m.refs (ltb-true (find u n m.refs) (length m.refs) e))
    go false e = sym (entry_new profile u n c m.refs (ltb-false (find u n m.refs) (length m.refs) e))

on_found : (b : Bool) (m : Model) (i : ℕ) (test : Piece → Bool) (go : Piece → Undoing)
    → on_piece (target_by b m i) (λ (z : Piece). fitting (test z) (go z)) ≡ fitting (b && test (piece_of m i)) (go (piece_of m i))
on_found true m i test go = refl
on_found false m i test go = refl

below : (a b : ℕ) → ltb a b ≡ leb (suc a) b
below a b = go (ltb a b) refl
  where
    go : (x : Bool) → ltb a b ≡ x → x ≡ leb (suc a) b
    go true e = sym (le-leb (suc a) b (ltb-true a b e))
    go false e = let h : b ≤ a = ltb-false a b e in sym (lt-leb (suc a) b (omega arith))

fitting_where : (b : Bool) (x y : Undoing) → (b ≡ true → x ≡ y) → fitting b x ≡ fitting b y
fitting_where true x y h = ap Some (h refl)
fitting_where false x y h = refl

-- the chunk of an undo, by kind
pub at_1 : (r : Rec) (m : Model) → r.kind ≡ 1 → (chunk_start r m ≡ start m (ref_at m r.place).chunk)
    × (chunk_size_of r m ≡ size (chunk_at m (ref_at m r.place).chunk))
at_1 r m h = (rw h, rw h)

pub at_2 : (r : Rec) (m : Model) → r.kind ≡ 2 → (chunk_start r m ≡ start m (ref_at m r.place).chunk)
    × (chunk_size_of r m ≡ size (chunk_at m (ref_at m r.place).chunk))
at_2 r m h = (rw h, rw h)

pub at_3 : (r : Rec) (m : Model) → r.kind ≡ 3 → (chunk_start r m ≡ r.start - 12) × (chunk_size_of r m ≡ 0)
at_3 r m h = (rw h, rw h)

pub at_4 : (r : Rec) (m : Model) → r.kind ≡ 4 → (chunk_start r m ≡ r.start - 12) × (chunk_size_of r m ≡ 0)
at_4 r m h = (rw h, rw h)

pub at_5 : (r : Rec) (m : Model) → r.kind ≡ 5 → (chunk_start r m ≡ start m (ref_at m r.place).chunk) × (chunk_size_of r m ≡ 0)
at_5 r m h = (rw h, rw h)

-- a chunk ends in the file
pub chunk_ends : (m : Model) (k : ℕ) → Sound m → k < length m.chunks → length (file m) < W → start m k + size (chunk_at m k) ≤ length (file m)
chunk_ends m k s there small =
    let rest : List ℕ = chunks_bytes (drop (suc k) m.chunks) in
    let e : length (file m) - start m k ≡ size (chunk_at m k) + length rest
    = sym (length-drop (start m k) (file m)) ∙ ap length (drop-start m k s there small)
    ∙ length-append (chunk_bytes (chunk_at m k)) rest ∙ ap (λ (z : ℕ). z + length rest) (length-chunk_bytes (chunk_at m k)) in
    omega (arith, e, size_pos (chunk_at m k))

-- f: an accepted file; j: the journal bytes in use
module _ (profile : ℕ) (f j : List ℕ) (st : AcceptedFile profile f) (bytes : All Byte j) where
  abbrev m : Model
  m = model f

  abbrev r : Rec
  r = last_rec j

  -- the entry that the reader gives for the record's pair
  abbrev at : ℕ
  at = find (last_rec j).usage (last_rec j).number (model f).refs

  -- what the reader tells
  abbrev told : Facts
  told = facts_of (model f) (last_rec j).usage (last_rec j).number ((last_rec j).start - 12)

  abbrev test : Bool
  test = fits (last_rec j) (model f) && accepted (verdict (rules_of profile) (undone_file f j))

  -- the test of the code is that of the definitions, and where it holds so is the rest
  same_plan : (a : Bool) (x : Undoing) → a ≡ test → (test ≡ true → x ≡ go_of f j) → fitting a x ≡ fitting_plan profile f j
  unfolding fitting_plan
  same_plan a x e h = ap (λ (z : Bool). fitting z x) e ∙ fitting_where test x (go_of f j) h

  the_fit : test ≡ true → fits (last_rec j) (model f) ≡ true
  the_fit h = (and_both (fits r m) (accepted (verdict (rules_of profile) (undone_file f j))) h).0

  abbrev going : ℕ → ℕ → ℕ → Undoing
  going x y z = record { count = length (model f).refs; at = x; size = y; to = z; last = numbers_of (last_rec j) }

  go_is : (x y z : ℕ) → x ≡ chunk_start (last_rec j) (model f) → y ≡ chunk_size_of (last_rec j) (model f) → z ≡ length (undone_file f j)
      → going x y z ≡ go_of f j
  unfolding go_of
  go_is x y z ex ey ez = λ i. going (ex i) (ey i) (ez i)

  pub fits-added : (last_rec j).kind ≡ 1 → added_plan told (length f) (numbers_of (last_rec j)) ≡ fitting_plan profile f j
  unfolding target_of
  fits-added h =
      let b : Bool = ltb at (length m.refs) in
      let p : Piece = piece_of m at in
      let t : Bool = fits_added_of p (length m.refs) (length f) r.place in
      on_found b m at (λ (z : Piece). fits_added_of z (length m.refs) (length f) r.place && not (front_matches (front_of m) r.usage r.number))
      (λ (z : Piece). going z.start (size_of z.length) (length f - (12 + size_of z.length)))
      ∙ same_plan (b && (t && not (front_matches (front_of m) r.usage r.number))) (going p.start (size_of p.length) (length f - (12 + size_of p.length)))
      ((λ i. b && (t && not (front-told m r.usage r.number i))) ∙ sym (and_assoc b t (not (is_front_of m.chunks r.usage r.number)))
      ∙ sym (test_1 profile f j st bytes h))
      (λ ok. rest (sym (kind_1 r m h).0 ∙ the_fit ok))
    where
      rest : fits1 (last_rec j) (model f) ≡ true
          → going (piece_of (model f) at).start (size_of (piece_of (model f) at).length) (length f - (12 + size_of (piece_of (model f) at).length)) ≡ go_of f j
      rest fit =
          let q = fits1-facts r m fit in
          let i : at ≡ r.place = found_at profile r m st.judged (omega (arith, q.count)) q.usage_is q.number_is in
          let s : size_of (piece_of m at).length ≡ size_of (length (chunk_at m (ref_at m r.place).chunk).body) =
          ap (λ (z : ℕ). size_of (length (chunk_at m (ref_at m z).chunk).body)) i in
          go_is _ _ _ (ap (λ (z : ℕ). start m (ref_at m z).chunk) i ∙ sym (at_1 r m h).0)
          (s ∙ sym (size_is (chunk_at m (ref_at m r.place).chunk)) ∙ sym (at_1 r m h).1)
          (ap (λ (z : ℕ). length f - (12 + z)) s ∙ omega (arith, after_1 profile f j st bytes h fit))

  pub fits_replaced : (last_rec j).kind ≡ 2 → replaced_plan profile told (length f) (numbers_of (last_rec j)) (last_rec j).body ≡ fitting_plan profile f j
  unfolding target_of
  fits_replaced h =
      let b : Bool = ltb at (length m.refs) in
      let p : Piece = piece_of m at in
      let t : Bool = fits_replaced_of p (numbers_of r) in
      on_found b m at (λ (z : Piece). fits_replaced_of z (numbers_of r) && (leb (length f - size_of z.length + size_of (length r.body)) 16777216 && old_fine_of
      profile (numbers_of r) r.body (front_of m)))
      (λ (z : Piece). going z.start (size_of z.length) (length f - size_of z.length + size_of (length r.body)))
      ∙ same_plan (b && (t && (leb (length f - size_of p.length + size_of (length r.body)) 16777216 && old_fine_of profile (numbers_of r) r.body
      (front_of m))))
      (going p.start (size_of p.length) (length f - size_of p.length + size_of (length r.body)))
      ((λ i. b && (t && (leb (length f - size_of p.length + size_of (length r.body)) 16777216 && (not (eqb r.type RIdx)
      && (allows profile r.usage (old_chunk r) && not (front-told m r.usage r.number i && eqb r.type Rect))))))
      ∙ sym (and_assoc b t (accepted2 profile r m (length f) at)) ∙ sym (test_2 profile f j st bytes h))
      (λ ok. rest (sym (kind_2 r m h).0 ∙ the_fit ok))
    where
      rest : fits2 (last_rec j) (model f) ≡ true
          → going (piece_of (model f) at).start (size_of (piece_of (model f) at).length) (length f - size_of (piece_of (model f) at).length + size_of
          (length (last_rec j).body)) ≡ go_of f j
      rest fit =
          let q = fits2-facts r m fit in
          let i : at ≡ r.place = found_at profile r m st.judged q.inside q.usage_is q.number_is in
          let s : size_of (piece_of m at).length ≡ size_of (length (chunk_at m (ref_at m r.place).chunk).body) =
          ap (λ (z : ℕ). size_of (length (chunk_at m (ref_at m z).chunk).body)) i in
          go_is _ _ _ (ap (λ (z : ℕ). start m (ref_at m z).chunk) i ∙ sym (at_2 r m h).0)
          (s ∙ sym (size_is (chunk_at m (ref_at m r.place).chunk)) ∙ sym (at_2 r m h).1)
          (ap (λ (z : ℕ). length f - z + size_of (length r.body)) s ∙ sym (after_2 profile f j st bytes h fit))

  pub fits-linked : (last_rec j).kind ≡ 5 → linked_plan told (length f) (numbers_of (last_rec j)) ≡ fitting_plan profile f j
  unfolding target_of
  fits-linked h =
      let b : Bool = ltb at (length m.refs) in
      let p : Piece = piece_of m at in
      let t : Bool = fits_linked_of p (numbers_of r) in
      on_found b m at (λ (z : Piece). fits_linked_of z (numbers_of r) && not (front_matches (front_of m) r.usage r.number))
      (λ (z : Piece). going z.start 0 (length f - 12))
      ∙ same_plan (b && (t && not (front_matches (front_of m) r.usage r.number))) (going p.start 0 (length f - 12))
      ((λ i. b && (t && not (front-told m r.usage r.number i))) ∙ sym (and_assoc b t (not (is_front_of m.chunks r.usage r.number)))
      ∙ sym (test_5 profile f j st bytes h))
      (λ ok. rest (sym (kind_5 r m h).0 ∙ the_fit ok))
    where
      rest : fits5 (last_rec j) (model f) ≡ true
          → going (piece_of (model f) at).start 0 (length f - 12) ≡ go_of f j
      rest fit =
          let q = fits5-facts r m fit in
          let i : at ≡ r.place = found_at profile r m st.judged q.inside q.usage_is q.number_is in
          go_is _ _ _ (ap (λ (z : ℕ). start m (ref_at m z).chunk) i ∙ sym (at_5 r m h).0) (sym (at_5 r m h).1)
          (omega (arith, after_5 profile f j st bytes h fit))

  -- the start in an entry of the index is that of its chunk
  start-read : (i : ℕ) → i < length (model f).refs → start_in f i ≡ entry_start (model f) i
  start-read i h = ap (λ (z : List ℕ). rd32 (drop (32 + 12 * i) z)) (sym st.whole) ∙ start_in_lem m i st.sound (omega (arith, st.short)) h

  order_read : (limit x : ℕ) → between (start_in f) (length (model f).refs) (last_rec j).place limit x
      ≡ between (entry_start (model f)) (length (model f).refs) (last_rec j).place limit x
  order_read limit x = between_alike (start_in f) (entry_start m) (length m.refs) r.place limit x start-read

  pub fits-removed : (last_rec j).kind ≡ 3 → removed_plan profile told f (numbers_of (last_rec j)) (last_rec j).body ≡ fitting_plan profile f j
  fits-removed h =
      same_plan _ _
      ((λ i. told3 r m (length f)
      && (order_read (r.start - 12) (r.start - 12) i && (leb (length f + 12 + size_of (length r.body)) 16777216 && (not (eqb r.type RIdx)
      && (below (length m.refs) 4096 i && entry-told profile m r.usage r.number (old_chunk r) i))))) ∙ sym (test_3 profile f j st bytes h))
      (λ ok. go_is _ _ _ (sym (at_3 r m h).0) (sym (at_3 r m h).1) (sym (after_3 profile f j st bytes h)))

  -- where a chunk begins, it is read in place
  module _ (begins : is_start ((last_rec j).start - 12) (base (length (model f).refs)) (model f).chunks ≡ true) where
    abbrev k : ℕ
    k = old_place (last_rec j) (model f)

    abbrev c : Chunk
    c = chunk_at (model f) (old_place (last_rec j) (model f))

    starts : (start (model f) k ≡ (last_rec j).start - 12) × (k < length (model f).chunks)
    unfolding start
    starts = start_of-place_of (r.start - 12) (base (length m.refs)) m.chunks begins

    small : length (file (model f)) < W
    small = omega (arith, st.short)

    its_length : rd32 (drop ((last_rec j).start - 12 + 4) f) ≡ length c.body
    its_length = (λ i. rd32 (drop (sym starts.0 i + 4) (sym st.whole i))) ∙ length_at m k st.sound starts.1 small

    pub begun : (last_rec j).start - 12 + (8 + rd32 (drop ((last_rec j).start - 12 + 4) f)) ≤ length f
    begun = omega (arith, chunk_ends m k st.sound starts.1 small, starts.0, size_is c, its_length, ap length st.whole)

    read-there : chunk_in (drop ((last_rec j).start - 12) f) ≡ c
    read-there = (λ i. chunk_in (drop (sym starts.0 i) (sym st.whole i))) ∙ chunk_in_place m k st.sound starts.1 small

  pub fits_unlisted : (last_rec j).kind ≡ 4 → unlisted_plan profile told f (numbers_of (last_rec j)) ≡ fitting_plan profile f j
  fits_unlisted h =
      same_plan _ _
      (and_where (told4 r m) _ (accepted4 profile r m (length f)) part ∙ sym (test_4 profile f j st bytes h))
      (λ ok. go_is _ _ _ (sym (at_4 r m h).0) (sym (at_4 r m h).1) (sym (after_4 profile f j st bytes h (sym (kind_4 r m h).0 ∙ the_fit ok))))
    where
      part : told4 (last_rec j) (model f) ≡ true
          → (between (start_in f) (length (model f).refs) (last_rec j).place ((last_rec j).start - 12 + 1) ((last_rec j).start - 12)
          && (leb (length f + 12) 16777216
          && (ltb (length (model f).refs) 4096 && entry_fine_of (last_rec j).usage (last_rec j).number
          (allows profile (last_rec j).usage (chunk_in (drop ((last_rec j).start - 12) f))) (target_of (model f) (last_rec j).usage (last_rec j).number))))
          ≡ accepted4 profile (last_rec j) (model f) (length f)
      part fit =
          let s = (and_both (leb r.place (length m.refs)) (is_start (r.start - 12) (base (length m.refs)) m.chunks) fit).1 in
          λ i. order_read (r.start - 12 + 1) (r.start - 12) i && (leb (length f + 12) 16777216 && (below (length m.refs) 4096 i
          && (ap (λ (z : Chunk). entry_fine_of r.usage r.number (allows profile r.usage z) (target_of m r.usage r.number)) (read-there s)
          ∙ entry-told profile m r.usage r.number (c s)) i))

  pub begins-there : ChunkInside told.begins f ((last_rec j).start - 12)
  begins-there = go (is_start (r.start - 12) (base (length m.refs)) m.chunks) refl
    where
      go : (b : Bool) → is_start ((last_rec j).start - 12) (base (length (model f).refs)) (model f).chunks ≡ b → ChunkInside b f ((last_rec j).start - 12)
      go true e = begun e
      go false e = tt
