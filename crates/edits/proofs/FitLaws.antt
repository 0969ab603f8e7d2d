-- The record of an edit fits the file after it, and undo takes the edit back.
use mathlib.Core.Path.{◌≡◌, refl, ap}
use Prim.Native.Nat.{ℕ, zero, suc, ◌+◌, ◌-◌, ◌≤◌, ◌<◌}
use mathlib.Core.List.{List, [], ◌∷◌, ◌++◌, map, append-nil}
use mathlib.Core.Bool.{Bool, true, false, cond, ◌||◌, or-true}
use native.Mathlib.Omega.{arith}
use native.Mathlib.Nat.{le_of_suc-le-suc, not-suc-le-zero}
use lib.ListN.{length, get_or, take, drop, length-append, length-take, length-drop, length-set}
use lib.Seq.{get_or-append_seam, take-append_seam, take-set-le, get_or_at}
use lib.Dec.{eqb, ltb}
use borrow.Author.Tests.{eq-eqb, ne_eqb, eqb-true, eqb-false, ltb-true, ltb-false, le-leb, lt-ltb}
use Rattle.blorb.specs.Format.{Ref, Chunk, is_start}
use Rattle.blorb.specs.Model.{Model, base, start_of}
use Rattle.edits.specs.Edit.{
  Edit,
  add,
  replace,
  remove,
  link,
  with_at,
  link_place_of,
  linked,
  entered,
  any_up_to,
  lower,
  added,
  replaced,
  removed,
  removed_both,
  removed_entry,
  edited,
  given_chunk,
}
use Rattle.blorb.specs.Queries.{find, uses, shared, ref_at, no_ref, chunk_at, without, start}
use Rattle.edits.specs.Journal.{Rec, removal, rec_of, undo2, undo5, undone, fits, fits1, fits2, fits3, fits4, fits5}
use Rattle.blorb.specs.All.{All}
use Rattle.blorb.proofs.AllLaws.{all_append, all_take, all_drop, all_set, all_imp}
use Rattle.blorb.specs.Sound.{W, RefOk, ChunkOk, Sound}
use Rattle.edits.specs.Run.{ArgsOk}
use Rattle.edits.proofs.Applies.{Applies}
use Rattle.blorb.proofs.Places.{is_start-start_of}
use Rattle.blorb.proofs.ModelLaws.{chunk_in}
use Rattle.blorb.proofs.FindLaws.{find-pair}
use Rattle.blorb.proofs.Checks.{neither}
use Rattle.edits.proofs.UndoLaws.{undo-add, undo-replace, undo-remove, undo-remove-entry, entry-start, length_without, length_remaining, remove-start}

-- no entry stands on a chunk that is not there
uses-none : (k : ℕ) (rs : List Ref) → All (RefOk k) rs → uses k rs ≡ false
unfolding uses
uses-none k [] h = refl
uses-none k (r ∷ rs) h = rw (ne_eqb r.chunk k (omega (arith, h.0.chunk_there))) (uses-none k rs h.1)

without_last : (l : List Ref) (x : Ref) → without (length l) (l ++ (x ∷ [])) ≡ l
unfolding without
without_last l x = rw (take-append_seam l (x ∷ [])) (rw (drop_past l x) (append-nil l))
  where
    drop_past : (l : List Ref) (x : Ref) → drop (suc (length l)) (l ++ (x ∷ [])) ≡ []
    drop_past [] x = refl
    drop_past (y ∷ l) x = drop_past l x

fit-add : (m : Model) (u n : ℕ) (c : Chunk) (t : ℕ) (b : List ℕ) → Sound m
    → fits1 (record { kind = 1; usage = u; number = n; place = length m.refs; start = 0; type = t; body = b }) (added m u n c) ≡ true
unfolding fits1 added shared
fit-add m u n c t b s =
    let x : Ref = record { usage = u; number = n; chunk = length m.chunks } in
    rw (
      get_or-append_seam m.refs x [] no_ref,
      without_last m.refs x,
      uses-none (length m.chunks) m.refs s.refs_ok,
      eq-eqb (length (m.refs ++ (x ∷ []))) (suc (length m.refs)) (simp length-append (omega arith)),
      eq-eqb u u refl,
      eq-eqb n n refl,
      eq-eqb (suc (length m.chunks)) (length (m.chunks ++ (c ∷ []))) (simp length-append (omega arith)),
    )

-- a replaced chunk starts where it did
pub start-replaced : (m : Model) (k : ℕ) (c : Chunk) → start (replaced m k c) k ≡ start m k
unfolding start start_of replaced
start-replaced m k c = rw (take-set-le k m.chunks k c (omega arith))

fit-replace : (m : Model) (u n i : ℕ) (c : Chunk) (t : ℕ) (b : List ℕ) → i < length m.refs → (ref_at m i).usage ≡ u → (ref_at m i).number ≡ n
    → shared m i ≡ false
    → fits2 (record { kind = 2; usage = u; number = n; place = i; start = start m (ref_at m i).chunk; type = t; body = b }) (replaced m (ref_at m i).chunk c)
    ≡ true
unfolding fits2 shared replaced
fit-replace m u n i c t b h p q alone =
    rw (
      lt-ltb i (length m.refs) h,
      eq-eqb (ref_at m i).usage u p,
      eq-eqb (ref_at m i).number n q,
      eq-eqb (start (replaced m (ref_at m i).chunk c) (ref_at m i).chunk) (start m (ref_at m i).chunk) (start-replaced m (ref_at m i).chunk c),
      alone,
    )

-- old start less 12: a chunk's beginning, or the end
old_fits : (at : ℕ) (cs : List Chunk) (k : ℕ) → k ≤ length cs → (is_start (start_of at cs k) at cs || eqb (start_of at cs k) (start_of at cs (length cs))) ≡ true
old_fits at cs k h = go (eqb k (length cs)) refl
  where
    go : (b : Bool) → eqb k (length cs) ≡ b → (is_start (start_of at cs k) at cs || eqb (start_of at cs k) (start_of at cs (length cs))) ≡ true
    go true e = rw (eqb-true k (length cs) e, eq-eqb (start_of at cs (length cs)) (start_of at cs (length cs)) refl)
        (or-true (is_start (start_of at cs (length cs)) at cs))
    go false e = rw (is_start-start_of at cs k (omega (arith, eqb-false k (length cs) e)))

fit-remove : (m : Model) (i u n : ℕ) → i < length m.refs → (ref_at m i).chunk < length m.chunks
    → fits3 (removal false m u n i) (removed_both m i (ref_at m i).chunk) ≡ true
unfolding fits3 removal removed_both start
fit-remove m i u n h valid =
    rw (le-leb i (length (removed_both m i (ref_at m i).chunk).refs) (omega (arith, length_remaining m i (ref_at m i).chunk h)))
    (rw (remove-start m i h valid) (old_fits (base (length (removed_both m i (ref_at m i).chunk).refs)) (without (ref_at m i).chunk m.chunks)
    (ref_at m i).chunk (omega (arith, length_without (ref_at m i).chunk m.chunks valid))))

fit-remove-entry : (m : Model) (i u n : ℕ) → i < length m.refs → (ref_at m i).chunk < length m.chunks
    → fits4 (removal true m u n i) (removed_entry m i) ≡ true
unfolding fits4 removal removed_entry
fit-remove-entry m i u n h valid =
    rw (
      le-leb i (length (without i m.refs)) (omega (arith, length_without i m.refs h)),
      entry-start m i h valid,
      is_start-start_of (base (length (without i m.refs))) m.chunks (ref_at m i).chunk valid,
    )

-- the record of a removal fits, and its undo takes the removal back
removal-back : (m : Model) (i : ℕ) (b : Bool) → shared m i ≡ b → Sound m → i < length m.refs
    → (fits (removal b m (ref_at m i).usage (ref_at m i).number i) (cond b (removed_entry m i) (removed_both m i (ref_at m i).chunk)) ≡ true)
    × (undone (removal b m (ref_at m i).usage (ref_at m i).number i) (cond b (removed_entry m i) (removed_both m i (ref_at m i).chunk)) ≡ m)
unfolding fits undone removal
removal-back m i true e s h = (fit-remove-entry m i (ref_at m i).usage (ref_at m i).number h (chunk_in m i s h), undo-remove-entry m i h (chunk_in m i s h))
removal-back m i false e s h = (fit-remove m i (ref_at m i).usage (ref_at m i).number h (chunk_in m i s h), undo-remove m i h (chunk_in m i s h) e)

-- a link and its undo
pub link_place_le : (k : ℕ) (rs : List Ref) → link_place_of k rs ≤ length rs
unfolding link_place_of
link_place_le k [] = omega arith
link_place_le k (r ∷ rs) = go (any_up_to k (r ∷ rs)) (link_place_le k rs)
  where
    go : (b : Bool) → link_place_of k rs ≤ length rs → cond b (suc (link_place_of k rs)) 0 ≤ suc (length rs)
    go true ih = omega arith
    go false ih = omega arith

length-with : {A : Type 0} (i : ℕ) (x : A) (l : List A) → length (with_at i x l) ≡ suc (length l)
unfolding with_at
length-with i x l = simp (length-append, length-take, length-drop) (omega arith)

pub linked-start : (m : Model) (u n k : ℕ) → start (linked m k u n) k ≡ start m k + 12
unfolding start linked entered start_of base
linked-start m u n k = rw length-with (omega arith)

get_or-with : {A : Type 0} (i : ℕ) (x d : A) (l : List A) → i ≤ length l → get_or (with_at i x l) i d ≡ x
unfolding with_at
get_or-with i x d l h = get_or_at (take i l) x (drop i l) d i (simp length-take (omega arith))

without-with : {A : Type 0} (i : ℕ) (x : A) (l : List A) → i ≤ length l → without i (with_at i x l) ≡ l
unfolding without with_at
without-with zero x l h = refl
without-with (suc i) x [] h = absurd (not-suc-le-zero h)
without-with (suc i) x (y ∷ l) h = ap (λ r. y ∷ r) (without-with i x l (le_of_suc-le-suc h))

uses-at : (rs : List Ref) (i : ℕ) → i < length rs → uses (get_or rs i no_ref).chunk rs ≡ true
unfolding uses
uses-at [] i h = absurd (not-suc-le-zero h)
uses-at (r ∷ rs) zero h = rw (eq-eqb r.chunk r.chunk refl)
uses-at (r ∷ rs) (suc i) h = rw (uses-at rs i (le_of_suc-le-suc h)) (or-true (eqb r.chunk (get_or rs i no_ref).chunk))

link-back : (m : Model) (u n j : ℕ) → j < length m.refs
    → let k : ℕ = (ref_at m j).chunk in
    let r : Rec = record { kind = 5; usage = u; number = n; place = link_place_of k m.refs; start = start (linked m k u n) k; type = 0; body = [] } in
    (fits5 r (linked m k u n) ≡ true) × (undo5 r (linked m k u n) ≡ m)
unfolding fits5 undo5 removed_entry linked entered shared
link-back m u n j h =
    let k : ℕ = (ref_at m j).chunk in
    let i : ℕ = link_place_of k m.refs in
    let x : Ref = record { usage = u; number = n; chunk = k } in
    let le = link_place_le k m.refs in (
      rw (
        length-with i x m.refs,
        get_or-with i x no_ref m.refs le,
        without-with i x m.refs le,
        lt-ltb i (suc (length m.refs)) (omega arith),
        eq-eqb u u refl,
        eq-eqb n n refl,
        eq-eqb (start (linked m k u n) k) (start (linked m k u n) k) refl,
        uses-at m.refs j h,
      ),
      λ q. record { refs = without-with i x m.refs le q; chunks = m.chunks },
    )

pub edit-back : (m : Model) (e : Edit) → Sound m → Applies m e → (fits (rec_of m e) (edited m e) ≡ true) × (undone (rec_of m e) (edited m e) ≡ m)
unfolding fits undone rec_of edited undo2 removed replaced
edit-back m (add u n t d) s a = (fit-add m u n (given_chunk t d) 0 [] s, undo-add m u n (given_chunk t d))
edit-back m (replace u n t d) s a =
    let i : ℕ = find u n m.refs in
    let p = find-pair u n m.refs a.0 in (
      fit-replace m u n i (given_chunk t d) (chunk_at m (ref_at m i).chunk).type (chunk_at m (ref_at m i).chunk).body a.0 p.0 p.1 a.1,
      undo-replace m (ref_at m i).chunk (given_chunk t d),
    )
edit-back m (link v o u n) s a = link-back m u n (find v o m.refs) a
edit-back m (remove u n) s a =
    let i : ℕ = find u n m.refs in
    let p = find-pair u n m.refs a in
    let q : (fits (removal (shared m i) m u n i) (removed m i) ≡ true) × (undone (removal (shared m i) m u n i) (removed m i) ≡ m)
    = rw (p.0, p.1) at (removal-back m i (shared m i) refl s a) in
    q

-- an edit keeps a model sound
lower_ok : (k n : ℕ) (r : Ref) → eqb r.chunk k ≡ false → k ≤ n → RefOk (suc n) r → RefOk n (lower k r)
unfolding lower
lower_ok k n r h b ok = record { usage_fits = ok.usage_fits; number_fits = ok.number_fits; chunk_there = go (ltb k r.chunk) refl }
  where
    go : (t : Bool) → ltb k r.chunk ≡ t → cond t (r.chunk - 1) r.chunk < n
    go true e = omega (arith, ltb-true k r.chunk e, ok.chunk_there)
    go false e = omega (arith, ltb-false k r.chunk e, ok.chunk_there, eqb-false r.chunk k h)

lowers_ok : (k n : ℕ) (rs : List Ref) → uses k rs ≡ false → k ≤ n → All (RefOk (suc n)) rs → All (RefOk n) (map (lower k) rs)
unfolding uses
lowers_ok k n [] h b ok = tt
lowers_ok k n (r ∷ rs) h b ok =
    let p = neither (eqb r.chunk k) (uses k rs) h in
    (lower_ok k n r p.0 b ok.0, lowers_ok k n rs p.1 b ok.1)

more_ok : (n k : ℕ) → n ≤ k → (r : Ref) → RefOk n r → RefOk k r
more_ok n k h r ok = record { usage_fits = ok.usage_fits; number_fits = ok.number_fits; chunk_there = omega (arith, ok.chunk_there) }

all_without : {A : Type 0} (P : A → Type 0) (i : ℕ) (l : List A) → All P l → All P (without i l)
unfolding without
all_without P i l h = all_append P (take i l) (drop (suc i) l) (all_take P i l h) (all_drop P (suc i) l h)

pub unlisted_sound : (m : Model) (i : ℕ) → Sound m → Sound (removed_entry m i)
unfolding removed_entry
unlisted_sound m i s = record { refs_ok = all_without (RefOk (length m.chunks)) i m.refs s.refs_ok; chunks_ok = s.chunks_ok }

sound-removed : (m : Model) (i : ℕ) (b : Bool) → shared m i ≡ b → Sound m → i < length m.refs
    → Sound (cond b (removed_entry m i) (removed_both m i (ref_at m i).chunk))
unfolding removed_both shared
sound-removed m i true e s h = unlisted_sound m i s
sound-removed m i false e s h =
    let k : ℕ = (ref_at m i).chunk in
    let l = length_without k m.chunks (chunk_in m i s h) in
    let v = chunk_in m i s h in
    record {
      refs_ok = lowers_ok k (length (without k m.chunks)) (without i m.refs) e (omega arith)
          (rw l (all_without (RefOk (length m.chunks)) i m.refs s.refs_ok));
      chunks_ok = all_without ChunkOk k m.chunks s.chunks_ok;
    }

given_ok : (t : ℕ) (d : List ℕ) → t < W → ChunkOk (given_chunk t d)
given_ok t d h = record { type_fits = h }

pub added-sound : (m : Model) (u n : ℕ) (c : Chunk) → Sound m → u < W → n < W → ChunkOk c → Sound (added m u n c)
unfolding added
added-sound m u n c s hu hn ok =
    let l : length (m.chunks ++ (c ∷ [])) ≡ suc (length m.chunks) = simp length-append (omega arith) in
    record {
      refs_ok = rw l (all_append (RefOk (suc (length m.chunks))) m.refs (record { usage = u; number = n; chunk = length m.chunks } ∷ [])
          (all_imp (RefOk (length m.chunks)) (RefOk (suc (length m.chunks))) (more_ok (length m.chunks) (suc (length m.chunks)) (omega arith))
          m.refs s.refs_ok)
          (record { usage_fits = hu; number_fits = hn; chunk_there = omega arith }, tt));
      chunks_ok = all_append ChunkOk m.chunks (c ∷ []) s.chunks_ok (ok, tt);
    }

pub replaced-sound : (m : Model) (k : ℕ) (c : Chunk) → Sound m → ChunkOk c → Sound (replaced m k c)
unfolding replaced
replaced-sound m k c s ok = record { refs_ok = rw length-set s.refs_ok; chunks_ok = all_set ChunkOk m.chunks k c s.chunks_ok ok }

pub linked-sound : (m : Model) (u n j : ℕ) → Sound m → u < W → n < W → j < length m.refs → Sound (linked m (ref_at m j).chunk u n)
unfolding linked entered with_at
linked-sound m u n j s hu hn h =
    let k : ℕ = (ref_at m j).chunk in
    let i : ℕ = link_place_of k m.refs in
    let x : Ref = record { usage = u; number = n; chunk = k } in
    let P : Ref → Type 0 = RefOk (length m.chunks) in
    record {
      refs_ok = all_append P (take i m.refs) (x ∷ drop i m.refs) (all_take P i m.refs s.refs_ok)
          (record { usage_fits = hu; number_fits = hn; chunk_there = chunk_in m j s h }, all_drop P i m.refs s.refs_ok);
      chunks_ok = s.chunks_ok;
    }

pub edit-sound : (m : Model) (e : Edit) → Sound m → ArgsOk e → Applies m e → Sound (edited m e)
unfolding edited removed
edit-sound m (add u n t d) s a ap = added-sound m u n (given_chunk t d) s a.0 a.1 (given_ok t d a.2)
edit-sound m (replace u n t d) s a ap = replaced-sound m (ref_at m (find u n m.refs)).chunk (given_chunk t d) s (given_ok t d a.2)
edit-sound m (link v o u n) s a ap = linked-sound m u n (find v o m.refs) s a.2 a.3 ap
edit-sound m (remove u n) s a ap = sound-removed m (find u n m.refs) (shared m (find u n m.refs)) refl s ap
