-- Undo takes an edit back: the four kinds, on models.
use mathlib.Core.Path.{◌≡◌, refl, sym, ◌∙◌}
use Prim.Native.Nat.{ℕ, suc, ◌-◌, ◌<◌}
use mathlib.Core.List.{List, [], ◌∷◌, ◌++◌, map}
use mathlib.Core.Bool.{Bool, true, false, cond}
use native.Mathlib.Omega.{arith}
use lib.ListN.{length, get_or, take, drop, length-append, length-take, length-drop, length-map}
use lib.Seq.{set-set, set-get_or, take_at, drop_at, split_at}
use lib.Dec.{eqb, leb, ltb}
use borrow.Author.Tests.{eqb-false, ltb-true, ltb-false, le-leb, lt-leb}
use Rattle.blorb.specs.Format.{Ref, Chunk}
use Rattle.blorb.specs.Verdict.{no_chunk}
use Rattle.blorb.specs.Model.{Model, base, start_of}
use Rattle.edits.specs.Edit.{with_at, raise, lower, added, replaced, removed_both, removed_entry, entered, inserted}
use Rattle.blorb.specs.Queries.{uses, shared, ref_at, no_ref, chunk_at, without, start}
use Rattle.edits.specs.Journal.{removal, undo1, undo3, undo4}
use Rattle.blorb.proofs.Places.{place_of-start_of}
use Rattle.blorb.proofs.Checks.{neither}

module _ {A : Type 0} where
  pub take_snoc : (l : List A) (x : A) → take (length (l ++ (x ∷ [])) - 1) (l ++ (x ∷ [])) ≡ l
  take_snoc l x = take_at l (x ∷ []) (length (l ++ (x ∷ [])) - 1) (simp length-append (omega arith))

  pub length_without : (i : ℕ) (l : List A) → i < length l → suc (length (without i l)) ≡ length l
  unfolding without
  length_without i l h = simp (length-append, length-take, length-drop) (omega arith)

  pub take-without : (i : ℕ) (l : List A) → i < length l → take i (without i l) ≡ take i l
  unfolding without
  take-without i l h = take_at (take i l) (drop (suc i) l) i (simp length-take (omega arith))

  pub drop-without : (i : ℕ) (l : List A) → i < length l → drop i (without i l) ≡ drop (suc i) l
  unfolding without
  drop-without i l h = drop_at (take i l) (drop (suc i) l) i (simp length-take (omega arith))

  -- put back what was taken out
  pub with-without : (i : ℕ) (l : List A) (d : A) → i < length l → with_at i (get_or l i d) (without i l) ≡ l
  unfolding with_at
  with-without i l d h = rw (take-without i l h, drop-without i l h) (sym (split_at l i d h))

pub undo-add : (m : Model) (u n : ℕ) (c : Chunk) → undo1 (added m u n c) ≡ m
unfolding undo1 added
undo-add m u n c = λ i. record {
  refs = take_snoc m.refs (record { usage = u; number = n; chunk = length m.chunks }) i;
  chunks =
      take_snoc m.chunks c i;
}

pub undo-replace : (m : Model) (k : ℕ) (c : Chunk) → replaced (replaced m k c) k (chunk_at m k) ≡ m
unfolding replaced
undo-replace m k c = λ i. record { refs = m.refs; chunks = (set-set m.chunks k c (chunk_at m k) ∙ set-get_or m.chunks k no_chunk) i }

raise-lower : (k : ℕ) (r : Ref) → eqb r.chunk k ≡ false → raise k (lower k r) ≡ r
unfolding raise lower
raise-lower k r h = λ i. record { usage = r.usage; number = r.number; chunk = go (ltb k r.chunk) refl i }
  where
    go : (b : Bool) → ltb k r.chunk ≡ b → cond (leb k (cond b (r.chunk - 1) r.chunk)) (suc (cond b (r.chunk - 1) r.chunk))
        (cond b (r.chunk - 1) r.chunk) ≡ r.chunk
    go true e = rw (le-leb k (r.chunk - 1) (omega (arith, ltb-true k r.chunk e))) (omega (arith, ltb-true k r.chunk e))
    go false e = rw (lt-leb k r.chunk (omega (arith, ltb-false k r.chunk e, eqb-false r.chunk k h)))

raise_lowers : (k : ℕ) (rs : List Ref) → uses k rs ≡ false → map (raise k) (map (lower k) rs) ≡ rs
unfolding uses
raise_lowers k [] h = refl
raise_lowers k (r ∷ rs) h =
    let p = neither (eqb r.chunk k) (uses k rs) h in
    λ i. raise-lower k r p.0 i ∷ raise_lowers k rs p.1 i

-- where a chunk was, its old start less 12 is where the next one now begins
old_start : (n : ℕ) (cs : List Chunk) (k : ℕ) → k < length cs → start_of (base (suc n)) cs k - 12 ≡ start_of (base n) (without k cs) k
unfolding start_of base
old_start n cs k h = rw (take-without k cs h) (omega arith)

pub length_remaining : (m : Model) (i k : ℕ) → i < length m.refs → suc (length (removed_both m i k).refs) ≡ length m.refs
unfolding removed_both
length_remaining m i k h = rw length-map (length_without i m.refs h)

-- kind 3
module _ (m : Model) (i : ℕ) (inside : i < length m.refs) (valid : (ref_at m i).chunk < length m.chunks) where
  pub remove-start : start m (ref_at m i).chunk - 12 ≡ start_of (base (length (removed_both m i (ref_at m i).chunk).refs))
      (without (ref_at m i).chunk m.chunks) (ref_at m i).chunk
  unfolding start
  remove-start = rw (← length_remaining m i (ref_at m i).chunk inside) (old_start (length (removed_both m i (ref_at m i).chunk).refs) m.chunks
      (ref_at m i).chunk valid)

  pub undo-remove : shared m i ≡ false → undo3 (removal false m (ref_at m i).usage (ref_at m i).number i) (removed_both m i (ref_at m i).chunk) ≡ m
  unfolding undo3 inserted removal removed_both shared
  undo-remove alone =
      let k : ℕ = (ref_at m i).chunk in
      rw (
        remove-start,
        place_of-start_of (base (length (removed_both m i k).refs)) (without k m.chunks) k (omega (arith, length_without k m.chunks valid)),
        raise_lowers k (without i m.refs) alone,
      )
      λ j. record { refs = with-without i m.refs no_ref inside j; chunks = with-without k m.chunks no_chunk valid j }

-- kind 4: the chunk stays, and its old start less 12 is its start now
same_place : (n : ℕ) (cs : List Chunk) (k : ℕ) → start_of (base (suc n)) cs k - 12 ≡ start_of (base n) cs k
unfolding start_of base
same_place n cs k = omega arith

module _ (m : Model) (i : ℕ) (inside : i < length m.refs) (valid : (ref_at m i).chunk < length m.chunks) where
  pub entry-start : start m (ref_at m i).chunk - 12 ≡ start_of (base (length (without i m.refs))) m.chunks (ref_at m i).chunk
  unfolding start
  entry-start = rw (← length_without i m.refs inside) (same_place (length (without i m.refs)) m.chunks (ref_at m i).chunk)

  pub undo-remove-entry : undo4 (removal true m (ref_at m i).usage (ref_at m i).number i) (removed_entry m i) ≡ m
  unfolding undo4 entered removal removed_entry
  undo-remove-entry =
      rw (entry-start, place_of-start_of (base (length (without i m.refs))) m.chunks (ref_at m i).chunk (omega arith))
      λ j. record { refs = with-without i m.refs no_ref inside j; chunks = m.chunks }
