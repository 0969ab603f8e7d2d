-- A link: every start grows by 12, its entry goes in behind the last one whose start isn't greater than the chunk's, and the record says where that is in
-- the new file (02, P8). The definition goes by the chunks' places; that it says the same of their starts follows from the chunks standing one behind the
-- other.
use mathlib.Core.Path.{◌≡◌, refl, ◌∙◌}
use Prim.Native.Nat.{ℕ, zero, suc, ◌+◌, ◌-◌, ◌≤◌, ◌<◌}
use mathlib.Core.List.{List, [], ◌∷◌, map}
use mathlib.Core.Bool.{Bool, true, false, cond, ◌||◌}
use native.Mathlib.Omega.{arith}
use native.Mathlib.Nat.{le_of_suc-le-suc, not-suc-le-zero, le_antisymm}
use lib.ListN.{length, get_or}
use lib.Dec.{leb}
use borrow.Author.Tests.{le-leb, lt-leb, leb-true, leb-false}
use Rattle.blorb.specs.Format.{Ref}
use Rattle.blorb.specs.Model.{Model, base, file}
use Rattle.blorb.specs.Queries.{find, no_ref, ref_at, start}
use Rattle.blorb.specs.Sound.{Sound}
use Rattle.blorb.proofs.Checks.{and_both, neither}
use Rattle.blorb.proofs.Places.{lower-start}
use Rattle.blorb.proofs.ModelLaws.{entries, length-file, chunk_in}
use Rattle.blorb.proofs.VerdictLaws.{refs_in_order}
use Rattle.edits.specs.Edit.{with_at, up_to, any_up_to, link_place_of, entered, linked, link}
use Rattle.edits.specs.Journal.{rec_of}
use Rattle.edits.specs.Starts.{moved}
use Rattle.edits.proofs.FitLaws.{linked-start, link_place_le}
use Rattle.edits.proofs.OrderLaws.{up_to_no, up_to_yes}
use Rattle.edits.proofs.InsertJudged.{length-with}
use Rattle.edits.proofs.InsertStarts.{starts_entered}

-- "All starts grow by 12"
pub starts_linked : (m : Model) (k u n : ℕ)
    → entries (linked m k u n) ≡ with_at (link_place_of k m.refs) (record { usage = u; number = n; start = start m k + 12 })
    (map (moved (λ t. t + 12)) (entries m))
unfolding linked
starts_linked m k u n = starts_entered m (link_place_of k m.refs) k u n

pub linked-length : (m : Model) (k u n : ℕ) → length (file (linked m k u n)) ≡ length (file m) + 12
unfolding linked entered base
linked-length m k u n = rw (length-file (linked m k u n), length-file m)
    (omega (arith, length-with (link_place_of k m.refs) (record { usage = u; number = n; chunk = k }) m.refs))

-- the record's place and "start in the new file", told of the old one
pub link_record : (m : Model) (v o u n : ℕ)
    → ((rec_of m (link v o u n)).place ≡ link_place_of (ref_at m (find v o m.refs)).chunk m.refs)
    × ((rec_of m (link v o u n)).start ≡ start m (ref_at m (find v o m.refs)).chunk + 12)
unfolding rec_of
link_record m v o u n = (refl, linked-start m u n (ref_at m (find v o m.refs)).chunk)

-- no entry from the link's place on stands on chunk k or one before it
beyond : (k : ℕ) (rs : List Ref) (j : ℕ) → any_up_to k rs ≡ false → j < length rs → k < (get_or rs j no_ref).chunk
unfolding any_up_to
beyond k [] j e h = absurd (not-suc-le-zero h)
beyond k (r ∷ rs) zero e h = up_to_no k r (neither (up_to k r) (any_up_to k rs) e).0
beyond k (r ∷ rs) (suc j) e h = beyond k rs j (neither (up_to k r) (any_up_to k rs) e).1 (le_of_suc-le-suc h)

pub link-behind : (k : ℕ) (rs : List Ref) (j : ℕ) → link_place_of k rs ≤ j → j < length rs → k < (get_or rs j no_ref).chunk
unfolding link_place_of
link-behind k [] j l h = absurd (not-suc-le-zero h)
link-behind k (r ∷ rs) j l h = go j (any_up_to k (r ∷ rs)) refl l h (λ i. link-behind k rs i)
  where
    go : (j : ℕ) (b : Bool) → any_up_to k (r ∷ rs) ≡ b → cond b (suc (link_place_of k rs)) 0 ≤ j → j < suc (length rs)
        → ((i : ℕ) → link_place_of k rs ≤ i → i < length rs → k < (get_or rs i no_ref).chunk) → k < (get_or (r ∷ rs) j no_ref).chunk
    go j false e l h ih = beyond k (r ∷ rs) j e h
    go zero true e l h ih = absurd (not-suc-le-zero l)
    go (suc j) true e l h ih = ih j (le_of_suc-le-suc l) (le_of_suc-le-suc h)

-- and the one before that place does
place_none : (k : ℕ) (rs : List Ref) → any_up_to k rs ≡ false → link_place_of k rs ≡ 0
unfolding link_place_of
place_none k [] h = refl
place_none k (r ∷ rs) h = rw h

place_some : (k : ℕ) (rs : List Ref) → any_up_to k rs ≡ true → 0 < link_place_of k rs
unfolding link_place_of any_up_to
place_some k [] h = let z : ◌≡◌ {A = ℕ} 0 1 = cc in absurd (omega arith)
place_some k (r ∷ rs) h = rw h (omega arith)

pub link_last : (k : ℕ) (rs : List Ref) (j : ℕ) → link_place_of k rs ≡ suc j → (get_or rs j no_ref).chunk ≤ k
unfolding link_place_of any_up_to
link_last k [] j e = absurd (omega arith)
link_last k (r ∷ rs) j e = go j (up_to k r) refl (any_up_to k rs) refl e (λ i. link_last k rs i)
  where
    go : (j : ℕ) (a : Bool) → up_to k r ≡ a → (b : Bool) → any_up_to k rs ≡ b → cond (a || b) (suc (link_place_of k rs)) 0 ≡ suc j
        → ((i : ℕ) → link_place_of k rs ≡ suc i → (get_or rs i no_ref).chunk ≤ k) → (get_or (r ∷ rs) j no_ref).chunk ≤ k
    go zero true p b q e ih = up_to_yes k r p
    go zero false p true q e ih = absurd (omega (arith, place_some k rs q))
    go zero false p false q e ih = absurd (omega arith)
    go (suc j) true p true q e ih = ih j (omega arith)
    go (suc j) true p false q e ih = absurd (omega (arith, place_none k rs q))
    go (suc j) false p true q e ih = ih j (omega arith)
    go (suc j) false p false q e ih = absurd (omega arith)

-- in an index in order, a later entry's chunk is not an earlier one
order_first : (c : ℕ) (rs : List Ref) (j : ℕ) → refs_in_order c rs ≡ true → j < length rs → c ≤ (get_or rs j no_ref).chunk
unfolding refs_in_order
order_first c [] j o h = absurd (not-suc-le-zero h)
order_first c (r ∷ rs) zero o h = leb-true c r.chunk (and_both (leb c r.chunk) (refs_in_order r.chunk rs) o).0
order_first c (r ∷ rs) (suc j) o h =
    let p = and_both (leb c r.chunk) (refs_in_order r.chunk rs) o in
    omega (arith, leb-true c r.chunk p.0, order_first r.chunk rs j p.1 (le_of_suc-le-suc h))

order_at : (c : ℕ) (rs : List Ref) (i j : ℕ) → refs_in_order c rs ≡ true → i ≤ j → j < length rs → (get_or rs i no_ref).chunk ≤ (get_or rs j no_ref).chunk
unfolding refs_in_order
order_at c [] i j o l h = absurd (not-suc-le-zero h)
order_at c (r ∷ rs) zero zero o l h = omega arith
order_at c (r ∷ rs) (suc i) zero o l h = absurd (not-suc-le-zero l)
order_at c (r ∷ rs) zero (suc j) o l h = order_first r.chunk rs j (and_both (leb c r.chunk) (refs_in_order r.chunk rs) o).1 (le_of_suc-le-suc h)
order_at c (r ∷ rs) (suc i) (suc j) o l h = order_at r.chunk rs i j (and_both (leb c r.chunk) (refs_in_order r.chunk rs) o).1 (le_of_suc-le-suc l)
    (le_of_suc-le-suc h)

-- the same of starts: k is one of the chunks
module _ (m : Model) (k : ℕ) (s : Sound m) (kin : k < length m.chunks) where
  abbrev at : ℕ → ℕ
  at i = start m (ref_at m i).chunk

  below : (i : ℕ) → i < length m.refs → leb (start m (ref_at m i).chunk) (start m k) ≡ leb (ref_at m i).chunk k
  unfolding start
  below i h = lower-start (base (length m.refs)) m.chunks (ref_at m i).chunk k (omega (arith, chunk_in m i s h)) (omega arith)

  not_greater : (i : ℕ) → i < length m.refs → (ref_at m i).chunk ≤ k → start m (ref_at m i).chunk ≤ start m k
  not_greater i h l = leb-true _ _ (below i h ∙ le-leb (ref_at m i).chunk k l)

  greater : (i : ℕ) → i < length m.refs → k < (ref_at m i).chunk → start m k < start m (ref_at m i).chunk
  greater i h l = leb-false _ _ (below i h ∙ lt-leb (ref_at m i).chunk k l)

  -- "after the last entry whose start isn't greater than the chunk's": the entry before the link's place has such a start, none behind it has
  pub last_not_greater : (j : ℕ) → link_place_of k m.refs ≡ suc j → start m (ref_at m j).chunk ≤ start m k
  last_not_greater j e = not_greater j (omega (arith, link_place_le k m.refs)) (link_last k m.refs j e)

  pub behind_greater : (j : ℕ) → link_place_of k m.refs ≤ j → j < length m.refs → start m k < start m (ref_at m j).chunk
  behind_greater j l h = greater j h (link-behind k m.refs j l h)

  -- in an index in order, the place is known by the starts of the two entries beside it
  pub link_here : (i : ℕ) → refs_in_order 0 m.refs ≡ true → 0 < i → i ≤ length m.refs → start m (ref_at m (i - 1)).chunk ≤ start m k
      → (i < length m.refs → start m k < start m (ref_at m i).chunk) → link_place_of k m.refs ≡ i
  link_here i o pos h low high = le_antisymm (not_behind (leb (link_place_of k m.refs) i) refl) (not_before (leb i (link_place_of k m.refs)) refl)
    where
      p : ℕ
      p = link_place_of k m.refs

      not_before : (b : Bool) → leb i p ≡ b → i ≤ p
      not_before true e = leb-true i p e
      not_before false e =
          let l : p < i = leb-false i p e in
          let g : start m k < start m (ref_at m (i - 1)).chunk = behind_greater (i - 1) (omega arith) (omega arith) in
          absurd (omega arith)

      not_behind : (b : Bool) → leb p i ≡ b → p ≤ i
      not_behind true e = leb-true p i e
      not_behind false e =
          let l : i < p = leb-false p i e in
          let le = link_place_le k m.refs in
          let q : p ≡ suc (p - 1) = omega arith in
          let a : (ref_at m (p - 1)).chunk ≤ k = link_last k m.refs (p - 1) q in
          let b : (ref_at m i).chunk ≤ (ref_at m (p - 1)).chunk = order_at 0 m.refs i (p - 1) o (omega arith) (omega arith) in
          let c : start m (ref_at m i).chunk ≤ start m k = not_greater i (omega arith) (omega arith) in
          absurd (omega (arith, high (omega arith)))
