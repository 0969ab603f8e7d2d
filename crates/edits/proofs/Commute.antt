-- On models: a replacement and an edit that names other resources may be exchanged (02, P13). The replacement touches one chunk and no entry, no other
-- entry stands on that chunk, and the other edit leaves that entry and its chunk alone, but for their places.
use mathlib.Core.Path.{◌≡◌, refl, sym, ap, ◌∙◌}
use Prim.Native.Nat.{ℕ, zero, suc, ◌-◌, ◌≤◌, ◌<◌}
use mathlib.Core.List.{List, [], ◌∷◌, ◌++◌, map}
use mathlib.Core.Bool.{Bool, true, false, cond, ◌&&◌}
use mathlib.Core.Logic.{◌≢◌}
use native.Mathlib.Omega.{arith}
use native.Mathlib.Nat.{le_of_suc-le-suc, not-suc-le-zero}
use lib.ListN.{length, get_or, set, length-set}
use lib.Seq.{set_comm, set-set, set-append_left}
use lib.Dec.{eqb, ltb}
use borrow.Author.Tests.{eqb-true, eqb-false, ltb-true, ltb-false, le-ltb}
use Rattle.blorb.specs.Format.{Ref, Chunk}
use Rattle.blorb.specs.Model.{Model}
use Rattle.blorb.specs.Queries.{find, ref_at, no_ref, shared, uses, without}
use Rattle.blorb.specs.Sound.{Sound}
use Rattle.blorb.proofs.ModelLaws.{chunk_in}
use Rattle.blorb.proofs.Checks.{neither}
use Rattle.blorb.proofs.FindLaws.{find-pair}
use Rattle.edits.specs.Edit.{Edit, add, replace, remove, link, given_chunk, edited}
use Rattle.edits.specs.Edit.{lower, added, linked, link_place_of, entered, replaced, removed, removed_entry, removed_both}
use Rattle.edits.specs.TwoEditors.{Other, NamesOther}
use Rattle.edits.proofs.Applies.{Applies}
use Rattle.edits.proofs.ReadBack.{same, chunk_on, on_find, on_with}

-- no other entry stands on a chunk that is not shared
other_chunk : (k : ℕ) (rs : List Ref) (i j : ℕ) → uses k (without i rs) ≡ false → j < length rs → i ≢ j → (get_or rs j no_ref).chunk ≢ k
unfolding uses without
other_chunk k [] i j h b ne = absurd (not-suc-le-zero b)
other_chunk k (r ∷ rs) zero zero h b ne = absurd (ne refl)
other_chunk k (r ∷ rs) zero (suc j) h b ne = all k rs j h (le_of_suc-le-suc b)
  where
    all : (k : ℕ) (rs : List Ref) (j : ℕ) → uses k rs ≡ false → j < length rs → (get_or rs j no_ref).chunk ≢ k
    all k [] j h b = absurd (not-suc-le-zero b)
    all k (r ∷ rs) zero h b = eqb-false r.chunk k (neither _ _ h).0
    all k (r ∷ rs) (suc j) h b = all k rs j (neither (eqb r.chunk k) (uses k rs) h).1 (le_of_suc-le-suc b)
other_chunk k (r ∷ rs) (suc i) zero h b ne = eqb-false r.chunk k (neither (eqb r.chunk k) (uses k (without i rs)) h).0
other_chunk k (r ∷ rs) (suc i) (suc j) h b ne =
    other_chunk k rs i j (neither (eqb r.chunk k) (uses k (without i rs)) h).1 (le_of_suc-le-suc b) (λ e. ne (ap suc e))

-- different pairs are found at different places
apart : (u n v o : ℕ) (rs : List Ref) → find u n rs < length rs → find v o rs < length rs → Other u n v o → find u n rs ≢ find v o rs
apart u n v o rs h k ne e =
    let p = find-pair u n rs h in
    let q = find-pair v o rs k in
    ne (sym p.0 ∙ ap (λ (i : ℕ). (get_or rs i no_ref).usage) e ∙ q.0) (sym p.1 ∙ ap (λ (i : ℕ). (get_or rs i no_ref).number) e ∙ q.1)

not_same : (u n v o : ℕ) → Other u n v o → eqb v u && eqb o n ≡ false
not_same u n v o ne = go (eqb v u) (eqb o n) refl refl
  where
    go : (b c : Bool) → eqb v u ≡ b → eqb o n ≡ c → b && c ≡ false
    go true true p q = absurd (ne (sym (eqb-true v u p)) (sym (eqb-true o n q)))
    go true false p q = refl
    go false c p q = refl

on_last : (u n : ℕ) (x : Ref) (rs : List Ref) → same x u n ≡ false → chunk_on u n (rs ++ (x ∷ [])) ≡ chunk_on u n rs
unfolding chunk_on
on_last u n x [] h = rw h
on_last u n x (r ∷ rs) h = rw (on_last u n x rs h)

on_without : (u n i : ℕ) (rs : List Ref) → i < length rs → same (get_or rs i no_ref) u n ≡ false → chunk_on u n (without i rs) ≡ chunk_on u n rs
unfolding chunk_on without
on_without u n i [] l h = absurd (not-suc-le-zero l)
on_without u n zero (r ∷ rs) l h = rw h
on_without u n (suc i) (r ∷ rs) l h = rw (on_without u n i rs (le_of_suc-le-suc l) h)

-- a chunk's place after chunk k is gone
lowered : ℕ → ℕ → ℕ
lowered k j = cond (ltb k j) (j - 1) j

on_lower : (u n k : ℕ) (rs : List Ref) → chunk_on u n (map (lower k) rs) ≡ lowered k (chunk_on u n rs)
unfolding chunk_on lower lowered
on_lower u n k [] = rw (le-ltb k 0 (omega arith))
on_lower u n k (r ∷ rs) = rw (on_lower u n k rs) (go (same r u n))
  where
    go : (b : Bool) → cond b (lowered k r.chunk) (lowered k (chunk_on u n rs)) ≡ lowered k (cond b r.chunk (chunk_on u n rs))
    go true = refl
    go false = refl

set_before : (cs : List Chunk) (k j : ℕ) (c : Chunk) → j < k → set (without k cs) j c ≡ without k (set cs j c)
unfolding without
set_before cs zero j c h = absurd (not-suc-le-zero h)
set_before [] (suc k) j c h = refl
set_before (x ∷ cs) (suc k) zero c h = refl
set_before (x ∷ cs) (suc k) (suc j) c h = ap (λ (l : List Chunk). x ∷ l) (set_before cs k j c (le_of_suc-le-suc h))

set-behind : (cs : List Chunk) (k j : ℕ) (c : Chunk) → k ≤ j → set (without k cs) j c ≡ without k (set cs (suc j) c)
unfolding without
set-behind [] zero j c h = refl
set-behind [] (suc k) j c h = refl
set-behind (x ∷ cs) zero j c h = refl
set-behind (x ∷ cs) (suc k) zero c h = absurd (not-suc-le-zero h)
set-behind (x ∷ cs) (suc k) (suc j) c h = ap (λ (l : List Chunk). x ∷ l) (set-behind cs k j c (le_of_suc-le-suc h))

set-without : (cs : List Chunk) (k j : ℕ) (c : Chunk) → j ≢ k → set (without k cs) (lowered k j) c ≡ without k (set cs j c)
unfolding lowered
set-without cs k j c ne = go (ltb k j) refl
  where
    go : (b : Bool) → ltb k j ≡ b → set (without k cs) (cond b (j - 1) j) c ≡ without k (set cs j c)
    go false e = set_before cs k j c (omega (arith, ltb-false k j e, ne))
    go true e =
        let l : k < j = ltb-true k j e in
        let s : suc (j - 1) ≡ j = omega arith in
        set-behind cs k (j - 1) c (omega arith) ∙ ap (λ (x : ℕ). without k (set cs x c)) s

-- the replacement of (u, n), by the chunk's place in whatever index
replaced_on : (m : Model) (u n t : ℕ) (d : List ℕ) → edited m (replace u n t d) ≡ replaced m (chunk_on u n m.refs) (given_chunk t d)
unfolding edited
replaced_on m u n t d = rw (on_find u n m.refs)

-- an edit e that names others, after the replacement and before it
module _ (m : Model) (s : Sound m) (u n t : ℕ) (d : List ℕ) (a : Applies m (replace u n t d)) where
  abbrev k : ℕ
  k = chunk_on u n m.refs

  abbrev c : Chunk
  c = given_chunk t d

  there : k < length m.chunks
  there = rw (← on_find u n m.refs) (chunk_in m (find u n m.refs) s a.0)

  -- another entry's chunk is another one
  elsewhere : (v o : ℕ) → find v o m.refs < length m.refs → Other u n v o → k ≢ (ref_at m (find v o m.refs)).chunk
  unfolding shared
  elsewhere v o h ne e =
      other_chunk (ref_at m (find u n m.refs)).chunk m.refs (find u n m.refs) (find v o m.refs) a.1 h
      (apart u n v o m.refs a.0 h ne) (sym e ∙ sym (on_find u n m.refs))

  goes_first : (e : Edit) → Applies m e → NamesOther u n e → replaced (edited m e) (chunk_on u n (edited m e).refs) c ≡ edited (replaced m k c) e
  unfolding edited replaced
  goes_first (add v o x y) b ne =
      unfold added in
      rw (on_last u n (record { usage = v; number = o; chunk = length m.chunks }) m.refs (not_same u n v o ne), length-set)
      λ i. record {
        refs = m.refs ++ (record { usage = v; number = o; chunk = length m.chunks } ∷ []);
        chunks = set-append_left m.chunks (given_chunk x y ∷ []) k c there i;
      }
  goes_first (replace v o x y) b ne =
      let z : ℕ = (ref_at m (find v o m.refs)).chunk in
      λ i. record { refs = m.refs; chunks = set_comm m.chunks z k (given_chunk x y) c (λ e. elsewhere v o b.0 ne (sym e)) i }
  goes_first (link v o w p) b ne =
      unfold linked entered in
      let z : ℕ = (ref_at m (find v o m.refs)).chunk in
      rw (on_with u n (link_place_of z m.refs) (record { usage = w; number = p; chunk = z }) m.refs (not_same u n w p ne.1))
  goes_first (remove v o) b ne = unfold removed shared in go (uses z (without j m.refs))
    where
      j : ℕ
      j = find v o m.refs

      h : same (ref_at m j) u n ≡ false
      h = let p = find-pair v o m.refs b in rw (p.0, p.1) (not_same u n v o ne)

      z : ℕ
      z = (ref_at m j).chunk

      left : Bool → Model
      left q = cond q (removed_entry m j) (removed_both m j z)

      go : (q : Bool) → replaced (left q) (chunk_on u n (left q).refs) c ≡ cond q (removed_entry (replaced m k c) j) (removed_both (replaced m k c) j z)
      go true = unfold removed_entry in rw (on_without u n j m.refs b h)
      go false =
          unfold removed_both in
          rw (on_lower u n z (without j m.refs), on_without u n j m.refs b h)
          λ i. record { refs = map (lower z) (without j m.refs); chunks = set-without m.chunks z k c (elsewhere v o b ne) i }

pub edited_comm : (m : Model) (u n t : ℕ) (d : List ℕ) (e : Edit) → Sound m → Applies m (replace u n t d) → Applies m e → NamesOther u n e
    → edited (edited m e) (replace u n t d) ≡ edited (edited m (replace u n t d)) e
edited_comm m u n t d e s a b ne =
    replaced_on (edited m e) u n t d
    ∙ goes_first m s u n t d a e b ne
    ∙ ap (λ (x : Model). edited x e) (sym (replaced_on m u n t d))

-- "the later wins": of two replacements of one resource the first leaves nothing
pub edited-twice : (m : Model) (u n t : ℕ) (d : List ℕ) (x : ℕ) (y : List ℕ)
    → edited (edited m (replace u n t d)) (replace u n x y) ≡ edited m (replace u n x y)
unfolding edited replaced
edited-twice m u n t d x y =
    let k : ℕ = (ref_at m (find u n m.refs)).chunk in
    λ i. record { refs = m.refs; chunks = set-set m.chunks k (given_chunk t d) (given_chunk x y) i }
