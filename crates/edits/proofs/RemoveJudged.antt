-- Whether the file is accepted after an entry has gone, with its own chunk or alone, as one test.
use mathlib.Core.Path.{◌≡◌, refl, ap, ◌∙◌}
use Prim.Native.Nat.{ℕ, zero, suc, ◌+◌, ◌≤◌, ◌<◌}
use mathlib.Core.List.{List, [], ◌∷◌, ◌++◌, map}
use mathlib.Core.Bool.{Bool, true, false, ◌&&◌, not}
use native.Mathlib.Omega.{arith}
use native.Mathlib.Nat.{le_of_suc-le-suc, not-suc-le-zero}
use lib.ListN.{length, get_or, take, drop}
use lib.Dec.{eqb}
use borrow.Author.Tests.{eq-eqb, le-leb}
use Rattle.blorb.specs.Format.{Ref, Chunk, size}
use Rattle.blorb.specs.Verdict.{accept, no_chunk, second_index, verdict, accepted}
use Rattle.blorb.specs.Tags.{Pict, Rect, Fspc}
use Rattle.blorb.specs.Rules.{picture, type_in, optional, rules_of}
use Rattle.blorb.specs.Model.{Model, base, file}
use Rattle.blorb.specs.Queries.{find, no_ref, ref_at, chunk_at, without, uses, shared, front_number}
use Rattle.blorb.proofs.AllLaws.{all_get_d}
use Rattle.blorb.specs.Sound.{RefOk, Sound}
use Rattle.blorb.proofs.Checks.{then_accept, check_accept, pass, or_map, neither}
use Rattle.blorb.proofs.ModelLaws.{length-file, chunk_in}
use Rattle.blorb.proofs.VerdictLaws.{refs_fault, model_fault, refs_in_order}
use Rattle.edits.specs.Edit.{remove, edited, lower, removed, removed_both, removed_entry}
use Rattle.edits.proofs.OrderLaws.{order_without, order_removed}
use Rattle.edits.proofs.AddVerdict.{second-any}
use Rattle.edits.proofs.UndoLaws.{length_without, length_remaining}
use Rattle.edits.proofs.FitLaws.{edit-sound, unlisted_sound}
use Rattle.edits.proofs.Lengths.{length_removed}
use Rattle.edits.proofs.RemoveVerdict.{same-chunk, refs_without, refs_removed}
use Rattle.edits.proofs.FrontLaws.{like_self, like_without, optional_like, front-picture}
use Rattle.edits.proofs.ReadBack.{same, pair_gone}
use Rattle.edits.proofs.JudgedLaws.{model_parts, accepted-ordered, accepted-front, is_front_of, find_at, chunk_plain}
use Rattle.edits.proofs.FrontPicture.{picture-none}

-- no second index among fewer chunks
pub second-without : (at at' : ℕ) (cs : List Chunk) (k : ℕ) → second_index at cs ≡ accept → second_index at' (without k cs) ≡ accept
unfolding second_index without
second-without at at' [] zero h = refl
second-without at at' [] (suc k) h = refl
second-without at at' (c ∷ cs) zero h = second-any (at + size c) at' cs (then_accept _ _ h).1
second-without at at' (c ∷ cs) (suc k) h =
    let p = then_accept _ _ h in
    pass _ _ _ _ (check_accept _ _ _ p.0) ∙ second-without (at + size c) (at' + size c) cs k p.1

-- the pictures after an entry has gone, and its chunk
pub picture-less : (q : ℕ) (cs : List Chunk) (i : ℕ) (rs : List Ref) → i < length rs → same (get_or rs i no_ref) Pict q ≡ false → picture q cs rs ≡ true
    → picture q cs (without i rs) ≡ true
unfolding picture without
picture-less q cs i [] l ne h = absurd (not-suc-le-zero l)
picture-less q cs zero (r ∷ rs) l ne h = rw ne at h
picture-less q cs (suc i) (r ∷ rs) l ne h = or_map (same r Pict q && not (eqb (get_or cs r.chunk no_chunk).type Rect)) (picture q cs rs)
    (picture q cs (take i rs ++ drop (suc i) rs)) h (picture-less q cs i rs (le_of_suc-le-suc l) ne)

pub picture-lower : (q : ℕ) (cs : List Chunk) (k : ℕ) (rs : List Ref) → uses k rs ≡ false → picture q (without k cs) (map (lower k) rs) ≡ picture q cs rs
unfolding picture uses
picture-lower q cs k [] h = refl
picture-lower q cs k (r ∷ rs) h =
    let o = neither (eqb r.chunk k) (uses k rs) h in
    rw (same-chunk cs k r o.0, picture-lower q cs k rs o.1) (unfold lower in refl)

pub picture-without : (profile q : ℕ) (cs : List Chunk) (i : ℕ) (rs : List Ref) → refs_fault (rules_of profile) cs [] 24 rs ≡ accept → i < length rs
    → picture q cs rs ≡ true
    → not (picture q cs (without i rs)) ≡ same (get_or rs i no_ref) Pict q
picture-without profile q cs i rs ok l h = go (same (get_or rs i no_ref) Pict q) refl
  where
    go : (b : Bool) → same (get_or rs i no_ref) Pict q ≡ b → not (picture q cs (without i rs)) ≡ b
    go true e = ap not (picture-none q cs (without i rs) (pair_gone (rules_of profile) cs [] 24 Pict q i rs ok l e))
    go false e = ap not (picture-less q cs i rs l e h)

front_gone : (b t x : Bool) → (b ≡ true → not t ≡ x) → not (b && not t) ≡ not (b && x)
front_gone true t x f = ap not (f refl)
front_gone false t x f = refl

module _ (profile : ℕ) (m : Model) (i : ℕ) (s : Sound m) (ok : model_fault (rules_of profile) m ≡ accept) (h : i < length m.refs)
    (alone : shared m i ≡ false) where
  abbrev k : ℕ
  k = (ref_at m i).chunk

  abbrev cs : List Chunk
  cs = m.chunks

  abbrev rs : List Ref
  rs = m.refs

  front-removed : accepted (optional (base (length (removed_both m i (ref_at m i).chunk).refs)) (removed_both m i (ref_at m i).chunk).refs
      (removed_both m i (ref_at m i).chunk).chunks)
      ≡ not (is_front_of m.chunks (ref_at m i).usage (ref_at m i).number)
  unfolding removed_both shared
  front-removed =
      let p = model_parts profile m ok in
      let rs' : List Ref = map (lower k) (without i rs) in
      ap accepted (optional_like (base (length rs)) (base (length rs')) rs rs' cs (without k cs) (like_without cs k (chunk_in m i s h)
      (chunk_plain profile cs [] 24 rs i p.entries_fine h)) p.seven)
      ∙ accepted-front (type_in Fspc cs) (picture (front_number cs) (without k cs) rs') _
      ∙ front_gone (type_in Fspc cs) (picture (front_number cs) (without k cs) rs') (same (ref_at m i) Pict (front_number cs))
      (λ e. ap not (picture-lower (front_number cs) cs k (without i rs) alone) ∙ picture-without profile (front_number cs) cs i rs p.entries_fine h
      (front-picture (base (length rs)) rs cs p.seven e))

  found : find (ref_at m i).usage (ref_at m i).number m.refs ≡ i
  found = find_at (rules_of profile) cs [] 24 (ref_at m i).usage (ref_at m i).number i rs (model_parts profile m ok).entries_fine h
      (rw (eq-eqb (ref_at m i).usage (ref_at m i).usage refl, eq-eqb (ref_at m i).number (ref_at m i).number refl))

  entry-fits : RefOk (length m.chunks) (ref_at m i)
  entry-fits = all_get_d (RefOk (length m.chunks)) m.refs i no_ref s.refs_ok h

  removed-both : removed m i ≡ removed_both m i (ref_at m i).chunk
  unfolding removed
  removed-both = rw alone

  pub removed-sound : Sound (removed m i)
  unfolding edited
  removed-sound =
      let u : ℕ = (ref_at m i).usage in
      let n : ℕ = (ref_at m i).number in
      let l : find u n m.refs < length m.refs = rw found h in
      let w : Sound (removed m (find u n m.refs)) = edit-sound m (remove u n) s (entry-fits.usage_fits, entry-fits.number_fits) l in
      rw found at w

  pub removed-length : length (file (removed m i)) + (12 + size (chunk_at m (ref_at m i).chunk)) ≡ length (file m)
  removed-length = rw removed-both (omega (arith, length_removed m i k h (chunk_in m i s h)))

  -- the file without them is accepted unless the frontispiece's picture goes
  pub removed-accepted : length (file m) ≤ 16777216 → refs_in_order 0 m.refs ≡ true
      → accepted (verdict (rules_of profile) (file (removed m i))) ≡ not (is_front_of m.chunks (ref_at m i).usage (ref_at m i).number)
  removed-accepted short ord =
      let p = model_parts profile m ok in
      let x : Model = removed_both m i (ref_at m i).chunk in
      let few : length x.refs ≤ 4096 = omega (arith, length_remaining m i (ref_at m i).chunk h, p.few) in
      let le : length (file x) ≤ 16777216 = omega (arith, length_removed m i k h (chunk_in m i s h)) in
      let a : second_index (base (length x.refs)) x.chunks ≡ accept
      = (unfold removed_both in second-without (base (length rs)) (base (length (map (lower k) (without i rs)))) cs k p.no_second) in
      let o : refs_in_order 0 x.refs ≡ true = (unfold removed_both in order_removed k i rs ord) in
      let b : refs_fault (rules_of profile) x.chunks [] 24 x.refs ≡ accept = (unfold removed_both shared in refs_removed (rules_of profile) cs k i rs alone
      p.entries_fine) in
      ap (λ (z : Model). accepted (verdict (rules_of profile) (file z))) removed-both
      ∙ accepted-ordered profile x (rw removed-both at removed-sound) o
      ∙ rw (le-leb (length (file x)) 16777216 le, a, le-leb (length x.refs) 4096 few, b) front-removed

-- an entry that goes alone
pub unlisted_length : (m : Model) (i : ℕ) → i < length m.refs → length (file (removed_entry m i)) + 12 ≡ length (file m)
unfolding removed_entry base
unlisted_length m i h = rw (length-file (removed_entry m i), length-file m) (omega (arith, length_without i m.refs h))

module _ (profile : ℕ) (m : Model) (i : ℕ) (s : Sound m) (ok : model_fault (rules_of profile) m ≡ accept) (h : i < length m.refs) where
  front_unlisted : accepted (optional (base (length (removed_entry m i).refs)) (removed_entry m i).refs (removed_entry m i).chunks)
      ≡ not (is_front_of m.chunks (ref_at m i).usage (ref_at m i).number)
  unfolding removed_entry
  front_unlisted =
      let p = model_parts profile m ok in
      let q : ℕ = front_number m.chunks in
      let rs' : List Ref = without i m.refs in
      ap accepted (optional_like (base (length m.refs)) (base (length rs')) m.refs rs' m.chunks m.chunks (like_self m.chunks) p.seven)
      ∙ accepted-front (type_in Fspc m.chunks) (picture q m.chunks rs') _
      ∙ front_gone (type_in Fspc m.chunks) (picture q m.chunks rs') (same (ref_at m i) Pict q)
      (λ e. picture-without profile q m.chunks i m.refs p.entries_fine h (front-picture (base (length m.refs)) m.refs m.chunks p.seven e))

  -- the file without it is accepted unless the frontispiece's picture goes
  pub unlisted_accepted : length (file m) ≤ 16777216 → refs_in_order 0 m.refs ≡ true
      → accepted (verdict (rules_of profile) (file (removed_entry m i))) ≡ not (is_front_of m.chunks (ref_at m i).usage (ref_at m i).number)
  unlisted_accepted short ord =
      let p = model_parts profile m ok in
      let x : Model = removed_entry m i in
      let few : length x.refs ≤ 4096 = (unfold removed_entry in omega (arith, length_without i m.refs h, p.few)) in
      let le : length (file x) ≤ 16777216 = omega (arith, unlisted_length m i h) in
      let o : refs_in_order 0 x.refs ≡ true = (unfold removed_entry in order_without 0 i m.refs ord) in
      let a : second_index (base (length x.refs)) x.chunks ≡ accept
      = (unfold removed_entry in second-any (base (length m.refs)) (base (length (without i m.refs))) m.chunks p.no_second) in
      let b : refs_fault (rules_of profile) x.chunks [] 24 x.refs ≡ accept
      = (unfold removed_entry in refs_without (rules_of profile) m.chunks [] [] 24 24 i m.refs (λ u n e. e) p.entries_fine) in
      accepted-ordered profile x (unlisted_sound m i s) o
      ∙ rw (le-leb (length (file x)) 16777216 le, a, le-leb (length x.refs) 4096 few, b) front_unlisted
