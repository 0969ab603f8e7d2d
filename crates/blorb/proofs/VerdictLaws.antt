-- The verdict on the file of a sound model: only the length, a second index, the count, the entries and rule 7 are left to judge.
use mathlib.Core.Path.{◌≡◌, refl, sym, ap, ◌∙◌}
use Prim.Native.Nat.{ℕ, zero, suc, ◌+◌, ◌*◌, ◌≤◌, ◌<◌, ◌%◌}
use mathlib.Core.List.{List, [], ◌∷◌, ◌++◌, map, append_assoc}
use mathlib.Core.Bool.{Bool, true, false, ◌||◌, ◌&&◌}
use native.Mathlib.Omega.{arith}
use native.Mathlib.Nat.{not-suc-le-zero}
use lib.ListN.{length, get_or, drop, replicate, length-append, length-map}
use lib.Seq.{get_or-append-add}
use lib.Dec.{eqb, leb}
use borrow.Author.Tests.{eq-eqb, le-leb, leb-true}
use Rattle.blorb.specs.Bytes.{be32, rd32}
use Rattle.blorb.proofs.ByteLaws.{length-be32, rd32-be32, drop-be32, drop_two}
use Rattle.blorb.specs.Format.{Ref, ref_of, Chunk, Entry, size, sized, total, chunk_bytes, chunks_bytes, file_bytes, chunks_of, entries_bytes, index_chunk}
use Rattle.blorb.specs.Tags.{FORM, IFRS, RIdx}
use Rattle.blorb.specs.Verdict.{
  Rules,
  Verdict,
  accept,
  ◌then◌,
  check,
  head_fault,
  chunk_fault,
  walk_fault,
  second_index,
  index_fault,
  ref_fault,
  entries_fault,
  rest_fault,
  layout_fault,
  verdict,
  known_usage_of,
  last_place,
}
use Rattle.blorb.specs.Model.{Model, base, entry_of, file}
use Rattle.blorb.specs.All.{All}
use Rattle.blorb.specs.Sound.{W, RefOk, Sound}
use Rattle.blorb.proofs.Places.{size_pos, body-size, is_start-start_of}
use Rattle.blorb.proofs.Codec.{length-chunk_bytes, length-file_bytes, length-entries_bytes, first-length, first_rest, drop_header, entries_of-index_chunk}
use Rattle.blorb.proofs.Checks.{pass, accepts, holds_last, then_accept, check_accept, and_both, both_true}
use Rattle.blorb.proofs.ModelLaws.{entries, size-index, chunks_of_lem, entries_ok, few, ref_of-entry_of, ref_of_entry_of1}

-- an encoded chunk has no fault
pad_byte : (b : List ℕ) (s : List ℕ) → (eqb (length b % 2) 0 || eqb (get_or (replicate (length b % 2) 0 ++ s) 0 0) 0) ≡ true
pad_byte b s = go (length b % 2) (omega arith)
  where
    go : (r : ℕ) → r < 2 → (eqb r 0 || eqb (get_or (replicate r 0 ++ s) 0 0) 0) ≡ true
    go zero h = refl
    go (suc zero) h = refl
    go (suc (suc r)) h = absurd (omega arith)

pad_at : (c : Chunk) (s : List ℕ) → get_or (chunk_bytes c ++ s) (8 + length c.body) 0 ≡ get_or (replicate (length c.body % 2) 0 ++ s) 0 0
unfolding chunk_bytes
pad_at c s =
    let m : ℕ = length c.body in
    let p : List ℕ = be32 c.type ++ (be32 m ++ c.body) in
    let e : (be32 c.type ++ (be32 m ++ (c.body ++ replicate (m % 2) 0))) ++ s ≡ p ++ (replicate (m % 2) 0 ++ s) = simp append_assoc in
    let l : 8 + m ≡ length p + 0 = simp (length-append, length-be32) (omega arith) in
    rw (e, l) (get_or-append-add p (replicate (m % 2) 0 ++ s) 0 0)

size-sized : (c : Chunk) → size c ≡ sized (length c.body)
unfolding size
size-sized c = refl

size_header : (c : Chunk) → 8 + length c.body ≤ size c
unfolding size sized
size_header c = omega arith

chunk_fine : (at : ℕ) (c : Chunk) (s : List ℕ) → length c.body < W → chunk_fault at (chunk_bytes c ++ s) ≡ accept
unfolding chunk_fault check ◌then◌
chunk_fine at c s h =
    let l : length (chunk_bytes c ++ s) ≡ size c + length s = simp (length-append, length-chunk_bytes) in
    rw (
      first-length c s h,
      pad_at c s,
      pad_byte c.body s,
      l,
      le-leb 8 (size c + length s) (omega (arith, size_pos c)),
      le-leb (8 + length c.body) (size c + length s) (omega (arith, size_header c)),
      le-leb (sized (length c.body)) (size c + length s) (omega (arith, size-sized c)),
    )

pub walk-nil : (k at : ℕ) → walk_fault k at [] ≡ accept
unfolding walk_fault
walk-nil zero at = refl
walk-nil (suc k) at = refl

pub walk_step : (k at : ℕ) (s : List ℕ) → 0 < length s → walk_fault (suc k) at s ≡ chunk_fault at s then walk_fault k (at + sized (rd32 (drop 4 s)))
    (drop (sized (rd32 (drop 4 s))) s)
unfolding walk_fault
walk_step k at [] h = absurd (not-suc-le-zero h)
walk_step k at (b ∷ s) h = refl

pub walk_fine : (k at : ℕ) (cs : List Chunk) → total cs < W → walk_fault k at (chunks_bytes cs) ≡ accept
unfolding chunks_bytes total ◌then◌
walk_fine k at [] h = walk-nil k at
walk_fine zero at (c ∷ cs) h = go
  where
    go : walk_fault zero at (chunk_bytes c ++ chunks_bytes cs) ≡ accept
    go = unfold walk_fault in refl
walk_fine (suc k) at (c ∷ cs) h =
    let hb : length c.body < W = omega (arith, body-size c) in
    rw (
      walk_step k at (chunk_bytes c ++ chunks_bytes cs) (simp (length-append, length-chunk_bytes) (omega (arith, size_pos c))),
      chunk_fine at c (chunks_bytes cs) hb,
      first-length c (chunks_bytes cs) hb,
      first_rest c (chunks_bytes cs),
    )
    (walk_fine k (at + sized (length c.body)) cs (omega arith))

index_fine : (es : List Entry) → length es < W → index_fault (index_chunk es).body ≡ check (leb (length es) 4096) 11 20
unfolding index_fault index_chunk ◌then◌
index_fine es h =
    let l : length (be32 (length es) ++ entries_bytes es) ≡ 4 + 12 * length es = simp (length-append, length-be32, length-entries_bytes) in
    rw (rd32-be32 (length es) (entries_bytes es) h, l, le-leb 4 (4 + 12 * length es) (omega arith), eq-eqb (4 + 12 * length es) (4 + 12 * length es) refl)
    (unfold check in refl)

-- no entry's chunk is before that of the entry before it (02, P5); k is the chunk before the first
unfoldable pub refs_in_order : ℕ → List Ref → Bool
refs_in_order k [] = true
refs_in_order k (r ∷ rs) = leb k r.chunk && refs_in_order r.chunk rs

pub last_snoc : (earlier : List Ref) (r : Ref) → last_place (earlier ++ (r ∷ [])) ≡ r.chunk
unfolding last_place
last_snoc [] r = refl
last_snoc (x ∷ []) r = refl
last_snoc (x ∷ (y ∷ rs)) r = last_snoc (y ∷ rs) r

module _ (R : Rules) where
  -- 12, 14 to 16 of the entries of a model
  unfoldable pub refs_fault : List Chunk → List Ref → ℕ → List Ref → Verdict
  refs_fault cs earlier p [] = accept
  refs_fault cs earlier p (r ∷ rs) = check (known_usage_of r.usage) 12 p then ref_fault R cs earlier p r then refs_fault cs (earlier ++ (r ∷ [])) (p + 12) rs

  -- the same and 27
  unfoldable ordered_fault : List Chunk → List Ref → ℕ → List Ref → Verdict
  ordered_fault cs earlier p [] = accept
  ordered_fault cs earlier p (r ∷ rs) =
      check (known_usage_of r.usage) 12 p
      then ref_fault R cs earlier p r
      then check (leb (last_place earlier) r.chunk) 27 (p + 8)
      then ordered_fault cs (earlier ++ (r ∷ [])) (p + 12) rs

  -- where the order is kept, 27 is out of the question
  in_order : (cs : List Chunk) (earlier : List Ref) (p : ℕ) (rs : List Ref) → refs_in_order (last_place earlier) rs ≡ true → ordered_fault cs earlier p rs
      ≡ refs_fault cs earlier p rs
  unfolding ordered_fault refs_fault refs_in_order
  in_order cs earlier p [] h = refl
  in_order cs earlier p (r ∷ rs) h =
      let q = and_both _ _ h in
      let n : refs_in_order (last_place (earlier ++ (r ∷ []))) rs ≡ true = rw (last_snoc earlier r) q.1 in
      ap (λ (v : Verdict). check (known_usage_of r.usage) 12 p then ref_fault R cs earlier p r then v)
      (pass _ _ _ _ q.0 ∙ in_order cs (earlier ++ (r ∷ [])) (p + 12) rs n)

  order_told : (cs : List Chunk) (earlier : List Ref) (p : ℕ) (rs : List Ref) → ordered_fault cs earlier p rs ≡ accept
      → (refs_fault cs earlier p rs ≡ accept) × (refs_in_order (last_place earlier) rs ≡ true)
  unfolding ordered_fault refs_fault refs_in_order
  order_told cs earlier p [] h = (refl, refl)
  order_told cs earlier p (r ∷ rs) h =
      let a = then_accept _ _ h in
      let b = then_accept _ _ a.1 in
      let c = then_accept _ _ b.1 in
      let t = order_told cs (earlier ++ (r ∷ [])) (p + 12) rs c.1 in
      let o : refs_in_order r.chunk rs ≡ true = rw (last_snoc earlier r) at t.1 in (
        pass _ _ _ _ (check_accept _ _ _ a.0) ∙ accepts _ _ b.0 ∙ t.0,
        both_true _ _ (check_accept _ _ _ c.0) o,
      )

  refs_entries : (at : ℕ) (cs : List Chunk) (earlier : List Ref) (p : ℕ) (rs : List Ref) → All (RefOk (length cs)) rs
      → entries_fault R at cs earlier p (map (entry_of at cs) rs) ≡ ordered_fault cs earlier p rs
  unfolding entries_fault ordered_fault entry_of
  refs_entries at cs earlier p [] ok = refl
  refs_entries at cs earlier p (r ∷ rs) ok =
      let e : ref_of at cs (entry_of at cs r) ≡ r = ref_of_entry_of1 at cs r ok.0 in
      ap (λ (v : Verdict). check (known_usage_of r.usage) 12 p then v)
      (pass _ _ _ _ (is_start-start_of at cs r.chunk ok.0.chunk_there)
      ∙ rw (e, refs_entries at cs (earlier ++ (r ∷ [])) (p + 12) rs ok.1))

  -- what is left to judge, where the entries are in order
  unfoldable pub model_fault : Model → Verdict
  model_fault m =
      second_index (base (length m.refs)) m.chunks
      then check (leb (length m.refs) 4096) 11 20
      then refs_fault m.chunks [] 24 m.refs
      then R.rule7 (base (length m.refs)) m.refs m.chunks

  -- and of any model
  unfoldable all_fault : Model → Verdict
  all_fault m =
      second_index (base (length m.refs)) m.chunks
      then check (leb (length m.refs) 4096) 11 20
      then ordered_fault m.chunks [] 24 m.refs
      then R.rule7 (base (length m.refs)) m.refs m.chunks

  layout-file : (m : Model) → Sound m → length (file m) < W → layout_fault R (index_chunk (entries m) ∷ m.chunks) ≡ all_fault m
  unfolding layout_fault rest_fault all_fault
  layout-file m s small =
      let b : 12 + size (index_chunk (entries m)) ≡ base (length m.refs) = unfold base in simp (size-index, length-map) (omega arith) in
      let n : length (entries m) ≡ length m.refs = simp length-map in
      rw (
        b,
        index_fine (entries m) (few m s small),
        n,
        entries_of-index_chunk (entries m) (entries_ok m s small) (few m s small),
        refs_entries (base (length m.refs)) m.chunks [] 24 m.refs s.refs_ok,
        ref_of-entry_of (base (length m.refs)) m.chunks m.refs s.refs_ok,
      )
      (pass _ _ _ _ (eq-eqb (index_chunk (entries m)).type RIdx (unfold index_chunk in refl)))

  -- a file's first twelve bytes
  head3 : (cs : List Chunk) → 4 + total cs < W → (rd32 (file_bytes cs) ≡ FORM) × (rd32 (drop 4 (file_bytes cs)) ≡ 4 + total cs)
      × (rd32 (drop 8 (file_bytes cs)) ≡ IFRS)
  unfolding file_bytes
  head3 cs h = (
    rd32-be32 FORM (be32 (4 + total cs) ++ (be32 IFRS ++ chunks_bytes cs)) (omega arith),
    rw (drop-be32 FORM) (rd32-be32 (4 + total cs) (be32 IFRS ++ chunks_bytes cs) h),
    rw (drop_two FORM (4 + total cs)) (rd32-be32 IFRS (chunks_bytes cs) (omega arith)),
  )

  verdict-all : (m : Model) → Sound m → verdict R (file m) ≡ check (leb (length (file m)) 16777216) 1 0 then all_fault m
  unfolding verdict head_fault
  verdict-all m s = go (leb (length (file m)) 16777216) refl
    where
      cs : List Chunk
      cs = index_chunk (entries m) ∷ m.chunks

      go : (b : Bool) → leb (length (file m)) 16777216 ≡ b → verdict R (file m) ≡ check (leb (length (file m)) 16777216) 1 0 then all_fault m
      go false e = rw e (unfold ◌then◌ check in refl)
      go true e =
          let short : length (file m) ≤ 16777216 = leb-true _ _ e in
          let f : file m ≡ file_bytes cs = unfold file in refl in
          let l : length (file m) ≡ 12 + total cs = rw f (length-file_bytes cs) in
          let h = head3 cs (omega arith) in
          let rest : layout_fault R (chunks_of (file m)) ≡ all_fault m = rw (chunks_of_lem m s (omega arith)) (layout-file m s (omega arith)) in
          accepts _ _ (pass _ _ _ _ e
          ∙ pass _ _ _ _ (le-leb 12 (length (file m)) (omega arith))
          ∙ pass _ _ _ _ (eq-eqb (rd32 (file m)) FORM (rw f h.0))
          ∙ pass _ _ _ _ (eq-eqb (rd32 (drop 8 (file m))) IFRS (rw f h.2))
          ∙ holds_last _ _ _ (eq-eqb (8 + rd32 (drop 4 (file m))) (length (file m)) (rw (l, f, h.1) (omega arith))))
          ∙ accepts _ _ (rw (f, drop_header cs) (walk_fine (length (file_bytes cs)) 12 cs (omega arith)))
          ∙ rest ∙ sym (pass _ _ _ _ e)

  -- the verdict where the entries are in order
  pub verdict-file : (m : Model) → Sound m → refs_in_order 0 m.refs ≡ true → verdict R (file m) ≡ check (leb (length (file m)) 16777216) 1 0 then model_fault m
  unfolding all_fault model_fault last_place
  verdict-file m s o = verdict-all m s ∙ rw (in_order m.chunks [] 24 m.refs o)

  -- what an accepted file tells of its model
  file-told : (m : Model) → Sound m → verdict R (file m) ≡ accept → (model_fault m ≡ accept) × (refs_in_order 0 m.refs ≡ true)
  unfolding all_fault model_fault last_place
  file-told m s h =
      let a = then_accept _ _ (then_accept _ _ (sym (verdict-all m s) ∙ h)).1 in
      let b = then_accept _ _ a.1 in
      let c = then_accept _ _ b.1 in
      let o = order_told m.chunks [] 24 m.refs c.0 in
      (accepts _ _ a.0 ∙ accepts _ _ b.0 ∙ accepts _ _ o.0 ∙ c.1, o.1)

  pub file-judged : (m : Model) → Sound m → verdict R (file m) ≡ accept → model_fault m ≡ accept
  file-judged m s h = (file-told m s h).0

  pub file-ordered : (m : Model) → Sound m → verdict R (file m) ≡ accept → refs_in_order 0 m.refs ≡ true
  file-ordered m s h = (file-told m s h).1
