-- The search for the 'COMM' chunk, and the fields in it. The search goes by one chunk of an accepted walk at a time: what was seen so far and the chunks
-- still to come have the same answer as all of them (seen_found). The fields stand in the chunk's 18 bytes, so they can be read where these lie in the file.
use Prim.Native.Nat.{ℕ, ◌+◌, ◌*◌, ◌/◌, ◌%◌, ◌-◌, ◌≤◌, ◌<◌}
use mathlib.Core.Path.{◌≡◌, refl, ap, sym, ◌∙◌}
use mathlib.Core.List.{List, ◌∷◌}
use mathlib.Core.Bool.{Bool, true, false, cond}
use native.Mathlib.Omega.{arith}
use lib.ListN.{length, take, drop}
use Rattle.std.proofs.lemmas.List.{drop-take}
use lib.Seq.{get_or-take, drop-drop}
use lib.Dec.{eqb}
use borrow.Author.Tests.{ne_eqb}
use Rattle.blorb.specs.Bytes.{rd32}
use Rattle.blorb.specs.Format.{Chunk, sized, size, chunk_in, chunks_of}
use Rattle.blorb.specs.Verdict.{Verdict, accept, refuse}
use Rattle.blorb.proofs.UsageLaws.{rd32-take}
use Rattle.blorb.proofs.Checks.{and_both}
use Rattle.chunks.specs.Walk.{chunk_from, skip_at, chunks_from, walk_from}
use Rattle.chunks.proofs.ChunkLaws.{chunks_end, fine, walked}
use Rattle.aiff.specs.Common.{COMM, comms, single, is_form_of, is_filled, is_aiff_of, common_of}
use Rattle.aiff.specs.Seeing.{one_more, seen_next_of, seen_with, ChunkThere, SeenIn, Seeking, Sees, Told}
use Rattle.aiff.specs.Rate.{rd16, rate_of, rate_in, sign_in, exponent_in, significand_in}
use Rattle.aiff.specs.Length.{sound_of, sound_by, length_of}
use Rattle.std.specs.Prelude.{Some, None, Result, Ok}
use Rattle.blorb.specs.declared.refusal.Refusal.{Refusal}
use Rattle.blorb.specs.Refusals.{Refused, verdict_of}
use Rattle.std.specs.Result.{is_ok}
use Rattle.aiff.specs.declared.common.Seen.{Seen}
use Rattle.aiff.specs.declared.common.Seen.TheVariants.{Nothing, One, Many}
use Rattle.aiff.proofs.RateLaws.{rd16-at}

-- 49
module _ (f : List ℕ) where
  pub not_form : is_form_of f ≡ false → false ≡ is_aiff_of f
  unfolding is_aiff_of
  not_form e = rw e

  pub filled : is_form_of f ≡ true → walk_from f 12 ≡ accept → true ≡ is_aiff_of f
  unfolding is_aiff_of is_filled walk_from
  filled e w = rw (e, w)

  pub not_filled : (k p : ℕ) → is_form_of f ≡ true → walk_from f 12 ≡ refuse k p → false ≡ is_aiff_of f
  unfolding is_aiff_of is_filled walk_from
  not_filled k p e w = rw (e, w)

  -- by the walk's answer
  pub form_filled : (b : Bool) (r : Result Bool Refusal) → is_form_of f ≡ true → verdict_of r ≡ walk_from f 12 → b ≡ is_ok r → b ≡ is_aiff_of f
  form_filled b (Ok x) e w h = h ∙ filled e (sym w)
  form_filled b (Refused k p) e w h = h ∙ not_filled k p e (sym w)

  pub aiff_walked : is_aiff_of f ≡ true → walk_from f 12 ≡ accept
  unfolding is_aiff_of
  aiff_walked e = by (walk_from f 12) refl
    where
      by : (v : Verdict) → walk_from f 12 ≡ v → walk_from f 12 ≡ accept
      by accept w = w
      by (refuse k p) w = let z : ◌≡◌ {A = Bool} false true = not_filled k p (and_both (is_form_of f) (is_filled f) e).0 w ∙ e in cc

-- what was seen, and what is still to come
seen_found : (f : List ℕ) (at : ℕ) (b : Bool) (seen : Seen) (l : List Chunk)
    → seen_with f (cond b (one_more seen at) seen) l ≡ seen_with f seen (cond b (chunk_from f at ∷ l) l)
unfolding single
seen_found f at false seen l = refl
seen_found f at true Nothing l = refl
seen_found f at true (One x) l = refl
seen_found f at true Many l = refl

seen_in : (f : List ℕ) (at : ℕ) (b : Bool) (seen : Seen) → ChunkThere f at → SeenIn f seen → SeenIn f (cond b (one_more seen at) seen)
seen_in f at false seen h i = i
seen_in f at true Nothing h i = h
seen_in f at true (One x) h i = tt
seen_in f at true Many h i = tt

pub seeking_start : (f : List ℕ) → is_aiff_of f ≡ true → Seeking f 12 Nothing
unfolding common_of chunks_of chunks_from
seeking_start f e = record { rest = aiff_walked f e; found = refl; there = tt }

pub seeking_on : (f : List ℕ) (at next kind : ℕ) (seen : Seen) → at < length f → kind ≡ rd32 (drop at f) → next ≡ skip_at f at → Seeking f at seen
    → Seeking f next (seen_next_of seen kind at)
unfolding seen_next_of comms chunk_in size sized
seeking_on f at next kind seen h k n s =
    let i = fine f at h s.rest in
    let there : ChunkThere f at = record { inside = omega (arith, i.inside, i.bodied); bodied = i.bodied } in
    let on : chunks_from f at ≡ chunk_from f at ∷ chunks_from f (skip_at f at) = i.chunks ∙ ap (λ (x : ℕ). chunk_from f at ∷ chunks_from f x) (sym i.next) in
    let g = s.found in
    rw (n, k) (record {
      rest = walked f at h s.rest;
      found = seen_found f at (eqb (rd32 (drop at f)) COMM) seen (comms (chunks_from f (skip_at f at))) ∙ (rw on at g);
      there = seen_in f at (eqb (rd32 (drop at f)) COMM) seen there s.there;
    })

pub sees : (f : List ℕ) (at : ℕ) (seen : Seen) → length f ≤ at → Seeking f at seen → Sees f seen
unfolding comms
sees f at seen h s = let g = s.found in (rw (chunks_end f at h) at g, s.there)

-- 50
module _ (f : List ℕ) where
  pub told_none : (seen : Seen) → ((x : ℕ) → seen ≡ One x → ⊥) → Sees f seen → Told f None
  unfolding single
  told_none Nothing n s = sym s.0
  told_none Many n s = sym s.0
  told_none (One x) n s = absurd (n x refl)

  module _ (x : ℕ) (s : Sees f (One x)) where
    one : common_of f ≡ cond (eqb (rd32 (drop (x + 4) f)) 18) (Some (take (rd32 (drop (x + 4) f)) (drop (x + 8) f))) None
    unfolding single chunk_in
    one = sym s.0 ∙ rw (s.1.bodied, drop-drop 4 x f, drop-drop 8 x f)

    pub told-one : rd32 (drop (x + 4) f) ≡ 18 → Told f (Some x)
    told-one e =
        let c = one in
        (rw e at c, omega (arith, e, s.1.inside))

    pub told_other : (rd32 (drop (x + 4) f) ≡ 18 → ⊥) → Told f None
    told_other e = one ∙ rw (ne_eqb (rd32 (drop (x + 4) f)) 18 e)

-- the fields lie in the 18 bytes
rd32_within : (n k : ℕ) (s : List ℕ) → k + 4 ≤ n → rd32 (drop k (take n s)) ≡ rd32 (drop k s)
rd32_within n k s h = let e : n ≡ k + (n - k) = omega arith in rw e (ap rd32 (drop-take k (n - k) s) ∙ rd32-take (n - k) (drop k s) (omega arith))

rd16_within : (n k : ℕ) (s : List ℕ) → k + 2 ≤ n → rd16 (drop k (take n s)) ≡ rd16 (drop k s)
rd16_within n k s h =
    let a : k < n = omega arith in
    let b : k + 1 < n = omega arith in
    rd16-at (take n s) k ∙ rw (get_or-take n s k 0 a, get_or-take n s (k + 1) 0 b) (sym (rd16-at s k))

-- the ten bytes of the rate at `at`
pub rate_at_lem : (f : List ℕ) (at : ℕ)
    → rate_in (drop at f) ≡ rate_of (rd16 (drop at f) / 32768) (rd16 (drop at f) % 32768) (rd32 (drop (at + 2) f) * 4294967296 + rd32 (drop (at + 6) f))
unfolding rate_in sign_in exponent_in significand_in
rate_at_lem f at = rw (drop-drop 2 at f, drop-drop 6 at f)

rate_take : (s : List ℕ) → rate_in (drop 8 (take 18 s)) ≡ rate_in (drop 8 s)
rate_take s =
    rate_at_lem (take 18 s) 8
    ∙ rw (rd16_within 18 8 s (omega arith), rd32_within 18 10 s (omega arith), rd32_within 18 14 s (omega arith)) (sym (rate_at_lem s 8))

-- a 'COMM' chunk's fields, from the file's bytes
pub sound-at : (f : List ℕ) (at : ℕ) → sound_of (take 18 (drop (at + 8) f))
    ≡ sound_by (rate_in (drop (at + 16) f)) (rd16 (drop (at + 8) f)) (rd32 (drop (at + 10) f)) (rd16 (drop (at + 14) f))
unfolding sound_of
sound-at f at =
    let s : List ℕ = drop (at + 8) f in
    let p2 : at + 8 + 2 ≡ at + 10 = omega arith in
    let p6 : at + 8 + 6 ≡ at + 14 = omega arith in
    let p8 : at + 8 + 8 ≡ at + 16 = omega arith in
    let e0 : rd16 (take 18 s) ≡ rd16 s = rd16_within 18 0 s (omega arith) in
    let e2 : rd32 (drop 2 (take 18 s)) ≡ rd32 (drop (at + 10) f) = rd32_within 18 2 s (omega arith) ∙ rw (drop-drop 2 (at + 8) f, p2) in
    let e6 : rd16 (drop 6 (take 18 s)) ≡ rd16 (drop (at + 14) f) = rd16_within 18 6 s (omega arith) ∙ rw (drop-drop 6 (at + 8) f, p6) in
    let e8 : rate_in (drop 8 (take 18 s)) ≡ rate_in (drop (at + 16) f) = rate_take s ∙ rw (drop-drop 8 (at + 8) f, p8) in
    rw (e8, e0, e2, e6)

-- the call's ways out
module _ (f : List ℕ) where
  pub no_aiff : is_aiff_of f ≡ false → Refused 49 0 ≡ length_of f
  unfolding length_of
  no_aiff e = rw e

  module _ (e : is_aiff_of f ≡ true) where
    pub no_common : Told f None → Refused 50 0 ≡ length_of f
    unfolding length_of
    no_common t = rw (e, t)

    pub one-common : (x : ℕ) → Told f (Some x) → sound_of (take 18 (drop (x + 8) f)) ≡ length_of f
    unfolding length_of
    one-common x t = rw (e, t.0)
