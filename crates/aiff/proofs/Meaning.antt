-- What the answer means, in 02's words: the refusals and their order, the fields with the rate and the seconds, and which bytes are an AIFF. The first
-- two go through the cases of the definition. The last uses that an accepted walk's chunks, written again, give the bytes back, and that every chunk's size
-- is even, so that the 'FORM' has no padding byte.
use Prim.Native.Nat.{ℕ, ◌+◌, ◌*◌, ◌/◌, ◌%◌, ◌≤◌, ◌<◌}
use mathlib.Core.Path.{◌≡◌, refl, ap, sym, ◌∙◌}
use mathlib.Core.List.{List, [], ◌∷◌, ◌++◌, append-nil}
use mathlib.Core.Bool.{Bool, true, false, cond, ◌&&◌, ◌||◌}
use native.Mathlib.Omega.{arith}
use native.Mathlib.Nat.{div-mul-le_self, lt-div-mul-add, div-eq_of_lt-le}
use lib.ListN.{length, get_or, take, drop, length-append, length-drop, take-append-drop}
use lib.Seq.{drop-drop}
use lib.Dec.{eqb, leb}
use borrow.Author.Tests.{le-leb, eq-eqb, ne_eqb, leb-true, eqb-true}
use Rattle.blorb.specs.Bytes.{be32, rd32, Byte}
use Rattle.blorb.specs.Tags.{FORM, AIFF, Snd}
use Rattle.blorb.specs.All.{All}
use Rattle.blorb.specs.Sound.{W, ChunkOk}
use Rattle.blorb.specs.Format.{Chunk, sized, size, total, chunk_bytes, chunks_bytes, chunks_of}
use Rattle.blorb.specs.Verdict.{accept, check, ◌then◌, no_chunk, walk_fault}
use Rattle.blorb.specs.declared.refusal.Refusal.{Refusal}
use Rattle.aiff.specs.declared.Sound.{Sound}
use Rattle.blorb.specs.Refusals.{Refused, verdict_of}
use Rattle.std.specs.Prelude.{Option, Some, None, Result, Ok}
use Rattle.std.specs.Option.{is_some}
use Rattle.blorb.specs.Rules.{plain_allows_of, one_of}
use Rattle.blorb.specs.Lookup.{shown}
use Rattle.blorb.proofs.ByteLaws.{length-be32, rd32-be32, drop-be32, drop_two, drop_three}
use Rattle.blorb.proofs.AllLaws.{all_drop}
use Rattle.blorb.proofs.Accept.{again, walk-back}
use Rattle.blorb.proofs.Checks.{and_both, both_true}
use Rattle.blorb.proofs.Codec.{length-chunks_bytes, length-file_bytes, drop_header, chunks_of-file_bytes}
use Rattle.blorb.proofs.VerdictLaws.{walk_fine}
use Rattle.blorb.proofs.ShownLaws.{left_form}
use Rattle.chunks.specs.Walk.{walk_from}
use Rattle.aiff.specs.Rate.{rd16, rate_in}
use Rattle.aiff.specs.Common.{comms, single, is_form_of, is_filled, is_aiff_of, common_of}
use Rattle.aiff.specs.Length.{sound, sound_by, sound_of, common_by, length_of}
use Rattle.aiff.specs.Meaning.{Exactly, Says, is_single, aiff_bytes}
use Rattle.aiff.proofs.RateLaws.{exactly_rate, rate_exactly}
use Rattle.aiff.proofs.CommonLaws.{aiff_walked, filled}

-- "49 .., 50 .., 51 ..; in that order"
pub in_order : (b : List ℕ) → let cs = comms (chunks_of b) in
    verdict_of (length_of b) ≡ check (is_aiff_of b) 49 0 then check (is_single cs) 50 0 then check (is_some (rate_in (drop 8 (get_or cs 0 no_chunk).body))) 51 0
unfolding length_of common_of single sound_of check ◌then◌
in_order b = go (is_aiff_of b) (comms (chunks_of b))
  where
    rated : (r : Option ℕ) (c f z : ℕ) → verdict_of (sound_by r c f z) ≡ check (is_some r) 51 0
    rated (Some r) c f z = refl
    rated None c f z = refl

    one : (x : Bool) (d : List ℕ) → verdict_of (common_by (cond x (Some d) None)) ≡ check x 50 0 then check (is_some (rate_in (drop 8 d))) 51 0
    one true d = rated (rate_in (drop 8 d)) (rd16 d) (rd32 (drop 2 d)) (rd16 (drop 6 d))
    one false d = refl

    go : (x : Bool) (cs : List Chunk) → verdict_of (cond x (common_by (single cs)) (Refused 49 0))
        ≡ check x 49 0 then check (is_single cs) 50 0 then check (is_some (rate_in (drop 8 (get_or cs 0 no_chunk).body))) 51 0
    go false cs = refl
    go true [] = refl
    go true (c ∷ []) = one (eqb (length c.body) 18) c.body
    go true (c ∷ (d ∷ cs)) = rw (ne_eqb (length (c ∷ (d ∷ cs))) 1 (omega arith))

same_sound : (x y : Sound) → ◌≡◌ {A = Result Sound Refusal} (Ok x) (Ok y) → x ≡ y
same_sound x y e = cc

-- the 18 bytes: all that is given, exactly if they say it
module _ (d : List ℕ) (channels frames sampleSize rate seconds : ℕ) where
  pub says_sound : Says d channels frames sampleSize rate seconds → sound_of d ≡ sound channels frames sampleSize rate seconds
  unfolding sound_of rate_in
  says_sound s =
      let r = exactly_rate _ _ _ rate s.rate_is in
      rw (r, s.channels_are, s.frames_are, s.sample_size_is, div-eq_of_lt-le rate s.not_over s.not_under)

  pub sound_says : sound_of d ≡ sound channels frames sampleSize rate seconds → Says d channels frames sampleSize rate seconds
  unfolding sound_of rate_in
  sound_says e = go (rate_in (drop 8 d)) refl e
    where
      go : (r : Option ℕ) → rate_in (drop 8 d) ≡ r → sound_by r (rd16 d) (rd32 (drop 2 d)) (rd16 (drop 6 d)) ≡ sound channels frames sampleSize rate seconds
          → Says d channels frames sampleSize rate seconds
      go (Some r) q h =
          let i = same_sound _ _ h in
          let k : r ≡ rate = ap (λ (s : Sound). s.rate) i in
          let f : rd32 (drop 2 d) ≡ frames = ap (λ (s : Sound). s.frames) i in
          let s : rd32 (drop 2 d) / r ≡ seconds = ap (λ (s : Sound). s.seconds) i in
          let t : frames / rate ≡ seconds = sym (λ i. f i / k i) ∙ s in
          let x : Exactly _ _ _ rate = rate_exactly _ _ _ rate (q ∙ ap Some k) in
          let o : frames / rate * rate ≤ frames = div-mul-le_self frames rate in
          let u : frames < frames / rate * rate + rate = lt-div-mul-add x.least in
          let v : frames < seconds * rate + rate = rw t at u in
          record {
            channels_are = ap (λ (s : Sound). s.channels) i;
            frames_are = f;
            sample_size_is = ap (λ (s : Sound). s.sample_size) i;
            rate_is = x;
            not_over = rw t at o;
            not_under = omega (arith, v);
          }
      go None q h = cc

-- the call's answer: a sound is given exactly if the bytes are an AIFF whose one 'COMM' holds 18 bytes that say it
module _ (b : List ℕ) (channels frames sampleSize rate seconds : ℕ) where
  abbrev Plays : Type 0
  Plays = (is_aiff_of b ≡ true) × ((d : List ℕ) × ((common_of b ≡ Some d) × Says d channels frames sampleSize rate seconds))

  pub says_length : Plays → length_of b ≡ sound channels frames sampleSize rate seconds
  unfolding length_of
  says_length (a, (d, (e, s))) = rw (a, e) (says_sound d channels frames sampleSize rate seconds s)

  pub length_says : length_of b ≡ sound channels frames sampleSize rate seconds → Plays
  unfolding length_of
  length_says h = go (is_aiff_of b) refl (common_of b) refl h
    where
      go : (x : Bool) → is_aiff_of b ≡ x → (c : Option (List ℕ)) → common_of b ≡ c
          → cond x (common_by c) (Refused 49 0) ≡ sound channels frames sampleSize rate seconds → Plays
      go true a (Some d) e q = (a, (d, (e, sound_says d channels frames sampleSize rate seconds q)))
      go true a None e q = cc
      go false a c e q = cc

-- Which bytes are an AIFF. A header of this length and data of this type are a single 'FORM',
form_holds : (d : List ℕ) → 4 ≤ length d → rd32 d ≡ AIFF → length d < W → is_form_of (be32 FORM ++ (be32 (length d) ++ d)) ≡ true
unfolding is_form_of
form_holds d long type small =
    let b : List ℕ = be32 FORM ++ (be32 (length d) ++ d) in
    let form : FORM < W = omega arith in
    let l : length b ≡ 8 + length d = simp (length-append, length-be32) (omega arith) in
    let e0 : rd32 b ≡ FORM = rd32-be32 FORM (be32 (length d) ++ d) form in
    let e4 : rd32 (drop 4 b) ≡ length d = ap rd32 (drop-be32 FORM (be32 (length d) ++ d)) ∙ rd32-be32 (length d) d small in
    let e8 : rd32 (drop 8 b) ≡ AIFF = ap rd32 (drop_two FORM (length d) d) ∙ type in
    both_true _ _ (le-leb 12 (length b) (omega (arith, l)))
    (both_true _ _ (eq-eqb _ _ e0) (both_true _ _ (eq-eqb (8 + rd32 (drop 4 b)) (length b) (omega (arith, l, e4))) (eq-eqb _ _ e8)))

-- and every chunk takes an even number of bytes,
total-even : (cs : List Chunk) → total cs % 2 ≡ 0
unfolding total size sized
total-even [] = refl
total-even (c ∷ cs) = omega (arith, total-even cs)

module _ (cs : List Chunk) where
  abbrev held : List ℕ
  held = be32 AIFF ++ chunks_bytes cs

  held-length : length held ≡ 4 + total cs
  held-length = simp (length-append, length-be32, length-chunks_bytes)

  -- so that the 'FORM' has no padding byte
  no_padding_lem : aiff_bytes cs ≡ be32 FORM ++ (be32 (length held) ++ held)
  unfolding chunk_bytes
  no_padding_lem =
      let z : length held % 2 ≡ 0 = omega (arith, held-length, total-even cs) in
      rw (z, append-nil held)

  aiff-length : length (aiff_bytes cs) ≡ 12 + total cs
  aiff-length = ap length no_padding_lem ∙ simp (length-append, length-be32, length-chunks_bytes) (omega arith)

  behind : drop 12 (aiff_bytes cs) ≡ chunks_bytes cs
  behind = ap (drop 12) no_padding_lem ∙ drop_three FORM (length held) AIFF (chunks_bytes cs)

  -- What 49 means: the bytes of "a single 'FORM' of type 'AIFF' filled by chunks of rule 2" are taken for one,
  pub single-aiff : 4 + total cs < W → is_aiff_of (aiff_bytes cs) ≡ true
  unfolding walk_from
  single-aiff h =
      let type : rd32 held ≡ AIFF = rd32-be32 AIFF (chunks_bytes cs) (omega arith) in
      let form = form_holds held (omega (arith, held-length)) type (omega (arith, held-length)) in
      let walk : walk_from (aiff_bytes cs) 12 ≡ accept
      = ap (walk_fault (length (aiff_bytes cs)) 12) behind ∙ walk_fine (length (aiff_bytes cs)) 12 cs (omega arith) in
      sym (filled (aiff_bytes cs) (ap is_form_of no_padding_lem ∙ form) walk)

  -- its chunks being those,
  pub single-chunks : All ChunkOk cs → total cs < W → chunks_of (aiff_bytes cs) ≡ cs
  unfolding chunks_of
  single-chunks ok small =
      let same = chunks_of-file_bytes cs ok small in
      rw (aiff-length, behind) (rw (length-file_bytes cs, drop_header cs) at same)

-- and no others are
pub aiff-single : (b : List ℕ) → All Byte b → is_aiff_of b ≡ true → aiff_bytes (chunks_of b) ≡ b
unfolding is_aiff_of is_form_of chunks_of walk_from
aiff-single b bytes e =
    let f = and_both (leb 12 (length b)) _ (and_both (is_form_of b) (is_filled b) e).0 in
    let g = and_both (eqb (rd32 b) FORM) _ f.1 in
    let h = and_both (eqb (8 + rd32 (drop 4 b)) (length b)) (eqb (rd32 (drop 8 b)) AIFF) g.1 in
    let long : 12 ≤ length b = leb-true _ _ f.0 in
    let e0 : rd32 b ≡ FORM = eqb-true _ _ g.0 in
    let e8 : rd32 (drop 8 b) ≡ AIFF = eqb-true _ _ h.1 in
    let e4 : 8 + rd32 (drop 4 b) ≡ length b = eqb-true _ _ h.0 in
    let l12 : length (drop 12 b) ≤ length b = simp length-drop (omega arith) in
    let back : chunks_bytes (chunks_of b) ≡ drop 12 b = (walk-back (length b) 12 (drop 12 b) (all_drop Byte 12 b bytes) l12 (aiff_walked b e)).0 in
    let t : length (held (chunks_of b)) ≡ rd32 (drop 4 b)
    = omega (arith, e4, held-length (chunks_of b), length-chunks_bytes (chunks_of b), simp length-drop at (ap length back)) in
    let a8 : take 4 (drop 8 b) ++ drop 12 b ≡ drop 8 b
    = ap (λ (s : List ℕ). take 4 (drop 8 b) ++ s) (sym (drop-drop 4 8 b)) ∙ take-append-drop 4 (drop 8 b) in
    let a4 : take 4 (drop 4 b) ++ drop 8 b ≡ drop 4 b
    = ap (λ (s : List ℕ). take 4 (drop 4 b) ++ s) (sym (drop-drop 4 4 b)) ∙ take-append-drop 4 (drop 4 b) in
    no_padding_lem (chunks_of b)
    ∙ rw (
      t,
      back,
      ← e0,
      ← e8,
      again b bytes (omega arith),
      again (drop 4 b) (all_drop Byte 4 b bytes) (simp length-drop (omega arith)),
      again (drop 8 b) (all_drop Byte 8 b bytes) (simp length-drop (omega arith)),
      a8,
      a4,
    )
    (take-append-drop 4 b)

-- "an AIFF as P3's lookup gives it": of a 'FORM' that rule 5 allows as a sound a lookup shows a single 'FORM' of type 'AIFF', its length field the size less 8.
-- So 49 says of it only that chunks of rule 2 do not fill it.
pub looked_up : (c : Chunk) → c.type ≡ FORM → plain_allows_of Snd c ≡ true → length c.body < W → is_form_of (shown c) ≡ true
unfolding shown plain_allows_of one_of
looked_up c t a small =
    let q : leb 4 (length c.body) && eqb (rd32 c.body) AIFF ≡ true = only _ (rw t at a) in
    let p = and_both (leb 4 (length c.body)) _ q in
    rw (t, ← left_form FORM refl) (form_holds c.body (leb-true _ _ p.0) (eqb-true _ _ p.1) small)
  where
    only : (x : Bool) → x || false || false ≡ true → x ≡ true
    only true h = refl
    only false h = h
