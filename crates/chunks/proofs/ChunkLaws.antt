-- What stands from an offset on: the walk over chunks, the chunk at its head, and chunks that are ordinary. A walk goes by one chunk at a time, so each
-- law is that of a single step; how many steps a list allows does not matter once it is enough (walk_same, chunks-same).
use mathlib.Core.Path.{◌≡◌, refl, sym, ap, ◌∙◌}
use Prim.Native.Nat.{ℕ, zero, suc, ◌+◌, ◌-◌, ◌%◌, ◌≤◌, ◌<◌}
use mathlib.Core.List.{List, [], ◌∷◌}
use mathlib.Core.Bool.{Bool, true, false, ◌&&◌, ◌||◌, and-true}
use native.Mathlib.Omega.{arith}
use native.Mathlib.Nat.{not-suc-le-zero}
use lib.ListN.{length, get_or, drop, length-drop, drop_of_length-le}
use lib.Seq.{drop-drop, length-take-le, get_or-drop}
use lib.Dec.{eqb}
use borrow.Author.Tests.{eq-eqb, ne_eqb, le-leb, lt-leb, leb-true, lt-ltb, le-ltb, not-true}
use Rattle.chunks.specs.Ordinary.{ordinary_type, all_ordinary, Along}
use Rattle.blorb.specs.Tags.{RelN, Fspc, RIdx}
use Rattle.blorb.specs.Bytes.{rd32}
use Rattle.blorb.specs.Format.{Chunk, sized, size, chunk_in, chunks_in}
use Rattle.blorb.specs.Verdict.{Verdict, accept, refuse, check, ◌then◌, chunk_fault, walk_fault, second_index}
use Rattle.chunks.specs.Walk.{chunk_from, next_at, chunks_from, walk_from, skip_at, first_fault}
use Rattle.blorb.proofs.Checks.{then_accept, check_accept, pass, stop, holds_last, fails_last, accepts, refuses, and_both, neither}
use Rattle.blorb.proofs.VerdictLaws.{walk_step, walk-nil}
use Rattle.blorb.proofs.Codec.{chunks_in-step, chunks_in-nil}

-- the step of a walk
shorter : (k n : ℕ) (s : List ℕ) → 0 < length s → length s ≤ suc k → length (drop (sized n) s) ≤ k
unfolding sized
shorter k n s z h = rw (length-drop (sized n) s) (omega arith)

walk_same : (k j at : ℕ) (s : List ℕ) → length s ≤ k → length s ≤ j → walk_fault k at s ≡ walk_fault j at s
unfolding walk_fault
walk_same zero zero at s h g = refl
walk_same zero (suc j) at [] h g = refl
walk_same zero (suc j) at (b ∷ s) h g = absurd (not-suc-le-zero h)
walk_same (suc k) zero at [] h g = refl
walk_same (suc k) zero at (b ∷ s) h g = absurd (not-suc-le-zero g)
walk_same (suc k) (suc j) at [] h g = refl
walk_same (suc k) (suc j) at (b ∷ s) h g =
    ap (λ (v : Verdict). chunk_fault at (b ∷ s) then v)
    (walk_same k j (at + sized (rd32 (drop 4 (b ∷ s)))) (drop (sized (rd32 (drop 4 (b ∷ s)))) (b ∷ s))
    (shorter k _ (b ∷ s) (omega arith) h) (shorter j _ (b ∷ s) (omega arith) g))

chunks-same : (k j : ℕ) (s : List ℕ) → length s ≤ k → length s ≤ j → chunks_in k s ≡ chunks_in j s
unfolding chunks_in
chunks-same zero zero s h g = refl
chunks-same zero (suc j) [] h g = refl
chunks-same zero (suc j) (b ∷ s) h g = absurd (not-suc-le-zero h)
chunks-same (suc k) zero [] h g = refl
chunks-same (suc k) zero (b ∷ s) h g = absurd (not-suc-le-zero g)
chunks-same (suc k) (suc j) [] h g = refl
chunks-same (suc k) (suc j) (b ∷ s) h g =
    ap (λ (l : List Chunk). chunk_in (b ∷ s) ∷ l)
    (chunks-same k j (drop (sized (rd32 (drop 4 (b ∷ s)))) (b ∷ s)) (shorter k _ (b ∷ s) (omega arith) h) (shorter j _ (b ∷ s) (omega arith) g))

module _ (f : List ℕ) (at : ℕ) where
  dropped : length (drop at f) ≤ length f
  dropped = rw (length-drop at f) (omega arith)

  pub walk_end : length f ≤ at → walk_from f at ≡ accept
  unfolding walk_from
  walk_end h = rw (drop_of_length-le f h) (walk-nil (length f) at)

  pub chunks_end : length f ≤ at → chunks_from f at ≡ []
  unfolding chunks_from
  chunks_end h = rw (drop_of_length-le f h) (chunks_in-nil (length f))

  pub walk_on : at < length f
      → walk_from f at ≡ chunk_fault at (drop at f) then walk_from f (at + sized (rd32 (drop 4 (drop at f))))
  unfolding walk_from
  walk_on h =
      let n : ℕ = sized (rd32 (drop 4 (drop at f))) in
      let z : 0 < length (drop at f) = rw (length-drop at f) (omega arith) in
      let l : length (drop at f) ≤ suc (length f) = omega (arith, dropped) in
      walk_same (length f) (suc (length f)) at (drop at f) dropped l ∙ walk_step (length f) at (drop at f) z
      ∙ ap (λ (d : List ℕ). chunk_fault at (drop at f) then walk_fault (length f) (at + n) d) (drop-drop n at f)

  pub chunks_on : at < length f → chunks_from f at ≡ chunk_from f at ∷ chunks_from f (at + sized (rd32 (drop 4 (drop at f))))
  unfolding chunks_from
  chunks_on h =
      let n : ℕ = sized (rd32 (drop 4 (drop at f))) in
      let z : 0 < length (drop at f) = rw (length-drop at f) (omega arith) in
      let l : length (drop at f) ≤ suc (length f) = omega (arith, dropped) in
      chunks-same (length f) (suc (length f)) (drop at f) dropped l ∙ chunks_in-step (length f) (drop at f) z
      ∙ ap (λ (d : List ℕ). chunk_in (drop at f) ∷ chunks_in (length f) d) (drop-drop n at f)

-- a chunk without fault, whatever stands behind it
pub record Whole (f : List ℕ) (at : ℕ) : Type 0 where
  pub header : at + 8 ≤ length f
  pub past : at + 8 ≤ next_at f at
  pub inside : next_at f at ≤ length f
  pub bodied : length (chunk_from f at).body ≡ rd32 (drop (at + 4) f)
  pub next : skip_at f at ≡ next_at f at
  pub chunks : chunks_from f at ≡ chunk_from f at ∷ chunks_from f (next_at f at)

body-length : (s : List ℕ) (m : ℕ) → m ≡ rd32 (drop 4 s) → 8 + m ≤ length s → length (chunk_in s).body ≡ m
unfolding chunk_in
body-length s m e h = rw (← e) (length-take-le m (drop 8 s) (simp length-drop (omega arith)))

pub whole : (f : List ℕ) (at : ℕ) → at < length f → chunk_fault at (drop at f) ≡ accept → Whole f at
unfolding chunk_fault sized size
whole f at h w =
    let m : ℕ = rd32 (drop 4 (drop at f)) in
    let d : drop 4 (drop at f) ≡ drop (at + 4) f = drop-drop 4 at f in
    let e : m ≡ rd32 (drop (at + 4) f) = ap rd32 d in
    let q = then_accept _ _ w in
    let r = then_accept _ _ (then_accept _ _ q.1).1 in
    let l8 : 8 ≤ length (drop at f) = leb-true _ _ (check_accept _ _ _ q.0) in
    let lm : 8 + (m + m % 2) ≤ length (drop at f) = leb-true _ _ (check_accept _ _ _ r.0) in
    let ld : length (drop at f) ≡ length f - at = length-drop at f in
    let b : length (chunk_from f at).body ≡ m = body-length (drop at f) m refl (omega arith) in
    let n2 : at + sized m ≡ next_at f at = rw b refl in
    record {
      header = omega arith;
      past = omega arith;
      inside = omega arith;
      bodied = b ∙ e;
      next = rw (← e) n2;
      chunks = chunks_on f at h ∙ ap (λ (k : ℕ). chunk_from f at ∷ chunks_from f k) n2;
    }

-- an accepted walk's first chunk, and the rest of the walk
pub walk-chunk : (f : List ℕ) (at : ℕ) → at < length f → walk_from f at ≡ accept
    → (chunk_fault at (drop at f) ≡ accept) × (walk_from f (at + sized (rd32 (drop 4 (drop at f)))) ≡ accept)
walk-chunk f at h w = then_accept _ _ (sym (walk_on f at h) ∙ w)

pub fine : (f : List ℕ) (at : ℕ) → at < length f → walk_from f at ≡ accept → Whole f at
fine f at h w = whole f at h (walk-chunk f at h w).0

pub walk-behind : (f : List ℕ) (at : ℕ) → at < length f → walk_from f at ≡ accept → walk_from f (next_at f at) ≡ accept
unfolding sized
walk-behind f at h w = rw (drop-drop 4 at f, (fine f at h w).next) at (walk-chunk f at h w).1

-- 6, 28, 29 and 7 of one chunk, by facts on its numbers
module _ (f : List ℕ) (at m : ℕ) (h : at < length f) where
  ld : length (drop at f) ≡ length f - at
  ld = length-drop at f

  pub chunk_header : length f - at < 8 → refuse 6 at ≡ chunk_fault at (drop at f)
  unfolding chunk_fault
  chunk_header l = let k : length (drop at f) < 8 = omega (arith, ld) in sym (stop _ _ _ _ (lt-leb _ _ k))

  module _ (e : m ≡ rd32 (drop (at + 4) f)) (l8 : 8 ≤ length f - at) where
    em : rd32 (drop 4 (drop at f)) ≡ m
    em = ap rd32 (drop-drop 4 at f) ∙ sym e

    k8 : 8 ≤ length (drop at f)
    k8 = omega (arith, ld)

    pub chunk-long : length f < at + (8 + m) → refuse 28 (at + 4) ≡ chunk_fault at (drop at f)
    unfolding chunk_fault
    chunk-long l =
        let k : length (drop at f) < 8 + m = omega (arith, ld) in
        rw em (sym (pass _ _ _ _ (le-leb _ _ k8) ∙ stop _ _ _ _ (lt-leb _ _ k)))

    module _ (lm : at + (8 + m) ≤ length f) where
      km : 8 + m ≤ length (drop at f)
      km = omega (arith, ld)

      -- with all of the chunk there, only the padding byte is asked about
      padded : 8 + (m + m % 2) ≤ length (drop at f)
          → chunk_fault at (drop at f) ≡ check (eqb (m % 2) 0 || eqb (get_or (drop at f) (8 + m) 0) 0) 7 (at + (8 + m))
      unfolding chunk_fault sized
      padded kp = rw em (pass _ _ _ _ (le-leb _ _ k8) ∙ pass _ _ _ _ (le-leb _ _ km) ∙ pass _ _ _ _ (le-leb _ _ kp))

      pub chunk-even : m % 2 ≡ 0 → accept ≡ chunk_fault at (drop at f)
      chunk-even z = sym (padded (omega (arith, km)) ∙ holds_last _ _ _ (rw (eq-eqb (m % 2) 0 z)))

      module _ (z : m % 2 ≡ 0 → ⊥) where
        odd : m % 2 ≡ 1
        odd = omega arith

        pub chunk_unpadded : length f ≤ at + (8 + m) → refuse 29 (length f) ≡ chunk_fault at (drop at f)
        unfolding chunk_fault sized
        chunk_unpadded l =
            let k : length (drop at f) < 8 + (m + m % 2) = omega (arith, ld, odd) in
            let e : at + length (drop at f) ≡ length f = omega (arith, ld) in
            ap (refuse 29) (sym e) ∙ rw em (sym (pass _ _ _ _ (le-leb _ _ k8) ∙ pass _ _ _ _ (le-leb _ _ km) ∙ stop _ _ _ _ (lt-leb _ _ k)))

        module _ (lp : at + (8 + m) < length f) where
          kp : 8 + (m + m % 2) ≤ length (drop at f)
          kp = omega (arith, ld)

          pub chunk-odd : get_or f (at + (8 + m)) 0 ≡ 0 → accept ≡ chunk_fault at (drop at f)
          chunk-odd y = sym (padded kp ∙ holds_last _ _ _ (rw (ne_eqb (m % 2) 0 z, get_or-drop at f (8 + m) 0, eq-eqb _ _ y)))

          pub chunk_pad : (get_or f (at + (8 + m)) 0 ≡ 0 → ⊥) → refuse 7 (at + (8 + m)) ≡ chunk_fault at (drop at f)
          chunk_pad y = sym (padded kp ∙ fails_last _ _ _ (rw (ne_eqb (m % 2) 0 z, get_or-drop at f (8 + m) 0, ne_eqb _ _ y)))

-- the walk's loop
pub walk-next : (f : List ℕ) (at : ℕ) → at < length f → chunk_fault at (drop at f) ≡ accept → walk_from f (skip_at f at) ≡ walk_from f at
unfolding sized
walk-next f at h e = sym (walk_on f at h ∙ accepts _ _ e ∙ ap (λ (d : List ℕ). walk_from f (at + (8 + (rd32 d + rd32 d % 2)))) (drop-drop 4 at f))

pub walk-fault : (f : List ℕ) (at k p : ℕ) → at < length f → chunk_fault at (drop at f) ≡ refuse k p → refuse k p ≡ walk_from f at
walk-fault f at k p h e = sym (walk_on f at h ∙ refuses _ _ _ _ e)

pub chunk_good_header : (f : List ℕ) (at : ℕ) → at < length f → chunk_fault at (drop at f) ≡ accept → at + 8 ≤ length f
unfolding chunk_fault
chunk_good_header f at h e =
    let l8 : 8 ≤ length (drop at f) = leb-true _ _ (check_accept _ _ _ (then_accept _ _ e).0) in
    omega (arith, length-drop at f)

-- 8
module _ (f : List ℕ) where
  pub first-none : length f ≤ 12 → refuse 8 12 ≡ first_fault f
  unfolding first_fault
  first-none h = sym (fails_last _ _ _ (rw (le-ltb 12 (length f) h)))

  pub first_other : 12 < length f → (rd32 (drop 12 f) ≡ RIdx → ⊥) → refuse 8 12 ≡ first_fault f
  unfolding first_fault
  first_other l h = sym (fails_last _ _ _ (rw (lt-ltb 12 (length f) l, ne_eqb (rd32 (drop 12 f)) RIdx h)))

  pub first_good : 12 < length f → rd32 (drop 12 f) ≡ RIdx → accept ≡ first_fault f
  unfolding first_fault
  first_good l h = sym (holds_last _ _ _ (rw (lt-ltb 12 (length f) l, eq-eqb (rd32 (drop 12 f)) RIdx h)))

-- 9
module _ (f : List ℕ) (at : ℕ) where
  pub second_end : length f ≤ at → second_index at (chunks_from f at) ≡ accept
  unfolding second_index
  second_end h = rw (chunks_end f at h)

  module _ (h : at < length f) (w : walk_from f at ≡ accept) where
    pub second-next : (rd32 (drop at f) ≡ RIdx → ⊥) → second_index (skip_at f at) (chunks_from f (skip_at f at)) ≡ second_index at (chunks_from f at)
    unfolding second_index chunk_in
    second-next n = let i = fine f at h w in rw (i.chunks, i.next) (sym (pass _ _ _ _ (rw (ne_eqb (rd32 (drop at f)) RIdx n))))

    pub second_hit : rd32 (drop at f) ≡ RIdx → refuse 9 at ≡ second_index at (chunks_from f at)
    unfolding second_index chunk_in
    second_hit n = let i = fine f at h w in rw i.chunks (sym (stop _ _ _ _ (rw (eq-eqb (rd32 (drop at f)) RIdx n))))

    pub walked : walk_from f (skip_at f at) ≡ accept
    walked = rw (fine f at h w).next (walk-behind f at h w)

-- chunks that are ordinary
module _ (f : List ℕ) (at : ℕ) where
  pub ordinary_end : length f ≤ at → all_ordinary (chunks_from f at) ≡ true
  unfolding all_ordinary
  ordinary_end h = rw (chunks_end f at h)

  ordinary_on : at < length f → all_ordinary (chunks_from f at) ≡ ordinary_type (rd32 (drop at f)) && all_ordinary (chunks_from f (skip_at f at))
  unfolding all_ordinary chunk_in sized
  ordinary_on h = rw (chunks_on f at h, drop-drop 4 at f)

  pub ordinary_next : (t : ℕ) (p : Bool) → at < length f → t ≡ rd32 (drop at f) → p && ordinary_type t ≡ true
      → (p ≡ true) × (all_ordinary (chunks_from f at) ≡ all_ordinary (chunks_from f (skip_at f at)))
  ordinary_next t p h e o =
      let q = and_both _ _ o in
      let z : ordinary_type (rd32 (drop at f)) ≡ true = rw (← e) q.1 in
      (q.0, ordinary_on h ∙ rw z)

-- a walk that goes on by one chunk
pub along_next : (f : List ℕ) (from at n t : ℕ) (p o : Bool) → at < length f → chunk_fault at (drop at f) ≡ accept
    → t ≡ rd32 (drop at f) → o ≡ ordinary_type t → n ≡ skip_at f at → Along f from at p → Along f from n (p && o)
along_next f from at n t p o h e q k w a =
    rw (w, k) (record {
      rest = walk-next f at h e ∙ a.rest;
      ordinary = λ z. let b = ordinary_next f at t p h q z in sym b.1 ∙ a.ordinary b.0;
    })

-- by one ordinary chunk
pub along_on : (f : List ℕ) (from at n t : ℕ) (p : Bool) → at < length f → chunk_fault at (drop at f) ≡ accept
    → t ≡ rd32 (drop at f) → ordinary_type t ≡ true → n ≡ skip_at f at → Along f from at p → Along f from n p
along_on f from at n t p h e q k w a = rw (and-true p) at (along_next f from at n t p true h e q (sym k) w a)

pub ordinary_not : (t : ℕ) → ordinary_type t ≡ true → (eqb t RIdx ≡ false) × (eqb t RelN ≡ false) × (eqb t Fspc ≡ false)
ordinary_not t e =
    let a = neither (eqb t RIdx) (eqb t RelN || eqb t Fspc) (not-true _ e) in
    let b = neither (eqb t RelN) (eqb t Fspc) a.1 in
    (a.0, b.0, b.1)

pub no_ordinary : (v : Bool) → false ≡ true → v ≡ true
no_ordinary v e = let z : ◌≡◌ {A = ℕ} 0 1 = cc in absurd (omega arith)

pub ordinary_second : (cs : List Chunk) (at : ℕ) → all_ordinary cs ≡ true → second_index at cs ≡ accept
unfolding all_ordinary second_index
ordinary_second [] at e = refl
ordinary_second (c ∷ cs) at e =
    let q = and_both (ordinary_type c.type) (all_ordinary cs) e in
    let n : eqb c.type RIdx ≡ false = (ordinary_not c.type q.0).0 in
    pass _ _ _ _ (rw n) ∙ ordinary_second cs (at + size c) q.1
