-- After a removal from an accepted file 12 to 16 don't hold, and neither does 9: only rule 7 is left to judge.
use mathlib.Core.Path.{◌≡◌, refl, ap, ◌∙◌}
use Prim.Native.Nat.{ℕ, zero, suc, ◌+◌, ◌-◌, ◌≤◌, ◌<◌}
use mathlib.Core.List.{List, [], ◌∷◌, ◌++◌, map}
use mathlib.Core.Bool.{Bool, true, false, cond, ◌&&◌, not}
use native.Mathlib.Omega.{arith}
use native.Mathlib.Nat.{le_of_suc-le-suc, not-suc-le-zero}
use lib.ListN.{get_or}
use lib.Dec.{eqb, ltb}
use borrow.Author.Tests.{eqb-false, ltb-true, ltb-false, not-true}
use Rattle.blorb.specs.Format.{Ref, Chunk}
use Rattle.blorb.specs.Verdict.{Rules, accept, ref_fault, pair_in, no_chunk}
use Rattle.blorb.specs.Queries.{uses, without}
use Rattle.edits.specs.Edit.{lower}
use Rattle.blorb.proofs.Checks.{then_accept, check_accept, pass, accepts, holds_last, neither}
use Rattle.blorb.proofs.VerdictLaws.{refs_fault}
use Rattle.edits.proofs.Starts.{map-append}

-- the chunk of an entry is the same before and after chunk k has gone
get_or-before : (cs : List Chunk) (k j : ℕ) → j < k → get_or (without k cs) j no_chunk ≡ get_or cs j no_chunk
unfolding without
get_or-before [] zero j h = refl
get_or-before [] (suc k) j h = refl
get_or-before (c ∷ cs) zero j h = absurd (not-suc-le-zero h)
get_or-before (c ∷ cs) (suc k) zero h = refl
get_or-before (c ∷ cs) (suc k) (suc j) h = get_or-before cs k j (le_of_suc-le-suc h)

get_or-behind : (cs : List Chunk) (k j : ℕ) → k ≤ j → get_or (without k cs) j no_chunk ≡ get_or cs (suc j) no_chunk
unfolding without
get_or-behind [] zero j h = refl
get_or-behind [] (suc k) j h = refl
get_or-behind (c ∷ cs) zero j h = refl
get_or-behind (c ∷ cs) (suc k) zero h = absurd (not-suc-le-zero h)
get_or-behind (c ∷ cs) (suc k) (suc j) h = get_or-behind cs k j (le_of_suc-le-suc h)

pub same-chunk : (cs : List Chunk) (k : ℕ) (r : Ref) → eqb r.chunk k ≡ false → get_or (without k cs) (lower k r).chunk no_chunk ≡ get_or cs r.chunk no_chunk
unfolding lower
same-chunk cs k r h = go (ltb k r.chunk) refl
  where
    go : (b : Bool) → ltb k r.chunk ≡ b → get_or (without k cs) (cond b (r.chunk - 1) r.chunk) no_chunk ≡ get_or cs r.chunk no_chunk
    go true e =
        let lt = ltb-true k r.chunk e in
        let s : suc (r.chunk - 1) ≡ r.chunk = omega arith in
        get_or-behind cs k (r.chunk - 1) (omega arith) ∙ ap (λ (j : ℕ). get_or cs j no_chunk) s
    go false e = get_or-before cs k r.chunk (omega (arith, ltb-false k r.chunk e, eqb-false r.chunk k h))

pub pair-lower : (k u n : ℕ) (rs : List Ref) → pair_in u n (map (lower k) rs) ≡ pair_in u n rs
unfolding pair_in lower
pair-lower k u n [] = refl
pair-lower k u n (r ∷ rs) = rw (pair-lower k u n rs)

-- fewer entries before
abbrev pub Fewer : List Ref → List Ref → Type 0
Fewer a b = (u n : ℕ) → pair_in u n a ≡ false → pair_in u n b ≡ false

pair-append : (u n : ℕ) (a b : List Ref) → pair_in u n a ≡ false → pair_in u n b ≡ false → pair_in u n (a ++ b) ≡ false
unfolding pair_in
pair-append u n [] b h k = k
pair-append u n (r ∷ a) b h k = let q = neither (eqb r.usage u && eqb r.number n) (pair_in u n a) h in rw q.0 (pair-append u n a b q.1 k)

pair_parts : (u n : ℕ) (a b : List Ref) → pair_in u n (a ++ b) ≡ false → (pair_in u n a ≡ false) × (pair_in u n b ≡ false)
unfolding pair_in
pair_parts u n [] b h = (refl, h)
pair_parts u n (r ∷ a) b h =
    let q = neither (eqb r.usage u && eqb r.number n) (pair_in u n (a ++ b)) h in
    let t = pair_parts u n a b q.1 in
    (rw q.0 t.0, t.1)

fewer_snoc : (a b : List Ref) (r : Ref) → Fewer a b → Fewer (a ++ (r ∷ [])) (b ++ (r ∷ []))
fewer_snoc a b r f u n h = let t = pair_parts u n a (r ∷ []) h in pair-append u n b (r ∷ []) (f u n t.0) t.1

module _ (R : Rules) where
  refs_lower : (cs : List Chunk) (k : ℕ) (earlier : List Ref) (p : ℕ) (rs : List Ref) → uses k rs ≡ false
      → refs_fault R (without k cs) (map (lower k) earlier) p (map (lower k) rs) ≡ refs_fault R cs earlier p rs
  unfolding refs_fault uses ref_fault
  refs_lower cs k earlier p [] h = refl
  refs_lower cs k earlier p (r ∷ rs) h =
      let q = neither (eqb r.chunk k) (uses k rs) h in
      rw (
        same-chunk cs k r q.0,
        pair-lower k (lower k r).usage (lower k r).number earlier,
        ← map-append (lower k) earlier (r ∷ []),
        refs_lower cs k
            (earlier ++ (r ∷ [])) (p + 12) rs q.1,
      )
      (unfold lower in refl)

  -- fewer entries before, other places: what was accepted still is
  ref_fewer : (cs : List Chunk) (a b : List Ref) (p q : ℕ) (r : Ref) → Fewer a b → ref_fault R cs a p r ≡ accept → ref_fault R cs b q r ≡ accept
  unfolding ref_fault
  ref_fewer cs a b p q r f h =
      let h1 = then_accept _ _ h in
      let h2 = then_accept _ _ h1.1 in
      pass _ _ _ _ (check_accept _ _ _ h1.0) ∙ pass _ _ _ _ (check_accept _ _ _ h2.0)
      ∙ holds_last _ _ _ (ap not (f r.usage r.number (not-true _ (check_accept _ _ _ h2.1))))

  pub refs_fewer : (cs : List Chunk) (a b : List Ref) (p q : ℕ) (rs : List Ref) → Fewer a b → refs_fault R cs a p rs ≡ accept → refs_fault R cs b q rs ≡ accept
  unfolding refs_fault
  refs_fewer cs a b p q [] f h = refl
  refs_fewer cs a b p q (r ∷ rs) f h =
      let h1 = then_accept _ _ h in
      let h2 = then_accept _ _ h1.1 in
      pass _ _ _ _ (check_accept _ _ _ h1.0) ∙ accepts _ _ (ref_fewer cs a b p q r f h2.0)
      ∙ refs_fewer cs (a ++ (r ∷ [])) (b ++ (r ∷ [])) (p + 12) (q + 12) rs (fewer_snoc a b r f) h2.1

  -- an entry less
  pub refs_without : (cs : List Chunk) (a b : List Ref) (p q : ℕ) (i : ℕ) (rs : List Ref) → Fewer a b → refs_fault R cs a p rs ≡ accept
      → refs_fault R cs b q (without i rs) ≡ accept
  unfolding refs_fault without
  refs_without cs a b p q zero [] f h = refl
  refs_without cs a b p q (suc i) [] f h = refl
  refs_without cs a b p q zero (r ∷ rs) f h =
      refs_fewer cs (a ++ (r ∷ [])) b (p + 12) q rs (λ u n e. f u n (pair_parts u n a (r ∷ []) e).0) (then_accept _ _ (then_accept _ _ h).1).1
  refs_without cs a b p q (suc i) (r ∷ rs) f h =
      let h1 = then_accept _ _ h in
      let h2 = then_accept _ _ h1.1 in
      pass _ _ _ _ (check_accept _ _ _ h1.0) ∙ accepts _ _ (ref_fewer cs a b p q r f h2.0)
      ∙ refs_without cs (a ++ (r ∷ [])) (b ++ (r ∷ [])) (p + 12) (q + 12) i rs (fewer_snoc a b r f) h2.1

  -- 12 to 16 after a removal with the chunk
  pub refs_removed : (cs : List Chunk) (k i : ℕ) (rs : List Ref) → uses k (without i rs) ≡ false → refs_fault R cs [] 24 rs ≡ accept
      → refs_fault R (without k cs) [] 24 (map (lower k) (without i rs)) ≡ accept
  refs_removed cs k i rs alone h = refs_lower cs k [] 24 (without i rs) alone ∙ refs_without cs [] [] 24 24 i rs (λ u n e. e) h
