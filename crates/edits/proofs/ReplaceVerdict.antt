-- What is left to judge of a file after a replacement, where the file before it was accepted: 9, 14 and rule 7.
use mathlib.Core.Path.{◌≡◌, refl, ap, ◌∙◌}
use Prim.Native.Nat.{ℕ, zero, suc, ◌+◌, ◌*◌, ◌<◌}
use mathlib.Core.List.{List, [], ◌∷◌, ◌++◌}
use mathlib.Core.Bool.{false}
use native.Mathlib.Omega.{arith}
use native.Mathlib.Nat.{le_of_suc-le-suc, not-suc-le-zero}
use lib.ListN.{length, get_or, set}
use lib.Seq.{get_or-set_same, get_or-set_other}
use lib.Dec.{eqb}
use borrow.Author.Tests.{eqb-false}
use Rattle.blorb.specs.Format.{Ref, Chunk}
use Rattle.blorb.specs.Verdict.{Rules, Verdict, accept, ◌then◌, check, ref_fault, no_chunk}
use Rattle.blorb.specs.Queries.{uses, no_ref, without}
use Rattle.blorb.proofs.Checks.{then_accept, check_accept, pass, accepts, neither, then_end}
use Rattle.blorb.proofs.VerdictLaws.{refs_fault}

module _ (R : Rules) (cs : List Chunk) (k : ℕ) (c : Chunk) (there : k < length cs) where
  -- an entry on another chunk is judged as before
  other : (earlier : List Ref) (p : ℕ) (r : Ref) → eqb r.chunk k ≡ false → ref_fault R (set cs k c) earlier p r ≡ ref_fault R cs earlier p r
  unfolding ref_fault
  other earlier p r h = rw (get_or-set_other cs k r.chunk c no_chunk (eqb-false r.chunk k h))

  others : (earlier : List Ref) (p : ℕ) (rs : List Ref) → uses k rs ≡ false → refs_fault R (set cs k c) earlier p rs ≡ refs_fault R cs earlier p rs
  unfolding refs_fault uses
  others earlier p [] h = refl
  others earlier p (r ∷ rs) h =
      let q = neither (eqb r.chunk k) (uses k rs) h in
      rw (other earlier p r q.0, others (earlier ++ (r ∷ [])) (p + 12) rs q.1)

  -- the entry on the replaced chunk
  own : (earlier : List Ref) (p : ℕ) (r : Ref) → r.chunk ≡ k → ref_fault R cs earlier p r ≡ accept → ref_fault R (set cs k c) earlier p r ≡ check
      (R.rule5 r.usage c) 14 p
  unfolding ref_fault
  own earlier p r e h =
      let g : get_or (set cs k c) r.chunk no_chunk ≡ c = rw e (get_or-set_same cs k c no_chunk there) in
      rw g (ap (λ (v : Verdict). check (R.rule5 r.usage c) 14 p then v) (then_accept _ _ h).1 ∙ then_end _)

  pub refs_replaced : (earlier : List Ref) (p : ℕ) (rs : List Ref) (i : ℕ) → i < length rs → (get_or rs i no_ref).chunk ≡ k → uses k (without i rs) ≡ false
      → refs_fault R cs earlier p rs ≡ accept → refs_fault R (set cs k c) earlier p rs ≡ check (R.rule5 (get_or rs i no_ref).usage c) 14 (p + 12 * i)
  unfolding refs_fault uses without
  refs_replaced earlier p [] i h e alone ok = absurd (not-suc-le-zero h)
  refs_replaced earlier p (r ∷ rs) zero h e alone ok =
      let a = then_accept _ _ ok in
      let b = then_accept _ _ a.1 in
      let z : p ≡ p + 12 * 0 = omega arith in
      pass _ _ _ _ (check_accept _ _ _ a.0)
      ∙ ap (λ (v : Verdict). ref_fault R (set cs k c) earlier p r then v) (others (earlier ++ (r ∷ [])) (p + 12) rs alone ∙ b.1)
      ∙ then_end _ ∙ own earlier p r e b.0 ∙ ap (check (R.rule5 r.usage c) 14) z
  refs_replaced earlier p (r ∷ rs) (suc i) h e alone ok =
      let a = then_accept _ _ ok in
      let b = then_accept _ _ a.1 in
      let q = neither (eqb r.chunk k) (uses k (without i rs)) alone in
      let z : p + 12 + 12 * i ≡ p + 12 * suc i = omega arith in
      pass _ _ _ _ (check_accept _ _ _ a.0)
      ∙ accepts _ _ (other earlier p r q.0 ∙ b.0)
      ∙ refs_replaced (earlier ++ (r ∷ [])) (p + 12) rs i (le_of_suc-le-suc h) e q.1 b.1
      ∙ ap (check (R.rule5 (get_or rs i no_ref).usage c) 14) z
