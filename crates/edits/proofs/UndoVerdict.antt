-- For undo of kinds 3 and 4: whether the entries are accepted with one more put in anywhere among them.
use mathlib.Core.Path.{◌≡◌, refl, sym, ap, ◌∙◌}
use Prim.Native.Nat.{ℕ, zero, suc, ◌+◌}
use mathlib.Core.List.{List, [], ◌∷◌, ◌++◌}
use mathlib.Core.Bool.{Bool, true, false, ◌&&◌, ◌||◌, not, or_assoc}
use lib.ListN.{get_or, take, drop}
use lib.Dec.{eqb}
use borrow.Author.Tests.{eqb-true, eqb-false, eq-eqb, ne_eqb, not-true}
use Rattle.blorb.specs.Format.{Ref, Chunk}
use Rattle.blorb.specs.Tags.{tag}
use Rattle.blorb.specs.Verdict.{Rules, Verdict, accept, refuse, ◌then◌, check, no_chunk, ref_fault, pair_in, known_usage_of, accepted}
use Rattle.edits.specs.Edit.{with_at}
use Rattle.blorb.proofs.Checks.{then_accept, check_accept, pass, accepts, or_swap}
use Rattle.blorb.proofs.VerdictLaws.{refs_fault}
use Rattle.edits.proofs.ReadBack.{same}

-- acceptance goes check by check
pub accepted_then : (a b : Verdict) → accepted (a then b) ≡ accepted a && accepted b
unfolding ◌then◌
accepted_then accept b = refl
accepted_then (refuse k p) b = refl

pub accepted-check : (b : Bool) (k p : ℕ) → accepted (check b k p) ≡ b
unfolding check
accepted-check true k p = refl
accepted-check false k p = refl

-- e' has x more than e
abbrev pub More : Ref → List Ref → List Ref → Type 0
More x e e' = (u n : ℕ) → pair_in u n e' ≡ (same x u n || pair_in u n e)

pub pair_snoc : (u n : ℕ) (e : List Ref) (r : Ref) → pair_in u n (e ++ (r ∷ [])) ≡ (same r u n || pair_in u n e)
unfolding pair_in
pair_snoc u n [] r = refl
pair_snoc u n (x ∷ e) r = rw (pair_snoc u n e r) (or_swap (same x u n) (same r u n) (pair_in u n e))

pub more_keep : (x r : Ref) (e e' : List Ref) → More x e e' → More x (e ++ (r ∷ [])) (e' ++ (r ∷ []))
more_keep x r e e' m u n = rw (pair_snoc u n e' r, pair_snoc u n e r, m u n) (or_swap (same r u n) (same x u n) (pair_in u n e))

eqb-turn : (a b : ℕ) → eqb a b ≡ eqb b a
eqb-turn a b = go (eqb a b) refl
  where
    go : (x : Bool) → eqb a b ≡ x → x ≡ eqb b a
    go true e = sym (eq-eqb b a (sym (eqb-true a b e)))
    go false e = sym (ne_eqb b a (λ q. eqb-false a b e (sym q)))

pub same_turn : (x r : Ref) → same x r.usage r.number ≡ same r x.usage x.number
same_turn x r = λ i. eqb-turn x.usage r.usage i && eqb-turn x.number r.number i

module _ (R : Rules) (cs : List Chunk) (x : Ref) where
  -- the later entries, judged after x: only a repeat of x's pair can be at fault
  ref_after : (e e' : List Ref) (p q : ℕ) (r : Ref) → More x e e' → ref_fault R cs e p r ≡ accept → accepted (ref_fault R cs e' q r) ≡ not
      (same r x.usage x.number)
  unfolding ref_fault
  ref_after e e' p q r m ok =
      let a = then_accept _ _ ok in
      let b = then_accept _ _ a.1 in
      let t14 = check_accept _ _ _ a.0 in
      let t15 = check_accept _ _ _ b.0 in
      let t16 : pair_in r.usage r.number e ≡ false = not-true _ (check_accept _ _ _ b.1) in
      rw (accepted_then, accepted-check, t14, accepted_then, accepted-check, t15, accepted-check, m r.usage r.number, t16, same_turn x r)
      (last (same r x.usage x.number))
    where
      last : (a : Bool) → not (a || false) ≡ not a
      last true = refl
      last false = refl

  refs_after : (e e' : List Ref) (p q : ℕ) (rs : List Ref) → More x e e' → refs_fault R cs e p rs ≡ accept → accepted (refs_fault R cs e' q rs) ≡ not
      (pair_in x.usage x.number rs)
  unfolding refs_fault pair_in
  refs_after e e' p q [] m ok = refl
  refs_after e e' p q (r ∷ rs) m ok =
      let a = then_accept _ _ ok in
      let b = then_accept _ _ a.1 in
      let t12 = check_accept _ _ _ a.0 in
      accepted_then _ _ ∙ ap (λ (z : Bool). z && accepted (ref_fault R cs e' q r then refs_fault R cs (e' ++ (r ∷ [])) (q + 12) rs)) (accepted-check _ _ _ ∙ t12)
      ∙ accepted_then _ _ ∙ (λ i. ref_after e e' p q r m b.0 i && refs_after (e ++ (r ∷ [])) (e' ++ (r ∷ [])) (p + 12) (q + 12) rs (more_keep x r e e' m)
      b.1 i)
      ∙ join (same r x.usage x.number) (pair_in x.usage x.number rs)
    where
      join : (a b : Bool) → not a && not b ≡ not (a || b)
      join true b = refl
      join false b = refl

  -- x's own tests
  abbrev pub own_tests : Bool
  own_tests = known_usage_of x.usage && (R.rule5 x.usage (get_or cs x.chunk no_chunk) && (not (eqb x.usage (tag 69 120 101 99)) || eqb x.number 0))

  own : (e : List Ref) (p : ℕ) → accepted (ref_fault R cs e p x) ≡ (R.rule5 x.usage (get_or cs x.chunk no_chunk) &&
      ((not (eqb x.usage (tag 69 120 101 99)) || eqb x.number 0) && not (pair_in x.usage x.number e)))
  unfolding ref_fault
  own e p = simp (accepted_then, accepted-check)

  first : (e : List Ref) (p : ℕ) (rs : List Ref) → refs_fault R cs e p rs ≡ accept
      → accepted (refs_fault R cs e p (x ∷ rs)) ≡ own_tests && not (pair_in x.usage x.number e || pair_in x.usage x.number rs)
  unfolding refs_fault
  first e p rs ok =
      accepted_then _ _
      ∙ (λ i. accepted-check (known_usage_of x.usage) 12 p i && (accepted_then (ref_fault R cs e p x) (refs_fault R cs (e ++ (x ∷ [])) (p + 12) rs)
      ∙ (λ j. own e p j && refs_after e (e ++ (x ∷ [])) p (p + 12) rs (λ u n. pair_snoc u n e x) ok j)) i)
      ∙ join (known_usage_of x.usage) (R.rule5 x.usage (get_or cs x.chunk no_chunk)) (not (eqb x.usage (tag 69 120 101 99)) || eqb x.number 0)
      (pair_in x.usage x.number e) (pair_in x.usage x.number rs)
    where
      join : (a b c d f : Bool) → a && ((b && (c && not d)) && not f) ≡ (a && (b && c)) && not (d || f)
      join false b c d f = refl
      join true false c d f = refl
      join true true false d f = refl
      join true true true true f = refl
      join true true true false f = refl

  past : (e : List Ref) (p : ℕ) (r : Ref) (rs new : List Ref) → refs_fault R cs e p (r ∷ rs) ≡ accept
      → (refs_fault R cs (e ++ (r ∷ [])) (p + 12) rs ≡ accept → accepted (refs_fault R cs (e ++ (r ∷ [])) (p + 12) new) ≡ own_tests && not
      (pair_in x.usage x.number (e ++ (r ∷ [])) || pair_in x.usage x.number rs))
      → accepted (refs_fault R cs e p (r ∷ new)) ≡ own_tests && not (pair_in x.usage x.number e || pair_in x.usage x.number (r ∷ rs))
  unfolding refs_fault pair_in
  past e p r rs new ok ih =
      let a = then_accept _ _ ok in
      let b = then_accept _ _ a.1 in
      ap accepted (pass _ _ _ _ (check_accept _ _ _ a.0) ∙ accepts _ _ b.0) ∙ ih b.1
      ∙ ap (λ (z : Bool). own_tests && not (z || pair_in x.usage x.number rs)) (pair_snoc x.usage x.number e r)
      ∙ ap (λ (z : Bool). own_tests && not z) (or_assoc r-is before later ∙ or_swap r-is before later)
    where
      r-is : Bool
      r-is = same r x.usage x.number

      before : Bool
      before = pair_in x.usage x.number e

      later : Bool
      later = pair_in x.usage x.number rs

  -- ONE MORE ENTRY, ANYWHERE: accepted just where it passes its own tests and its pair is new
  pub refs_with : (e : List Ref) (p i : ℕ) (rs : List Ref) → refs_fault R cs e p rs ≡ accept
      → accepted (refs_fault R cs e p (with_at i x rs)) ≡ own_tests && not (pair_in x.usage x.number e || pair_in x.usage x.number rs)
  unfolding with_at
  refs_with e p zero rs ok = first e p rs ok
  refs_with e p (suc i) [] ok = first e p [] ok
  refs_with e p (suc i) (r ∷ rs) ok = past e p r rs (take i rs ++ x ∷ drop i rs) ok (λ h. refs_with (e ++ (r ∷ [])) (p + 12) i rs h)
