-- "A file accepted as plain is accepted under ADRIFT" (02, P12): the checks are the same but for rule 5, and ADRIFT allows what plain does.
use mathlib.Core.Path.{◌≡◌, refl, ◌∙◌}
use Prim.Native.Nat.{ℕ, ◌+◌}
use mathlib.Core.List.{List, [], ◌∷◌, ◌++◌}
use mathlib.Core.Bool.{Bool, true, false, ◌||◌, ◌&&◌}
use lib.ListN.{get_or}
use lib.Dec.{eqb, leb}
use Rattle.blorb.specs.Format.{Chunk, Entry, Ref, ref_of, chunks_of}
use Rattle.blorb.specs.Verdict.{Rules, accept, no_chunk, ref_fault, entries_fault, rest_fault, layout_fault, verdict, reading}
use Rattle.blorb.specs.Rules.{plain_allows_of, adrift_allows_of, allows, rules_of, profile_verdict}
use Rattle.blorb.proofs.Checks.{then_accept, check_accept, pass, accepts}

-- S allows all that R allows, and has its rule 7
pub record More (R S : Rules) : Type 0 where
  pub types : (u : ℕ) (c : Chunk) → R.rule5 u c ≡ true → S.rule5 u c ≡ true
  pub seven : (at : ℕ) (rs : List Ref) (cs : List Chunk) → R.rule7 at rs cs ≡ accept → S.rule7 at rs cs ≡ accept

module _ (R S : Rules) (more : More R S) where
  ref_more : (cs : List Chunk) (earlier : List Ref) (p : ℕ) (r : Ref) → ref_fault R cs earlier p r ≡ accept → ref_fault S cs earlier p r ≡ accept
  unfolding ref_fault
  ref_more cs earlier p r h =
      let a = then_accept _ _ h in
      pass _ _ _ _ (more.types r.usage (get_or cs r.chunk no_chunk) (check_accept _ _ _ a.0)) ∙ a.1

  entries_more : (at : ℕ) (cs : List Chunk) (earlier : List Ref) (p : ℕ) (es : List Entry)
      → entries_fault R at cs earlier p es ≡ accept → entries_fault S at cs earlier p es ≡ accept
  unfolding entries_fault
  entries_more at cs earlier p [] h = refl
  entries_more at cs earlier p (e ∷ es) h =
      let a = then_accept _ _ h in
      let b = then_accept _ _ a.1 in
      let c = then_accept _ _ b.1 in
      let d = then_accept _ _ c.1 in
      pass _ _ _ _ (check_accept _ _ _ a.0) ∙ pass _ _ _ _ (check_accept _ _ _ b.0)
      ∙ accepts _ _ (ref_more cs earlier p (ref_of at cs e) c.0) ∙ pass _ _ _ _ (check_accept _ _ _ d.0)
      ∙ entries_more at cs (earlier ++ (ref_of at cs e ∷ [])) (p + 12) es d.1

  layout_more : (cs : List Chunk) → layout_fault R cs ≡ accept → layout_fault S cs ≡ accept
  unfolding layout_fault rest_fault
  layout_more [] h = h
  layout_more (c ∷ cs) h =
      let a = then_accept _ _ h in
      let b = then_accept _ _ a.1 in
      let d = then_accept _ _ b.1 in
      let e = then_accept _ _ d.1 in
      pass _ _ _ _ (check_accept _ _ _ a.0) ∙ accepts _ _ b.0 ∙ accepts _ _ d.0
      ∙ accepts _ _ (entries_more _ cs [] 24 _ e.0) ∙ more.seven _ _ cs e.1

  pub verdict_more : (f : List ℕ) → verdict R f ≡ accept → verdict S f ≡ accept
  unfolding verdict
  verdict_more f h =
      let a = then_accept _ _ h in
      let b = then_accept _ _ a.1 in
      accepts _ _ a.0 ∙ accepts _ _ b.0 ∙ layout_more (chunks_of f) b.1

plain_more : (p : ℕ) → More (rules_of 0) (rules_of p)
unfolding allows
plain_more p = record { types = λ u c h. go (plain_allows_of u c) (adrift_allows_of u c.type) h; seven = λ at rs cs h. h }
  where
    go : (a b : Bool) → a || (eqb 0 1 && b) ≡ true → a || (eqb p 1 && b) ≡ true
    go true b h = refl
    go false b h = let z : ◌≡◌ {A = Bool} false true = h in cc

-- "A file accepted as plain is accepted under ADRIFT"
pub plain_adrift : (f : List ℕ) → profile_verdict 0 f ≡ accept → profile_verdict 1 f ≡ accept
unfolding profile_verdict reading
plain_adrift f h = pass _ _ _ _ refl ∙ verdict_more (rules_of 0) (rules_of 1) (plain_more 1) f (then_accept _ _ h).1

-- profile 0 is 01's own
pub plain_zero : (u : ℕ) (c : Chunk) → allows 0 u c ≡ plain_allows_of u c
unfolding allows
plain_zero u c = go (plain_allows_of u c)
  where
    go : (a : Bool) → a || (eqb 0 1 && adrift_allows_of u c.type) ≡ a
    go true = refl
    go false = refl

-- a file accepted under a profile: the profile is known, and the table accepts it
pub profile_accept : (p : ℕ) (f : List ℕ) → profile_verdict p f ≡ accept → (leb p 1 ≡ true) × (verdict (rules_of p) f ≡ accept)
unfolding profile_verdict reading
profile_accept p f h = let a = then_accept _ _ h in (check_accept _ _ _ a.0, a.1)

pub profile_known : (p : ℕ) (f : List ℕ) → leb p 1 ≡ true → profile_verdict p f ≡ verdict (rules_of p) f
unfolding profile_verdict reading
profile_known p f h = pass _ _ _ _ h
