-- What is left to judge of a file after a link, where the file before it was accepted: 11, 12 and 14 to 16 of the new entry. No chunk comes in and no picture
-- goes, so 9 and 17 to 19 can't arise. A pair that is there already is repeated by the later of the two entries, which may be the old one (02, P8).
use mathlib.Core.Path.{◌≡◌, refl, sym, ap, ◌∙◌}
use Prim.Native.Nat.{ℕ, zero, suc, ◌+◌, ◌*◌, ◌≤◌}
use mathlib.Core.List.{List, [], ◌∷◌, ◌++◌}
use mathlib.Core.Bool.{Bool, true, false, cond, ◌||◌, not, or-false}
use native.Mathlib.Omega.{arith}
use native.Mathlib.Nat.{le_of_suc-le-suc, not-suc-le-zero}
use lib.ListN.{length, get_or}
use lib.Dec.{eqb, leb, ltb}
use borrow.Author.Tests.{not-true, lt-ltb, le-ltb}
use Rattle.blorb.specs.Format.{Ref, Chunk}
use Rattle.blorb.specs.Tags.{Exec}
use Rattle.blorb.specs.Verdict.{Rules, Verdict, accept, refuse, ◌then◌, check, no_chunk, ref_fault, pair_in, known_usage_of}
use Rattle.blorb.specs.Queries.{find, front_number}
use Rattle.blorb.specs.Rules.{optional, rules_of}
use Rattle.blorb.specs.Model.{Model, base}
use Rattle.edits.proofs.FrontLaws.{like_self}
use Rattle.edits.proofs.InsertJudged.{front_stays, picture-with, length-with}
use Rattle.edits.proofs.JudgedLaws.{model_parts}
use Rattle.edits.proofs.FitLaws.{link_place_le}
use Rattle.blorb.proofs.Checks.{then_accept, check_accept, pass, stop, accepts, holds_last, fails_last, is_accept, then_assoc, then_end}
use Rattle.blorb.proofs.VerdictLaws.{refs_fault, model_fault}
use Rattle.blorb.proofs.FindLaws.{ltb-suc}
use Rattle.edits.specs.Edit.{with_at, entered, linked, link_place_of}
use Rattle.edits.proofs.AddVerdict.{second-any}
use Rattle.edits.proofs.ReadBack.{same}
use Rattle.edits.proofs.UndoVerdict.{More, pair_snoc, more_keep, same_turn}

module _ (R : Rules) (cs : List Chunk) (x : Ref) where
  -- the entries behind x: the first that has its pair repeats it
  ref_behind : (e e' : List Ref) (p q : ℕ) (r : Ref) → More x e e' → ref_fault R cs e p r ≡ accept → ref_fault R cs e' q r ≡ check
      (not (same r x.usage x.number)) 16 q
  unfolding ref_fault
  ref_behind e e' p q r m ok =
      let a = then_accept _ _ ok in
      let b = then_accept _ _ a.1 in
      let none : pair_in r.usage r.number e ≡ false = not-true _ (check_accept _ _ _ b.1) in
      let t : pair_in r.usage r.number e' ≡ same r x.usage x.number = m r.usage r.number ∙ rw none (or-false (same x r.usage r.number))
      ∙ same_turn x r in
      pass _ _ _ _ (check_accept _ _ _ a.0) ∙ pass _ _ _ _ (check_accept _ _ _ b.0) ∙ ap (λ (z : Bool). check (not z) 16 q) t

  refs_behind : (e e' : List Ref) (p q : ℕ) (rs : List Ref) → More x e e' → refs_fault R cs e p rs ≡ accept
      → refs_fault R cs e' q rs ≡ check (not (pair_in x.usage x.number rs)) 16 (q + 12 * find x.usage x.number rs)
  unfolding refs_fault pair_in find
  refs_behind e e' p q [] m ok = sym (holds_last _ _ _ refl)
  refs_behind e e' p q (r ∷ rs) m ok =
      let a = then_accept _ _ ok in
      let b = then_accept _ _ a.1 in
      pass _ _ _ _ (check_accept _ _ _ a.0)
      ∙ ap (λ (v : Verdict). v then refs_fault R cs (e' ++ (r ∷ [])) (q + 12) rs) (ref_behind e e' p q r m b.0)
      ∙ go (same r x.usage x.number) (refs_behind (e ++ (r ∷ [])) (e' ++ (r ∷ [])) (p + 12) (q + 12) rs (more_keep x r e e' m) b.1)
    where
      go : (t : Bool) → refs_fault R cs (e' ++ (r ∷ [])) (q + 12) rs ≡ check (not (pair_in x.usage x.number rs)) 16
          (q + 12 + 12 * find x.usage x.number rs)
          → check (not t) 16 q then refs_fault R cs (e' ++ (r ∷ [])) (q + 12) rs
          ≡ check (not (t || pair_in x.usage x.number rs)) 16 (q + 12 * cond t 0 (suc (find x.usage x.number rs)))
      go true ih =
          let z : q ≡ q + 12 * 0 = omega arith in
          stop _ _ _ _ refl ∙ ap (refuse 16) z ∙ sym (fails_last _ _ _ refl)
      go false ih =
          let z : q + 12 + 12 * find x.usage x.number rs ≡ q + 12 * suc (find x.usage x.number rs) = omega arith in
          pass _ _ _ _ refl ∙ ih ∙ ap (check (not (pair_in x.usage x.number rs)) 16) z

  -- 12, 14 and 15 of x itself, at p
  abbrev pub own : ℕ → Verdict → Verdict
  own p v = check (known_usage_of x.usage) 12 p then check (R.rule5 x.usage (get_or cs x.chunk no_chunk)) 14 p then check
      (not (eqb x.usage Exec) || eqb x.number 0) 15 (p + 4) then v

  -- where the pair is met the second time: x stands at p + 12 × i, b tells whether the pair stands before p
  abbrev pub again : Bool → ℕ → ℕ → List Ref → ℕ
  again b p i rs = cond (b || ltb (find x.usage x.number rs) i) (p + 12 * i) (p + 12 * suc (find x.usage x.number rs))

  first : (e : List Ref) (p : ℕ) (rs : List Ref) → refs_fault R cs e p rs ≡ accept
      → refs_fault R cs e p (x ∷ rs) ≡ own p (check (not (pair_in x.usage x.number e || pair_in x.usage x.number rs)) 16
      (again (pair_in x.usage x.number e) p 0 rs))
  unfolding refs_fault ref_fault
  first e p rs ok =
      ap (λ (v : Verdict). check (known_usage_of x.usage) 12 p then v)
      (then_assoc _ _ _ ∙ ap (λ (v : Verdict). check (R.rule5 x.usage (get_or cs x.chunk no_chunk)) 14 p then v)
      (then_assoc _ _ _ ∙ ap (λ (v : Verdict). check (not (eqb x.usage Exec) || eqb x.number 0) 15 (p + 4) then v)
      (ap (λ (v : Verdict). check (not (pair_in x.usage x.number e)) 16 p then v) (refs_behind e (e ++ (x ∷ [])) p (p + 12) rs
      (λ a b. pair_snoc a b e x) ok)
      ∙ go (pair_in x.usage x.number e))))
    where
      f : ℕ
      f = find x.usage x.number rs

      go : (b : Bool) → check (not b) 16 p then check (not (pair_in x.usage x.number rs)) 16 (p + 12 + 12 * f)
          ≡ check (not (b || pair_in x.usage x.number rs)) 16 (again b p 0 rs)
      go true =
          let z : p ≡ p + 12 * 0 = omega arith in
          stop _ _ _ _ refl ∙ ap (refuse 16) z ∙ sym (fails_last _ _ _ refl)
      go false =
          let z : p + 12 + 12 * f ≡ p + 12 * suc f = omega arith in
          let w : 0 ≤ find x.usage x.number rs = omega arith in
          let t : ltb (find x.usage x.number rs) 0 ≡ false = le-ltb (find x.usage x.number rs) 0 w in
          pass _ _ _ _ refl ∙ rw t (ap (check (not (pair_in x.usage x.number rs)) 16) z)

  -- an entry put in at i
  pub refs_entered : (e : List Ref) (p i : ℕ) (rs : List Ref) → i ≤ length rs → refs_fault R cs e p rs ≡ accept
      → refs_fault R cs e p (with_at i x rs)
      ≡ own (p + 12 * i) (check (not (pair_in x.usage x.number e || pair_in x.usage x.number rs)) 16 (again (pair_in x.usage x.number e) p i rs))
  unfolding with_at refs_fault
  refs_entered e p zero rs l ok =
      let z : p ≡ p + 12 * 0 = omega arith in
      first e p rs ok ∙ ap (λ (k : ℕ). own k (check (not (pair_in x.usage x.number e || pair_in x.usage x.number rs)) 16
      (again (pair_in x.usage x.number e) p 0 rs))) z
  refs_entered e p (suc i) [] l ok = absurd (not-suc-le-zero l)
  refs_entered e p (suc i) (r ∷ rs) l ok =
      let a = then_accept _ _ ok in
      let b = then_accept _ _ a.1 in
      let z : p + 12 + 12 * i ≡ p + 12 * suc i = omega arith in
      pass _ _ _ _ (check_accept _ _ _ a.0) ∙ accepts _ _ b.0
      ∙ refs_entered (e ++ (r ∷ [])) (p + 12) i rs (le_of_suc-le-suc l) b.1
      ∙ ap (λ (k : ℕ). own k (check (not (pair_in x.usage x.number (e ++ (r ∷ [])) || pair_in x.usage x.number rs)) 16
      (again (pair_in x.usage x.number (e ++ (r ∷ []))) (p + 12) i rs))) z
      ∙ ap (own (p + 12 * suc i)) (turn r (pair_snoc x.usage x.number e r))
    where
      turn : (r : Ref) → pair_in x.usage x.number (e ++ (r ∷ [])) ≡ (same r x.usage x.number || pair_in x.usage x.number e)
          → check (not (pair_in x.usage x.number (e ++ (r ∷ [])) || pair_in x.usage x.number rs)) 16
          (again (pair_in x.usage x.number (e ++ (r ∷ []))) (p + 12) i rs)
          ≡ check (not (pair_in x.usage x.number e || pair_in x.usage x.number (r ∷ rs))) 16 (again (pair_in x.usage x.number e) p (suc i)
          (r ∷ rs))
      turn r h = unfold pair_in find in rw h (go (same r x.usage x.number) (pair_in x.usage x.number e))
        where
          f : ℕ
          f = find x.usage x.number rs

          z : p + 12 + 12 * i ≡ p + 12 * suc i
          z = omega arith

          w : p + 12 + 12 * suc f ≡ p + 12 * suc (suc f)
          w = omega arith

          go : (s b : Bool) → check (not ((s || b) || pair_in x.usage x.number rs)) 16 (cond ((s || b) || ltb f i) (p + 12 + 12 * i) (p + 12 + 12 * suc f))
              ≡ check (not (b || (s || pair_in x.usage x.number rs))) 16 (cond (b || ltb (cond s 0 (suc f)) (suc i)) (p + 12 * suc i)
              (p + 12 * suc (cond s 0 (suc f))))
          go true true = ap (check false 16) z
          go true false = rw (lt-ltb 0 (suc i) (omega arith)) (ap (check false 16) z)
          go false true = ap (check false 16) z
          go false false = rw (ltb-suc f i) (λ k. check (not (pair_in x.usage x.number rs)) 16 (cond (ltb f i) (z k) (w k)))

-- the whole verdict of an accepted model after a link on its chunk k: 11, then the new entry, then the pair; 9 and rule 7 can't be at fault
pub linked-verdict : (profile : ℕ) (m : Model) (k u n : ℕ) → model_fault (rules_of profile) m ≡ accept
    → model_fault (rules_of profile) (linked m k u n)
    ≡ check (leb (suc (length m.refs)) 4096) 11 20
    then own (rules_of profile) m.chunks (record { usage = u; number = n; chunk = k }) (24 + 12 * link_place_of k m.refs)
    (check (not (pair_in u n m.refs)) 16 (again (rules_of profile) m.chunks (record { usage = u; number = n; chunk = k }) false 24
    (link_place_of k m.refs) m.refs))
unfolding model_fault linked entered pair_in
linked-verdict profile m k u n ok =
    let p = model_parts profile m ok in
    let x : Ref = record { usage = u; number = n; chunk = k } in
    let i : ℕ = link_place_of k m.refs in
    let at : ℕ = base (length m.refs) in
    let at' : ℕ = base (suc (length m.refs)) in
    let seven : optional at' (with_at i x m.refs) m.chunks ≡ accept
    = is_accept _ (front_stays at at' m.refs (with_at i x m.refs) m.chunks m.chunks (like_self m.chunks) p.seven
    (picture-with (front_number m.chunks) m.chunks i x m.refs)) in
    let refs = refs_entered (rules_of profile) m.chunks x [] 24 i m.refs (link_place_le k m.refs) p.entries_fine in
    rw (length-with i x m.refs, second-any at at' m.chunks p.no_second, seven)
    (accepts _ _ refl ∙ ap (λ (v : Verdict). check (leb (suc (length m.refs)) 4096) 11 20 then v) (then_end _ ∙ refs))
