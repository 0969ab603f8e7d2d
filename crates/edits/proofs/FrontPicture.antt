-- The frontispiece's picture, and rule 7 after a replacement. No pair stands twice in an accepted file, so the picture that rule 7 asks for is the entry that
-- find gives; a replacement changes the type of one chunk alone.
use mathlib.Core.Path.{◌≡◌, refl, sym, ap, ◌∙◌}
use Prim.Native.Nat.{ℕ, zero, suc, ◌+◌, ◌<◌}
use mathlib.Core.List.{List, [], ◌∷◌, ◌++◌}
use mathlib.Core.Bool.{Bool, true, false, cond, ◌&&◌, ◌||◌, not, or-true, or-false}
use native.Mathlib.Omega.{arith}
use native.Mathlib.Nat.{le_of_suc-le-suc, not-suc-le-zero}
use lib.ListN.{length, get_or, take, drop, set}
use lib.Seq.{get_or-set_same, get_or-set_other}
use lib.Dec.{eqb, ltb}
use borrow.Author.Tests.{eqb-true, eqb-false, lt-ltb, ltb-true, not-true}
use Rattle.blorb.specs.Format.{Ref, Chunk}
use Rattle.blorb.specs.Verdict.{Rules, accept, check, no_chunk, pair_in, ref_fault}
use Rattle.blorb.specs.Tags.{Pict, Rect, Fspc}
use Rattle.blorb.specs.Rules.{picture, type_in, optional}
use Rattle.blorb.specs.Model.{start_of}
use Rattle.blorb.specs.Queries.{find, no_ref, without, uses, front_place, front_number}
use Rattle.blorb.proofs.Checks.{then_accept, check_accept, neither, and_both, or_map}
use Rattle.blorb.proofs.VerdictLaws.{refs_fault}
use Rattle.blorb.proofs.FindLaws.{find-pair, ltb-suc}
use Rattle.edits.proofs.RuleSeven.{Plain}
use Rattle.edits.proofs.FrontLaws.{like_set, optional_like, front-picture}

pair_left : (u n : ℕ) (a b : List Ref) → pair_in u n a ≡ true → pair_in u n (a ++ b) ≡ true
unfolding pair_in
pair_left u n [] b h = let z : ◌≡◌ {A = ℕ} 0 1 = cc in absurd (omega arith)
pair_left u n (r ∷ a) b h = or_map (eqb r.usage u && eqb r.number n) (pair_in u n a) (pair_in u n (a ++ b)) h (pair_left u n a b)

pub pair_right : (u n : ℕ) (a : List Ref) (r : Ref) → (eqb r.usage u && eqb r.number n) ≡ true → pair_in u n (a ++ (r ∷ [])) ≡ true
unfolding pair_in
pair_right u n [] r h = rw h
pair_right u n (x ∷ a) r h = rw (pair_right u n a r h) (or-true (eqb x.usage u && eqb x.number n))

-- no pair stands twice
pub pairs_once : (R : Rules) (cs : List Chunk) (e : List Ref) (p : ℕ) (rs : List Ref) (u n : ℕ) → pair_in u n e ≡ true → refs_fault R cs e p rs ≡ accept
    → pair_in u n rs ≡ false
unfolding refs_fault pair_in ref_fault
pairs_once R cs e p [] u n h ok = refl
pairs_once R cs e p (r ∷ rs) u n h ok =
    let a = then_accept _ _ ok in
    let b = then_accept _ _ a.1 in
    let d = then_accept _ _ (then_accept _ _ b.0).1 in
    let no16 : pair_in r.usage r.number e ≡ false = not-true _ (check_accept _ _ _ d.1) in
    rw (head (eqb r.usage u) (eqb r.number n) refl refl no16) (pairs_once R cs (e ++ (r ∷ [])) (p + 12) rs u n (pair_left u n e (r ∷ []) h) b.1)
  where
    head : (x y : Bool) → eqb r.usage u ≡ x → eqb r.number n ≡ y → pair_in r.usage r.number e ≡ false → (eqb r.usage u && eqb r.number n) ≡
        false
    head true true p q bad = let z : true ≡ false = sym h ∙ (λ i. pair_in (sym (eqb-true r.usage u p) i) (sym (eqb-true r.number n q) i) e) ∙ bad in cc
    head false y p q bad = rw p
    head true false p q bad = rw (p, q)

pub picture-none : (q : ℕ) (cs : List Chunk) (rs : List Ref) → pair_in Pict q rs ≡ false → picture q cs rs ≡ false
unfolding picture pair_in
picture-none q cs [] h = refl
picture-none q cs (r ∷ rs) h =
    let o = neither (eqb r.usage Pict && eqb r.number q) (pair_in Pict q rs) h in
    rw o.0 (picture-none q cs rs o.1)

abbrev pub picture_at : ℕ → List Chunk → List Ref → Bool
picture_at q cs rs = ltb (find Pict q rs) (length rs) && not (eqb (get_or cs (get_or rs (find Pict q rs) no_ref).chunk no_chunk).type Rect)

pub picture-find : (R : Rules) (cs cs' : List Chunk) (e : List Ref) (p : ℕ) (rs : List Ref) (q : ℕ) → refs_fault R cs e p rs ≡ accept
    → picture q cs' rs ≡ picture_at q cs' rs
unfolding picture find refs_fault
picture-find R cs cs' e p [] q ok = refl
picture-find R cs cs' e p (r ∷ rs) q ok =
    let b = then_accept _ _ (then_accept _ _ ok).1 in
    go (eqb r.usage Pict && eqb r.number q) refl
    (λ h. picture-none q cs' rs (pairs_once R cs (e ++ (r ∷ [])) (p + 12) rs Pict q (pair_right Pict q e r h) b.1))
    (picture-find R cs cs' (e ++ (r ∷ [])) (p + 12) rs q b.1)
  where
    go : (b : Bool) → (eqb r.usage Pict && eqb r.number q) ≡ b → (b ≡ true → picture q cs' rs ≡ false) → picture q cs' rs ≡ picture_at q cs' rs
        → (b && not (eqb (get_or cs' r.chunk no_chunk).type Rect)) || picture q cs' rs ≡ ltb (cond b 0 (suc (find Pict q rs))) (suc (length rs)) && not
        (eqb (get_or cs' (get_or (r ∷ rs) (cond b 0 (suc (find Pict q rs))) no_ref).chunk no_chunk).type Rect)
    go true e f ih = rw (f refl, lt-ltb 0 (suc (length rs)) (omega arith)) (or-false (not (eqb (get_or cs' r.chunk no_chunk).type Rect)))
    go false e f ih = ih ∙ ap (λ (b : Bool). b && not (eqb (get_or cs' (get_or rs (find Pict q rs) no_ref).chunk no_chunk).type Rect))
        (sym (ltb-suc (find Pict q rs) (length rs)))

uses-at : (k j : ℕ) (rs : List Ref) → uses k rs ≡ false → j < length rs → eqb (get_or rs j no_ref).chunk k ≡ false
unfolding uses
uses-at k j [] h l = absurd (not-suc-le-zero l)
uses-at k zero (r ∷ rs) h l = (neither (eqb r.chunk k) (uses k rs) h).0
uses-at k (suc j) (r ∷ rs) h l = uses-at k j rs (neither (eqb r.chunk k) (uses k rs) h).1 (le_of_suc-le-suc l)

-- replace: the picture is lost just where the frontispiece's own picture becomes a 'Rect'
others_off : (k i j : ℕ) (rs : List Ref) → uses k (without i rs) ≡ false → j < length rs → (j ≡ i → ⊥) → eqb (get_or rs j no_ref).chunk k ≡ false
unfolding uses without
others_off k i j [] h l ne = absurd (not-suc-le-zero l)
others_off k zero zero (r ∷ rs) h l ne = absurd (ne refl)
others_off k zero (suc j) (r ∷ rs) h l ne = uses-at k j rs h (le_of_suc-le-suc l)
others_off k (suc i) zero (r ∷ rs) h l ne = (neither (eqb r.chunk k) (uses k (take i rs ++ drop (suc i) rs)) h).0
others_off k (suc i) (suc j) (r ∷ rs) h l ne = others_off k i j rs (neither (eqb r.chunk k) (uses k (take i rs ++ drop (suc i) rs)) h).1
    (le_of_suc-le-suc l) (λ e. ne (ap suc e))

pub picture-replaced : (R : Rules) (cs : List Chunk) (rs : List Ref) (u n q : ℕ) (c : Chunk)
    → refs_fault R cs [] 24 rs ≡ accept → find u n rs < length rs → uses (get_or rs (find u n rs) no_ref).chunk (without (find u n rs) rs) ≡ false
    → (get_or rs (find u n rs) no_ref).chunk < length cs → picture q cs rs ≡ true
    → picture q (set cs (get_or rs (find u n rs) no_ref).chunk c) rs ≡ not ((eqb u Pict && eqb n q) && eqb c.type Rect)
picture-replaced R cs rs u n q c ok found alone there old = go (eqb u Pict) (eqb n q) refl refl
  where
    i : ℕ
    i = find u n rs

    j : ℕ
    j = find Pict q rs

    k : ℕ
    k = (get_or rs (find u n rs) no_ref).chunk

    new : List Chunk
    new = set cs (get_or rs (find u n rs) no_ref).chunk c

    was : (ltb j (length rs) ≡ true) × (not (eqb (get_or cs (get_or rs j no_ref).chunk no_chunk).type Rect) ≡ true)
    was = and_both _ _ (sym (picture-find R cs cs [] 24 rs q ok) ∙ old)

    same : u ≡ Pict → n ≡ q → picture q new rs ≡ not (eqb c.type Rect)
    same eu en =
        let ej : j ≡ i = λ z. find (sym eu z) (sym en z) rs in
        picture-find R cs new [] 24 rs q ok
        ∙ ap (λ (a : ℕ). ltb a (length rs) && not (eqb (get_or new (get_or rs a no_ref).chunk no_chunk).type Rect)) ej
        ∙ rw (lt-ltb i (length rs) found, get_or-set_same cs k c no_chunk there)

    other : ((u ≡ Pict) × (n ≡ q) → ⊥) → picture q new rs ≡ true
    other ne =
        let lj : j < length rs = ltb-true _ _ was.0 in
        let pj = find-pair Pict q rs lj in
        let pi = find-pair u n rs found in
        let off : eqb (get_or rs j no_ref).chunk k ≡ false
        = others_off k i j rs alone lj (λ e. ne (
          sym pi.0 ∙ ap (λ (a : ℕ). (get_or rs a no_ref).usage) (sym e) ∙ pj.0,
          sym pi.1
              ∙ ap (λ (a : ℕ). (get_or rs a no_ref).number) (sym e) ∙ pj.1,
        )) in
        picture-find R cs new [] 24 rs q ok
        ∙ rw (get_or-set_other cs k (get_or rs j no_ref).chunk c no_chunk (eqb-false _ _ off), was.0, was.1)

    go : (x y : Bool) → eqb u Pict ≡ x → eqb n q ≡ y → picture q new rs ≡ not ((x && y) && eqb c.type Rect)
    go true true ex ey = same (eqb-true u Pict ex) (eqb-true n q ey)
    go true false ex ey = other (λ e. eqb-false n q ey e.1)
    go false y ex ey = other (λ e. eqb-false u Pict ex e.0)

-- the whole of rule 7 for a replacement: 119 just where the frontispiece's picture becomes a 'Rect', at the frontispiece's place in the new file
pub optional-replaced : (R : Rules) (at at' : ℕ) (cs : List Chunk) (rs : List Ref) (u n : ℕ) (c : Chunk)
    → refs_fault R cs [] 24 rs ≡ accept → optional at rs cs ≡ accept → find u n rs < length rs → uses (get_or rs (find u n rs) no_ref).chunk
    (without (find u n rs) rs) ≡ false
    → (get_or rs (find u n rs) no_ref).chunk < length cs → Plain (get_or cs (get_or rs (find u n rs) no_ref).chunk no_chunk) → Plain c
    → optional at' rs (set cs (get_or rs (find u n rs) no_ref).chunk c)
    ≡ cond (type_in Fspc cs)
    (check (not ((eqb u Pict && eqb n (front_number cs)) && eqb c.type Rect)) 19
    (start_of at' (set cs (get_or rs (find u n rs) no_ref).chunk c) (front_place (set cs (get_or rs (find u n rs) no_ref).chunk c)) + 8))
    accept
optional-replaced R at at' cs rs u n c ok seven found alone there o p =
    optional_like at at' rs rs cs (set cs (get_or rs (find u n rs) no_ref).chunk c) (like_set cs (get_or rs (find u n rs) no_ref).chunk c there o p) seven
    ∙ go (type_in Fspc cs) refl (λ h. picture-replaced R cs rs u n (front_number cs) c ok found alone there (front-picture at rs cs seven h))
  where
    new : List Chunk
    new = set cs (get_or rs (find u n rs) no_ref).chunk c

    go : (b : Bool) → type_in Fspc cs ≡ b → (b ≡ true → picture (front_number cs) new rs ≡ not ((eqb u Pict && eqb n (front_number cs)) && eqb c.type Rect))
        → cond b (check (picture (front_number cs) new rs) 19 (start_of at' new (front_place new) + 8)) accept
        ≡ cond b (check (not ((eqb u Pict && eqb n (front_number cs)) && eqb c.type Rect)) 19 (start_of at' new (front_place new) + 8)) accept
    go true e f = ap (λ (b : Bool). check b 19 (start_of at' new (front_place new) + 8)) (f refl)
    go false e f = refl
