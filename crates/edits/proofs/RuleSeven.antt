-- Rule 7 (17 to 19) after an edit.
use mathlib.Core.Path.{◌≡◌, refl, ◌∙◌}
use Prim.Native.Nat.{ℕ, ◌+◌}
use mathlib.Core.List.{List, [], ◌∷◌, ◌++◌}
use mathlib.Core.Bool.{Bool, true, false, cond, ◌&&◌, not}
use native.Mathlib.Omega.{arith}
use lib.ListN.{length, get_or, get_or-append}
use lib.Dec.{eqb}
use Rattle.blorb.specs.Bytes.{rd32}
use Rattle.blorb.specs.Format.{Ref, Chunk, size}
use Rattle.blorb.specs.Verdict.{Verdict, accept, no_chunk}
use Rattle.blorb.specs.Tags.{Pict, Rect, RelN, Fspc}
use Rattle.blorb.specs.Rules.{allows, picture, single, chunk_rule, chunk_rules, optional}
use Rattle.blorb.specs.All.{All}
use Rattle.blorb.specs.Sound.{RefOk}
use Rattle.blorb.proofs.AllowedTypes.{allowed_not}
use Rattle.blorb.proofs.Checks.{then_accept, check_accept, pass, accepts, holds_last, or_map, then_end}

-- a picture that is there stays there
abbrev pub Kept : List Chunk → List Ref → List Chunk → List Ref → Type 0
Kept all rs all' rs' = (n : ℕ) → picture n all rs ≡ true → picture n all' rs' ≡ true

cond_accept : (b : Bool) (v w v' w' : Verdict) → (v ≡ accept → v' ≡ accept) → (w ≡ accept → w' ≡ accept) → cond b v w ≡ accept → cond b v' w' ≡ accept
cond_accept true v w v' w' f g h = f h
cond_accept false v w v' w' f g h = g h

single-any : (rs rs' : List Ref) (all all' : List Chunk) (t n : ℕ) (earlier : List Chunk) (at at' : ℕ) (c : Chunk) → single rs all t n earlier at c ≡ accept
    → single rs' all' t n earlier at' c ≡ accept
unfolding single
single-any rs rs' all all' t n earlier at at' c h =
    let a = then_accept _ _ h in
    pass _ _ _ _ (check_accept _ _ _ a.0) ∙ holds_last _ _ _ (check_accept _ _ _ a.1)

rule_kept : (rs rs' : List Ref) (all all' : List Chunk) (earlier : List Chunk) (at at' : ℕ) (c : Chunk) → Kept all rs all' rs'
    → chunk_rule rs all earlier at c ≡ accept → chunk_rule rs' all' earlier at' c ≡ accept
unfolding chunk_rule
rule_kept rs rs' all all' earlier at at' c k h =
    cond_accept (eqb c.type RelN) _ _ _ _ (single-any rs rs' all all' RelN 2 earlier at at' c)
    (cond_accept (eqb c.type Fspc) _ _ _ _
    (λ g. let a = then_accept _ _ g in accepts _ _ (single-any rs rs' all all' Fspc 4 earlier at at' c a.0)
    ∙ holds_last _ _ _ (k (rd32 c.body) (check_accept _ _ _ a.1)))
    (λ g. g)) h

pub rules_kept : (rs rs' : List Ref) (all all' : List Chunk) (earlier : List Chunk) (at at' : ℕ) (cs : List Chunk) → Kept all rs all' rs'
    → chunk_rules rs all earlier at cs ≡ accept → chunk_rules rs' all' earlier at' cs ≡ accept
unfolding chunk_rules
rules_kept rs rs' all all' earlier at at' [] k h = refl
rules_kept rs rs' all all' earlier at at' (c ∷ cs) k h =
    let a = then_accept _ _ h in
    accepts _ _ (rule_kept rs rs' all all' earlier at at' c k a.0) ∙ rules_kept rs rs' all all' (earlier ++ (c ∷ [])) (at + size c) (at' + size c) cs k
    a.1

-- a chunk that is neither 'RelN' nor 'Fspc' is passed over
pub record Plain (c : Chunk) : Type 0 where
  pub no_release : eqb c.type RelN ≡ false
  pub no_front : eqb c.type Fspc ≡ false

rule_plain : (rs : List Ref) (all earlier : List Chunk) (at : ℕ) (c : Chunk) → Plain c → chunk_rule rs all earlier at c ≡ accept
unfolding chunk_rule
rule_plain rs all earlier at c p = rw (p.no_release, p.no_front)

pub rules_append : (rs : List Ref) (all earlier : List Chunk) (at : ℕ) (cs : List Chunk) (c : Chunk) → Plain c
    → chunk_rules rs all earlier at cs ≡ accept → chunk_rules rs all earlier at (cs ++ (c ∷ [])) ≡ accept
unfolding chunk_rules
rules_append rs all earlier at [] c p h = then_end _ ∙ rule_plain rs all earlier at c p
rules_append rs all earlier at (x ∷ cs) c p h =
    let a = then_accept _ _ h in
    accepts _ _ a.0 ∙ rules_append rs all (earlier ++ (x ∷ [])) (at + size x) cs c p a.1

-- add: the pictures stay
picture_more : (n : ℕ) (cs : List Chunk) (c : Chunk) (rs : List Ref) (x : Ref) → All (RefOk (length cs)) rs → picture n cs rs ≡ true
    → picture n (cs ++ (c ∷ [])) (rs ++ (x ∷ [])) ≡ true
unfolding picture
picture_more n cs c [] x ok h = let z : ◌≡◌ {A = ℕ} 0 1 = cc in absurd (omega arith)
picture_more n cs c (r ∷ rs) x ok h =
    rw (get_or-append cs (c ∷ []) no_chunk r.chunk ok.0.chunk_there)
    (or_map (eqb r.usage Pict && eqb r.number n && not (eqb (get_or cs r.chunk no_chunk).type Rect)) (picture n cs rs)
    (picture n (cs ++ (c ∷ [])) (rs ++ (x ∷ []))) h (picture_more n cs c rs x ok.1))

-- after an add rule 7 holds
pub optional-added : (at at' : ℕ) (rs : List Ref) (cs : List Chunk) (x : Ref) (c : Chunk) → All (RefOk (length cs)) rs → Plain c
    → optional at rs cs ≡ accept → optional at' (rs ++ (x ∷ [])) (cs ++ (c ∷ [])) ≡ accept
unfolding optional
optional-added at at' rs cs x c ok p h =
    rules_append (rs ++ (x ∷ [])) (cs ++ (c ∷ [])) [] at' cs c p
    (rules_kept rs (rs ++ (x ∷ [])) cs (cs ++ (c ∷ [])) [] at at' cs (λ n e. picture_more n cs c rs x ok e) h)

-- what rule 5 allows is neither 'RelN' nor 'Fspc'
pub allowed_plain : (profile u : ℕ) (c : Chunk) → allows profile u c ≡ true → Plain c
allowed_plain profile u c h = let n = allowed_not profile u c h in record { no_release = n.1; no_front = n.2 }
