-- Rule 7 after any edit: only a frontispiece can be at fault (19), and where. An edit takes out or puts in plain chunks only (Like), so the optional
-- chunks before each place stay the same and 17 and 18 hold as they did.
use mathlib.Core.Path.{◌≡◌, refl, sym, ap, ◌∙◌}
use Prim.Native.Nat.{ℕ, zero, suc, ◌+◌, ◌<◌}
use mathlib.Core.List.{List, [], ◌∷◌, ◌++◌}
use mathlib.Core.Bool.{Bool, true, false, cond, ◌||◌, not, or-true, or-false, or_assoc}
use native.Mathlib.Omega.{arith}
use native.Mathlib.Nat.{le_of_suc-le-suc, not-suc-le-zero}
use lib.ListN.{length, get_or, set}
use lib.Dec.{eqb}
use borrow.Author.Tests.{eqb-true, not-true}
use Rattle.blorb.specs.Bytes.{rd32}
use Rattle.blorb.specs.Format.{Ref, Chunk, size, total}
use Rattle.blorb.specs.Verdict.{Verdict, accept, ◌then◌, check, no_chunk}
use Rattle.blorb.specs.Tags.{RelN, Fspc}
use Rattle.blorb.specs.Rules.{picture, type_in, single, chunk_rule, chunk_rules, optional}
use Rattle.blorb.specs.Model.{start_of}
use Rattle.blorb.specs.Queries.{without, front_place, front_number}
use Rattle.edits.specs.Edit.{with_at}
use Rattle.blorb.proofs.Checks.{then_accept, check_accept, pass, accepts, holds_last, neither, then_end}
use Rattle.edits.proofs.RuleSeven.{Plain}

-- the second list is the first with chunks taken out or put in that are neither 'RelN' nor 'Fspc'
pub data Like : List Chunk → List Chunk → Type 0 where
  none : Like [] []
  keep : (c : Chunk) {a b : List Chunk} → Like a b → Like (c ∷ a) (c ∷ b)
  out : (c : Chunk) {a b : List Chunk} → Plain c → Like a b → Like (c ∷ a) b
  put : (c : Chunk) {a b : List Chunk} → Plain c → Like a b → Like a (c ∷ b)

pub like_self : (a : List Chunk) → Like a a
like_self [] = none
like_self (c ∷ a) = keep c (like_self a)

pub like_set : (a : List Chunk) (k : ℕ) (c : Chunk) → k < length a → Plain (get_or a k no_chunk) → Plain c → Like a (set a k c)
like_set [] k c h o p = absurd (not-suc-le-zero h)
like_set (x ∷ a) zero c h o p = out x o (put c p (like_self a))
like_set (x ∷ a) (suc k) c h o p = keep x (like_set a k c (le_of_suc-le-suc h) o p)

pub like_without : (a : List Chunk) (k : ℕ) → k < length a → Plain (get_or a k no_chunk) → Like a (without k a)
unfolding without
like_without [] k h o = absurd (not-suc-le-zero h)
like_without (x ∷ a) zero h o = out x o (like_self a)
like_without (x ∷ a) (suc k) h o = keep x (like_without a k (le_of_suc-le-suc h) o)

pub like_with : (a : List Chunk) (k : ℕ) (c : Chunk) → Plain c → Like a (with_at k c a)
unfolding with_at
like_with a zero c p = put c p (like_self a)
like_with [] (suc k) c p = put c p none
like_with (x ∷ a) (suc k) c p = keep x (like_with a k c p)

-- 19 alone
module _ (rs : List Ref) (all : List Chunk) where
  unfoldable pub front_one : ℕ → Chunk → Verdict
  front_one at c = cond (eqb c.type Fspc) (check (picture (rd32 c.body) all rs) 19 (at + 8)) accept

  unfoldable pub front_fault : ℕ → List Chunk → Verdict
  front_fault at [] = accept
  front_fault at (c ∷ cs) = front_one at c then front_fault (at + size c) cs

-- the same kinds of single chunks stood before
pub record Kinds (e e' : List Chunk) : Type 0 where
  pub release : type_in RelN e' ≡ type_in RelN e
  pub front : type_in Fspc e' ≡ type_in Fspc e

type_append : (t : ℕ) (a b : List Chunk) → type_in t (a ++ b) ≡ type_in t a || type_in t b
unfolding type_in
type_append t [] b = refl
type_append t (c ∷ a) b = rw (type_append t a b) (sym (or_assoc (eqb c.type t) (type_in t a) (type_in t b)))

one_type : (t : ℕ) (c : Chunk) → type_in t (c ∷ []) ≡ eqb c.type t
unfolding type_in
one_type t c = or-false (eqb c.type t)

kinds_keep : (e e' : List Chunk) (c : Chunk) → Kinds e e' → Kinds (e ++ (c ∷ [])) (e' ++ (c ∷ []))
kinds_keep e e' c k = record {
  release = rw (type_append RelN e' (c ∷ []), type_append RelN e (c ∷ []), k.release);
  front =
      rw (type_append Fspc e' (c ∷ []), type_append Fspc e (c ∷ []), k.front);
}

kinds_out : (e e' : List Chunk) (c : Chunk) → Plain c → Kinds e e' → Kinds (e ++ (c ∷ [])) e'
kinds_out e e' c p k = record {
  release = rw (type_append RelN e (c ∷ []), one_type RelN c, p.no_release, or-false (type_in RelN e)) k.release;
  front = rw (type_append Fspc e (c ∷ []), one_type Fspc c, p.no_front, or-false (type_in Fspc e)) k.front;
}

kinds_put : (e e' : List Chunk) (c : Chunk) → Plain c → Kinds e e' → Kinds e (e' ++ (c ∷ []))
kinds_put e e' c p k = record {
  release = rw (type_append RelN e' (c ∷ []), one_type RelN c, p.no_release, or-false (type_in RelN e')) k.release;
  front = rw (type_append Fspc e' (c ∷ []), one_type Fspc c, p.no_front, or-false (type_in Fspc e')) k.front;
}

single-again : (rs rs' : List Ref) (all all' : List Chunk) (t n : ℕ) (e e' : List Chunk) (at at' : ℕ) (c : Chunk) → type_in t e' ≡ type_in t e
    → single rs all t n e at c ≡ accept → single rs' all' t n e' at' c ≡ accept
unfolding single
single-again rs rs' all all' t n e e' at at' c q h =
    let a = then_accept _ _ h in
    pass _ _ _ _ (ap not q ∙ check_accept _ _ _ a.0) ∙ holds_last _ _ _ (check_accept _ _ _ a.1)

rule_front : (rs rs' : List Ref) (all all' : List Chunk) (e e' : List Chunk) (at at' : ℕ) (c : Chunk) → Kinds e e' → chunk_rule rs all e at c ≡ accept
    → chunk_rule rs' all' e' at' c ≡ front_one rs' all' at' c
unfolding chunk_rule front_one
rule_front rs rs' all all' e e' at at' c k h =
    go (eqb c.type RelN) (eqb c.type Fspc) refl refl h
  where
    apart : c.type ≡ RelN → eqb c.type Fspc ≡ false
    apart q = rw q

    go : (a b : Bool) → eqb c.type RelN ≡ a → eqb c.type Fspc ≡ b
        → cond a (single rs all RelN 2 e at c) (cond b (single rs all Fspc 4 e at c then check (picture (rd32 c.body) all rs) 19 (at + 8)) accept) ≡ accept
        → cond a (single rs' all' RelN 2 e' at' c) (cond b (single rs' all' Fspc 4 e' at' c then check (picture (rd32 c.body) all' rs') 19 (at' + 8)) accept)
        ≡ cond b (check (picture (rd32 c.body) all' rs') 19 (at' + 8)) accept
    go true b q r h =
        let z : b ≡ false = sym r ∙ apart (eqb-true c.type RelN q) in
        single-again rs rs' all all' RelN 2 e e' at at' c k.release h ∙ rw z
    go false true q r h = accepts _ _ (single-again rs rs' all all' Fspc 4 e e' at at' c k.front (then_accept _ _ h).0)
    go false false q r h = refl

-- the theorem: what was accepted before leaves only 19
pub rules_front : (rs rs' : List Ref) (all all' : List Chunk) (e e' : List Chunk) (at at' : ℕ) {a b : List Chunk} → Like a b → Kinds e e'
    → chunk_rules rs all e at a ≡ accept → chunk_rules rs' all' e' at' b ≡ front_fault rs' all' at' b
unfolding chunk_rules front_fault
rules_front rs rs' all all' e e' at at' none k h = refl
rules_front rs rs' all all' e e' at at' (keep c l) k h =
    let q = then_accept _ _ h in
    λ i. rule_front rs rs' all all' e e' at at' c k q.0 i then rules_front rs rs' all all' (e ++ (c ∷ [])) (e' ++ (c ∷ [])) (at + size c) (at' + size c) l
    (kinds_keep e e' c k) q.1 i
rules_front rs rs' all all' e e' at at' (out c p l) k h =
    rules_front rs rs' all all' (e ++ (c ∷ [])) e' (at + size c) at' l (kinds_out e e' c p k) (then_accept _ _ h).1
rules_front rs rs' all all' e e' at at' (put c p l) k h =
    let z : chunk_rule rs' all' e' at' c ≡ front_one rs' all' at' c = (unfold chunk_rule front_one in rw (p.no_release, p.no_front)) in
    λ i. z i then rules_front rs rs' all all' e (e' ++ (c ∷ [])) at (at' + size c) l (kinds_put e e' c p k) h i

-- ---- the frontispiece: its place and number
front-first : (rs : List Ref) (all e : List Chunk) (at : ℕ) (c : Chunk) → chunk_rule rs all e at c ≡ accept → eqb c.type Fspc ≡ true → type_in Fspc e ≡ false
unfolding chunk_rule single
front-first rs all e at c r q =
    let apart : eqb c.type RelN ≡ false = (let x : c.type ≡ Fspc = eqb-true c.type Fspc q in rw x) in
    let s = rw (apart, q) at r in
    not-true _ (check_accept _ _ _ (then_accept _ _ (then_accept _ _ s).0).0)

-- there is none behind the first
no_second : (rs : List Ref) (all e : List Chunk) (at : ℕ) (cs : List Chunk) → type_in Fspc e ≡ true → chunk_rules rs all e at cs ≡ accept → type_in Fspc cs ≡ false
unfolding chunk_rules type_in
no_second rs all e at [] h ok = refl
no_second rs all e at (c ∷ cs) h ok =
    let q = then_accept _ _ ok in
    let h' : type_in Fspc (e ++ (c ∷ [])) ≡ true = type_append Fspc e (c ∷ []) ∙ ap (λ (b : Bool). b || type_in Fspc (c ∷ [])) h in
    rw (head (eqb c.type Fspc) refl q.0) (no_second rs all (e ++ (c ∷ [])) (at + size c) cs h' q.1)
  where
    head : (b : Bool) → eqb c.type Fspc ≡ b → chunk_rule rs all e at c ≡ accept → eqb c.type Fspc ≡ false
    head false x r = x
    head true x r = x ∙ sym h ∙ front-first rs all e at c r x

abbrev pub Once : List Chunk → Type 0
Once [] = Unit {0}
Once (c ∷ cs) = (eqb c.type Fspc ≡ true → type_in Fspc cs ≡ false) × Once cs

pub once : (rs : List Ref) (all e : List Chunk) (at : ℕ) (cs : List Chunk) → chunk_rules rs all e at cs ≡ accept → Once cs
unfolding chunk_rules
once rs all e at [] ok = tt
once rs all e at (c ∷ cs) ok =
    let q = then_accept _ _ ok in (
      (λ x. no_second rs all (e ++ (c ∷ [])) (at + size c) cs (type_append Fspc e (c ∷ []) ∙ rw (one_type Fspc c, x) (or-true (type_in Fspc e))) q.1),
      once
          rs all (e ++ (c ∷ [])) (at + size c) cs q.1,
    )

pub like_type : {a b : List Chunk} → Like a b → type_in Fspc b ≡ type_in Fspc a
unfolding type_in
like_type none = refl
like_type (keep c l) = ap (λ (x : Bool). eqb c.type Fspc || x) (like_type l)
like_type (out c p l) = rw p.no_front (like_type l)
like_type (put c p l) = rw p.no_front (like_type l)

pub like_once : {a b : List Chunk} → Like a b → Once a → Once b
like_once none h = tt
like_once (keep c l) h = ((λ x. like_type l ∙ h.0 x), like_once l h.1)
like_once (out c p l) h = like_once l h.1
like_once (put c p l) h = ((λ x. let z : true ≡ false = sym x ∙ p.no_front in cc), like_once l h)

-- the frontispiece is the same chunk
pub like_front : {a b : List Chunk} → Like a b → get_or b (front_place b) no_chunk ≡ get_or a (front_place a) no_chunk
unfolding front_place
like_front none = refl
like_front {a = _} {b = _} (keep c {a} {b} l) = go (eqb c.type Fspc) (like_front l)
  where
    go : (x : Bool) → get_or b (front_place b) no_chunk ≡ get_or a (front_place a) no_chunk → get_or (c ∷ b) (cond x 0 (suc (front_place b))) no_chunk ≡ get_or (c ∷ a)
        (cond x 0 (suc (front_place a))) no_chunk
    go true h = refl
    go false h = h
like_front (out c p l) = rw p.no_front (like_front l)
like_front (put c p l) = rw p.no_front (like_front l)

front-none : (rs : List Ref) (all : List Chunk) (at : ℕ) (cs : List Chunk) → type_in Fspc cs ≡ false → front_fault rs all at cs ≡ accept
unfolding front_fault front_one type_in
front-none rs all at [] h = refl
front-none rs all at (c ∷ cs) h =
    let q = neither (eqb c.type Fspc) (type_in Fspc cs) h in
    accepts _ _ (ap (λ (b : Bool). cond b (check (picture (rd32 c.body) all rs) 19 (at + 8)) accept) q.0) ∙ front-none rs all (at + size c) cs q.1

next_start : (at : ℕ) (c : Chunk) (cs : List Chunk) (j : ℕ) → start_of (at + size c) cs j ≡ start_of at (c ∷ cs) (suc j)
unfolding start_of total
next_start at c cs j = omega arith

first-start : (at : ℕ) (cs : List Chunk) → at ≡ start_of at cs 0
unfolding start_of total
first-start at cs = omega arith

-- only the frontispiece is judged
pub front-shape : (rs : List Ref) (all : List Chunk) (at : ℕ) (cs : List Chunk) → Once cs
    → front_fault rs all at cs ≡ cond (type_in Fspc cs) (check (picture (front_number cs) all rs) 19 (start_of at cs (front_place cs) + 8)) accept
unfolding front_fault front_one type_in front_place
front-shape rs all at [] o = refl
front-shape rs all at (c ∷ cs) o = go (eqb c.type Fspc) refl o.0 (front-shape rs all (at + size c) cs o.1)
  where
    go : (b : Bool) → eqb c.type Fspc ≡ b → (eqb c.type Fspc ≡ true → type_in Fspc cs ≡ false)
        → front_fault rs all (at + size c) cs ≡ cond (type_in Fspc cs) (check (picture (front_number cs) all rs) 19 (start_of (at + size c) cs (front_place cs) +
        8)) accept
        → cond b (check (picture (rd32 c.body) all rs) 19 (at + 8)) accept then front_fault rs all (at + size c) cs
        ≡ cond (b || type_in Fspc cs) (check (picture (rd32 (get_or (c ∷ cs) (cond b 0 (suc (front_place cs))) no_chunk).body) all rs) 19
        (start_of at (c ∷ cs) (cond b 0 (suc (front_place cs))) + 8)) accept
    go true e f ih =
        ap (λ (v : Verdict). check (picture (rd32 c.body) all rs) 19 (at + 8) then v) (front-none rs all (at + size c) cs (f e)) ∙ then_end _
        ∙ ap (λ (p : ℕ). check (picture (rd32 c.body) all rs) 19 (p + 8)) (first-start at (c ∷ cs))
    go false e f ih = accepts accept _ refl ∙ ih ∙ ap (λ (p : ℕ). cond (type_in Fspc cs) (check (picture (front_number cs) all rs) 19 (p + 8)) accept)
        (next_start at c cs (front_place cs))

-- RULE 7 AFTER AN EDIT: 17 and 18 can't hold; 19 holds just where the frontispiece's picture is not there, at the place of the frontispiece in the new file
pub optional_like : (at at' : ℕ) (rs rs' : List Ref) (a b : List Chunk) → Like a b → optional at rs a ≡ accept
    → optional at' rs' b ≡ cond (type_in Fspc a) (check (picture (front_number a) b rs') 19 (start_of at' b (front_place b) + 8)) accept
unfolding optional
optional_like at at' rs rs' a b l h =
    rules_front rs rs' a b [] [] at at' l (record { release = refl; front = refl }) h
    ∙ front-shape rs' b at' b (like_once l (once rs a [] at a h))
    ∙ (λ i. cond (like_type l i) (check (picture (rd32 (like_front l i).body) b rs') 19 (start_of at' b (front_place b) + 8)) accept)

-- an accepted file's frontispiece has its picture
pub front-picture : (at : ℕ) (rs : List Ref) (cs : List Chunk) → optional at rs cs ≡ accept → type_in Fspc cs ≡ true → picture (front_number cs) cs rs ≡ true
front-picture at rs cs h e =
    let s = sym (optional_like at at rs rs cs cs (like_self cs) h) ∙ h in
    check_accept _ _ _ (ap (λ (b : Bool). cond b (check (picture (front_number cs) cs rs) 19 (start_of at cs (front_place cs) + 8)) accept) (sym e) ∙ s)
