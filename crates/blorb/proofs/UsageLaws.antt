-- Laws of usages and of rule 5.
use mathlib.Core.Path.{◌≡◌, refl, sym, ap, ◌∙◌}
use Prim.Native.Nat.{ℕ, ◌≤◌, ◌<◌}
use mathlib.Core.List.{List}
use mathlib.Core.Bool.{Bool, true, false, ◌&&◌, ◌||◌}
pub use mathlib.Core.Bool.{or-false, or_assoc}
use native.Mathlib.Omega.{arith}
use lib.ListN.{length, take}
use lib.Seq.{get_or-take}
use lib.Dec.{eqb, leb}
use borrow.Author.Tests.{eq-eqb, ne_eqb, eqb-true, le-leb, lt-leb}
use Rattle.blorb.specs.Bytes.{rd32}
use Rattle.blorb.specs.Tags.{FORM, AIFF}
use Rattle.blorb.specs.Format.{Chunk, chunk_of}
use Rattle.blorb.specs.Verdict.{known_usage_of}
use Rattle.blorb.specs.Rules.{plain_allows_of, adrift_allows_of, allows, one_of}
use Rattle.blorb.specs.declared.Usage.{Usage}
use Rattle.blorb.specs.declared.Usage.TheVariants.{Pict, Snd, Data, Exec}
use Rattle.std.specs.Prelude.{Some, None}
use Rattle.blorb.specs.Usages.{code_of, pick_known, usage_of, pict_type_of, snd_type_of, data_type_of, exec_type_of}

-- usages
known_go : (a b c d : Bool) (k : Usage) (u : ℕ) → (a ≡ true → u ≡ code_of Pict) → (b ≡ true → u ≡ code_of Snd) → (c ≡ true → u ≡ code_of Data)
    → (d ≡ true → u ≡ code_of Exec)
    → pick_known a (Some Pict) (pick_known b (Some Snd) (pick_known c (Some Data) (pick_known d (Some Exec) None))) ≡ Some k → (a || b || c || d ≡ true) × (u ≡ code_of k)
known_go true b c d k u p q r s e = (refl, let z : Pict ≡ k = cc in rw (← z) (p refl))
known_go false true c d k u p q r s e = (refl, let z : Snd ≡ k = cc in rw (← z) (q refl))
known_go false false true d k u p q r s e = (refl, let z : Data ≡ k = cc in rw (← z) (r refl))
known_go false false false true k u p q r s e = (refl, let z : Exec ≡ k = cc in rw (← z) (s refl))
known_go false false false false k u p q r s e = let z : ◌≡◌ {A = ℕ} 0 1 = cc in absurd (omega arith)

pub known_is : (u : ℕ) (k : Usage) → usage_of u ≡ Some k → (known_usage_of u ≡ true) × (u ≡ code_of k)
unfolding usage_of
known_is u k e = known_go (eqb u (code_of Pict)) (eqb u (code_of Snd)) (eqb u (code_of Data)) (eqb u (code_of Exec)) k u (eqb-true _ _) (eqb-true _ _)
    (eqb-true _ _) (eqb-true _ _) e

unknown_go : (a b c d : Bool) → pick_known a (Some Pict) (pick_known b (Some Snd) (pick_known c (Some Data) (pick_known d (Some Exec) None))) ≡ None
    → a || b || c || d ≡ false
unknown_go true b c d e = cc
unknown_go false true c d e = cc
unknown_go false false true d e = cc
unknown_go false false false true e = cc
unknown_go false false false false e = refl

pub known_not : (u : ℕ) → usage_of u ≡ None → known_usage_of u ≡ false
unfolding usage_of
known_not u e = unknown_go (eqb u (code_of Pict)) (eqb u (code_of Snd)) (eqb u (code_of Data)) (eqb u (code_of Exec)) e

-- rule 5 by usage
pub plain_pict : (c : Chunk) → plain_allows_of (code_of Pict) c ≡ pict_type_of c.type (length c.body)
unfolding plain_allows_of one_of
plain_pict c = simp (or-false, or_assoc)

pub plain_data : (c : Chunk) → plain_allows_of (code_of Data) c ≡ data_type_of c.type
unfolding plain_allows_of one_of
plain_data c = simp or-false

pub plain_exec : (c : Chunk) → plain_allows_of (code_of Exec) c ≡ exec_type_of c.type
unfolding plain_allows_of one_of
plain_exec c = simp or-false

pub plain_snd : (c : Chunk) → plain_allows_of (code_of Snd) c ≡ snd_type_of c.type || (eqb c.type FORM && leb 4 (length c.body) && eqb (rd32 c.body) AIFF)
unfolding plain_allows_of one_of
plain_snd c = simp (or-false, or_assoc)

pub rd32-take : (m : ℕ) (s : List ℕ) → 4 ≤ m → rd32 (take m s) ≡ rd32 s
unfolding rd32
rd32-take m s h = rw (get_or-take m s 0 0 (omega arith), get_or-take m s 1 0 (omega arith), get_or-take m s 2 0 (omega arith), get_or-take m s 3 0 (omega arith))

-- the answers of of_code
module _ (u : ℕ) where
  pub code_pict : u ≡ code_of Pict → Some Pict ≡ usage_of u
  unfolding usage_of
  code_pict e = rw (eq-eqb u (code_of Pict) e)

  module _ (n1 : u ≡ code_of Pict → ⊥) where
    pub code_snd : u ≡ code_of Snd → Some Snd ≡ usage_of u
    unfolding usage_of
    code_snd e = rw (ne_eqb u (code_of Pict) n1, eq-eqb u (code_of Snd) e)

    module _ (n2 : u ≡ code_of Snd → ⊥) where
      pub code-data : u ≡ code_of Data → Some Data ≡ usage_of u
      unfolding usage_of
      code-data e = rw (ne_eqb u (code_of Pict) n1, ne_eqb u (code_of Snd) n2, eq-eqb u (code_of Data) e)

      module _ (n3 : u ≡ code_of Data → ⊥) where
        pub code_exec : u ≡ code_of Exec → Some Exec ≡ usage_of u
        unfolding usage_of
        code_exec e = rw (ne_eqb u (code_of Pict) n1, ne_eqb u (code_of Snd) n2, ne_eqb u (code_of Data) n3, eq-eqb u (code_of Exec) e)

        pub code-none : (u ≡ code_of Exec → ⊥) → None ≡ usage_of u
        unfolding usage_of
        code-none n4 = rw (ne_eqb u (code_of Pict) n1, ne_eqb u (code_of Snd) n2, ne_eqb u (code_of Data) n3, ne_eqb u (code_of Exec) n4)

-- an unknown usage allows nothing
none_allowed : (a b c d x y z w : Bool) → a || b || c || d ≡ false → (a && x) || (b && y) || (c && z) || (d && w) ≡ false
none_allowed true b c d x y z w h = let q : ◌≡◌ {A = ℕ} 0 1 = cc in absurd (omega arith)
none_allowed false true c d x y z w h = let q : ◌≡◌ {A = ℕ} 0 1 = cc in absurd (omega arith)
none_allowed false false true d x y z w h = let q : ◌≡◌ {A = ℕ} 0 1 = cc in absurd (omega arith)
none_allowed false false false true x y z w h = let q : ◌≡◌ {A = ℕ} 0 1 = cc in absurd (omega arith)
none_allowed false false false false x y z w h = refl

pub plain_unknown : (u : ℕ) (c : Chunk) → usage_of u ≡ None → plain_allows_of u c ≡ false
unfolding plain_allows_of
plain_unknown u c e = none_allowed (eqb u (code_of Pict)) (eqb u (code_of Snd)) (eqb u (code_of Data)) (eqb u (code_of Exec)) _ _ _ _ (known_not u e)

-- rule 5 for a sound by its type and data
module _ (t : ℕ) (d : List ℕ) where
  pub snd_other : (t ≡ FORM → ⊥) → snd_type_of t ≡ plain_allows_of (code_of Snd) (chunk_of t d)
  snd_other n = sym (plain_snd (chunk_of t d) ∙ rw (ne_eqb t FORM n) (or-false (snd_type_of t)))

  pub snd_short : t ≡ FORM → length d < 4 → false ≡ plain_allows_of (code_of Snd) (chunk_of t d)
  snd_short e l = sym (plain_snd (chunk_of t d) ∙ rw (e, lt-leb 4 (length d) l))

  pub snd_form : t ≡ FORM → 4 ≤ length d → eqb (rd32 d) AIFF ≡ plain_allows_of (code_of Snd) (chunk_of t d)
  snd_form e l = sym (plain_snd (chunk_of t d) ∙ rw (e, le-leb 4 (length d) l))

pub allows_known : (p u : ℕ) (k : Usage) (c : Chunk) → usage_of u ≡ Some k → allows p (code_of k) c ≡ allows p u c
allows_known p u k c e = ap (λ (v : ℕ). allows p v c) (sym (known_is u k e).1)

-- rule 5 of a profile: what plain allows, or else what ADRIFT does
pub allows_plain : (p u : ℕ) (c : Chunk) → plain_allows_of u c ≡ true → true ≡ allows p u c
unfolding allows
allows_plain p u c e = rw e

pub allows_else : (p u : ℕ) (c : Chunk) (b : Bool) → plain_allows_of u c ≡ false → b ≡ eqb p 1 && adrift_allows_of u c.type → b ≡ allows p u c
unfolding allows
allows_else p u c b e y = rw e y

pub allows_also : (p u : ℕ) (c : Chunk) → eqb p 1 && adrift_allows_of u c.type ≡ true → allows p u c ≡ true
unfolding allows
allows_also p u c e = rw e (go (plain_allows_of u c))
  where
    go : (a : Bool) → a || true ≡ true
    go true = refl
    go false = refl

pub allows_unknown : (p u : ℕ) (c : Chunk) → usage_of u ≡ None → allows p u c ≡ false
unfolding allows adrift_allows_of
allows_unknown p u c e =
    rw (plain_unknown u c e) (none_more (eqb p 1) (eqb u (code_of Pict)) (eqb u (code_of Snd)) (eqb u (code_of Data)) (eqb u (code_of Exec)) _ _ (known_not u e))
  where
    none_more : (p a b c d x y : Bool) → a || b || c || d ≡ false → p && ((a && x) || (b && y)) ≡ false
    none_more false a b c d x y h = refl
    none_more true true b c d x y h = let q : ◌≡◌ {A = ℕ} 0 1 = cc in absurd (omega arith)
    none_more true false true c d x y h = let q : ◌≡◌ {A = ℕ} 0 1 = cc in absurd (omega arith)
    none_more true false false c d x y h = refl
