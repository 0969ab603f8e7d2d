-- Laws of one chunk's faults.
use Prim.Native.Nat.{ℕ, ◌+◌, ◌-◌, ◌%◌, ◌≤◌, ◌<◌}
use mathlib.Core.Path.{◌≡◌, refl, sym, ◌∙◌}
use mathlib.Core.List.{List}
use mathlib.Core.Bool.{Bool, true, false, ◌&&◌, ◌||◌, not}
use native.Mathlib.Omega.{arith}
use lib.ListN.{get_or}
use lib.Dec.{eqb, leb, ltb}
use borrow.Author.Tests.{le-leb, lt-leb, leb-true, eq-eqb, ne_eqb, eqb-true, lt-ltb, le-ltb, ltb-true, ltb-false, not-true}
use Rattle.blorb.specs.Verdict.{accept, refuse}
use Rattle.blorb.proofs.Checks.{then_accept, check_accept, pass, stop, holds_last, fails_last, and_both}
use Rattle.members.specs.declared.Kind.TheVariants.{Form, Plain}
use Rattle.members.specs.declared.Place.{Place}
use Rattle.members.specs.Kinds.{nests, is_plain, may_hold_of}
use Rattle.members.specs.Faults.{kind_at, size_at, end_at, next_at, fits, padded, member_fault_of}

or_other : (a b : Bool) → a || b ≡ true → a ≡ false → b ≡ true
or_other true b e z = let y : ◌≡◌ {A = ℕ} 0 1 = cc in absurd (omega arith)
or_other false b e z = e

-- 41, by facts on the numbers
module _ (f : List ℕ) (end at m : ℕ) (e : m ≡ size_at f at) where
  pub fits_head : end < at + 8 → false ≡ fits f end at
  unfolding fits
  fits_head h = rw (lt-leb (at + 8) end h)

  module _ (h : at + 8 ≤ end) where
    pub fits-past : end < at + 8 + m → false ≡ fits f end at
    unfolding fits
    fits-past l = let k : end < end_at f at = rw (← e) l in rw (le-leb (at + 8) end h, lt-leb (end_at f at) end k)

    module _ (l : at + 8 + m ≤ end) where
      inside : end_at f at ≤ end
      inside = rw (← e) l

      pub fits_plain : is_plain (kind_at f at) ≡ true → true ≡ fits f end at
      unfolding fits
      fits_plain p = rw (le-leb (at + 8) end h, le-leb (end_at f at) end inside, p)

      pub fits-four : is_plain (kind_at f at) ≡ false → leb 4 m ≡ fits f end at
      unfolding fits
      fits-four p = rw (le-leb (at + 8) end h, le-leb (end_at f at) end inside, p, e)

  -- 44
  pub pad_even : m % 2 ≡ 0 → true ≡ padded f end at
  unfolding padded
  pad_even z = rw (← e, eq-eqb (m % 2) 0 z)

  module _ (z : m % 2 ≡ 0 → ⊥) where
    pub pad_missing : end ≤ at + 8 + m → false ≡ padded f end at
    unfolding padded
    pad_missing l = rw (← e, ne_eqb (m % 2) 0 z, le-ltb (at + 8 + m) end l)

    pub pad_there : at + 8 + m < end → eqb (get_or f (at + 8 + m) 0) 0 ≡ padded f end at
    unfolding padded
    pad_there l = rw (← e, ne_eqb (m % 2) 0 z, lt-ltb (at + 8 + m) end l)

pub fits-facts : (f : List ℕ) (end at : ℕ) → fits f end at ≡ true
    → (at + 8 ≤ end) × (end_at f at ≤ end) × (is_plain (kind_at f at) ≡ false → 4 ≤ size_at f at)
unfolding fits
fits-facts f end at e =
    let a = and_both (leb (at + 8) end) _ e in
    let b = and_both (leb (end_at f at) end) _ a.1 in
    (leb-true _ _ a.0, leb-true _ _ b.0, λ z. leb-true 4 (size_at f at) (or_other (is_plain (kind_at f at)) _ b.1 z))

-- the faults of one chunk, in their order
module _ (f : List ℕ) (p : Place) (depth end at : ℕ) where
  pub fault_41 : fits f end at ≡ false → refuse 41 at ≡ member_fault_of f p depth end at
  unfolding member_fault_of
  fault_41 h = sym (stop _ _ _ _ h)

  module _ (h : fits f end at ≡ true) where
    pub fault_42 : nests (kind_at f at) && ltb 16 depth ≡ true → refuse 42 at ≡ member_fault_of f p depth end at
    unfolding member_fault_of
    fault_42 d = sym (pass _ _ _ _ h ∙ stop _ _ _ _ (rw d))

    module _ (d : nests (kind_at f at) && ltb 16 depth ≡ false) where
      pub fault_43 : may_hold_of p (kind_at f at) ≡ false → refuse 43 at ≡ member_fault_of f p depth end at
      unfolding member_fault_of
      fault_43 g = sym (pass _ _ _ _ h ∙ pass _ _ _ _ (rw d) ∙ stop _ _ _ _ g)

      module _ (g : may_hold_of p (kind_at f at) ≡ true) where
        pub fault_44 : padded f end at ≡ false → refuse 44 at ≡ member_fault_of f p depth end at
        unfolding member_fault_of
        fault_44 q = sym (pass _ _ _ _ h ∙ pass _ _ _ _ (rw d) ∙ pass _ _ _ _ g ∙ fails_last _ _ _ q)

        pub fault-none : padded f end at ≡ true → accept ≡ member_fault_of f p depth end at
        unfolding member_fault_of
        fault-none q = sym (pass _ _ _ _ h ∙ pass _ _ _ _ (rw d) ∙ pass _ _ _ _ g ∙ holds_last _ _ _ q)

-- what the tests of a quick look tell: neither 41, but for a size under 4, nor 44
pub record Looked (f : List ℕ) (end at : ℕ) : Type 0 where
  pub head : at + 8 ≤ end
  pub room : end_at f at ≤ end
  pub pad : padded f end at ≡ true

pub looked : (f : List ℕ) (end at m : ℕ) → m ≡ size_at f at → 8 ≤ end - at → at + 8 + m ≤ end → padded f end at ≡ true → Looked f end at
looked f end at m e h l p = record { head = omega arith; room = rw (← e) l; pad = p }

module _ (f : List ℕ) (p : Place) (depth end at : ℕ) (s : Looked f end at) where
  pub plain_fine : kind_at f at ≡ Plain → may_hold_of p Plain ≡ true → member_fault_of f p depth end at ≡ accept
  plain_fine k g =
      let fit = sym (fits_plain f end at (size_at f at) refl s.head s.room (rw k)) in
      sym (fault-none f p depth end at fit (rw k) (rw k g) s.pad)

  pub form_fine : kind_at f at ≡ Form → 4 ≤ size_at f at → depth ≤ 16 → may_hold_of p Form ≡ true → member_fault_of f p depth end at ≡ accept
  form_fine k four shallow g =
      let fit = sym (fits-four f end at (size_at f at) refl s.head s.room (rw k)) ∙ le-leb 4 (size_at f at) four in
      sym (fault-none f p depth end at fit (rw (k, le-ltb 16 depth shallow)) (rw k g) s.pad)

-- a chunk without fault
pub record Good (f : List ℕ) (p : Place) (depth end at : ℕ) : Type 0 where
  pub head : at + 8 ≤ end
  pub body : end_at f at ≤ end
  pub four : is_plain (kind_at f at) ≡ false → 4 ≤ size_at f at
  pub shallow : nests (kind_at f at) ≡ true → depth ≤ 16
  pub holds : may_hold_of p (kind_at f at) ≡ true
  pub next : next_at f at ≤ end

not_both : (a b : Bool) → not (a && b) ≡ true → a ≡ true → b ≡ false
not_both true b e z = not-true b e
not_both false b e z = let y : ◌≡◌ {A = ℕ} 0 1 = cc in absurd (omega arith)

pad_next : (m e end : ℕ) (x : Bool) → e ≤ end → eqb (m % 2) 0 || (ltb e end && x) ≡ true → e + m % 2 ≤ end
pad_next m e end x l h = go (eqb (m % 2) 0) refl
  where
    go : (b : Bool) → eqb (m % 2) 0 ≡ b → e + m % 2 ≤ end
    go true q = let z : m % 2 ≡ 0 = eqb-true _ _ q in omega arith
    go false q = let k : e < end = ltb-true _ _ (and_both (ltb e end) x (or_other _ _ h q)).0 in omega arith

pub good-facts : (f : List ℕ) (p : Place) (depth end at : ℕ) → member_fault_of f p depth end at ≡ accept → Good f p depth end at
unfolding member_fault_of padded
good-facts f p depth end at e =
    let a = then_accept _ _ e in
    let b = then_accept _ _ a.1 in
    let c = then_accept _ _ b.1 in
    let s = fits-facts f end at (check_accept _ _ _ a.0) in
    let d = check_accept _ _ _ b.0 in
    let q = check_accept _ _ _ c.1 in
    record {
      head = s.0;
      body = s.1;
      four = s.2;
      shallow = λ z. ltb-false 16 depth (not_both (nests (kind_at f at)) _ d z);
      holds = check_accept _ _ _ c.0;
      next = pad_next (size_at f at) (end_at f at) end _ s.1 q;
    }
