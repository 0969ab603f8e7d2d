-- Two numbers are the same or not, and one is below the other or not: what a case split on them needs. And a pair of numbers of 32 bits is one number.
use mathlib.Core.Path.{◌≡◌, refl}
use Prim.Native.Nat.{ℕ, ◌+◌, ◌*◌, ◌≤◌, ◌<◌}
use mathlib.Core.Bool.{Bool, true, false, ◌&&◌}
use mathlib.Core.Logic.{◌⊎◌, inl, inr}
use native.Mathlib.Omega.{arith}
use lib.Dec.{eqb, leb}
use borrow.Author.Tests.{eq-eqb, eqb-true, eqb-false, leb-true, leb-false}
use Rattle.blorb.proofs.Checks.{both_true, and_both, same_test}

pub same? : (a b : ℕ) → (a ≡ b) ⊎ (a ≡ b → ⊥)
same? a b = go (eqb a b) refl
  where
    go : (t : Bool) → eqb a b ≡ t → (a ≡ b) ⊎ (a ≡ b → ⊥)
    go true e = inl (eqb-true a b e)
    go false e = inr (eqb-false a b e)

pub below? : (a b : ℕ) → (a < b) ⊎ (b ≤ a)
below? a b = go (leb b a) refl
  where
    go : (t : Bool) → leb b a ≡ t → (a < b) ⊎ (b ≤ a)
    go true e = inr (leb-true b a e)
    go false e = inl (leb-false b a e)

pub key-eqb : (a b u k : ℕ) → b < 4294967296 → k < 4294967296 → eqb (a * 4294967296 + b) (u * 4294967296 + k) ≡ eqb a u && eqb b k
key-eqb a b u k hb hk =
    same_test (eqb (a * 4294967296 + b) (u * 4294967296 + k)) (eqb a u && eqb b k)
    (λ e. let s : a * 4294967296 + b ≡ u * 4294967296 + k = eqb-true _ _ e in both_true _ _ (eq-eqb a u (omega arith)) (eq-eqb b k (omega arith)))
    (λ e. let q = and_both _ _ e in eq-eqb (a * 4294967296 + b) (u * 4294967296 + k) (omega (arith, eqb-true a u q.0, eqb-true b k q.1)))
