-- What two equal refusals have in common, and that a refusal is no other answer.
use mathlib.Core.Path.{◌≡◌, ap, refl}
use mathlib.Core.Bool.{true, false}
use Rattle.std.specs.Result.{is_err, is_ok}
use Prim.Native.Nat.{ℕ}
use native.Mathlib.Omega.{arith}
use Rattle.std.specs.Prelude.{Result, Ok, Err}
use Rattle.blorb.specs.declared.refusal.Refusal.{Refusal}
use Rattle.blorb.specs.Refusals.{Refused, verdict_of}
use Rattle.blorb.specs.Verdict.{accept}

pub same_refusal : {A : Type 0} {a b k p : ℕ} → ◌≡◌ {A = Result A Refusal} (Refused a b) (Refused k p) → (a ≡ k) × (b ≡ p)
same_refusal {A} {a} {b} {k} {p} e =
    let z : ◌≡◌ {A = ℕ × ℕ} (a, b) (k, p) = cc in
    (ap (λ (x : ℕ × ℕ). x.0) z, ap (λ (x : ℕ × ℕ). x.1) z)

pub not_refused : {A : Type 0} {x : A} {k p : ℕ} → ◌≡◌ {A = Result A Refusal} (Ok x) (Refused k p) → ⊥
not_refused e = let z : ◌≡◌ {A = ℕ} 0 1 = cc in absurd (omega arith)

-- a check that is no error has found nothing
pub good_unless_err : {A : Type 0} (r : Result A Refusal) → is_err r ≡ false → verdict_of r ≡ accept
good_unless_err (Ok x) e = refl
good_unless_err (Err y) e = let z : ◌≡◌ {A = ℕ} 0 1 = cc in absurd (omega arith)

pub good_if_ok : {A : Type 0} (r : Result A Refusal) → is_ok r ≡ true → verdict_of r ≡ accept
good_if_ok (Ok x) e = refl
good_if_ok (Err y) e = let z : ◌≡◌ {A = ℕ} 0 1 = cc in absurd (omega arith)
