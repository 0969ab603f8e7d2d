-- `refusal` is 0 exactly where the sides were told: 31, 32, 33 and the reader's numbers are none of them 0.
use Rattle.std.specs.Prelude.{Result, Ok}
use Rattle.blorb.specs.declared.refusal.Refusal.{Refusal}
use Rattle.blorb.specs.Refusals.{Refused}
use Rattle.scaling.specs.declared.Sides.{Sides}
use mathlib.Core.Path.{◌≡◌, refl}
use Prim.Native.Nat.{ℕ, ◌≤◌}
use mathlib.Core.List.{List}
use mathlib.Core.Logic.{⊎_elim}
use native.Mathlib.Omega.{arith}
use Rattle.scaling.specs.declared.Asking.{Asking}
use Rattle.scaling.specs.Scaled.{sides, scaled_of}
use Rattle.scaling.proofs.Promises.{refused_by}
use Rattle.capi.specs.ScalingNumbers.{scaled_numbers}
use Rattle.capi.proofs.TableNumbered.{not_zero}

pub zero-scaled : (profile : ℕ) (f : List ℕ) (a : Asking) → (scaled_numbers (scaled_of profile f a)).refusal ≡ 0
    → (w : ℕ) × (h : ℕ) × (scaled_of profile f a ≡ sides w h)
zero-scaled profile f a e = go (scaled_of profile f a) refl e
  where
    go : (s : Result Sides Refusal) → scaled_of profile f a ≡ s → (scaled_numbers s).refusal ≡ 0 → (w : ℕ) × (h : ℕ) × (s ≡ sides w h)
    go (Ok s) t n = (s.width, s.height, refl)
    go (Refused k p) t n = absurd (⊎_elim (λ r. not_zero profile f k p r n) (λ (r : (31 ≤ k) × (k ≤ 33)). omega (arith, r.0)) (refused_by profile f a k p t))
