-- Samples of 02's P4, scaled pictures, in one table. What the code does follows by its contract, which is an equation with scaled_of.
use Rattle.std.specs.Prelude.{Result, Some}
use Rattle.blorb.specs.declared.refusal.Refusal.{Refusal}
use Rattle.blorb.specs.Refusals.{Refused}
use Rattle.scaling.specs.declared.Sides.{Sides}
use mathlib.Core.Path.{◌≡◌, refl}
use Prim.Native.Nat.{ℕ}
use mathlib.Core.List.{List, [], ◌∷◌, ◌++◌}
use native.Mathlib.Omega.{arith}
use lib.ListN.{length, take, set}
use Rattle.blorb.specs.All.{All}
use Rattle.blorb.specs.Bytes.{be32}
use Rattle.locate.specs.Located.{of_type, located_of}
use Rattle.ratio.specs.Ratio.{over, smaller, times, raised, lowered, ratio_by, side_by}
use Rattle.reso.specs.Reso.{Row, rows_from, shaped, row_good_of, rows_good_of, distinct, window_good_of, reso_good, row_of}
use Rattle.scaling.specs.declared.Asking.{Asking}
use Rattle.scaling.specs.Scaled.{Reso, sides, asking, sides_fit_of, reso_scaled, unscaled, scaled_of}
use Rattle.scaling.proofs.Promises.{Has, Between, between}
use Rattle.samples.specs.Files.{B}
use Rattle.samples.proofs.Table.{computed}

-- a profile, a file, what is asked, and the answer
pub record ScaledRow : Type 0 where
  pub profile : ℕ
  pub file : List ℕ
  pub asked : Asking
  pub answer : Result Sides Refusal

abbrev scales : ℕ → List ℕ → Asking → Result Sides Refusal → ScaledRow
scales p f a s = record { profile = p; file = f; asked = a; answer = s }

abbrev pub ScaledRowHolds : ScaledRow → Type 0
ScaledRowHolds r = scaled_of r.profile r.file r.asked ≡ r.answer

abbrev words : List ℕ → List ℕ
words [] = []
words (n ∷ ns) = be32 n ++ words ns

-- B, whose FORM length is now n, with these chunks behind it, from 76 on
abbrev with_chunks : ℕ → List ℕ → List ℕ
with_chunks n cs = set B 7 n ++ cs

abbrev reso : List ℕ → List ℕ
reso d = be32 Reso ++ (be32 (length d) ++ d)

-- standard window 600 by 400, no window limits; one row: picture 1 with standard ratio 1, and these limits
abbrev windows : List ℕ
windows = words (600 ∷ (400 ∷ (0 ∷ (0 ∷ (0 ∷ (0 ∷ []))))))

abbrev limited : ℕ → ℕ → ℕ → ℕ → List ℕ
limited ln ld gn gd = windows ++ words (1 ∷ (1 ∷ (1 ∷ (ln ∷ (ld ∷ (gn ∷ (gd ∷ [])))))))

-- B with such a 'Reso'
abbrev scalable : ℕ → ℕ → ℕ → ℕ → List ℕ
scalable ln ld gn gd = with_chunks 128 (reso (limited ln ld gn gd))

-- 65,535 over 1 in a standard window of 1 by 1
abbrev largest : List ℕ
largest = with_chunks 128 (reso (words (1 ∷ (1 ∷ (0 ∷ (0 ∷ (0 ∷ (0 ∷ (1 ∷ (65535 ∷ (1 ∷ (0 ∷ (0 ∷ (0 ∷ (0 ∷ [])))))))))))))))

-- picture 1 twice
abbrev twice : List ℕ
twice = with_chunks 156 (reso (limited 0 0 0 0 ++ words (1 ∷ (1 ∷ (2 ∷ (0 ∷ (0 ∷ (0 ∷ (0 ∷ [])))))))))

unfoldable pub scaled_samples : List ScaledRow
scaled_samples =
    -- no 'Reso': the size is kept, and 33 still holds for the caller's sides
    scales 0 B (asking 1200 800 1 320 0) (sides 320 0) ∷ (
    scales 0 B (asking 1200 800 1 320 65536) (Refused 33 0) ∷ (
    -- the standard window gives the picture's own size; a side is rounded down; the smaller of both factors counts
    scales 0 (scalable 0 0 0 0) (asking 600 400 1 120 90) (sides 120 90) ∷ (
    scales 0 (scalable 0 0 0 0) (asking 599 4000 1 3 600) (sides 2 599) ∷ (
    -- raised to a least ratio, lowered to a greatest one; the least over the greatest
    scales 0 (scalable 1 2 0 0) (asking 0 0 1 120 90) (sides 60 45) ∷ (
    scales 1 (scalable 1 2 3 2) (asking 6000 4000 1 120 90) (sides 180 135) ∷ (
    scales 0 (scalable 3 2 1 2) (asking 600 400 1 120 90) (Refused 33 0) ∷ (
    -- 65,535 times 65,535 times 65,535
    scales 0 largest (asking 65535 65535 1 65535 1) (sides 281462092005375 4294836225) ∷ (
    -- a picture twice, though another one is asked for
    scales 0 twice (asking 600 400 2 120 90) (Refused 33 0) ∷ (
    -- a byte too few; the same with a second 'Reso', which goes first; an unknown profile, which goes before all
    scales 0 (with_chunks 128 (reso (take 51 (limited 0 0 0 0)) ++ (0 ∷ []))) (asking 600 400 1 120 90) (Refused 32 76) ∷ (
    scales 0 (with_chunks 136 (reso [] ++ reso (limited 0 0 0 0))) (asking 600 400 1 120 90) (Refused 31 84) ∷ (
    scales 2 (with_chunks 136 (reso [] ++ reso (limited 0 0 0 0))) (asking 600 400 1 120 90) (Refused 52 0) ∷ [])))))))))))

-- opens what the rows compute with besides
unfoldable scaling : ℕ
unfolding of_type located_of smaller times raised lowered ratio_by side_by rows_from shaped row_good_of rows_good_of distinct window_good_of reso_good row_of sides_fit_of
scaling = 0

pub scaled-samples : All ScaledRowHolds scaled_samples
unfolding computed scaling scaled_samples reso_scaled unscaled scaled_of
scaled-samples = (refl, (refl, (refl, (refl, (refl, (refl, (refl, (refl, (refl, (refl, (refl, (refl, tt))))))))))))

-- what the theorems on a listed picture ask can be met: this file lists picture 1 with both limits, and here is what they say of its sides
abbrev both : Row
both = record { picture = 1; standard = over 1 1; least = over 1 2; greatest = over 3 2 }

pub listed-one : Has 1 (scalable 1 2 3 2) 1 (limited 1 2 3 2) (Some both)
unfolding computed scaling
listed-one = record { start = 76; size = 52; only = refl; body = refl; row = refl }

pub between-one : Between both 120 180 × Between both 90 135
unfolding computed scaling reso_scaled scaled_of
between-one =
    between 1 (scalable 1 2 3 2) (asking 6000 4000 1 120 90) 180 135 (limited 1 2 3 2) both listed-one refl (λ e. omega (arith, e)) (λ e. omega (arith, e))
