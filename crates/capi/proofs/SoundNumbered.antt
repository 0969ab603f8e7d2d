-- `refusal` is 0 exactly where a sound's length is given: 49, 50 and 51 are none of them 0.
use Rattle.std.specs.Prelude.{Result, Ok, Option, Some, None}
use Rattle.blorb.specs.declared.refusal.Refusal.{Refusal}
use Rattle.blorb.specs.Refusals.{Refused}
use Rattle.aiff.specs.declared.Sound.{Sound}
use mathlib.Core.Path.{◌≡◌, refl}
use Prim.Native.Nat.{ℕ, ◌/◌}
use mathlib.Core.List.{List}
use mathlib.Core.Bool.{Bool, true, false, cond}
use native.Mathlib.Omega.{arith}
use lib.ListN.{drop}
use Rattle.blorb.specs.Bytes.{rd32}
use Rattle.aiff.specs.Rate.{rd16, rate_in}
use Rattle.aiff.specs.Common.{is_aiff_of, common_of}
use Rattle.aiff.specs.Length.{sound, sound_by, sound_of, common_by, length_of}
use Rattle.capi.specs.SoundNumbers.{aiff_numbers}

-- a sound whose length is given
abbrev Given : Result Sound Refusal → Type 0
Given m = (channels : ℕ) × (frames : ℕ) × (size : ℕ) × (rate : ℕ) × (seconds : ℕ) × (m ≡ sound channels frames size rate seconds)

pub zero-sound : (b : List ℕ) → (aiff_numbers (length_of b)).refusal ≡ 0 → Given (length_of b)
unfolding length_of sound_of
zero-sound b e = go (is_aiff_of b) (common_of b) e
  where
    rated : (r : Option ℕ) (c f z : ℕ) → (aiff_numbers (sound_by r c f z)).refusal ≡ 0 → Given (sound_by r c f z)
    rated (Some r) c f z e = (c, f, z, r, f / r, refl)
    rated None c f z e = absurd (omega (arith, e))

    go : (x : Bool) (m : Option (List ℕ)) → (aiff_numbers (cond x (common_by m) (Refused 49 0))).refusal ≡ 0 → Given (cond x (common_by m) (Refused 49 0))
    go false m e = absurd (omega (arith, e))
    go true None e = absurd (omega (arith, e))
    go true (Some d) e = rated (rate_in (drop 8 d)) (rd16 d) (rd32 (drop 2 d)) (rd16 (drop 6 d)) e
