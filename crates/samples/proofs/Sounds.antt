-- Samples of 02's P11, sound lengths, in one table. What the code answers follows by its contract, an equation with the definition that these rows compute.
use Rattle.std.specs.Prelude.{Result}
use Rattle.blorb.specs.declared.refusal.Refusal.{Refusal}
use Rattle.blorb.specs.Refusals.{Refused}
use Rattle.aiff.specs.declared.Sound.{Sound}
use mathlib.Core.Path.{◌≡◌, refl}
use Prim.Native.Nat.{ℕ, ◌+◌}
use mathlib.Core.List.{List, [], ◌∷◌, ◌++◌}
use lib.ListN.{length}
use Rattle.blorb.specs.All.{All}
use Rattle.blorb.specs.Bytes.{be32, rd32}
use Rattle.blorb.specs.Tags.{tag, FORM, AIFF}
use Rattle.blorb.specs.Format.{sized, chunk_in, chunks_in, chunks_of}
use Rattle.blorb.specs.Verdict.{◌then◌, check, chunk_fault, walk_fault}
use Rattle.aiff.specs.Rate.{rd16, sign_in, exponent_in, significand_in, numerator, denominator, whole_of, rate_of, rate_in}
use Rattle.aiff.specs.Common.{COMM, is_form_of, is_filled, is_aiff_of, comms, single, common_of}
use Rattle.aiff.specs.Length.{sound, sound_of, length_of}

-- opens every definition that a row computes with
computed : ℕ
unfolding be32 rd32 sized chunk_in chunks_in chunks_of ◌then◌ check chunk_fault walk_fault rd16 sign_in exponent_in significand_in numerator denominator whole_of
    rate_of rate_in is_form_of is_filled is_aiff_of comms single common_of sound_of length_of
computed = 0

-- a 'FORM' of type 'AIFF' with these chunks
abbrev aiff : List ℕ → List ℕ
aiff cs = be32 FORM ++ (be32 (4 + length cs) ++ (be32 AIFF ++ cs))

-- two channels, so many frames, 16 bits a sample, and the rate: its first two bytes and the significand in two halves
abbrev common : (frames : ℕ) → ℕ → ℕ → ℕ → ℕ → List ℕ
common frames a b high low = be32 COMM ++ (be32 18 ++ (0 ∷ (2 ∷ (be32 frames ++ (0 ∷ (16 ∷ (a ∷ (b ∷ (be32 high ++ be32 low)))))))))

-- 88,200 frames at 44,100
abbrev cd : List ℕ
cd = common 88200 64 14 2890137600 0

-- a chunk of one data byte and its padding byte
abbrev name : ℕ → List ℕ
name pad = be32 (tag 78 65 77 69) ++ (be32 1 ++ (65 ∷ (pad ∷ [])))

pub record SoundRow : Type 0 where
  pub bytes : List ℕ
  pub answer : Result Sound Refusal

abbrev is : List ℕ → Result Sound Refusal → SoundRow
is b a = record { bytes = b; answer = a }

unfoldable pub sounds : List SoundRow
sounds =
    -- 44,100 exactly, behind another chunk and alone; the same of a significand that is not normalised
    is (aiff (name 0 ++ cd)) (sound 2 88200 16 44100 2) ∷ (
    is (aiff (common 88200 64 62 0 44100)) (sound 2 88200 16 44100 2) ∷ (
    -- the greatest number of frames at the least rate, and at the greatest; 2^32
    is (aiff (common 4294967295 63 255 2147483648 0)) (sound 2 4294967295 16 1 4294967295) ∷ (
    is (aiff (common 4294967295 64 30 4294967295 0)) (sound 2 4294967295 16 4294967295 1) ∷ (
    is (aiff (common 4294967295 64 31 2147483648 0)) (Refused 51 0) ∷ (
    -- 22,254.54.., zero, minus zero, minus 44,100, and the exponent 32,767
    is (aiff (common 88200 64 13 2916947782 264506478)) (Refused 51 0) ∷ (
    is (aiff (common 88200 64 14 0 0)) (Refused 51 0) ∷ (
    is (aiff (common 88200 128 0 0 0)) (Refused 51 0) ∷ (
    is (aiff (common 88200 192 14 2890137600 0)) (Refused 51 0) ∷ (
    is (aiff (common 88200 127 255 2147483648 0)) (Refused 51 0) ∷ (
    -- two 'COMM', of which one is good; and the first 49 of all: a padding byte 1 where there is no 'COMM' either
    is (aiff (cd ++ (be32 COMM ++ be32 0))) (Refused 50 0) ∷ (
    is (aiff (name 1)) (Refused 49 0) ∷ [])))))))))))

-- each row's bytes have the answer that stands beside them
pub sounds_hold : All (λ (r : SoundRow). length_of r.bytes ≡ r.answer) sounds
unfolding computed sounds
sounds_hold = (refl, (refl, (refl, (refl, (refl, (refl, (refl, (refl, (refl, (refl, (refl, (refl, tt))))))))))))
