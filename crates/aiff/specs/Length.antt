-- How long an AIFF plays (02, P11): the call's answer as a function of the bytes.
use Rattle.std.specs.Prelude.{ℕ, ◌/◌, List, cond, drop, Option, Some, None, Result, Ok}
use Rattle.blorb.specs.Bytes.{rd32}
use Rattle.aiff.specs.Rate.{rd16, rate_in}
use Rattle.aiff.specs.Common.{is_aiff_of, common_of}
use Rattle.blorb.specs.declared.refusal.Refusal.{Refusal}
use Rattle.blorb.specs.Refusals.{Refused}
use Rattle.aiff.specs.declared.Sound.{Sound}

-- a sound's answer
abbrev pub sound : (channels frames sampleSize rate seconds : ℕ) → Result Sound Refusal
sound channels frames sampleSize rate seconds =
    Ok (record { channels = channels; frames = frames; sample_size = sampleSize; rate = rate; seconds = seconds })

-- "channels, frames (4 bytes), sample size, and the rate", "and the whole seconds, rounded down"; 51: "rate not such a number"
abbrev pub sound_by : Option ℕ → (channels frames sampleSize : ℕ) → Result Sound Refusal
sound_by (Some rate) channels frames sampleSize = sound channels frames sampleSize rate (frames / rate)
sound_by None channels frames sampleSize = Refused 51 0

-- the 18 data bytes of a 'COMM' chunk: two bytes of channels, four of frames, two of sample size, ten of rate
unfoldable pub sound_of : List ℕ → Result Sound Refusal
sound_of d = sound_by (rate_in (drop 8 d)) (rd16 d) (rd32 (drop 2 d)) (rd16 (drop 6 d))

-- 50: "no 'COMM' or more than one or not 18 bytes"
abbrev pub common_by : Option (List ℕ) → Result Sound Refusal
common_by None = Refused 50 0
common_by (Some d) = sound_of d

-- 49: "not a single 'FORM' of type 'AIFF' filled by chunks of rule 2". That the three refusals come "in that order": proofs/Meaning, in-order.
unfoldable pub length_of : List ℕ → Result Sound Refusal
length_of b = cond (is_aiff_of b) (common_by (common_of b)) (Refused 49 0)
