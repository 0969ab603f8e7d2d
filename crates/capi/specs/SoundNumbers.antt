-- The answer of the call on sound lengths (02, P11) as the numbers of a C struct (include/blorb.h): `refusal` is 0 where the call was carried out, else
-- 02's number, and what the answer doesn't tell is 0.
use Rattle.std.specs.Prelude.{Result, Ok}
use Rattle.blorb.specs.declared.refusal.Refusal.{Refusal}
use Rattle.blorb.specs.Refusals.{Refused}
use Rattle.aiff.specs.declared.Sound.{Sound}
use Rattle.capi.specs.declared.sounds.AiffAnswer.{AiffAnswer}

abbrev pub aiff_numbers : Result Sound Refusal → AiffAnswer
aiff_numbers (Ok s) =
    record { refusal = 0; place = 0; channels = s.channels; frames = s.frames; sample_size = s.sample_size; rate = s.rate; seconds = s.seconds }
aiff_numbers (Refused k p) = record { refusal = k; place = p; channels = 0; frames = 0; sample_size = 0; rate = 0; seconds = 0 }
