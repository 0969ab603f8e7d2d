-- The answer of the call on scaled pictures as the numbers of a C struct (include/blorb.h): `refusal` is 0 where the call was carried out, else the papers'
-- number, and what the answer doesn't tell is 0.
use Rattle.std.specs.Prelude.{Result, Ok}
use Rattle.blorb.specs.declared.refusal.Refusal.{Refusal}
use Rattle.blorb.specs.Refusals.{Refused}
use Rattle.scaling.specs.declared.Sides.{Sides}
use Rattle.capi.specs.declared.pictures.ScaledAnswer.{ScaledAnswer}

abbrev pub scaled_numbers : Result Sides Refusal → ScaledAnswer
scaled_numbers (Ok s) = record { refusal = 0; place = 0; width = s.width; height = s.height }
scaled_numbers (Refused k p) = record { refusal = k; place = p; width = 0; height = 0 }
