-- The answer of the call that writes descriptions (02, P7) as the numbers of a C struct (include/blorb.h): `refusal` is 0 where the call was carried
-- out, else 02's number, and what the answer doesn't tell is 0.
use Rattle.std.specs.Prelude.{ℕ, Result, Ok}
use Rattle.blorb.specs.declared.refusal.Refusal.{Refusal}
use Rattle.blorb.specs.Refusals.{Refused}
use Rattle.capi.specs.declared.writing.WriteAnswer.{WriteAnswer}

abbrev pub write_numbers : Result ℕ Refusal → WriteAnswer
write_numbers (Ok n) = record { refusal = 0; place = 0; length = n }
write_numbers (Refused k p) = record { refusal = k; place = p; length = 0 }
