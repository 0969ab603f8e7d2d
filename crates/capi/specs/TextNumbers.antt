-- The answers of the calls that read texts (02, P7) as the numbers of a C struct (include/blorb.h): `refusal` is 0 where the call was carried out, else
-- the papers' number, and what the answer doesn't tell is 0.
use Rattle.std.specs.Prelude.{ℕ, Result, Ok}
use Rattle.blorb.specs.declared.refusal.Refusal.{Refusal}
use Rattle.blorb.specs.Refusals.{Refused}
use Rattle.descriptions.specs.declared.Described.{Described}
use Rattle.descriptions.specs.declared.Told.{Told}
use Rattle.capi.specs.declared.texts.TextAnswer.{TextAnswer}

abbrev pub no_text : ℕ → ℕ → TextAnswer
no_text k p = record { refusal = k; place = p; usage = 0; number = 0; start = 0; length = 0 }

abbrev pub text_numbers : Result Described Refusal → TextAnswer
text_numbers (Ok t) = record { refusal = 0; place = 0; usage = t.usage; number = t.number; start = t.start; length = t.length }
text_numbers (Refused k p) = no_text k p

-- by pair: the pair that was asked for
abbrev pub told_numbers : ℕ → ℕ → Result Told Refusal → TextAnswer
told_numbers u n (Ok t) = record { refusal = 0; place = 0; usage = u; number = n; start = t.start; length = t.length }
told_numbers u n (Refused k p) = no_text k p
