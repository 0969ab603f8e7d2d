-- The answers of the calls on group files as the numbers of a C struct (include/blorb.h): `refusal` is 0 where the call was carried out, else
-- the papers' number, and what the answer doesn't tell is 0.
use Rattle.std.specs.Prelude.{Result, Ok}
use Rattle.blorb.specs.declared.refusal.Refusal.{Refusal}
use Rattle.blorb.specs.Refusals.{Refused}
use Rattle.groups.specs.declared.part.Picked.{Picked}
use Rattle.capi.specs.declared.forms.PickAnswer.{PickAnswer}

-- where a FORM's bytes are
abbrev pub pick_numbers_of : Result Picked Refusal → PickAnswer
pick_numbers_of (Ok r) = record { refusal = 0; place = 0; start = r.start; length = r.length }
pick_numbers_of (Refused k p) = record { refusal = k; place = p; start = 0; length = 0 }
