-- The answers of the finding table's calls as the numbers of a C struct (include/blorb.h): `refusal` is 0 where the call was carried out, else the
-- papers' number, and what the answer doesn't tell is 0.
use Rattle.std.specs.Prelude.{ℕ, Result, Ok}
use Rattle.blorb.specs.declared.refusal.Refusal.{Refusal}
use Rattle.blorb.specs.Refusals.{Refused}
use Rattle.table.specs.declared.Searched.{Searched}
use Rattle.capi.specs.declared.BuildAnswer.{BuildAnswer}
use Rattle.capi.specs.declared.CheckAnswer.{CheckAnswer}
use Rattle.capi.specs.declared.SearchAnswer.{SearchAnswer}

-- a table's rows
abbrev pub build_numbers_of : Result ℕ Refusal → BuildAnswer
build_numbers_of (Ok n) = record { refusal = 0; place = 0; rows = n }
build_numbers_of (Refused k p) = record { refusal = k; place = p; rows = 0 }

abbrev pub check_numbers_of : Result (Unit {0}) Refusal → CheckAnswer
check_numbers_of (Ok x) = record { refusal = 0; place = 0 }
check_numbers_of (Refused k p) = record { refusal = k; place = p }

-- a search's start; n is "the number of rows looked at, also with 22"
abbrev pub found_numbers : Result ℕ Refusal → ℕ → SearchAnswer
found_numbers (Ok x) n = record { refusal = 0; place = 0; start = x; probes = n }
found_numbers (Refused k p) n = record { refusal = k; place = p; start = 0; probes = n }

abbrev pub search_numbers_of : Searched → SearchAnswer
search_numbers_of s = found_numbers s.found s.probes
