-- The answers of reader and editor as the numbers of a C struct (include/blorb.h): `refusal` is 0 where the call was carried out, else 01's
-- number, and what the answer doesn't tell is 0.
use Rattle.std.specs.Prelude.{ℕ, Result, Ok}
use Rattle.blorb.specs.declared.refusal.Refusal.{Refusal}
use Rattle.blorb.specs.Refusals.{Refused}
use Rattle.blorb.specs.declared.Entry.{Entry}
use Rattle.reader.specs.declared.Accepted.{Accepted}
use Rattle.reader.specs.declared.Resource.{Resource}
use Rattle.blorb.specs.Usages.{code_of}
use Rattle.blorb.specs.Verdict.{Verdict, accept, refuse}
use Rattle.editor.specs.declared.Answer.{Answer}
use Rattle.blorb.specs.Refusals.{verdict_of}
use Rattle.capi.specs.declared.ReadAnswer.{ReadAnswer}
use Rattle.capi.specs.declared.EntryAnswer.{EntryAnswer}
use Rattle.capi.specs.declared.LookupAnswer.{LookupAnswer}
use Rattle.capi.specs.declared.EditAnswer.{EditAnswer}

-- a verdict's number and place
abbrev pub refusal_number : Verdict → ℕ
refusal_number accept = 0
refusal_number (refuse k p) = k

abbrev pub refusal_place : Verdict → ℕ
refusal_place accept = 0
refusal_place (refuse k p) = p

-- "the reader gives its length and entry count"
abbrev pub read_numbers : Result Accepted Refusal → ReadAnswer
read_numbers (Ok r) = record { refusal = 0; place = 0; length = r.length; count = r.count }
read_numbers (Refused k p) = record { refusal = k; place = p; length = 0; count = 0 }

-- "Asked for entry i, it gives usage, number and start"
abbrev pub entry_numbers : Result Entry Refusal → EntryAnswer
entry_numbers (Ok e) = record { refusal = 0; place = 0; usage = code_of e.usage; number = e.number; start = e.start }
entry_numbers (Refused k p) = record { refusal = k; place = p; usage = 0; number = 0; start = 0 }

-- a lookup's answer: "type, start and length"
abbrev pub lookup_numbers : Result Resource Refusal → LookupAnswer
lookup_numbers (Ok r) = record { refusal = 0; place = 0; kind = r.kind; start = r.start; length = r.length }
lookup_numbers (Refused k p) = record { refusal = k; place = p; kind = 0; start = 0; length = 0 }

-- an edit's or undo's answer, with L and U
abbrev pub edit_numbers : Answer → EditAnswer
edit_numbers a = record { refusal = refusal_number (verdict_of a.outcome); place = refusal_place (verdict_of a.outcome); length = a.len; used = a.used }
