-- A group file's verdict, its list of FORMs, and the two calls' answers (02, P9).
use Rattle.std.specs.Prelude.{ℕ, ◌+◌, ◌*◌, List, [], ◌∷◌, ◌++◌, Bool, true, false, length, get_or, take, drop, eqb, leb, ltb, Result, Ok}
use Rattle.blorb.specs.Verdict.{Verdict, accept, refuse, ◌then◌, check}
use Rattle.blorb.specs.declared.refusal.Refusal.{Refusal}
use Rattle.blorb.specs.Refusals.{Refused}
use Rattle.members.specs.Faults.{next_at}
use Rattle.groups.specs.Events.{Event, form, fault, chunk}
use Rattle.members.specs.declared.Place.TheVariants.{Top}
use Rattle.groups.specs.declared.part.Picked.{Picked}

-- "four 32-bit numbers a row: form type, start, length field, depth"
pub record Row : Type 0 where
  pub type : ℕ
  pub start : ℕ
  pub size : ℕ
  pub depth : ℕ

-- "the first in file order decides"
unfoldable pub first_fault : List Event → Verdict
first_fault [] = accept
first_fault (form t a m d ∷ es) = first_fault es
first_fault (fault k p ∷ es) = refuse k p

-- the FORMs in file order; "Each FORM is listed once"
unfoldable pub forms : List Event → List Row
forms [] = []
forms (form t a m d ∷ es) = record { type = t; start = a; size = m; depth = d } ∷ forms es
forms (fault k p ∷ es) = forms es

-- "The file is one group or FORM, at depth 1"
abbrev pub events_of : List ℕ → List Event
events_of f = chunk f Top 1 (length f) 0

-- "Refusals: 1 first"; then the first fault in file order; 43 for "bytes after the top", "at their first"
unfoldable pub file_fault : List ℕ → Verdict
file_fault f =
    check (leb (length f) 16777216) 1 0
    then first_fault (events_of f)
    then check (eqb (next_at f 0) (length f)) 43 (next_at f 0)

abbrev pub forms_of : List ℕ → List Row
forms_of f = forms (events_of f)

abbrev pub row_numbers : Row → List ℕ
row_numbers r = r.type ∷ (r.start ∷ (r.size ∷ (r.depth ∷ [])))

unfoldable pub rows_numbers : List Row → List ℕ
rows_numbers [] = []
rows_numbers (r ∷ rs) = row_numbers r ++ rows_numbers rs

abbrev pub pick_listing : Bool → Result ℕ Refusal → Result ℕ Refusal → Result ℕ Refusal
pick_listing true a b = a
pick_listing false a b = b

-- "Last 45, list buffer too small"
abbrev pub listed_by : Verdict → ℕ → ℕ → Result ℕ Refusal
listed_by (refuse k p) n room = Refused k p
listed_by accept n room = pick_listing (leb (4 * n) room) (Ok n) (Refused 45 0)

unfoldable pub list_of : List ℕ → ℕ → Result ℕ Refusal
list_of f room = listed_by (file_fault f) (length (forms_of f)) room

-- the buffer afterwards: "the buffer behind the last row stays"
abbrev pub rows_by : Result ℕ Refusal → List ℕ → List ℕ → List ℕ
rows_by (Ok n) numbers rows = numbers ++ drop (4 * n) rows
rows_by (Refused k p) numbers rows = rows

unfoldable pub listed : List ℕ → List ℕ → List ℕ
listed f rows = rows_by (list_of f (length rows)) (rows_numbers (forms_of f)) rows

abbrev pub no_row : Row
no_row = record { type = 0; start = 0; size = 0; depth = 0 }

abbrev pub pick_picking : Bool → Result Picked Refusal → Result Picked Refusal → Result Picked Refusal
pick_picking true a b = a
pick_picking false a b = b

-- a FORM's bytes, header in and padding out
abbrev pub part : Row → Picked
part r = record { start = r.start; length = 8 + r.size }

-- "Picking one from the file by row number gives its bytes, header in and padding out, or 22"
abbrev pub picked_by : Verdict → List Row → ℕ → Result Picked Refusal
picked_by (refuse k p) rs i = Refused k p
picked_by accept rs i = pick_picking (ltb i (length rs)) (Ok (part (get_or rs i no_row))) (Refused 22 0)

unfoldable pub pick_of : List ℕ → ℕ → Result Picked Refusal
pick_of f i = picked_by (file_fault f) (forms_of f) i

-- the part that the answer names, empty where it refuses
abbrev pub part_of : Result Picked Refusal → List ℕ → List ℕ
part_of (Ok a) f = take a.length (drop a.start f)
part_of (Refused k p) f = []

-- where that part begins in the caller's slice; the empty part of a refused call at its first byte
abbrev pub part_start : Result Picked Refusal → ℕ
part_start (Ok a) = a.start
part_start (Refused k p) = 0

-- where it lies in memory, for a slice that lies at p: a block and an offset in it
abbrev pub part_at : Result Picked Refusal → ℕ × ℕ → ℕ × ℕ
part_at k p = (p.0, part_start k + p.1)
