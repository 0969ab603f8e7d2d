-- What building, checking, searching and turning a finding table answer (02, P2 and P10), and what building and turning leave in the slice.
use Rattle.std.specs.Prelude.{ℕ, suc, ◌*◌, ◌-◌, List, [], ◌∷◌, ◌++◌, Bool, true, false, ◌&&◌, cond, length, drop, eqb, leb, Result, Ok, Err}
use Rattle.blorb.specs.Format.{Entry}
use Rattle.blorb.specs.Lookup.{left_out_of}
use Rattle.blorb.specs.declared.refusal.Refusal.{Refusal}
use Rattle.blorb.specs.Refusals.{Refused}
use Rattle.reader.specs.Reading.{index_of, read_of}
use Rattle.reader.specs.declared.Accepted.{Accepted}
use Rattle.reader.specs.declared.Resource.{Resource}
use Rattle.rows.specs.Order.{is_pair, sorted}
use Rattle.rows.specs.Halving.{row_of, halving}
use Rattle.table.specs.declared.Searched.{Searched}

-- the rows of a file's table: its entries by usage, then number
unfoldable pub table_of : List ℕ → List Entry
table_of f = sorted (index_of f)

-- n rows in a slice of size numbers: how many, or "34 slice too small"
abbrev pub room_for : Bool → ℕ → Result ℕ Refusal
room_for true n = Ok n
room_for false n = Refused 34 0

abbrev pub build_by : Result Accepted Refusal → ℕ → Result ℕ Refusal
build_by (Ok a) size = room_for (leb (3 * a.count) size) a.count
build_by (Refused k p) size = Refused k p

-- building in a slice of size numbers, under a profile (02, P12): "Refusals, after the reader's own: 34"
unfoldable pub build_of : (profile : ℕ) → List ℕ → ℕ → Result ℕ Refusal
build_of profile f size = build_by (read_of profile f) size

-- turning these rows into the other form, in a slice of size numbers: "three numbers for each whole row, 34 if that is too short"
unfoldable pub turn_of : List Entry → ℕ → Result ℕ Refusal
turn_of rows size = room_for (leb (3 * length rows) size) (length rows)

-- the slice afterwards: these numbers at its front; "Building leaves the slice behind the last row as it was", turning "its rest untouched"
abbrev pub written : Result ℕ Refusal → List ℕ → List ℕ → List ℕ
written (Ok n) front t = front ++ drop (length front) t
written (Refused k p) front t = t

-- "the first differing row, or, if none differs, the smaller of the two whole-row counts": how many rows agree from the first on
unfoldable pub agree : List Entry → List Entry → ℕ
agree [] ys = 0
agree (x ∷ xs) [] = 0
agree (x ∷ xs) (y ∷ ys) = cond (is_pair x.usage x.number y && eqb y.start x.start) (suc (agree xs ys)) 0

abbrev pub accept_if : Bool → ℕ → Result (Unit {0}) Refusal
accept_if true p = Ok tt
accept_if false p = Refused 35 p

-- the rows of a slice of size numbers against the right ones: just these rows "and nothing more", or "35 table isn't this file's"
abbrev pub compared : List Entry → ℕ → List Entry → Result (Unit {0}) Refusal
compared rows size right = accept_if (eqb size (3 * length right) && eqb (agree rows right) (length right)) (agree rows right)

abbrev pub check_by : Result Accepted Refusal → List Entry → ℕ → List Entry → Result (Unit {0}) Refusal
check_by (Ok a) rows size right = compared rows size right
check_by (Refused k p) rows size right = Refused k p

-- the check, under a profile, of a slice of size numbers that holds these rows: "Refusals, after the reader's own: .. 35"
unfoldable pub check_of : (profile : ℕ) → List ℕ → List Entry → ℕ → Result (Unit {0}) Refusal
check_of profile f rows size = check_by (read_of profile f) rows size (table_of f)

abbrev pub found_by : Result ℕ ℕ → List Entry → Result ℕ Refusal
found_by (Ok i) rows = Ok (row_of rows i).start
found_by (Err i) rows = Refused 22 0

-- "gives its start if it is the pair sought", "answers 22 when no row is left", and "reports the number of rows looked at, also with 22"
unfoldable pub search_of : List Entry → ℕ → ℕ → Searched
search_of rows u n = record { found = found_by (halving rows u n).row rows; probes = (halving rows u n).probes }

-- what a lookup tells of where the chunk starts: before the part by what is left out of the chunk's front, its header, or nothing of a 'FORM' (02, P3)
abbrev pub start_from : Result Resource Refusal → Result ℕ Refusal
start_from (Ok r) = Ok (r.start - left_out_of r.kind)
start_from (Refused k p) = Refused k p
