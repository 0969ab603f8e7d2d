-- What a row of the finding table's samples says.
use Rattle.blorb.specs.declared.refusal.Refusal.{Refusal}
use Rattle.std.specs.Prelude.{◌≡◌, ℕ, List, length, Result, Ok}
use Rattle.blorb.specs.Format.{Entry}
use Rattle.rows.specs.Rows.{rows_of, columns_of, flat, flat_columns}
use Rattle.rows.specs.Order.{sorted}
use Rattle.table.specs.Answers.{table_of, build_of, turn_of, written, compared, check_of, search_of}
use Rattle.table.specs.declared.Searched.{Searched}

pub data TableRow : Type 0 where
  -- a profile, a file, a slice, the answer of building its table there, and the slice afterwards
  built_for : (profile : ℕ) → List ℕ → List ℕ → Result ℕ Refusal → List ℕ → TableRow
  -- a profile, a file, a slice, and what the check answers
  checked_for : (profile : ℕ) → List ℕ → List ℕ → Result (Unit {0}) Refusal → TableRow
  -- a slice, a file's entries in index order, and the slice after its table is built there
  builds : List ℕ → List Entry → List ℕ → TableRow
  -- a slice, a file's entries, and what the check of an accepted file answers
  checks : List ℕ → List Entry → Result (Unit {0}) Refusal → TableRow
  -- a slice, a usage and number, and the search's answer
  searches : List ℕ → ℕ → ℕ → Searched → TableRow
  -- a slice of rows, a second slice, the answer of turning the rows into columns there, and the second slice afterwards
  to_columns : List ℕ → List ℕ → Result ℕ Refusal → List ℕ → TableRow
  -- a slice of columns, turned into rows in a second one
  to_rows : List ℕ → List ℕ → Result ℕ Refusal → List ℕ → TableRow
  -- a profile, a file, a slice of columns, and what their check answers
  columns_for : (profile : ℕ) → List ℕ → List ℕ → Result (Unit {0}) Refusal → TableRow
  -- a slice of columns, a usage and number, and the search's answer
  columns_search : List ℕ → ℕ → ℕ → Searched → TableRow

abbrev pub TableRowHolds : TableRow → Type 0
TableRowHolds (built_for p f t answer after) = (build_of p f (length t) ≡ answer) × (written answer (flat (table_of f)) t ≡ after)
TableRowHolds (checked_for p f t answer) = check_of p f (rows_of t) (length t) ≡ answer
TableRowHolds (builds t es after) = written (Ok (length es)) (flat (sorted es)) t ≡ after
TableRowHolds (checks t es answer) = compared (rows_of t) (length t) (sorted es) ≡ answer
TableRowHolds (searches t u n answer) = search_of (rows_of t) u n ≡ answer
TableRowHolds (to_columns t d answer after) = (turn_of (rows_of t) (length d) ≡ answer) × (written answer (flat_columns (rows_of t)) d ≡ after)
TableRowHolds (to_rows t d answer after) = (turn_of (columns_of t) (length d) ≡ answer) × (written answer (flat (columns_of t)) d ≡ after)
TableRowHolds (columns_for p f t answer) = check_of p f (columns_of t) (length t) ≡ answer
TableRowHolds (columns_search t u n answer) = search_of (columns_of t) u n ≡ answer
