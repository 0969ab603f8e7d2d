-- What the table in three columns promises (02, P10). Rows and columns are two forms of one list of entries: what holds of turning a form into another is
-- proved once, over the four laws of a form, and what holds of a table's rows (P2) holds of its columns since both are lists of entries.
use mathlib.Core.Path.{◌≡◌, ap, sym, ◌∙◌}
use Prim.Native.Nat.{ℕ, ◌+◌, ◌*◌, ◌/◌, ◌≤◌, ◌<◌}
use mathlib.Core.List.{List}
use mathlib.Core.Bool.{Bool, true, false}
use native.Mathlib.Omega.{arith}
use lib.ListN.{length, get_or, take, drop}
use lib.Seq.{take_at, take_all}
use lib.Dec.{leb}
use Rattle.blorb.specs.Format.{Entry}
use Rattle.reader.specs.Reading.{lookup_of}
use Rattle.rows.specs.Rows.{rows_of, columns_of, flat, flat_columns}
use Rattle.rows.specs.Halving.{row_of, two_to}
use Rattle.rows.proofs.HalvingLaws.{probes_few}
use Rattle.rows.proofs.OrderLaws.{same-entry}
use Rattle.rows.proofs.RowLaws.{row_by}
use Rattle.rows.proofs.FlatLaws.{length-flat, length-rows_of, rows_of-flat}
use Rattle.rows.proofs.ColumnLaws.{length-columns_of, length-flat_columns, columns_of-flat, flat-front, columns_front}
use Rattle.table.specs.Answers.{search_of, table_of, room_for, turn_of, written, check_of, start_from}
use Rattle.table.specs.TableOf.{TableOf}
use Rattle.std.specs.Prelude.{Ok}
use Rattle.table.proofs.AnswerLaws.{turn-rows}
use Rattle.table.proofs.Promises.{accepted-rows, accepted-is-table, table-is-accepted, accepted-search}

-- "Row i of a slice of n whole rows is (s[i], s[n + i], s[2n + i]), n from the slice given"
pub columns_row : (t : List ℕ) (i : ℕ) → i < length t / 3
    → row_of (columns_of t) i ≡ record { usage = get_or t i 0; number = get_or t (length t / 3 + i) 0; start = get_or t (2 * (length t / 3) + i) 0 }
unfolding columns_of
columns_row t i h =
    let n : ℕ = length t / 3 in
    let a : i * 1 ≡ i = omega arith in
    let b : i * 1 + n ≡ n + i = omega arith in
    let c : i * 1 + 2 * n ≡ 2 * n + i = omega arith in
    row_by t n 1 n i h ∙ same-entry _ _ (ap (λ (k : ℕ). get_or t k 0) a) (ap (λ (k : ℕ). get_or t k 0) b) (ap (λ (k : ℕ). get_or t k 0) c)

-- ---- turning a form into another

-- a form of the table: the rows of a slice, and the numbers of given rows
record Form : Type 0 where
  rows : List ℕ → List Entry
  numbers : List Entry → List ℕ
  many : (t : List ℕ) → length (rows t) ≡ length t / 3
  size : (es : List Entry) → length (numbers es) ≡ 3 * length es
  again : (es : List Entry) → rows (numbers es) ≡ es
  front : (t : List ℕ) → numbers (rows t) ≡ take (3 * (length t / 3)) t

turned_go : (b : Bool) (m n : ℕ) → room_for b m ≡ Ok n → m ≡ n
turned_go true m n h = cc
turned_go false m n h = cc

turned : (rows : List Entry) (n size : ℕ) → turn_of rows size ≡ Ok n → length rows ≡ n
unfolding turn_of
turned rows n size h = turned_go (leb (3 * length rows) size) (length rows) n h

module _ (A B : Form) (src dst : List ℕ) (n : ℕ) (h : turn_of (A.rows src) (length dst) ≡ Ok n) where
  how_many : length (A.rows src) ≡ n
  how_many = turned (A.rows src) n (length dst) h

  -- just the part written
  abbrev part : List ℕ
  part = take (3 * n) (written (Ok n) (B.numbers (A.rows src)) dst)

  part_length : length (B.numbers (A.rows src)) ≡ 3 * n
  part_length = B.size (A.rows src) ∙ ap (λ (k : ℕ). 3 * k) how_many

  part-is : part ≡ B.numbers (A.rows src)
  part-is = take_at (B.numbers (A.rows src)) (drop (length (B.numbers (A.rows src))) dst) (3 * n) part_length

  same : B.rows part ≡ A.rows src
  same = ap B.rows part-is ∙ B.again (A.rows src)

  searches : (u k : ℕ) → search_of (B.rows part) u k ≡ search_of (A.rows src) u k
  searches u k = ap (λ (r : List Entry). search_of r u k) same

  checks : (profile : ℕ) (f : List ℕ) → length src ≡ 3 * n → check_of profile f (B.rows part) (length part) ≡ check_of profile f (A.rows src) (length src)
  checks profile f w = let l : length part ≡ length src = ap length part-is ∙ part_length ∙ sym w in rw (l, same)

  back-room : (back : List ℕ) → 3 * n ≤ length back → turn_of (B.rows part) (length back) ≡ Ok n
  back-room back r = sym (turn-rows (B.rows part) n (length back) (ap length same ∙ how_many) r)

  back-same : (back : List ℕ) → take (3 * n) (written (Ok n) (A.numbers (B.rows part)) back) ≡ take (3 * n) src
  back-same back =
      let q : length src / 3 ≡ n = sym (A.many src) ∙ how_many in
      let e : A.numbers (B.rows part) ≡ A.numbers (A.rows src) = ap A.numbers same in
      let l : length (A.numbers (A.rows src)) ≡ 3 * n = A.size (A.rows src) ∙ ap (λ (k : ℕ). 3 * k) how_many in
      rw e (take_at (A.numbers (A.rows src)) (drop (length (A.numbers (A.rows src))) back) (3 * n) l ∙ rw q at (A.front src))

abbrev row_form : Form
row_form = record { rows = rows_of; numbers = flat; many = length-rows_of; size = length-flat; again = rows_of-flat; front = flat-front }

abbrev column_form : Form
column_form = record {
  rows = columns_of;
  numbers = flat_columns;
  many = length-columns_of;
  size = length-flat_columns;
  again = columns_of-flat;
  front = columns_front;
}

-- ---- "the form given and just the part written": any slice of rows, checked or not, turned into columns. The part is the first 3 n numbers afterwards.

module _ (src dst : List ℕ) (n : ℕ) (h : turn_of (rows_of src) (length dst) ≡ Ok n) where
  -- "hold the same entries"
  pub to_columns_same : columns_of (take (3 * n) (written (Ok n) (flat_columns (rows_of src)) dst)) ≡ rows_of src
  to_columns_same = same row_form column_form src dst n h

  -- "and give every search the same answer and count"
  pub to_columns_search : (u k : ℕ) → search_of (columns_of (take (3 * n) (written (Ok n) (flat_columns (rows_of src)) dst))) u k
      ≡ search_of (rows_of src) u k
  to_columns_search = searches row_form column_form src dst n h

  -- "turning that part back changes no row": it finds room in any slice of as many numbers, and gives the numbers of the whole rows there were
  pub to_columns_back_room : (back : List ℕ) → 3 * n ≤ length back
      → turn_of (columns_of (take (3 * n) (written (Ok n) (flat_columns (rows_of src)) dst))) (length back) ≡ Ok n
  to_columns_back_room = back-room row_form column_form src dst n h

  pub to_columns_back : (back : List ℕ)
      → take (3 * n) (written (Ok n) (flat (columns_of (take (3 * n) (written (Ok n) (flat_columns (rows_of src)) dst)))) back)
      ≡ take (3 * n) src
  to_columns_back = back-same row_form column_form src dst n h

  -- where the slice has no partial row, the check answers the same for both forms, whatever the file
  pub to_columns_check : (profile : ℕ) (f : List ℕ) → length src ≡ 3 * n
      → check_of profile f (columns_of (take (3 * n) (written (Ok n) (flat_columns (rows_of src)) dst)))
      (length (take (3 * n) (written (Ok n) (flat_columns (rows_of src)) dst))) ≡ check_of profile f (rows_of src) (length src)
  to_columns_check = checks row_form column_form src dst n h

-- ---- and any slice of columns turned into rows

module _ (src dst : List ℕ) (n : ℕ) (h : turn_of (columns_of src) (length dst) ≡ Ok n) where
  pub to_rows_same : rows_of (take (3 * n) (written (Ok n) (flat (columns_of src)) dst)) ≡ columns_of src
  to_rows_same = same column_form row_form src dst n h

  pub to_rows_search : (u k : ℕ) → search_of (rows_of (take (3 * n) (written (Ok n) (flat (columns_of src)) dst))) u k ≡ search_of (columns_of src) u k
  to_rows_search = searches column_form row_form src dst n h

  pub to_rows_back_room : (back : List ℕ) → 3 * n ≤ length back
      → turn_of (rows_of (take (3 * n) (written (Ok n) (flat (columns_of src)) dst))) (length back) ≡ Ok n
  to_rows_back_room = back-room column_form row_form src dst n h

  pub to_rows_back : (back : List ℕ)
      → take (3 * n) (written (Ok n) (flat_columns (rows_of (take (3 * n) (written (Ok n) (flat (columns_of src)) dst)))) back)
      ≡ take (3 * n) src
  to_rows_back = back-same column_form row_form src dst n h

  pub to_rows_check : (profile : ℕ) (f : List ℕ) → length src ≡ 3 * n
      → check_of profile f (rows_of (take (3 * n) (written (Ok n) (flat (columns_of src)) dst)))
      (length (take (3 * n) (written (Ok n) (flat (columns_of src)) dst))) ≡ check_of profile f (columns_of src) (length src)
  to_rows_check = checks column_form row_form src dst n h

-- ---- "P2's check, order and refusals hold for columns as they stand"

module _ (profile : ℕ) (f t : List ℕ) where
  -- accepted exactly when the columns hold that file's entries, each once, in that order, and nothing more
  pub columns_is_table : check_of profile f (columns_of t) (length t) ≡ Ok tt → TableOf profile f (columns_of t) (length t)
  columns_is_table = accepted-is-table profile f (columns_of t) (length t) (length-columns_of t)

  pub columns_is_accepted : TableOf profile f (columns_of t) (length t) → check_of profile f (columns_of t) (length t) ≡ Ok tt
  columns_is_accepted = table-is-accepted profile f (columns_of t) (length t) (length-columns_of t)

  module _ (h : check_of profile f (columns_of t) (length t) ≡ Ok tt) where
    -- every number of it
    pub columns_numbers : t ≡ flat_columns (table_of f)
    columns_numbers =
        let a = accepted-rows profile f (columns_of t) (length t) (length-columns_of t) h in
        let m : 3 * (length t / 3) ≡ length t = omega (arith, a.2, length-columns_of t) in
        sym (columns_front t ∙ take_all (3 * (length t / 3)) t (omega arith)) ∙ ap flat_columns a.1

    -- a search in them gives the start of the chunk that the lookup finds, or both answer 22
    pub columns_lookup : (u n : ℕ) → (search_of (columns_of t) u n).found ≡ start_from (lookup_of profile f u n)
    columns_lookup u n = accepted-search profile f (columns_of t) (length t) u n (length-columns_of t) h

-- the search's bound: among fewer than 2 to the m rows at most m are looked at, so at most 13 for 4,096 rows and 0 for none
pub columns_probes : (t : List ℕ) (u n m : ℕ) → length t / 3 < two_to m → (search_of (columns_of t) u n).probes ≤ m
unfolding search_of
columns_probes t u n m l = probes_few (columns_of t) u n m (omega (arith, length-columns_of t))

pub columns_probes_13 : (t : List ℕ) (u n : ℕ) → length t / 3 ≤ 4096 → (search_of (columns_of t) u n).probes ≤ 13
columns_probes_13 t u n l = columns_probes t u n 13 (omega arith)

pub columns_probes_none : (t : List ℕ) (u n : ℕ) → length t < 3 → (search_of (columns_of t) u n).probes ≡ 0
columns_probes_none t u n l = omega (arith, columns_probes t u n 0 (omega arith))
