-- A finding table as a lent slice of numbers of 32 bits (02, P2 and P10): the rows that it holds, one after another or in three columns, and the
-- numbers that hold given rows. A row is an entry of the index: usage, number and start as numbers.
use Rattle.std.specs.Prelude.{ℕ, zero, suc, ◌+◌, ◌*◌, ◌/◌, List, [], ◌∷◌, ◌++◌, map, length, get_or}
use Rattle.blorb.specs.Format.{Entry}

module _ {A : Type 0} where
  -- g 0, g 1, .. up to n of them
  unfoldable pub listed : (ℕ → A) → ℕ → List A
  listed g zero = []
  listed g (suc n) = g 0 ∷ listed (λ i. g (suc i)) n

-- "three numbers of 32 bits to a row: usage (its four bytes as a number), number, start". Row i of t in a layout: its first number is at
-- i × step, each of the other two is gap behind the one before it.
abbrev pub row_in : List ℕ → ℕ → ℕ → ℕ → Entry
row_in t step gap i = record { usage = get_or t (i * step) 0; number = get_or t (i * step + gap) 0; start = get_or t (i * step + 2 * gap) 0 }

-- the n rows of t in that layout
abbrev pub rows_by : List ℕ → ℕ → ℕ → ℕ → List Entry
rows_by t n step gap = listed (row_in t step gap) n

-- P2's layout: the whole rows of t, one after another
unfoldable pub rows_of : List ℕ → List Entry
rows_of t = rows_by t (length t / 3) 3 1

-- P10's layout: "three columns in one slice, each as long as there are whole rows: all usages, all numbers, all starts"
unfoldable pub columns_of : List ℕ → List Entry
columns_of t = rows_by t (length t / 3) 1 (length t / 3)

-- the numbers of these rows, one row after another
unfoldable pub flat : List Entry → List ℕ
flat [] = []
flat (e ∷ es) = e.usage ∷ (e.number ∷ (e.start ∷ flat es))

-- the numbers of these rows, column after column
unfoldable pub flat_columns : List Entry → List ℕ
flat_columns es = map (λ (e : Entry). e.usage) es ++ map (λ (e : Entry). e.number) es ++ map (λ (e : Entry). e.start) es
