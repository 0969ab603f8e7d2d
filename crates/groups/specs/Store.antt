-- The rows that a slice has room for. It stands between the code and the definitions.
use Rattle.std.specs.Prelude.{ℕ, ◌+◌, ◌*◌, ◌-◌, List, [], ◌∷◌, ◌++◌, Bool, true, false, ◌&&◌, length, take, drop, leb}

abbrev pub pick_rows_of : Bool → List ℕ → List ℕ → List ℕ
pick_rows_of true a b = a
pick_rows_of false a b = b

-- row n of the file is row n - base of the slice, if the slice has it
unfoldable pub store : ℕ → ℕ → List ℕ → ℕ → ℕ → ℕ → ℕ → List ℕ
store base n rows t a m d =
    pick_rows_of (leb base n && leb (4 * (n - base) + 4) (length rows))
    (take (4 * (n - base)) rows ++ (t ∷ a ∷ m ∷ d ∷ []) ++ drop (4 * (n - base) + 4) rows)
    rows
