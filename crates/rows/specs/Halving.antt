-- The search by halving (02, P2), over the rows of a table.
use Rattle.std.specs.Prelude.{ℕ, zero, suc, ◌+◌, ◌/◌, List, Bool, true, false, Ok, Err, length, get_or, ltb}
use Rattle.blorb.specs.Format.{Entry}
use Rattle.rows.specs.Order.{before, is_pair}
use Rattle.rows.specs.declared.Spot.{Spot}

-- what is read where there is no row; no search does
abbrev pub no_row : Entry
no_row = record { usage = 0; number = 0; start = 0 }

abbrev pub row_of : List Entry → ℕ → Entry
row_of rows i = get_or rows i no_row

-- "looks at the row at half of low plus high, rounded down"
abbrev pub middle : ℕ → ℕ → ℕ
middle low high = (low + high) / 2

-- a look at row mid: the search ends there "if it is the pair sought, else goes on before or after it"; k rows were looked at before
abbrev pub onward : Bool → Bool → ℕ → ℕ → ℕ → ℕ → (ℕ → ℕ → Spot) → Spot
onward true b k low mid high rest = record { row = Ok mid; probes = k + 1 }
onward false true k low mid high rest = rest (mid + 1) high
onward false false k low mid high rest = rest low mid

abbrev pub while_rows : Bool → Spot → Spot → Spot
while_rows true a b = a
while_rows false a b = b

-- the search among the rows from low up to high, until "no row is left"; f bounds how many are still to be looked at
abbrev pub halve_go : ℕ → List Entry → ℕ → ℕ → ℕ → ℕ → ℕ → Spot
halve_go zero rows u n k low high = record { row = Err low; probes = k }
halve_go (suc f) rows u n k low high =
    while_rows (ltb low high)
    (onward (is_pair u n (row_of rows (middle low high))) (before (row_of rows (middle low high)).usage (row_of rows (middle low high)).number u n)
    k low (middle low high) high (λ l h. halve_go f rows u n (k + 1) l h))
    (record { row = Err low; probes = k })

-- "with low the first row and high one past the last whole one"
unfoldable pub halving : List Entry → ℕ → ℕ → Spot
halving rows u n = halve_go (length rows) rows u n 0 0 (length rows)

-- 2 to the power m
abbrev pub two_to : ℕ → ℕ
two_to zero = 1
two_to (suc m) = two_to m + two_to m
