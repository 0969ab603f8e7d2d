-- The keys of the three lists whose entries may not repeat each other (02, P4 and P7), by an entry's number from 0.
use Rattle.std.specs.Prelude.{ℕ, zero, suc, ◌+◌, ◌*◌, ◌≤◌, ◌<◌, List, length, get_or, drop}
use Rattle.blorb.specs.Bytes.{rd32}

-- two numbers of 32 bits as one
abbrev pub pair_key_of : ℕ → ℕ → ℕ
pair_key_of u n = u * 4294967296 + n

-- rows of equal length: the number that row i begins with, row 0 at base
unfoldable pub row_key_of : List ℕ → (step base : ℕ) → ℕ → ℕ
row_key_of s step base i = rd32 (drop (base + step * i) s)

-- entries of two numbers, the length of a text, and the text: where entry i stands, entry 0 at base
unfoldable pub entry_at : List ℕ → (base : ℕ) → ℕ → ℕ
entry_at s base zero = base
entry_at s base (suc i) = entry_at s base i + (12 + rd32 (drop (entry_at s base i + 8) s))

-- the twelve bytes before the text of each of n entries lie in s
abbrev pub EntriesInside : List ℕ → (base n : ℕ) → Type 0
EntriesInside s base n = (i : ℕ) → i < n → entry_at s base i + 12 ≤ length s

unfoldable pub entry_key_of : List ℕ → (base : ℕ) → ℕ → ℕ
entry_key_of s base i = pair_key_of (rd32 (drop (entry_at s base i) s)) (rd32 (drop (entry_at s base i + 4) s))

-- rows of four numbers, the first two of them the pair
unfoldable pub list_key : List ℕ → ℕ → ℕ
list_key rows i = pair_key_of (get_or rows (4 * i) 0) (get_or rows (4 * i + 1) 0)
