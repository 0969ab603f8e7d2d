-- What the writer's functions say to each other; nothing here has to be believed.
use Rattle.std.specs.Prelude.{ℕ, zero, suc, ◌+◌, ◌≤◌, ◌<◌, List, ◌++◌, cond, length, leb}
use Rattle.blorb.specs.Bytes.{be32}
use Rattle.rdes.specs.Rdes.{Desc}
use Rattle.describing.specs.List.{place_of, length_of}

-- the bytes of one entry
unfoldable pub entry_bytes : Desc → List ℕ
entry_bytes e = be32 e.usage ++ (be32 e.number ++ (be32 (length e.text) ++ e.text))

-- the texts of the first n rows lie in their slice
unfoldable pub Within : List ℕ → List ℕ → ℕ → Type 0
Within rows texts n = (i : ℕ) → i < n → place_of rows i + length_of rows i ≤ length texts

-- the bytes that the entries of n rows from row i on take
unfoldable pub entries_size : List ℕ → ℕ → ℕ → ℕ
entries_size rows zero i = 0
entries_size rows (suc n) i = 12 + length_of rows i + entries_size rows n (i + 1)

-- a size, or one that is over the limit of 16,777,216 bytes where the size is
unfoldable pub capped : ℕ → ℕ
capped m = cond (leb m 16777216) m 16777217
