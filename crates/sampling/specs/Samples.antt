-- What the programs that run samples make of their input: sums that are printed, and numbers in four bytes. The papers say nothing of it.
use Rattle.std.specs.Prelude.{ℕ, zero, suc, ◌+◌, ◌*◌, ◌/◌, ◌%◌, List, fold, length, min, set, drop}
use Rattle.blorb.specs.Bytes.{rd32}

-- a sum of the numbers that depends on their order, kept small by the remainder of m
unfoldable pub checksum_of : ℕ → List ℕ → ℕ
checksum_of m s = fold (λ sum x. sum % m * 257 + x + 1) 0 s

-- the first n numbers of t become those of the bytes, four bytes each
unfoldable pub loaded_to : ℕ → List ℕ → List ℕ → List ℕ
loaded_to zero bytes t = t
loaded_to (suc n) bytes t = set (loaded_to n bytes t) n (rd32 (drop (4 * n) bytes))

-- as many as stand whole in the bytes and have room in t
unfoldable pub loaded : List ℕ → List ℕ → List ℕ
loaded bytes t = loaded_to (min (length t) (length bytes / 4)) bytes t
