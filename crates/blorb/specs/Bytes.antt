-- Numbers of 32 bits in bytes, big-endian (01: "All numbers in files are big-endian and unsigned").
use Rattle.std.specs.Prelude.{ℕ, ◌+◌, ◌*◌, ◌/◌, ◌%◌, ◌<◌, List, [], ◌∷◌, get_or}

-- n as four bytes, of which only the lowest 32 bits count
unfoldable pub be32 : ℕ → List ℕ
be32 n = n / 16777216 % 256 ∷ (n / 65536 % 256 ∷ (n / 256 % 256 ∷ (n % 256 ∷ [])))

-- the number in the first four bytes; a byte that is not there counts as 0
unfoldable pub rd32 : List ℕ → ℕ
rd32 s = get_or s 0 0 * 16777216 + get_or s 1 0 * 65536 + get_or s 2 0 * 256 + get_or s 3 0

-- a byte
abbrev pub Byte : ℕ → Type 0
Byte b = b < 256
