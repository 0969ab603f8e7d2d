-- The marks of a key: a word of 896 and some of its 64 bits, by a factor f. Nothing depends on which they are.
use Rattle.std.specs.Prelude.{ℕ, ◌+◌, ◌*◌, ◌/◌, ◌%◌, ◌^◌, ◌≤◌, ◌<◌, ◌≡◌, List, get_or}
use Rattle.std.specs.Int.Bits.{bit_and, bit_or}

unfoldable pub stirred : ℕ → ℕ → ℕ
stirred f x = x % 4294967296 * f + x / 4294967296 * 2246822519

unfoldable pub mixed : ℕ → ℕ → ℕ
mixed f k = stirred f (stirred f k)

unfoldable pub word_of : ℕ → ℕ → ℕ
word_of f k = mixed f k / 1048576 % 896

unfoldable pub bits_of : ℕ → ℕ → ℕ
bits_of f k =
    bit_or
    (bit_or
    (bit_or (2 ^ (mixed f k / 1073741824 % 64)) (2 ^ (mixed f k / 68719476736 % 64)))
    (2 ^ (mixed f k / 4398046511104 % 64)))
    (2 ^ (mixed f k / 281474976710656 % 64))

-- all these bits are set in w
abbrev pub Covers : ℕ → ℕ → Type 0
Covers w bits = bit_and w bits ≡ bits

-- the marks of entries b to e are set
unfoldable pub Marked : List ℕ → ℕ → (ℕ → ℕ) → ℕ → ℕ → Type 0
Marked marks f k b e = (j : ℕ) → b ≤ j → j < e → Covers (get_or marks (word_of f (k j)) 0) (bits_of f (k j))

-- factors small enough for no sum to wrap
abbrev pub Factor : ℕ → Type 0
Factor f = f < 2048144776
