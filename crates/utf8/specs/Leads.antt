-- Between the code and the table: the table read by a character's first byte, and the good beginning from an offset on.
use Rattle.std.specs.Prelude.{ℕ, List, Bool, ◌&&◌, ◌||◌, cond, length, drop, eqb, ltb}
use Rattle.utf8.specs.Utf8.{range, in_range, tail_byte, good_in}

-- the range of the second byte behind the first byte a from 224 on
abbrev pub low_second_of : ℕ → ℕ
low_second_of a = cond (eqb a 224) 160 (cond (eqb a 240) 144 128)

abbrev pub high_second_of : ℕ → ℕ
high_second_of a = cond (eqb a 237) 159 (cond (eqb a 244) 143 191)

-- the length of a character by its first byte, from 194 to 244, and those behind it
abbrev pub by_lead : ℕ → ℕ → ℕ → ℕ → ℕ
by_lead a b c d =
    cond (ltb a 224) (cond (in_range tail_byte b) 2 0)
    (cond (in_range (range (low_second_of a) (high_second_of a)) b) (cond (in_range tail_byte c) (cond (ltb a 240) 3 (cond (in_range tail_byte d) 4 0)) 0) 0)

-- the rows of the table of two, three and four bytes
abbrev pub two_bytes_of : ℕ → ℕ → Bool
two_bytes_of a b = in_range (range 194 223) a && in_range tail_byte b

abbrev pub three_bytes : ℕ → ℕ → ℕ → Bool
three_bytes a b c =
    (in_range (range 224 224) a && (in_range (range 160 191) b && in_range tail_byte c))
    || ((in_range (range 225 236) a && (in_range tail_byte b && in_range tail_byte c))
    || ((in_range (range 237 237) a && (in_range (range 128 159) b && in_range tail_byte c))
    || (in_range (range 238 239) a && (in_range tail_byte b && in_range tail_byte c))))

abbrev pub four_bytes_of : ℕ → ℕ → ℕ → ℕ → Bool
four_bytes_of a b c d =
    (in_range (range 240 240) a && (in_range (range 144 191) b && (in_range tail_byte c && in_range tail_byte d)))
    || ((in_range (range 241 243) a && (in_range tail_byte b && (in_range tail_byte c && in_range tail_byte d)))
    || (in_range (range 244 244) a && (in_range (range 128 143) b && (in_range tail_byte c && in_range tail_byte d))))

-- the rows one after another
abbrev pub by_tests : ℕ → ℕ → ℕ → ℕ → ℕ
by_tests a b c d = cond (in_range (range 0 127) a) 1 (cond (two_bytes_of a b) 2 (cond (three_bytes a b c) 3 (cond (four_bytes_of a b c d) 4 0)))

-- the good beginning from an offset on
unfoldable pub good_from : List ℕ → ℕ → ℕ
good_from s at = good_in (length s) (drop at s)
