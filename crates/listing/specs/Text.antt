-- Text as the bytes of its characters, and numbers in decimal.
use Rattle.std.specs.Prelude.{ℕ, zero, suc, ◌+◌, ◌/◌, ◌%◌, List, [], ◌∷◌, ◌++◌, Bool, true, false, ltb}
use Prim.Native.Char.{code}
use Prim.Native.String.{String, [] as empty, ◌∷◌ as ◌before◌}

-- the bytes of a text of ASCII characters
abbrev pub text : String → List ℕ
text empty = []
text (c before s) = code c ∷ text s

-- a digit below 10 as its character, '0' being 48
abbrev pub digit : ℕ → ℕ
digit d = 48 + d

-- n by its last digit; the digits before it are those of n / 10, and there are none where n is below 10
abbrev pub last_digit : Bool → ℕ → (ℕ → List ℕ) → List ℕ
last_digit true n digits = digit n ∷ []
last_digit false n digits = digits (n / 10) ++ (digit (n % 10) ∷ [])

-- at most k digits
abbrev pub digits_of : ℕ → ℕ → List ℕ
digits_of zero n = []
digits_of (suc k) n = last_digit (ltb n 10) n (λ m. digits_of k m)

-- n in decimal, without leading zeros; 20 digits are enough below 2 ^ 64 (proofs/Sense, decimal-value and decimal-first)
unfoldable pub decimal : ℕ → List ℕ
decimal n = digits_of 20 n
