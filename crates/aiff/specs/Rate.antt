-- The rate of an AIFF (02, P11): "an 80-bit number: sign, 15 bits of exponent, bias 16,383, and a 64-bit significand".
use Rattle.std.specs.Prelude.{ℕ, ◌+◌, ◌*◌, ◌/◌, ◌%◌, ◌^◌, List, cond, ◌&&◌, get_or, drop, eqb, leb, Option, Some, None}
use Rattle.blorb.specs.Bytes.{rd32}

-- the number in the first two bytes, big-endian (01); a byte that is not there counts as 0
unfoldable pub rd16 : List ℕ → ℕ
rd16 s = get_or s 0 0 * 256 + get_or s 1 0

-- the three fields of the ten bytes that s begins with: the first bit, the 15 bits behind it, and eight bytes
unfoldable pub sign_in : List ℕ → ℕ
sign_in s = rd16 s / 32768

unfoldable pub exponent_in : List ℕ → ℕ
exponent_in s = rd16 s % 32768

unfoldable pub significand_in : List ℕ → ℕ
significand_in s = rd32 (drop 2 s) * 4294967296 + rd32 (drop 6 s)

-- "The value is the significand times 2 to the power (that exponent less 63)", "the exponent after the bias" being the field less 16,383. So it is a
-- fraction of two whole numbers, significand × 2^field over 2^(16,383 + 63), whatever significand and field are: no value stands for anything else.
unfoldable pub numerator : (significand field : ℕ) → ℕ
numerator significand field = significand * 2 ^ field

unfoldable pub denominator : ℕ
denominator = 2 ^ (16383 + 63)

-- n over the denominator, if that is "a whole number from 1 to 4,294,967,295"
unfoldable pub whole_of : ℕ → Option ℕ
whole_of n =
    cond (eqb (n % denominator) 0 && leb 1 (n / denominator) && leb (n / denominator) 4294967295)
    (Some (n / denominator))
    None

-- "Give the rate exactly if it is" such a number; "negative if the sign is set". What this means: proofs/RateLaws, rate_exactly and exactly_rate.
unfoldable pub rate_of : (sign field significand : ℕ) → Option ℕ
rate_of sign field significand = cond (eqb sign 0) (whole_of (numerator significand field)) None

unfoldable pub rate_in : List ℕ → Option ℕ
rate_in s = rate_of (sign_in s) (exponent_in s) (significand_in s)
