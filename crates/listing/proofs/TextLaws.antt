-- Numbers in decimal: one digit more, how many there are, and what they mean.
use mathlib.Core.Path.{◌≡◌, refl, ap, ◌∙◌}
use Prim.Native.Nat.{ℕ, zero, suc, ◌+◌, ◌*◌, ◌-◌, ◌/◌, ◌%◌, ◌^◌, ◌≤◌, ◌<◌}
use mathlib.Core.List.{List, [], ◌∷◌, ◌++◌}
use mathlib.Core.Bool.{Bool, true, false}
use native.Mathlib.Omega.{arith}
use native.Mathlib.Nat.{pow-suc}
use lib.ListN.{length, length-append}
use lib.Dec.{ltb}
use borrow.Author.Tests.{lt-ltb, le-ltb}
use Rattle.listing.specs.Text.{digit, last_digit, digits_of, decimal}

-- below a power of ten, the tenth of a number is below the power before it
pub tenth : (k n : ℕ) → n < 10 ^ suc k → n / 10 < 10 ^ k
tenth k n h = let e : 10 ^ suc k ≡ 10 ^ k * 10 = pow-suc 10 k in omega arith

-- fuel that is enough, and one more
one_more : (k n : ℕ) → n < 10 ^ suc k → digits_of (suc k) n ≡ digits_of (suc (suc k)) n
one_more zero n h = let l : n < 10 = omega arith in rw (lt-ltb n 10 l)
one_more (suc k) n h = go (ltb n 10) (one_more k (n / 10) (tenth (suc k) n h))
  where
    go : (b : Bool) → digits_of (suc k) (n / 10) ≡ digits_of (suc (suc k)) (n / 10) → last_digit b n (λ m. digits_of (suc k) m) ≡ last_digit b n
        (λ m. digits_of (suc (suc k)) m)
    go true e = refl
    go false e = ap (λ (l : List ℕ). l ++ (digit (n % 10) ∷ [])) e

pub decimal-one : (n : ℕ) → n < 10 → decimal n ≡ digit n ∷ []
unfolding decimal
decimal-one n h = rw (lt-ltb n 10 h)

pub decimal_on : (n : ℕ) → 10 ≤ n → n < 2 ^ 64 → decimal n ≡ decimal (n / 10) ++ (digit (n % 10) ∷ [])
unfolding decimal
decimal_on n h l =
    let e : digits_of 19 (n / 10) ≡ digits_of 20 (n / 10) = one_more 18 (n / 10) (omega arith) in
    rw (le-ltb n 10 h) (ap (λ (d : List ℕ). d ++ (digit (n % 10) ∷ [])) e)

-- how many digits
no_more : (k n : ℕ) → length (digits_of k n) ≤ k
no_more zero n = omega arith
no_more (suc k) n = go (ltb n 10) (no_more k (n / 10))
  where
    go : (b : Bool) → length (digits_of k (n / 10)) ≤ k → length (last_digit b n (λ m. digits_of k m)) ≤ suc k
    go true h = omega arith
    go false h = simp length-append (omega arith)

few : (j k n : ℕ) → n < 10 ^ suc k → length (digits_of j n) ≤ suc k
few zero k n h = omega arith
few (suc j) zero n h = let l : n < 10 = omega arith in rw (lt-ltb n 10 l) (omega arith)
few (suc j) (suc k) n h = go (ltb n 10) (few j k (n / 10) (tenth (suc k) n h))
  where
    go : (b : Bool) → length (digits_of j (n / 10)) ≤ suc k → length (last_digit b n (λ m. digits_of j m)) ≤ suc (suc k)
    go true g = omega arith
    go false g = simp length-append (omega arith)

pub decimal_20 : (n : ℕ) → length (decimal n) ≤ 20
unfolding decimal
decimal_20 n = no_more 20 n

pub decimal_10 : (n : ℕ) → n < 2 ^ 32 → length (decimal n) ≤ 10
unfolding decimal
decimal_10 n h = few 20 9 n (omega arith)

-- the length of a chunk with its header, or without
pub decimal-size : (m k : ℕ) → m < 2 ^ 32 → length (decimal (8 + m - k)) ≤ 10
unfolding decimal
decimal-size m k h = few 20 9 (8 + m - k) (omega arith)

-- room for a number is room for its last digit, and for the digits before it
pub room-one : (n at l : ℕ) → n < 10 → at + length (decimal n) ≤ l → at < l
room-one n at l h r = let e : length (decimal n) ≡ 1 = ap length (decimal-one n h) in omega arith

pub room_on : (n at l : ℕ) → 10 ≤ n → n < 2 ^ 64 → at + length (decimal n) ≤ l → at + length (decimal (n / 10)) < l
room_on n at l h g r =
    let e : length (decimal n) ≡ length (decimal (n / 10)) + 1 = ap length (decimal_on n h g) ∙ length-append (decimal (n / 10)) (digit (n % 10) ∷ []) in
    omega arith
