-- A bit set in a word adds no other bit, and the greatest word has all 64.
use mathlib.Core.Path.{◌≡◌, refl, sym, ap, subst, ◌∙◌}
use Prim.Native.Nat.{ℕ, zero, suc, ◌+◌, ◌-◌, ◌*◌, ◌/◌, ◌%◌, ◌^◌, ◌≤◌, ◌<◌}
use mathlib.Core.Logic.{◌⊎◌, ⊎_elim, inl, inr}
use native.Mathlib.Omega.{arith}
use native.Mathlib.Nat.{pow-suc, div-eq_of_lt, eq-or-lt_of_le}
use lib.Pow.{pow-lt, pow_pos, pow-add, shl_exact, shl-shr, high, ones_lt, ones_split}
use lib.Arith.{dbl_pred}
use lib.Bits.{bit_or, or_shr, or_mod, or_zero_l}
use Rattle.blorb.proofs.NumberLaws.{below?}
use Rattle.shared_texts.specs.Segments.{bit_of, OneMore}

-- the bits of a power: one
power_low : (i j : ℕ) → i < j → bit_of (2 ^ i) j ≡ 0
power_low i j h = let e : 2 ^ i / 2 ^ j ≡ 0 = div-eq_of_lt (pow-lt h) in rw e

power_high : (m j : ℕ) → bit_of (2 ^ (suc m + j)) j ≡ 0
power_high m j =
    let e : 2 ^ (suc m + j) / 2 ^ j ≡ 2 ^ m * 2 = rw (pow-add 2 (suc m) j, shl-shr (2 ^ suc m) j) (pow-suc 2 m) in
    rw e (omega arith)

power_bit : (i j : ℕ) → bit_of (2 ^ i) j ≡ 1 → j ≡ i
power_bit i j e =
    ⊎_elim
    (λ (h : i < j). absurd (omega (arith, power_low i j h)))
    (λ (h : j ≤ i). ⊎_elim (λ (q : j ≡ i). q) (λ (q : j < i). absurd (above q)) (eq-or-lt_of_le h))
    (below? i j)
  where
    above : j < i → ⊥
    above q =
        let n : suc (i - suc j) + j ≡ i = omega arith in
        let z : bit_of (2 ^ i) j ≡ 0 = subst (λ (x : ℕ). bit_of (2 ^ x) j ≡ 0) n (power_high (i - suc j) j) in
        omega arith

with_power : (word i : ℕ) → OneMore word i (bit_or word (2 ^ i))
with_power word i j e = go (bit_of word j) refl
  where
    digits : bit_of (bit_or word (2 ^ i)) j ≡ bit_or (bit_of word j) (bit_of (2 ^ i) j)
    digits = ap (λ (x : ℕ). x % 2) (or_shr word (2 ^ i) j) ∙ or_mod (word / 2 ^ j) (2 ^ i / 2 ^ j) 1

    go : (x : ℕ) → bit_of word j ≡ x → (j ≡ i) ⊎ (bit_of word j ≡ 1)
    go zero q = inl (power_bit i j (sym (or_zero_l (bit_of (2 ^ i) j)) ∙ ap (λ (x : ℕ). bit_or x (bit_of (2 ^ i) j)) (sym q) ∙ sym digits ∙ e))
    go (suc x) q = inr (omega arith)

-- 1 shifted by less than 64 is a power that is not cut off
pub one_more : (word i : ℕ) → i < 64 → OneMore word i (bit_or word ((1 * 2 ^ i) % 18446744073709551616))
one_more word i h =
    let w : (1 * 2 ^ i) % 2 ^ 64 ≡ 1 * 2 ^ i = shl_exact {a = 1} 1 i 64 (omega arith) (omega arith) in
    let z : 1 * 2 ^ i ≡ 2 ^ i = omega arith in
    subst (λ (x : ℕ). OneMore word i (bit_or word x)) (sym (w ∙ z)) (with_power word i)

pub all_bits : (i : ℕ) → i < 64 → bit_of 18446744073709551615 i ≡ 1
all_bits i h =
    let m : 64 ≡ suc (63 - i) + i = omega arith in
    let w : 2 ^ 64 - 1 ≡ (2 ^ suc (63 - i) - 1) * 2 ^ i + (2 ^ i - 1) = ap (λ (x : ℕ). 2 ^ x - 1) m ∙ ones_split (suc (63 - i)) i in
    let d : (2 ^ 64 - 1) / 2 ^ i ≡ 2 ^ suc (63 - i) - 1 = ap (λ (x : ℕ). x / 2 ^ i) w ∙ high (2 ^ suc (63 - i) - 1) i (ones_lt i) in
    let o : 2 ^ suc (63 - i) - 1 ≡ (2 ^ (63 - i) - 1) * 2 + 1 = ap (λ (x : ℕ). x - 1) (pow-suc 2 (63 - i)) ∙ dbl_pred (pow_pos (63 - i)) in
    ap (λ (x : ℕ). x % 2) (d ∙ o) ∙ odd (2 ^ (63 - i) - 1)
  where
    odd : (x : ℕ) → (x * 2 + 1) % 2 ≡ 1
    odd x = omega arith
