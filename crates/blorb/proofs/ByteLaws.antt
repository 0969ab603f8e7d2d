-- Laws of numbers of 32 bits in bytes.
use mathlib.Core.Path.{◌≡◌, refl}
use Prim.Native.Nat.{ℕ, ◌+◌, ◌*◌, ◌/◌, ◌%◌, ◌<◌}
use mathlib.Core.List.{List, [], ◌∷◌, ◌++◌}
use native.Mathlib.Omega.{arith}
use native.Mathlib.Nat.{div-div-eq-div-mul, div-add-mod', add-zero}
use lib.Seq.{get_or-drop}
use lib.ListN.{length, get_or, drop}
use Rattle.blorb.specs.Bytes.{be32, rd32}

pub length-be32 : (n : ℕ) → length (be32 n) ≡ 4
unfolding be32
length-be32 n = refl

pub rd32-be32 : (n : ℕ) (s : List ℕ) → n < 4294967296 → rd32 (be32 n ++ s) ≡ n
unfolding be32 rd32
rd32-be32 n s h =
    let q1 : ℕ = n / 256 in
    let q2 : ℕ = n / 65536 in
    let q3 : ℕ = n / 16777216 in
    let e1 : q1 * 256 + n % 256 ≡ n = div-add-mod' n 256 in
    let e2 : q2 * 256 + q1 % 256 ≡ q1 = rw (← div-div-eq-div-mul n 256 256) (div-add-mod' q1 256) in
    let e3 : q3 * 256 + q2 % 256 ≡ q2 = rw (← div-div-eq-div-mul n 65536 256) (div-add-mod' q2 256) in
    let e4 : q3 % 256 ≡ q3 = omega arith in
    omega arith

pub drop-be32 : (n : ℕ) (s : List ℕ) → drop 4 (be32 n ++ s) ≡ s
unfolding be32
drop-be32 n s = refl

-- bytes read as a number and written again
pub be32-rd32 : (a b c d : ℕ) (s : List ℕ) → a < 256 → b < 256 → c < 256 → d < 256
    → be32 (rd32 (a ∷ (b ∷ (c ∷ (d ∷ s))))) ≡ a ∷ (b ∷ (c ∷ (d ∷ [])))
unfolding be32 rd32
be32-rd32 a b c d s ha hb hc hd =
    let n : ℕ = a * 16777216 + b * 65536 + c * 256 + d in
    let e0 : n / 16777216 % 256 ≡ a = omega arith in
    let e1 : n / 65536 % 256 ≡ b = omega arith in
    let e2 : n / 256 % 256 ≡ c = omega arith in
    let e3 : n % 256 ≡ d = omega arith in
    λ i. e0 i ∷ (e1 i ∷ (e2 i ∷ (e3 i ∷ [])))

pub drop_two : (a b : ℕ) (s : List ℕ) → drop 8 (be32 a ++ (be32 b ++ s)) ≡ s
unfolding be32
drop_two a b s = refl

pub drop_three : (a b c : ℕ) (s : List ℕ) → drop 12 (be32 a ++ (be32 b ++ (be32 c ++ s))) ≡ s
unfolding be32
drop_three a b c s = refl

-- the number in the four bytes from at on, byte by byte: what a leaf of the code computes
pub rd32-at : (s : List ℕ) (at : ℕ) → rd32 (drop at s) ≡ get_or s at 0 * 16777216 + get_or s (at + 1) 0 * 65536 + get_or s (at + 2) 0 * 256 + get_or s (at + 3) 0
unfolding rd32
rd32-at s at = rw (get_or-drop at s 0 0, get_or-drop at s 1 0, get_or-drop at s 2 0, get_or-drop at s 3 0, add-zero at)
