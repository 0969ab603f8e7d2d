-- Text written piece by piece.
use mathlib.Core.Path.{◌≡◌, sym, ap, ◌∙◌}
use Prim.Native.Nat.{ℕ, suc, ◌+◌, ◌-◌, ◌/◌, ◌%◌, ◌^◌, ◌≤◌, ◌<◌}
use mathlib.Core.List.{List, [], ◌∷◌, ◌++◌, append_assoc}
use native.Mathlib.Omega.{arith}
use native.Mathlib.Nat.{add-zero, zero-add}
use lib.ListN.{length, take, drop, set, length-append}
use lib.Seq.{sets, sets-eq, length-sets, drop-drop}
use borrow.Rule.Slice.PartMut.{put_mid}
use Rattle.listing.specs.Text.{digit, decimal}
use Rattle.listing.specs.InPlace.{Wrote}
use Rattle.listing.proofs.TextLaws.{decimal-one, decimal_on}

pub sets_append : (a l b : List ℕ) (i : ℕ) → sets l i (a ++ b) ≡ sets (sets l i a) (i + length a) b
sets_append [] l b i = ap (λ (k : ℕ). sets l k b) (sym (add-zero i))
sets_append (x ∷ a) l b i =
    let e : suc i + length a ≡ i + suc (length a) = omega arith in
    sets_append a (set l i x) b (suc i) ∙ ap (λ (k : ℕ). sets (sets (set l i x) (suc i) a) k b) e

-- the buffer keeps its length
pub kept : (out : List ℕ) (at : ℕ) (t : List ℕ) (to : ℕ) (after : List ℕ) → Wrote out at t to after → length after ≡ length out
kept out at t to after w = ap length w.1 ∙ length-sets out at t

-- a piece, and another one behind it
module _ (out : List ℕ) (at : ℕ) (p : List ℕ) (to : ℕ) (mid : List ℕ) (w : Wrote out at p to mid) (q : List ℕ) (end : ℕ) (after : List ℕ) where
  pub more : Wrote mid to q end after → Wrote out at (p ++ q) end after
  more v = (
    let e : length (p ++ q) ≡ length p + length q = length-append p q in omega (arith, w.0, v.0),
    v.1 ∙ rw (w.0, w.1) (sym (sets_append p out q at)),
  )

-- a piece, and two behind it
pub more_two : (out : List ℕ) (at : ℕ) (p : List ℕ) (to : ℕ) (mid : List ℕ) → Wrote out at p to mid → (q r : List ℕ) (end : ℕ) (after : List ℕ)
    → Wrote mid to (q ++ r) end after → Wrote out at (p ++ q ++ r) end after
more_two out at p to mid w q r end after v = rw (append_assoc p q r) (more out at p to mid w (q ++ r) end after v)

-- a text copied in, as the part s
pub text_in : (out t : List ℕ) (at to : ℕ) (s : List ℕ) → to ≡ at + length t → to ≤ length out → s ≡ t → Wrote out at t to (put_mid at (to - at) out s)
text_in out t at to s e h same =
    let k : to - at ≡ length t = omega arith in (
      e,
      rw (same, k, sets-eq t out at (omega arith), append_assoc (take at out) t (drop (at + length t) out))
          (ap (λ (r : List ℕ). take at out ++ (t ++ r)) (drop-drop (length t) at out)),
    )

-- a number, its last digit last
pub one-digit : (out : List ℕ) (at n to : ℕ) (after : List ℕ) → n < 10 → Wrote out at ((48 + n) ∷ []) to after → Wrote out at (decimal n) to after
one-digit out at n to after h w = rw (decimal-one n h) w

pub last_digit_lem : (out : List ℕ) (at n to : ℕ) (mid : List ℕ) → 10 ≤ n → n < 2 ^ 64 → Wrote out at (decimal (n / 10)) to mid → (end : ℕ) (after : List ℕ)
    → Wrote mid to ((48 + n % 10) ∷ []) end after
    → Wrote out at (decimal n) end after
last_digit_lem out at n to mid h l w end after v = rw (decimal_on n h l) (more out at (decimal (n / 10)) to mid w (digit (n % 10) ∷ []) end after v)

-- what is left from the buffer's beginning on
pub from_start : (out t : List ℕ) (to : ℕ) (after : List ℕ) → length t ≤ length out → Wrote out 0 t to after
    → (to ≡ length t) × (after ≡ t ++ drop (length t) out)
from_start out t to after h w = (w.0 ∙ zero-add (length t), w.1 ∙ sets-eq t out 0 (omega arith) ∙ ap (λ (k : ℕ). t ++ drop k out) (zero-add (length t)))
