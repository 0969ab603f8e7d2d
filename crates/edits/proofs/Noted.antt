-- Laws of `noted`, a list of bytes written over a part of a longer one: what every byte-moving leaf does.
use mathlib.Core.Path.{◌≡◌, refl, sym, ap, ◌∙◌}
use Prim.Native.Nat.{ℕ, ◌+◌, ◌≤◌}
use mathlib.Core.List.{List, [], ◌++◌, append_assoc}
use native.Mathlib.Omega.{arith}
use native.Mathlib.Nat.{add-zero}
use lib.ListN.{length, take, drop, length-append, length-take, take-append-drop}
use lib.Seq.{take_at, drop_at, drop-drop, drop-append-add}
use Rattle.edits.specs.Run.{noted}
use Rattle.edits.proofs.RunLaws.{take-noted}

pub noted-none : (b : List ℕ) (at : ℕ) → noted b at [] ≡ b
unfolding noted
noted-none b at = rw (add-zero at) (take-append-drop at b)

pub drop-noted : (b : List ℕ) (at : ℕ) (x : List ℕ) → at + length x ≤ length b → drop (at + length x) (noted b at x) ≡ drop (at + length x) b
unfolding noted
drop-noted b at x h =
    rw (← append_assoc (take at b) x (drop (at + length x) b))
    (drop_at (take at b ++ x) (drop (at + length x) b) (at + length x) (simp (length-append, length-take) (omega arith)))

-- two writes side by side are one
pub noted_join : (b : List ℕ) (at : ℕ) (x y : List ℕ) → at + length x + length y ≤ length b
    → noted (noted b at x) (at + length x) y ≡ noted b at (x ++ y)
noted_join b at x y h =
    let hx : at + length x ≤ length b = omega arith in
    let e : drop (at + length x + length y) (noted b at x) ≡ drop (at + length x + length y) b
    = sym (drop-drop (length y) (at + length x) (noted b at x)) ∙ ap (drop (length y)) (drop-noted b at x hx) ∙ drop-drop (length y) (at + length x) b in
    let n : at + length x + length y ≡ at + length (x ++ y) = simp length-append (omega arith) in
    let g : noted (noted b at x) (at + length x) y ≡ take (at + length x) (noted b at x) ++ (y ++ drop (at + length x + length y) (noted b at x)) =
    unfold noted in refl in
    let k : noted b at (x ++ y) ≡ take at b ++ ((x ++ y) ++ drop (at + length (x ++ y)) b) = unfold noted in refl in
    g ∙ rw (take-noted b at x hx, e, n) (append_assoc (take at b) x (y ++ drop (at + length (x ++ y)) b)
    ∙ ap (λ (l : List ℕ). take at b ++ l) (sym (append_assoc x y (drop (at + length (x ++ y)) b)))) ∙ sym k

-- the same, where the second place is given
pub noted-next : (b : List ℕ) (at to : ℕ) (x y : List ℕ) → to ≡ at + length x → to + length y ≤ length b
    → noted (noted b at x) to y ≡ noted b at (x ++ y)
noted-next b at to x y e h = rw e (noted_join b at x y (omega arith))

-- a write behind a prefix
pub noted-after : (p s y : List ℕ) (at : ℕ) → length p ≡ at → noted (p ++ s) at y ≡ p ++ (y ++ drop (length y) s)
unfolding noted
noted-after p s y at e =
    rw (take_at p s at e, ← e, drop-append-add p s (length y))

pub noted-over : (p x s y : List ℕ) (at : ℕ) → length p ≡ at → length x ≡ length y → noted (p ++ (x ++ s)) at y ≡ p ++ (y ++ s)
noted-over p x s y at e l = noted-after p (x ++ s) y at e ∙ ap (λ (r : List ℕ). p ++ (y ++ r)) (drop_at x s (length y) l)
