-- Laws of the byte-moving leaves.
use Prim.Native.Nat.{ℕ, zero, suc, ◌+◌, ◌*◌, ◌-◌, ◌%◌, ◌≤◌, ◌<◌}
use mathlib.Core.Path.{◌≡◌, refl, ap, ◌∙◌}
use mathlib.Core.List.{List, [], ◌∷◌, ◌++◌, append_assoc}
use native.Mathlib.Omega.{arith}
use lib.ListN.{length, take, drop, set, replicate, length-replicate, length-append, length-drop, take-append-drop}
use lib.Seq.{set_split, drop-drop}
use Rattle.blorb.specs.Bytes.{Byte, be32, rd32}
use Rattle.blorb.specs.All.{All}
use Rattle.blorb.proofs.AllLaws.{all_drop}
use Rattle.blorb.proofs.Accept.{again}
use Rattle.blorb.proofs.ByteLaws.{length-be32}
use Rattle.edits.specs.Run.{noted}
use Rattle.edits.proofs.Noted.{noted-next}
use Rattle.blorb.specs.Tags.{FORM, IFRS, RIdx}
use Rattle.blorb.specs.Format.{chunk_bytes, chunk_of}
use Rattle.blorb.specs.Layout.{heading}
use Rattle.edits.specs.Journal.{rec_bytes, rec_body}
use Rattle.moves.specs.Moves.{starts_moved}

-- bytes put in the place of as many
pub put_over : (b d : List ℕ) (at n : ℕ) → n ≡ length d → take at b ++ (d ++ drop n (drop at b)) ≡ noted b at d
unfolding noted
put_over b d at n e = ap (λ (l : List ℕ). take at b ++ (d ++ l)) (drop-drop n at b ∙ ap (λ (k : ℕ). drop (at + k) b) e)

-- one start of several
pub start-turn : (f : ℕ → ℕ) (n i at p : ℕ) (b : List ℕ) → i < n
    → starts_moved f (n - (i + 1)) (p + 12) (noted b (p + 8) (be32 (f (rd32 (drop (p + 8) b))))) ≡ starts_moved f (n - i) p b
start-turn f n i at p b h =
    let e : n - i ≡ suc (n - (i + 1)) = omega arith in
    rw e (unfold starts_moved in refl)

pub starts_done : (f : ℕ → ℕ) (n i p : ℕ) (b : List ℕ) → n ≤ i → starts_moved f (n - i) p b ≡ b
starts_done f n i p b h =
    let e : n - i ≡ 0 = omega arith in
    rw e (unfold starts_moved in refl)

-- a number read and written back
read_back : (b : List ℕ) (at : ℕ) → All Byte b → at + 4 ≤ length b → noted b at (be32 (rd32 (drop at b))) ≡ b
unfolding noted
read_back b at h l =
    let e : be32 (rd32 (drop at b)) ≡ take 4 (drop at b) = again (drop at b) (all_drop Byte at b h) (simp length-drop (omega arith)) in
    rw (length-be32, e, ← drop-drop 4 at b, take-append-drop 4 (drop at b)) (take-append-drop at b)

-- starts that stay
pub starts_stay : (f : ℕ → ℕ) → ((x : ℕ) → f x ≡ x) → (n at : ℕ) (b : List ℕ) → All Byte b → at + 12 * n ≤ length b → starts_moved f n at b ≡ b
unfolding starts_moved
starts_stay f e zero at b h l = refl
starts_stay f e (suc n) at b h l =
    let r : ℕ = rd32 (drop (at + 8) b) in
    let s : noted b (at + 8) (be32 (f r)) ≡ b = ap (λ (x : ℕ). noted b (at + 8) (be32 x)) (e r) ∙ read_back b (at + 8) h (omega arith) in
    ap (starts_moved f n (at + 12)) s ∙ starts_stay f e n (at + 12) b h (omega arith)

-- numbers side by side
pub words : (b : List ℕ) (at x y z : ℕ) → at + 12 ≤ length b
    → noted (noted (noted b at (be32 x)) (at + 4) (be32 y)) (at + 8) (be32 z) ≡ noted b at (be32 x ++ (be32 y ++ be32 z))
words b at x y z h =
    rw (
      noted-next b at (at + 4) (be32 x) (be32 y) (simp length-be32) (simp length-be32 (omega arith)),
      noted-next b at (at + 8) (be32 x ++ be32 y) (be32 z) (simp (length-append, length-be32)) (simp length-be32 (omega arith)),
      append_assoc (be32 x) (be32 y) (be32 z),
    )

pub heading-written : (b : List ℕ) (n t : ℕ) → 24 ≤ length b
    → noted (noted b 0 (be32 FORM ++ (be32 (16 + 12 * n + t) ++ be32 IFRS))) 12 (be32 RIdx ++ (be32 (4 + 12 * n) ++ be32 n)) ≡ noted b 0 (heading n t)
unfolding heading
heading-written b n t h =
    rw (noted-next b 0 12 (be32 FORM ++ (be32 (16 + 12 * n + t) ++ be32 IFRS)) (be32 RIdx ++ (be32 (4 + 12 * n) ++ be32 n))
    (simp (length-append, length-be32)) (simp (length-append, length-be32) (omega arith)))
    (ap (noted b 0) (simp append_assoc))

pub chunk-written : (b : List ℕ) (at t : ℕ) (d : List ℕ) → at + (8 + (length d + length d % 2)) ≤ length b
    → noted (noted (noted (noted b at (be32 t)) (at + 4) (be32 (length d))) (at + 8) d) (at + 8 + length d) (replicate (length d % 2) 0) ≡ noted b at
    (chunk_bytes (chunk_of t d))
unfolding chunk_bytes
chunk-written b at t d h =
    rw (
      noted-next b at (at + 4) (be32 t) (be32 (length d)) (simp length-be32) (simp length-be32 (omega arith)),
      noted-next b at (at + 8) (be32 t ++ be32 (length d)) d (simp (length-append, length-be32)) (omega arith),
      noted-next b at (at + 8 + length d) ((be32 t ++ be32 (length d)) ++ d) (replicate (length d % 2) 0) (simp (length-append, length-be32) (omega arith))
          (simp length-replicate (omega arith)),
    )
    (ap (noted b at) (simp append_assoc))

pub record_written : (b : List ℕ) (at k u n p s t : ℕ) (d : List ℕ) → at + (29 + length d) ≤ length b
    → noted (noted (noted (noted (noted b at (k ∷ [])) (at + 1) (be32 u ++ (be32 n ++ be32 p))) (at + 13) (be32 s ++ (be32 t ++ be32 (length d)))) (at + 25)
    d) (at + 25 + length d) (be32 (25 + length d))
    ≡ noted b at (rec_bytes (record { kind = k; usage = u; number = n; place = p; start = s; type = t; body = d }))
unfolding rec_bytes rec_body
record_written b at k u n p s t d h =
    let x : List ℕ = be32 u ++ (be32 n ++ be32 p) in
    let y : List ℕ = be32 s ++ (be32 t ++ be32 (length d)) in
    let lx : length x ≡ 12 = simp (length-append, length-be32) in
    let ly : length y ≡ 12 = simp (length-append, length-be32) in
    rw (
      noted-next b at (at + 1) (k ∷ []) x (omega arith) (omega arith),
      noted-next b at (at + 13) (k ∷ x) y (omega arith) (omega arith),
      noted-next b at (at + 25) ((k ∷ x) ++ y) d (simp (length-append, length-be32) (omega arith)) (omega arith),
      noted-next b at (at + 25 + length d) (((k ∷ x) ++ y) ++ d) (be32 (25 + length d)) (simp (length-append, length-be32) (omega arith))
          (simp length-be32 (omega arith)),
    )
    (ap (noted b at) (simp append_assoc))

-- a byte
pub one_byte : (b : List ℕ) (at k : ℕ) → at < length b → set b at k ≡ noted b at (k ∷ [])
unfolding noted
one_byte b at k h = let e : suc at ≡ at + 1 = omega arith in set_split b at k h ∙ ap (λ (i : ℕ). take at b ++ (k ∷ drop i b)) e
