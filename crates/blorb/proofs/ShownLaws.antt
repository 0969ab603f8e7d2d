-- What a lookup shows of a chunk. Where the chunk is read from a file's bytes, writing its header again gives those very bytes, so what is shown is a
-- part of the file.
use mathlib.Core.Path.{◌≡◌, refl, sym, ap, ◌∙◌}
use Prim.Native.Nat.{ℕ, ◌+◌, ◌%◌, ◌≤◌}
use mathlib.Core.List.{List, ◌++◌, append_assoc}
use mathlib.Core.Bool.{Bool, true, false, cond}
use native.Mathlib.Omega.{arith}
use lib.ListN.{length, take, drop, replicate, length-drop}
use lib.Seq.{drop-drop, take-add, length-take-le}
use lib.Dec.{eqb}
use borrow.Author.Tests.{eq-eqb, ne_eqb}
use Rattle.blorb.specs.Bytes.{be32, rd32, Byte}
use Rattle.blorb.specs.Tags.{FORM}
use Rattle.blorb.specs.All.{All}
use Rattle.blorb.specs.Format.{Chunk, chunk_bytes, chunk_in}
use Rattle.blorb.specs.Lookup.{left_out_of, shown}
use Rattle.blorb.proofs.AllLaws.{all_drop}
use Rattle.blorb.proofs.Accept.{again}

pub left_form : (t : ℕ) → t ≡ FORM → 0 ≡ left_out_of t
unfolding left_out_of
left_form t e = rw (eq-eqb t FORM e)

pub left_other : (t : ℕ) → (t ≡ FORM → ⊥) → 8 ≡ left_out_of t
unfolding left_out_of
left_other t e = rw (ne_eqb t FORM e)

pub left_most : (t : ℕ) → left_out_of t ≤ 8
unfolding left_out_of
left_most t = go (eqb t FORM)
  where
    go : (b : Bool) → cond b 0 8 ≤ 8
    go true = omega arith
    go false = omega arith

-- of a 'FORM' "the whole chunk, header included and padding not" (02, P3): its bytes are what is shown of it, and the padding
pub shown_form : (c : Chunk) → c.type ≡ FORM → chunk_bytes c ≡ shown c ++ replicate (length c.body % 2) 0
unfolding chunk_bytes shown
shown_form c e = rw (← left_form c.type e) (simp append_assoc)

-- of another type the data (01)
pub shown_other : (c : Chunk) → (c.type ≡ FORM → ⊥) → shown c ≡ c.body
unfolding shown be32
shown_other c e = rw (← left_other c.type e) refl

-- header and data of the chunk that s begins with
whole_in : (s : List ℕ) (m : ℕ) → m ≡ rd32 (drop 4 s) → All Byte s → 8 + m ≤ length s → be32 (rd32 s) ++ (be32 m ++ take m (drop 8 s)) ≡ take (8 + m) s
whole_in s m e bytes h =
    let e1 : be32 (rd32 s) ≡ take 4 s = again s bytes (omega arith) in
    let e2 : be32 m ≡ take 4 (drop 4 s) = ap be32 e ∙ again (drop 4 s) (all_drop Byte 4 s bytes) (simp length-drop (omega arith)) in
    let e3 : 4 + (4 + m) ≡ 8 + m = omega arith in
    rw (e1, e2, ← drop-drop 4 4 s, ← take-add 4 m (drop 4 s), ← take-add 4 (4 + m) s) (ap (λ (k : ℕ). take k s) e3)

-- what is shown of it: its bytes in s, from what is left out on
pub shown_in : (s : List ℕ) (m : ℕ) → m ≡ rd32 (drop 4 s) → All Byte s → 8 + m ≤ length s → shown (chunk_in s) ≡ drop (left_out_of (rd32 s)) (take (8 + m) s)
unfolding shown chunk_in
shown_in s m e bytes h =
    let l : length (take (rd32 (drop 4 s)) (drop 8 s)) ≡ m = length-take-le _ _ (simp length-drop (omega (arith, e))) ∙ sym e in
    rw (l, ← e) (ap (drop (left_out_of (rd32 s))) (whole_in s m e bytes h))
