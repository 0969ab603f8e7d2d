-- Lengths: of chunks put together, taken out or changed, and of the file after each edit.
use mathlib.Core.Path.{◌≡◌}
use Prim.Native.Nat.{ℕ, zero, suc, ◌+◌, ◌<◌, ◌%◌}
use mathlib.Core.List.{List, [], ◌∷◌, ◌++◌}
use native.Mathlib.Omega.{arith}
use native.Mathlib.Nat.{le_of_suc-le-suc, not-suc-le-zero}
use lib.ListN.{length, get_or, set, length-append}
use Rattle.blorb.specs.Format.{Ref, Chunk, size, total}
use Rattle.blorb.specs.Verdict.{no_chunk}
use Rattle.blorb.specs.Model.{Model, base, file}
use Rattle.edits.specs.Edit.{added, replaced, removed_both, held, given_chunk}
use Rattle.blorb.specs.Queries.{chunk_at, without}
use Rattle.blorb.proofs.ModelLaws.{length-file}
use Rattle.blorb.proofs.Parts.{size_of}
use Rattle.edits.proofs.UndoLaws.{length_remaining}

pub size-given : (t : ℕ) (d : List ℕ) → size (given_chunk t d) ≡ 8 + length (held t d) + length (held t d) % 2
size-given t d = size_of t (held t d)

pub total-append : (a b : List Chunk) → total (a ++ b) ≡ total a + total b
unfolding total
total-append [] b = omega arith
total-append (x ∷ a) b = omega (arith, total-append a b)

pub total_put : (cs : List Chunk) (k : ℕ) (c : Chunk) → k < length cs → total (set cs k c) + size (get_or cs k no_chunk) ≡ total cs + size c
unfolding total
total_put [] k c h = absurd (not-suc-le-zero h)
total_put (x ∷ cs) zero c h = omega arith
total_put (x ∷ cs) (suc k) c h = omega (arith, total_put cs k c (le_of_suc-le-suc h))

pub total-less : (cs : List Chunk) (k : ℕ) → k < length cs → total (without k cs) + size (get_or cs k no_chunk) ≡ total cs
unfolding total without
total-less [] k h = absurd (not-suc-le-zero h)
total-less (x ∷ cs) zero h = omega arith
total-less (x ∷ cs) (suc k) h = omega (arith, total-less cs k (le_of_suc-le-suc h))

pub length-added : (m : Model) (u n : ℕ) (c : Chunk) → length (file (added m u n c)) ≡ length (file m) + 12 + size c
unfolding added base total
length-added m u n c =
    let x : Ref = record { usage = u; number = n; chunk = length m.chunks } in
    rw (length-file (added m u n c), length-file m) (simp (length-append, total-append) (omega arith))

pub length-replaced : (m : Model) (k : ℕ) (c : Chunk) → k < length m.chunks → length (file (replaced m k c)) + size (chunk_at m k) ≡ length (file m) + size c
unfolding replaced
length-replaced m k c h = rw (length-file (replaced m k c), length-file m) (omega (arith, total_put m.chunks k c h))

pub length_removed : (m : Model) (i k : ℕ) → i < length m.refs → k < length m.chunks → length (file (removed_both m i k)) + 12 + size
    (chunk_at m k) ≡ length (file m)
unfolding base
length_removed m i k h l = rw (length-file (removed_both m i k), length-file m) (omega (arith, length_remaining m i k h, less))
  where
    less : total (removed_both m i k).chunks + size (chunk_at m k) ≡ total m.chunks
    less = unfold removed_both in total-less m.chunks k l
