-- `refusal` is 0 exactly where a chunk was written: 38, 39 and 40 are none of them 0.
use Rattle.blorb.specs.Refusals.{answer_by}
use Rattle.std.specs.Prelude.{Ok}
use mathlib.Core.Path.{◌≡◌, refl}
use Prim.Native.Nat.{ℕ, zero, suc, ◌+◌}
use mathlib.Core.List.{List}
use mathlib.Core.Bool.{◌&&◌, not}
use native.Mathlib.Omega.{arith}
use lib.Dec.{leb}
use Rattle.blorb.specs.Verdict.{Verdict, accept, refuse}
use Rattle.describing.specs.List.{count_of, list_of}
use Rattle.describing.specs.Writing.{repeated, text_good_of, row_fault, rows_fault, whole_size, write_fault, writing_of}
use Rattle.capi.specs.Numbered.{Numbered}
use Rattle.capi.specs.WriteNumbers.{write_numbers}
use Rattle.capi.proofs.Numbered.{one, both}

rows-numbered : (rows texts : List ℕ) (n i : ℕ) → Numbered (rows_fault rows texts n i)
unfolding rows_fault row_fault
rows-numbered rows texts zero i = unfold Numbered in tt
rows-numbered rows texts (suc n) i =
    both _ _
    (both _ _ (one (not (repeated rows texts i)) 38 i (omega arith)) (one (text_good_of rows texts i) 39 i (omega arith))) (rows-numbered rows texts n (i + 1))

pub zero-written : (rows texts : List ℕ) (room : ℕ) → (write_numbers (writing_of rows texts room)).refusal ≡ 0 → (n : ℕ) × (writing_of rows texts room ≡ Ok n)
unfolding writing_of write_fault Numbered
zero-written rows texts room e = go (write_fault rows texts room) numbered (whole_size (list_of rows texts)) e
  where
    numbered : Numbered (write_fault rows texts room)
    numbered =
        both _ _ (rows-numbered rows texts (count_of rows) 0)
        (one (leb (whole_size (list_of rows texts)) room && leb (whole_size (list_of rows texts)) 16777216) 40 0 (omega arith))

    go : (v : Verdict) → Numbered v → (m : ℕ) → (write_numbers (answer_by v m)).refusal ≡ 0 → (n : ℕ) × (answer_by v m ≡ Ok n)
    go accept h m q = (m, refl)
    go (refuse k p) h m q = absurd (omega (arith, h, q))
