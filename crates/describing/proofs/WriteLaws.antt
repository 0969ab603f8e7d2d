-- The writer's answer and the buffer from the verdict on the rows and the size. The size computed is the chunk's, or both are over the limit, so the
-- test of the room is the same for both.
use mathlib.Core.Path.{◌≡◌, refl, sym, ap, ◌∙◌}
use Prim.Native.Nat.{ℕ, ◌+◌, ◌%◌, ◌≤◌, ◌<◌}
use mathlib.Core.List.{List}
use mathlib.Core.Bool.{Bool, true, false, ◌&&◌, ◌||◌, not}
use mathlib.Core.Logic.{◌⊎◌, inl, inr, ⊎_elim}
use native.Mathlib.Omega.{arith}
use lib.ListN.{length, length-append}
use lib.Dec.{leb, ltb}
use borrow.Author.Tests.{le-leb, lt-leb, ltb-true, ltb-false, leb-true, leb-false}
use Rattle.blorb.specs.Format.{chunk_of, chunk_bytes, sized, size}
use Rattle.blorb.specs.Verdict.{accept, refuse}
use Rattle.blorb.proofs.Checks.{neither, holds_last, fails_last, accepts, refuses}
use Rattle.blorb.proofs.ByteLaws.{length-be32}
use Rattle.blorb.proofs.Codec.{length-chunk_bytes}
use Rattle.edits.specs.Run.{noted}
use Rattle.rdes.specs.Rdes.{RDes, body_of}
use Rattle.describing.specs.List.{count_of, list_of, rows_from}
use Rattle.describing.specs.Writing.{rows_fault, whole_size, write_fault, writing_of, written_of}
use Rattle.describing.specs.Bridging.{Within, entries_size, capped}
use Rattle.std.specs.Prelude.{Ok}
use Rattle.blorb.specs.Refusals.{Refused}
use Rattle.describing.proofs.ChunkLaws.{capped_fits, capped-over, entries-length}
use Rattle.describing.proofs.JudgeLaws.{told-within}

pub body-length : (rows texts : List ℕ) (n : ℕ) → Within rows texts n → length (body_of (rows_from rows texts n 0)) ≡ 4 + entries_size rows n 0
unfolding body_of
body-length rows texts n w = let e = entries-length rows texts n w n 0 (omega arith) in simp (length-append, length-be32) (omega arith)

-- the room's test
turned : (a b : ℕ) (x : Bool) → ltb a b ≡ x → leb b a ≡ not x
turned a b true e = lt-leb b a (ltb-true a b e)
turned a b false e = le-leb b a (ltb-false a b e)

both : (x y : Bool) → (not y && not x) ≡ not (x || y)
both true true = refl
both true false = refl
both false true = refl
both false false = refl

room-told : (s room : ℕ) → (leb s room && leb s 16777216) ≡ not (ltb 16777216 s || ltb room s)
room-told s room = rw (turned room s (ltb room s) refl, turned 16777216 s (ltb 16777216 s) refl) (both (ltb 16777216 s) (ltb room s))

-- what is tested: the size m from the computed one
module _ (s m room : ℕ) (e : m ≡ capped s) where
  same-room : (leb (sized s) room && leb (sized s) 16777216) ≡ not (ltb 16777216 (8 + (m + m % 2)) || ltb room (8 + (m + m % 2)))
  unfolding sized
  same-room = ⊎_elim fits over (split s 16777216)
    where
      split : (a b : ℕ) → (a ≤ b) ⊎ (b < a)
      split a b = by (leb a b) refl
        where
          by : (x : Bool) → leb a b ≡ x → (a ≤ b) ⊎ (b < a)
          by true q = inl (leb-true a b q)
          by false q = inr (leb-false a b q)

      fits : s ≤ 16777216 → (leb (8 + (s + s % 2)) room && leb (8 + (s + s % 2)) 16777216) ≡ not (ltb 16777216 (8 + (m + m % 2)) || ltb room (8 + (m + m % 2)))
      fits h = rw (e ∙ capped_fits s h) (room-told (8 + (s + s % 2)) room)

      over : 16777216 < s → (leb (8 + (s + s % 2)) room && leb (8 + (s + s % 2)) 16777216) ≡ not (ltb 16777216 (8 + (m + m % 2)) || ltb room (8 + (m + m % 2)))
      over h = rw (e ∙ capped-over s h, lt-leb (8 + (s + s % 2)) 16777216 (omega arith)) (no (leb (8 + (s + s % 2)) room))
        where
          no : (x : Bool) → (x && false) ≡ false
          no true = refl
          no false = refl

module _ (rows texts b : List ℕ) where
  -- 38 and 39
  pub rows-refused : (k p : ℕ) → refuse k p ≡ rows_fault rows texts (count_of rows) 0
      → (Refused k p ≡ writing_of rows texts (length b)) × (b ≡ written_of rows texts b)
  unfolding writing_of written_of write_fault
  rows-refused k p e =
      let q : write_fault rows texts (length b) ≡ refuse k p = refuses _ _ k p (sym e) in
      (rw q, rw q)

  module _ (m : ℕ) (fine : accept ≡ rows_fault rows texts (count_of rows) 0) (e : m ≡ capped (4 + entries_size rows (count_of rows) 0)) where
    pub told : Within rows texts (count_of rows)
    told = told-within rows texts (count_of rows) (sym fine)

    body_is : length (body_of (list_of rows texts)) ≡ 4 + entries_size rows (count_of rows) 0
    body_is = body-length rows texts (count_of rows) told

    room-is : (leb (whole_size (list_of rows texts)) (length b) && leb (whole_size (list_of rows texts)) 16777216)
        ≡ not (ltb 16777216 (8 + (m + m % 2)) || ltb (length b) (8 + (m + m % 2)))
    room-is = rw body_is (same-room (4 + entries_size rows (count_of rows) 0) m (length b) e)

    -- 40
    pub room-refused : (ltb 16777216 (8 + (m + m % 2)) || ltb (length b) (8 + (m + m % 2))) ≡ true
        → (Refused 40 0 ≡ writing_of rows texts (length b)) × (b ≡ written_of rows texts b)
    unfolding writing_of written_of write_fault
    room-refused t =
        let q : write_fault rows texts (length b) ≡ refuse 40 0 = accepts _ _ (sym fine) ∙ fails_last _ 40 0 (room-is ∙ ap not t) in
        (rw q, rw q)

    module _ (t : (ltb 16777216 (8 + (m + m % 2)) || ltb (length b) (8 + (m + m % 2))) ≡ false) where
      pub fits : (8 + (m + m % 2) ≤ 16777216) × (8 + (m + m % 2) ≤ length b)
      fits = let q = neither _ _ t in (ltb-false _ _ q.0, ltb-false _ _ q.1)

      pub size_is : m ≡ 4 + entries_size rows (count_of rows) 0
      unfolding capped
      size_is = by (leb (4 + entries_size rows (count_of rows) 0) 16777216) refl
        where
          by : (x : Bool) → leb (4 + entries_size rows (count_of rows) 0) 16777216 ≡ x → m ≡ 4 + entries_size rows (count_of rows) 0
          by true q = e ∙ capped_fits (4 + entries_size rows (count_of rows) 0) (leb-true (4 + entries_size rows (count_of rows) 0) 16777216 q)
          by false q =
              let over : m ≡ 16777217
              = e ∙ capped-over (4 + entries_size rows (count_of rows) 0) (leb-false (4 + entries_size rows (count_of rows) 0) 16777216 q) in
              let f = fits in
              absurd (omega arith)

      -- the chunk
      pub list_made : (Ok (8 + (m + m % 2)) ≡ writing_of rows texts (length b))
          × (noted b 0 (chunk_bytes (chunk_of RDes (body_of (list_of rows texts)))) ≡ written_of rows texts b)
      unfolding writing_of written_of write_fault noted
      list_made =
          let q : write_fault rows texts (length b) ≡ accept = accepts _ _ (sym fine) ∙ holds_last _ 40 0 (room-is ∙ ap not t) in
          let s : whole_size (list_of rows texts) ≡ 8 + (m + m % 2) = ap sized (body_is ∙ sym size_is) ∙ (unfold sized in refl) in
          let l : length (chunk_bytes (chunk_of RDes (body_of (list_of rows texts)))) ≡ whole_size (list_of rows texts)
          = length-chunk_bytes (chunk_of RDes (body_of (list_of rows texts))) ∙ (unfold size in refl) in
          let z : 0 + whole_size (list_of rows texts) ≡ whole_size (list_of rows texts) = omega arith in
          (rw (q, s), rw (q, l, z))
