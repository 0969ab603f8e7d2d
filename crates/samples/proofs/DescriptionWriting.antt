-- Samples of the writer of descriptions (02, P7), in one table: chunks of no, one and two texts, of odd and even length, room just right and one short, and
-- where 38, 39 and 40 stand in the order. What the code answers follows by its contract, equations with the definitions that these rows compute.
use Rattle.std.specs.Prelude.{Ok, Result}
use Rattle.blorb.specs.declared.refusal.Refusal.{Refusal}
use Rattle.blorb.specs.Refusals.{Refused}
use mathlib.Core.Path.{◌≡◌, refl}
use Prim.Native.Nat.{ℕ}
use mathlib.Core.List.{List, [], ◌∷◌, ◌++◌}
use lib.ListN.{length, replicate}
use Rattle.blorb.specs.All.{All}
use Rattle.blorb.specs.Bytes.{be32}
use Rattle.blorb.specs.Tags.{Pict, Snd}
use Rattle.blorb.specs.Format.{sized, chunk_bytes}
use Rattle.blorb.specs.Verdict.{◌then◌, check}
use Rattle.utf8.specs.Utf8.{forms, begins, form_length, char_length, good_in, good_length_of}
use Rattle.rdes.specs.Rdes.{RDes, entries_bytes, body_of, pair_among}
use Rattle.describing.specs.List.{rows_from}
use Rattle.describing.specs.Writing.{repeated, text_good_of, row_fault, rows_fault, write_fault, writing_of, written_of}

-- opens every definition that a row computes with
computed : ℕ
unfolding be32 sized chunk_bytes ◌then◌ check forms begins form_length char_length good_in good_length_of entries_bytes body_of pair_among rows_from
    repeated text_good_of row_fault rows_fault write_fault writing_of written_of
computed = 0

-- "eel", the letter é, and a byte that stands in no text
abbrev texts : List ℕ
texts = 101 ∷ (101 ∷ (108 ∷ (195 ∷ (169 ∷ (255 ∷ [])))))

-- a row of the list: usage, number, place and length of its text
abbrev row : ℕ → ℕ → ℕ → ℕ → List ℕ
row u n place size = u ∷ (n ∷ (place ∷ (size ∷ [])))

-- an 'RDes' of so many data bytes and entries
abbrev head : ℕ → ℕ → List ℕ
head size count = be32 RDes ++ (be32 size ++ be32 count)

-- an entry's numbers, its text behind them
abbrev entry : ℕ → ℕ → List ℕ → List ℕ
entry u n t = be32 u ++ (be32 n ++ (be32 (length t) ++ t))

abbrev eel : List ℕ
eel = 101 ∷ (101 ∷ (108 ∷ []))

pub record WritingRow : Type 0 where
  pub rows : List ℕ
  pub buffer : List ℕ
  pub answer : Result ℕ Refusal
  pub after : List ℕ

-- a list over these texts, a buffer, the answer, and the buffer afterwards
abbrev writes : List ℕ → List ℕ → Result ℕ Refusal → List ℕ → WritingRow
writes r b a c = record { rows = r; buffer = b; answer = a; after = c }

-- a refused call leaves the buffer as it was
abbrev refuses : List ℕ → List ℕ → ℕ → ℕ → WritingRow
refuses r b k p = writes r b (Refused k p) b

unfoldable pub writings : List WritingRow
writings =
    -- no row, with a partial one behind; just the room for it, and one byte less
    writes [] (replicate 12 9) (Ok 12) (head 4 0) ∷ (
    writes (Pict ∷ (1 ∷ (0 ∷ []))) (replicate 13 9) (Ok 12) (head 4 0 ++ (9 ∷ [])) ∷ (
    refuses [] (replicate 11 9) 40 0 ∷ (
    -- a text of three bytes, padded, and one of two
    writes (row Pict 1 0 3) (replicate 30 9) (Ok 28) (head 19 1 ++ (entry Pict 1 eel ++ (0 ∷ (9 ∷ (9 ∷ []))))) ∷ (
    writes (row Pict 1 0 3) (replicate 28 9) (Ok 28) (head 19 1 ++ (entry Pict 1 eel ++ (0 ∷ []))) ∷ (
    refuses (row Pict 1 0 3) (replicate 27 9) 40 0 ∷ (
    writes (row Pict 1 3 2) (replicate 26 9) (Ok 26) (head 18 1 ++ entry Pict 1 (195 ∷ (169 ∷ []))) ∷ (
    refuses (row Pict 1 3 2) (replicate 25 9) 40 0 ∷ (
    -- two rows in their order, the second text before the first; an empty text at the slice's end
    writes (row Pict 7 1 2 ++ row Snd 7 0 1) (replicate 40 9) (Ok 40)
    (head 31 2 ++ (entry Pict 7 (101 ∷ (108 ∷ [])) ++ (entry Snd 7 (101 ∷ []) ++ (0 ∷ [])))) ∷ (
    writes (row Pict 1 6 0) (replicate 24 9) (Ok 24) (head 16 1 ++ entry Pict 1 []) ∷ (
    -- a text one past its slice, an empty one behind it, a bad byte, a cut character
    refuses (row Pict 1 0 7) (replicate 40 9) 39 0 ∷ (
    refuses (row Pict 1 7 0) (replicate 40 9) 39 0 ∷ (
    refuses (row Pict 1 0 3 ++ row Pict 2 3 3) (replicate 60 9) 39 1 ∷ (
    refuses (row Pict 1 2 2) (replicate 40 9) 39 0 ∷ (
    -- a repeated pair; 38 before 39 in a row, after the 39 of an earlier one, both before 40
    refuses (row Pict 1 0 3 ++ (row Pict 2 0 3 ++ row Pict 1 0 1)) (replicate 60 9) 38 2 ∷ (
    refuses (row Pict 1 0 3 ++ row Pict 1 0 7) (replicate 60 9) 38 1 ∷ (
    refuses (row Pict 1 0 7 ++ row Pict 1 0 3) [] 39 0 ∷ (
    refuses (row Pict 1 0 3 ++ row Pict 1 0 3) [] 38 1 ∷ [])))))))))))))))))

abbrev WritingHolds : WritingRow → Type 0
WritingHolds r = (writing_of r.rows texts (length r.buffer) ≡ r.answer) × (written_of r.rows texts r.buffer ≡ r.after)

pub writings_hold : All WritingHolds writings
unfolding computed writings
writings_hold = (
  (refl, refl),
  (
    (refl, refl),
    (
      (refl, refl),
      (
        (refl, refl),
        (
          (refl, refl),
          (
            (refl, refl),
            (
              (refl, refl),
              (
                (refl, refl),
                (
                  (refl, refl),
                  (
                    (refl, refl),
                    (
                      (refl, refl),
                      (
                        (refl, refl),
                        ((refl, refl), ((refl, refl), ((refl, refl), ((refl, refl), ((refl, refl), ((refl, refl), tt)))))),
                      ),
                    ),
                  ),
                ),
              ),
            ),
          ),
        ),
      ),
    ),
  ),
)
