-- What the writer answers, and the buffer afterwards (02, P7). In all of this rows are the numbers of the list and texts the slice that they name.
use Rattle.std.specs.Prelude.{ℕ, zero, suc, ◌+◌, List, ◌++◌, Bool, ◌&&◌, not, length, drop, leb, Result}
use Rattle.blorb.specs.Format.{chunk_of, chunk_bytes, sized}
use Rattle.blorb.specs.Verdict.{Verdict, accept, refuse, ◌then◌, check}
use Rattle.rdes.specs.Rdes.{Desc, RDes, body_of, pair_among, good_text}
use Rattle.describing.specs.List.{usage_of, number_of, place_of, length_of, row_text, rows_from, count_of, list_of}
use Rattle.blorb.specs.Refusals.{answer_by}
use Rattle.blorb.specs.declared.refusal.Refusal.{Refusal}

-- 38: "a repeated pair": an earlier row has row i's
unfoldable pub repeated : List ℕ → List ℕ → ℕ → Bool
repeated rows texts i = pair_among (usage_of rows i) (number_of rows i) (rows_from rows texts i 0)

-- 39: "bad text" ("Texts are UTF-8 by RFC 3629"), "also a text past its slice"
unfoldable pub text_good_of : List ℕ → List ℕ → ℕ → Bool
text_good_of rows texts i = leb (place_of rows i + length_of rows i) (length texts) && good_text (row_text rows texts i)

-- "entry by entry, 38 before 39"; "place the first faulty row from 0"
unfoldable pub row_fault : List ℕ → List ℕ → ℕ → Verdict
row_fault rows texts i = check (not (repeated rows texts i)) 38 i then check (text_good_of rows texts i) 39 i

-- of n rows from row i on
unfoldable pub rows_fault : List ℕ → List ℕ → ℕ → ℕ → Verdict
rows_fault rows texts zero i = accept
rows_fault rows texts (suc n) i = row_fault rows texts i then rows_fault rows texts n (i + 1)

-- how many bytes the whole chunk takes, header and padding in
abbrev pub whole_size : List Desc → ℕ
whole_size ds = sized (length (body_of ds))

-- "then 40, buffer too small or a chunk over 01's file limit"; room is the buffer's length
unfoldable pub write_fault : List ℕ → List ℕ → ℕ → Verdict
write_fault rows texts room =
    rows_fault rows texts (count_of rows) 0
    then check (leb (whole_size (list_of rows texts)) room && leb (whole_size (list_of rows texts)) 16777216) 40 0

-- the answer: how long the chunk is
unfoldable pub writing_of : List ℕ → List ℕ → ℕ → Result ℕ Refusal
writing_of rows texts room = answer_by (write_fault rows texts room) (whole_size (list_of rows texts))

-- the buffer afterwards: "write the whole chunk from a list", "bytes behind it stay"; a refusal leaves it as it was
abbrev pub written_by : Verdict → List Desc → List ℕ → List ℕ
written_by accept ds buf = chunk_bytes (chunk_of RDes (body_of ds)) ++ drop (whole_size ds) buf
written_by (refuse k p) ds buf = buf

unfoldable pub written_of : List ℕ → List ℕ → List ℕ → List ℕ
written_of rows texts buf = written_by (write_fault rows texts (length buf)) (list_of rows texts) buf
