-- The verdict on a file (01, Refusal numbers, in order of checking): accepted, or the number and place of the first refusal of the table.
use Rattle.std.specs.Prelude.{ℕ, zero, suc, ◌+◌, ◌*◌, ◌%◌, List, [], ◌∷◌, ◌++◌, map, Bool, true, false, ◌||◌, ◌&&◌, not, length, get_or, drop, eqb, leb}
use Rattle.blorb.specs.Bytes.{rd32}
use Rattle.blorb.specs.Tags.{FORM, IFRS, RIdx, Pict, Snd, Data, Exec}
use Rattle.blorb.specs.Format.{Chunk, Entry, sized, size, chunks_of, entries_of, is_start, Ref, ref_of}

pub data Verdict : Type 0 where
  accept : Verdict
  refuse : ℕ → ℕ → Verdict

abbrev pub accepted : Verdict → Bool
accepted accept = true
accepted (refuse k p) = false

infixr 20 ◌then◌
-- the first refusal of two
unfoldable pub ◌then◌ : Verdict → Verdict → Verdict
accept then v = v
(refuse k p) then v = refuse k p

-- refusal k at p unless the test holds
unfoldable pub check : Bool → ℕ → ℕ → Verdict
check true k p = accept
check false k p = refuse k p

-- 1 to 5: the file's length and its header
unfoldable pub head_fault : List ℕ → Verdict
head_fault f =
    check (leb (length f) 16777216) 1 0
    then check (leb 12 (length f)) 2 0
    then check (eqb (rd32 f) FORM) 3 0
    then check (eqb (rd32 (drop 8 f)) IFRS) 4 8
    then check (eqb (8 + rd32 (drop 4 f)) (length f)) 5 4

-- The faults of a single chunk, the one that s begins with, at offset at. 6: "fewer than 8 header bytes", at its start; 28: "a length running
-- past the end", at the length field; 29: "a missing padding byte", at the file's end (02, P1); 7: "padding byte not zero", at that byte.
unfoldable pub chunk_fault : ℕ → List ℕ → Verdict
chunk_fault at s =
    check (leb 8 (length s)) 6 at
    then check (leb (8 + rd32 (drop 4 s)) (length s)) 28 (at + 4)
    then check (leb (sized (rd32 (drop 4 s))) (length s)) 29 (at + length s)
    then check (eqb (rd32 (drop 4 s) % 2) 0 || eqb (get_or s (8 + rd32 (drop 4 s)) 0) 0) 7 (at + (8 + rd32 (drop 4 s)))

-- "6 and 7 are found walking forward; the first faulty chunk decides, 6 before 7"; "28 and 29 stand with 6, before 7" (02, P1). k bounds the
-- number of chunks.
unfoldable pub walk_fault : ℕ → ℕ → List ℕ → Verdict
walk_fault zero at s = accept
walk_fault (suc k) at [] = accept
walk_fault (suc k) at (b ∷ s) =
    chunk_fault at (b ∷ s)
    then walk_fault k (at + sized (rd32 (drop 4 (b ∷ s)))) (drop (sized (rd32 (drop 4 (b ∷ s)))) (b ∷ s))

-- 9: "a second 'RIdx'", at its start; the chunks behind the first one stand from at on
unfoldable pub second_index : ℕ → List Chunk → Verdict
second_index at [] = accept
second_index at (c ∷ cs) = check (not (eqb c.type RIdx)) 9 at then second_index (at + size c) cs

-- 10: "index shorter than 4 or not 4 + 12 × count", as whole numbers (rule 3); 11: "more than 4,096 entries"
unfoldable pub index_fault : List ℕ → Verdict
index_fault d =
    check (leb 4 (length d) && eqb (length d) (4 + 12 * rd32 d)) 10 16
    then check (leb (rd32 d) 4096) 11 20

-- stands where a list of chunks has none
abbrev pub no_chunk : Chunk
no_chunk = record { type = 0; body = [] }

-- rule 4: "A usage is 'Pict', 'Snd ', 'Data' or 'Exec'"
abbrev pub known_usage_of : ℕ → Bool
known_usage_of u = eqb u Pict || eqb u Snd || eqb u Data || eqb u Exec

-- rule 6: an entry with this usage and number is among these
unfoldable pub pair_in : ℕ → ℕ → List Ref → Bool
pair_in u n [] = false
pair_in u n (r ∷ rs) = (eqb r.usage u && eqb r.number n) || pair_in u n rs

-- the chunk of the last of these entries, by its place; 0 where there is none
unfoldable pub last_place : List Ref → ℕ
last_place [] = 0
last_place (r ∷ []) = r.chunk
last_place (r ∷ (q ∷ rs)) = last_place (q ∷ rs)

-- The rules of a profile: whether there is such a profile, rule 5 for a usage and a chunk, and rule 7 (17 to 19) for the offset of the
-- first chunk behind the index, the entries and the chunks.
pub record Rules : Type 0 where
  pub known : Bool
  pub rule5 : ℕ → Chunk → Bool
  pub rule7 : ℕ → List Ref → List Chunk → Verdict

module _ (R : Rules) where
  -- 14 to 16 of one entry at p, whose chunk is known (rules 5 and 6); earlier: the entries before it
  unfoldable pub ref_fault : List Chunk → List Ref → ℕ → Ref → Verdict
  ref_fault cs earlier p r =
      check (R.rule5 r.usage (get_or cs r.chunk no_chunk)) 14 p
      then check (not (eqb r.usage Exec) || eqb r.number 0) 15 (p + 4)
      then check (not (pair_in r.usage r.number earlier)) 16 p

  -- "12 to 16 go entry by entry, the first faulty entry deciding, in that order within it": of the entries from p on;
  -- the chunks behind the index stand from at on. 27, "after 16 within an entry", is "a start lower than the entry's before it" (02, P5). The chunks
  -- stand one behind the other, so a start is lower just where its chunk has a lower place: proofs/Places, start_order.
  unfoldable pub entries_fault : ℕ → List Chunk → List Ref → ℕ → List Entry → Verdict
  entries_fault at cs earlier p [] = accept
  entries_fault at cs earlier p (e ∷ es) =
      check (known_usage_of e.usage) 12 p
      then check (is_start e.start at cs) 13 (p + 8)
      then ref_fault cs earlier p (ref_of at cs e)
      then check (leb (last_place earlier) (ref_of at cs e).chunk) 27 (p + 8)
      then entries_fault at cs (earlier ++ (ref_of at cs e ∷ [])) (p + 12) es

  -- 9 to 19 with 27, c being the first chunk
  unfoldable pub rest_fault : Chunk → List Chunk → Verdict
  rest_fault c cs =
      second_index (12 + size c) cs
      then index_fault c.body
      then entries_fault (12 + size c) cs [] 24 (entries_of c)
      then R.rule7 (12 + size c) (map (ref_of (12 + size c) cs) (entries_of c)) cs

  -- 8: "no chunk, or the first isn't 'RIdx'", at 12; then the rest
  unfoldable pub layout_fault : List Chunk → Verdict
  layout_fault [] = refuse 8 12
  layout_fault (c ∷ cs) = check (eqb c.type RIdx) 8 12 then rest_fault c cs

  -- the whole table: 1 to 5, then 6, 28, 29 and 7 of all chunks, then 8 to 19 with 27
  unfoldable pub verdict : List ℕ → Verdict
  verdict f = head_fault f then (walk_fault (length f) 12 (drop 12 f) then layout_fault (chunks_of f))

  -- what the reader answers: 52, "an unknown profile, before all others" (02, P12), then the table
  unfoldable pub reading : List ℕ → Verdict
  reading f = check R.known 52 0 then verdict f
