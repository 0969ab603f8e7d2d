-- Chunks and index entries, and how they stand in a file's bytes (01, rules 1 to 4): written, and read back without judging.
use Rattle.std.specs.Prelude.{ℕ, zero, suc, ◌+◌, ◌%◌, List, [], ◌∷◌, ◌++◌, Bool, false, ◌||◌, cond, length, take, drop, replicate, eqb}
use Rattle.blorb.specs.Bytes.{be32, rd32}
use Rattle.blorb.specs.Tags.{FORM, IFRS, RIdx}

-- rule 2: "A chunk is a four-byte type, a four-byte data length m, m data bytes and, if m is odd, one zero byte." Here: its type and its data.
pub record Chunk : Type 0 where
  pub type : ℕ
  pub body : List ℕ

abbrev pub chunk_of : ℕ → List ℕ → Chunk
chunk_of t d = record { type = t; body = d }

-- rule 3: "12 bytes an entry: usage, number, start"; as it stands in the file
pub record Entry : Type 0 where
  pub usage : ℕ
  pub number : ℕ
  pub start : ℕ

-- an entry that names its chunk by its place among the chunks behind the index
pub record Ref : Type 0 where
  pub usage : ℕ
  pub number : ℕ
  pub chunk : ℕ

-- how many bytes a chunk with m data bytes takes: "The length counts neither header nor padding" (rule 2)
unfoldable pub sized : ℕ → ℕ
sized m = 8 + (m + m % 2)

unfoldable pub size : Chunk → ℕ
unfolding sized
size c = sized (length c.body)

-- a chunk's bytes (rule 2)
unfoldable pub chunk_bytes : Chunk → List ℕ
chunk_bytes c = be32 c.type ++ (be32 (length c.body) ++ (c.body ++ replicate (length c.body % 2) 0))

unfoldable pub chunks_bytes : List Chunk → List ℕ
chunks_bytes [] = []
chunks_bytes (c ∷ cs) = chunk_bytes c ++ chunks_bytes cs

-- the bytes of all these chunks together
unfoldable pub total : List Chunk → ℕ
total [] = 0
total (c ∷ cs) = size c + total cs

-- rule 1: "Bytes 0 to 3 are 'FORM', 4 to 7 the file length less 8, 8 to 11 'IFRS'. Chunks follow from offset 12 and fill the file exactly."
unfoldable pub file_bytes : List Chunk → List ℕ
file_bytes cs = be32 FORM ++ (be32 (4 + total cs) ++ (be32 IFRS ++ chunks_bytes cs))

-- reading: the chunk that s begins with, and all chunks in s (k bounds their number). It never fails: what is wrong is told by the verdict.
unfoldable pub chunk_in : List ℕ → Chunk
chunk_in s = record { type = rd32 s; body = take (rd32 (drop 4 s)) (drop 8 s) }

unfoldable pub chunks_in : ℕ → List ℕ → List Chunk
chunks_in zero s = []
chunks_in (suc k) [] = []
chunks_in (suc k) (b ∷ s) = chunk_in (b ∷ s) ∷ chunks_in k (drop (sized (rd32 (drop 4 (b ∷ s)))) (b ∷ s))

-- the chunks of a file, from offset 12 on (rule 1)
unfoldable pub chunks_of : List ℕ → List Chunk
chunks_of f = chunks_in (length f) (drop 12 f)

unfoldable pub entry_from : List ℕ → Entry
entry_from s = record { usage = rd32 s; number = rd32 (drop 4 s); start = rd32 (drop 8 s) }

-- n entries from the front of s
unfoldable pub entries_in : ℕ → List ℕ → List Entry
entries_in zero s = []
entries_in (suc n) s = entry_from s ∷ entries_in n (drop 12 s)

unfoldable pub entry_bytes : Entry → List ℕ
entry_bytes e = be32 e.usage ++ (be32 e.number ++ be32 e.start)

unfoldable pub entries_bytes : List Entry → List ℕ
entries_bytes [] = []
entries_bytes (e ∷ es) = entry_bytes e ++ entries_bytes es

-- rule 3: "Its data: a count, then 12 bytes an entry"; the index chunk that holds these entries
unfoldable pub index_chunk : List Entry → Chunk
index_chunk es = record { type = RIdx; body = be32 (length es) ++ entries_bytes es }

-- the entries in an index chunk
unfoldable pub entries_of : Chunk → List Entry
entries_of c = entries_in (rd32 c.body) (drop 4 c.body)

-- rule 4: "A start is the first byte of a chunk"; of one of these chunks, which stand from offset at on
unfoldable pub is_start : ℕ → ℕ → List Chunk → Bool
is_start s at [] = false
is_start s at (c ∷ cs) = eqb s at || is_start s (at + size c) cs

-- the chunk at s: its place in the list; the list's length where none is at s
unfoldable pub place_of : ℕ → ℕ → List Chunk → ℕ
place_of s at [] = 0
place_of s at (c ∷ cs) = cond (eqb s at) 0 (suc (place_of s (at + size c) cs))

unfoldable pub ref_of : ℕ → List Chunk → Entry → Ref
ref_of at cs e = record { usage = e.usage; number = e.number; chunk = place_of e.start at cs }
