-- Positions in a file: what stands from an offset on. The loops of the reader keep offsets only.
use Rattle.std.specs.Prelude.{ℕ, ◌+◌, ◌%◌, ◌≤◌, ◌≡◌, List, ◌&&◌, length, drop, eqb, ltb}
use Rattle.blorb.specs.Bytes.{rd32}
use Rattle.blorb.specs.Tags.{RIdx}
use Rattle.blorb.specs.Format.{Chunk, size, chunk_in, chunks_in, is_start}
use Rattle.blorb.specs.Verdict.{Verdict, check, walk_fault}

-- the chunk at offset at, and the offset behind it
abbrev pub chunk_from : List ℕ → ℕ → Chunk
chunk_from f at = chunk_in (drop at f)

abbrev pub next_at : List ℕ → ℕ → ℕ
next_at f at = at + size (chunk_from f at)

-- where the code finds the next chunk
abbrev pub skip_at : List ℕ → ℕ → ℕ
skip_at f at = at + (8 + (rd32 (drop (at + 4) f) + rd32 (drop (at + 4) f) % 2))

-- the chunks from offset at on
unfoldable pub chunks_from : List ℕ → ℕ → List Chunk
chunks_from f at = chunks_in (length f) (drop at f)

-- 6, 28, 29 and 7 of them
unfoldable pub walk_from : List ℕ → ℕ → Verdict
walk_from f at = walk_fault (length f) at (drop at f)

-- 8
unfoldable pub first_fault : List ℕ → Verdict
first_fault f = check (ltb 12 (length f) && eqb (rd32 (drop 12 f)) RIdx) 8 12

-- what is found from base on is what is found from g on, for a start that is not before g
abbrev pub Reached : List ℕ → ℕ → ℕ → Type 0
Reached f base g = (x : ℕ) → g ≤ x → is_start x base (chunks_from f base) ≡ is_start x g (chunks_from f g)
