-- The edits (01, The edits): what a file holds after each. Starts, lengths and count follow from it (`file`); that starts move as 01 says, all by
-- 12, only those behind, by 12 and the chunk's size, is proved in proofs/Starts.antt.
use Rattle.std.specs.Prelude.{ℕ, suc, ◌+◌, ◌-◌, List, [], ◌∷◌, ◌++◌, map, Bool, false, cond, ◌&&◌, ◌||◌, length, take, drop, set, eqb, leb, ltb}
use Rattle.blorb.specs.Bytes.{rd32}
use Rattle.blorb.specs.Tags.{FORM}
use Rattle.blorb.specs.Format.{Ref, Chunk, chunk_of}
use Rattle.blorb.specs.Lookup.{left_out_of}
use Rattle.blorb.specs.Model.{Model}
use Rattle.blorb.specs.Queries.{without, find, ref_at, shared}

-- a call's arguments: usage, number, type and data; usage, number; the original's usage and number, then the new entry's (02, P8)
pub data Edit : Type 0 where
  add : ℕ → ℕ → ℕ → List ℕ → Edit
  replace : ℕ → ℕ → ℕ → List ℕ → Edit
  remove : ℕ → ℕ → Edit
  link : ℕ → ℕ → ℕ → ℕ → Edit

module _ {A : Type 0} where
  -- the list with x put in at i
  unfoldable pub with_at : ℕ → A → List A → List A
  with_at i x l = take i l ++ x ∷ drop i l

-- an entry's chunk by its place after chunk k is gone, and after a chunk has come in at k
unfoldable pub lower : ℕ → Ref → Ref
lower k r = record { usage = r.usage; number = r.number; chunk = cond (ltb k r.chunk) (r.chunk - 1) r.chunk }

unfoldable pub raise : ℕ → Ref → Ref
raise k r = record { usage = r.usage; number = r.number; chunk = cond (leb k r.chunk) (suc r.chunk) r.chunk }

-- add: "entry at the end of the index, chunk at the end of the file"
unfoldable pub added : Model → ℕ → ℕ → Chunk → Model
added m u n c = record { refs = m.refs ++ (record { usage = u; number = n; chunk = length m.chunks } ∷ []); chunks = m.chunks ++ (c ∷ []) }

-- replace: "the chunk in the same position takes the new type and data"; chunk k is now c
unfoldable pub replaced : Model → ℕ → Chunk → Model
replaced m k c = record { refs = m.refs; chunks = set m.chunks k c }

-- remove: "the entry goes. If no other entry shares the chunk, it goes too"; entry i and its chunk k
unfoldable pub removed_both : Model → ℕ → ℕ → Model
removed_both m i k = record { refs = map (lower k) (without i m.refs); chunks = without k m.chunks }

-- "A shared chunk stays": entry i alone
unfoldable pub removed_entry : Model → ℕ → Model
removed_entry m i = record { refs = without i m.refs; chunks = m.chunks }

unfoldable pub removed : Model → ℕ → Model
removed m i = cond (shared m i) (removed_entry m i) (removed_both m i (ref_at m i).chunk)

-- an entry for usage u, number n and chunk k goes in at place i of the index
unfoldable pub entered : Model → ℕ → ℕ → ℕ → ℕ → Model
entered m i k u n = record { refs = with_at i (record { usage = u; number = n; chunk = k }) m.refs; chunks = m.chunks }

-- such an entry goes in at place i of the index, and its chunk c at place k among the chunks
unfoldable pub inserted : Model → ℕ → ℕ → ℕ → ℕ → Chunk → Model
inserted m i k u n c = record {
  refs = with_at i (record { usage = u; number = n; chunk = k }) (map (raise k) m.refs);
  chunks = with_at k c m.chunks;
}

-- an entry stands on chunk k or on one before it: its start isn't greater
abbrev pub up_to : ℕ → Ref → Bool
up_to k r = leb r.chunk k

-- an entry of rs does
unfoldable pub any_up_to : ℕ → List Ref → Bool
any_up_to k [] = false
any_up_to k (r ∷ rs) = up_to k r || any_up_to k rs

-- "after the last entry whose start isn't greater than the chunk's" (02, P8), the chunk being k: behind all entries that have such a one at or
-- behind them
unfoldable pub link_place_of : ℕ → List Ref → ℕ
link_place_of k [] = 0
link_place_of k (r ∷ rs) = cond (any_up_to k (r ∷ rs)) (suc (link_place_of k rs)) 0

-- link: "a new entry on the chunk of an existing one", the chunk being k. "All starts grow by 12."
unfoldable pub linked : Model → ℕ → ℕ → ℕ → Model
linked m k u n = entered m (link_place_of k m.refs) k u n

-- The data as the chunk holds it, of the data given to add or replace: "add and replace of type 'FORM' take the whole file likewise", so the
-- header that a lookup gives with such a chunk is not in it (02, P3).
unfoldable pub held : ℕ → List ℕ → List ℕ
held t d = drop (8 - left_out_of t) d

-- the chunk that the arguments of add and replace describe
abbrev pub given_chunk : ℕ → List ℕ → Chunk
given_chunk t d = chunk_of t (held t d)

-- "the data starts with 'FORM' and a length of its size less 8" (02, P3)
unfoldable pub is_whole : List ℕ → Bool
is_whole d = leb 8 (length d) && eqb (rd32 d) FORM && eqb (8 + rd32 (drop 4 d)) (length d)

-- what the file holds after an edit: "All other chunks keep their bytes and order."
unfoldable pub edited : Model → Edit → Model
edited m (add u n t d) = added m u n (given_chunk t d)
edited m (replace u n t d) = replaced m (ref_at m (find u n m.refs)).chunk (given_chunk t d)
edited m (remove u n) = removed m (find u n m.refs)
edited m (link v o u n) = linked m (ref_at m (find v o m.refs)).chunk u n
