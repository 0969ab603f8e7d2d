-- What can be asked of a model: an entry by its pair, its chunk and where that starts, whether another entry shares it, and the frontispiece.
use Rattle.std.specs.Prelude.{ℕ, suc, List, [], ◌∷◌, ◌++◌, Bool, false, cond, ◌&&◌, ◌||◌, length, get_or, take, drop, eqb}
use Rattle.blorb.specs.Bytes.{rd32}
use Rattle.blorb.specs.Format.{Ref, Chunk, place_of}
use Rattle.blorb.specs.Verdict.{no_chunk}
use Rattle.blorb.specs.Tags.{Fspc}
use Rattle.blorb.specs.Model.{Model, base, start_of}

module _ {A : Type 0} where
  -- the list without its element i
  unfoldable pub without : ℕ → List A → List A
  without i l = take i l ++ drop (suc i) l

abbrev pub no_ref : Ref
no_ref = record { usage = 0; number = 0; chunk = 0 }

-- the place in the index of the entry with usage u and number n, the count where there is none
unfoldable pub find : ℕ → ℕ → List Ref → ℕ
find u n [] = 0
find u n (r ∷ rs) = cond (eqb r.usage u && eqb r.number n) 0 (suc (find u n rs))

-- an entry of rs stands on chunk k
unfoldable pub uses : ℕ → List Ref → Bool
uses k [] = false
uses k (r ∷ rs) = eqb r.chunk k || uses k rs

abbrev pub ref_at : Model → ℕ → Ref
ref_at m i = get_or m.refs i no_ref

abbrev pub chunk_at : Model → ℕ → Chunk
chunk_at m k = get_or m.chunks k no_chunk

-- the chunk of entry i has another entry
unfoldable pub shared : Model → ℕ → Bool
shared m i = uses (ref_at m i).chunk (without i m.refs)

-- where the chunk at place k starts
unfoldable pub start : Model → ℕ → ℕ
start m k = start_of (base (length m.refs)) m.chunks k

-- the place of the chunk that starts at s; their number where none does
abbrev pub place_at : Model → ℕ → ℕ
place_at m s = place_of s (base (length m.refs)) m.chunks

-- rule 7's frontispiece chunk: its place among the chunks, and "the number of a picture" in it
unfoldable pub front_place : List Chunk → ℕ
front_place [] = 0
front_place (c ∷ cs) = cond (eqb c.type Fspc) 0 (suc (front_place cs))

abbrev pub front_number : List Chunk → ℕ
front_number cs = rd32 (get_or cs (front_place cs) no_chunk).body
