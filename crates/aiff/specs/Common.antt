-- The 'FORM' of an AIFF and its 'COMM' chunk (02, P11).
use Rattle.std.specs.Prelude.{ℕ, ◌+◌, List, [], ◌∷◌, Bool, cond, ◌&&◌, length, drop, eqb, leb, Option, Some, None}
use Rattle.blorb.specs.Bytes.{rd32}
use Rattle.blorb.specs.Tags.{tag, FORM, AIFF}
use Rattle.blorb.specs.Format.{Chunk, chunks_of}
use Rattle.blorb.specs.Verdict.{accepted, walk_fault}

abbrev pub COMM : ℕ
COMM = tag 67 79 77 77

-- "a single 'FORM' of type 'AIFF'": its header, a length that ends it where the bytes end, and its type
unfoldable pub is_form_of : List ℕ → Bool
is_form_of b = leb 12 (length b) && (eqb (rd32 b) FORM && (eqb (8 + rd32 (drop 4 b)) (length b) && eqb (rd32 (drop 8 b)) AIFF))

-- "filled by chunks of rule 2": a file's walk over its chunks has nothing against them. An AIFF's begin at 12 as a file's do (rule 1).
unfoldable pub is_filled : List ℕ → Bool
is_filled b = accepted (walk_fault (length b) 12 (drop 12 b))

unfoldable pub is_aiff_of : List ℕ → Bool
is_aiff_of b = is_form_of b && is_filled b

-- the chunks of type 'COMM' among these
unfoldable pub comms : List Chunk → List Chunk
comms [] = []
comms (c ∷ cs) = cond (eqb c.type COMM) (c ∷ comms cs) (comms cs)

-- "no 'COMM' or more than one or not 18 bytes", or the data of the one
unfoldable pub single : List Chunk → Option (List ℕ)
single [] = None
single (c ∷ []) = cond (eqb (length c.body) 18) (Some c.body) None
single (c ∷ (d ∷ cs)) = None

unfoldable pub common_of : List ℕ → Option (List ℕ)
common_of b = single (comms (chunks_of b))
