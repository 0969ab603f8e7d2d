-- A lookup over the model: the chunk that a pair names, and what is given of it.
use Rattle.std.specs.Prelude.{ℕ, List, [], ◌∷◌, ◌++◌, cond, ◌&&◌, length, get_or, drop, eqb}
use Rattle.blorb.specs.Bytes.{be32}
use Rattle.blorb.specs.Tags.{FORM}
use Rattle.blorb.specs.Format.{Ref, Chunk}
use Rattle.blorb.specs.Verdict.{no_chunk}
use Rattle.blorb.specs.Model.{Model}

pub data Look : Type 0 where
  missing : Look
  here : Chunk → Look

unfoldable pub look_in : List Chunk → ℕ → ℕ → List Ref → Look
look_in cs u n [] = missing
look_in cs u n (r ∷ rs) = cond (eqb r.usage u && eqb r.number n) (here (get_or cs r.chunk no_chunk)) (look_in cs u n rs)

unfoldable pub lookup : Model → ℕ → ℕ → Look
lookup m u n = look_in m.chunks u n m.refs

-- How many bytes of a chunk's front a lookup leaves out: its header, and nothing of a 'FORM'. "A lookup of type 'FORM' gives the whole chunk, header
-- included and padding not" (02, P3)
unfoldable pub left_out_of : ℕ → ℕ
left_out_of t = cond (eqb t FORM) 0 8

-- what a lookup gives of a chunk: header and data without what is left out
unfoldable pub shown : Chunk → List ℕ
shown c = drop (left_out_of c.type) (be32 c.type ++ (be32 (length c.body) ++ c.body))
