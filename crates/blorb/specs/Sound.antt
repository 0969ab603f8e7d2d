-- Models whose numbers fit the file's fields and whose entries name a chunk.
use Rattle.std.specs.Prelude.{ℕ, ◌<◌, length}
use Rattle.blorb.specs.Format.{Ref, Chunk}
use Rattle.blorb.specs.Model.{Model}
use Rattle.blorb.specs.All.{All}

abbrev pub W : ℕ
W = 4294967296

pub record RefOk (n : ℕ) (r : Ref) : Type 0 where
  pub usage_fits : r.usage < W
  pub number_fits : r.number < W
  pub chunk_there : r.chunk < n

pub record ChunkOk (c : Chunk) : Type 0 where
  pub type_fits : c.type < W

pub record Sound (m : Model) : Type 0 where
  pub refs_ok : All (RefOk (length m.chunks)) m.refs
  pub chunks_ok : All ChunkOk m.chunks
