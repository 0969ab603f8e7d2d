-- What goes of a chunk with its entry, for the contracts inside: no public contract cites it.
use Rattle.std.specs.Prelude.{ℕ, cond}
use Rattle.blorb.specs.Format.{size}
use Rattle.blorb.specs.Model.{Model}
use Rattle.blorb.specs.Queries.{ref_at, chunk_at, shared}

-- the bytes that a removal of entry i takes out besides the entry: its chunk's, or none where that is shared
unfoldable pub gone_size_of : Model → ℕ → ℕ
gone_size_of m i = cond (shared m i) 0 (size (chunk_at m (ref_at m i).chunk))
