-- Where all chunks are ordinary there is no second index (ordinary_second); else the search of `second` tells.
use Rattle.chunks.proofs.ChunkLaws.{ordinary_second}
use mathlib.Core.Path.{sym}
use Rattle.chunks.proofs.second_if.Goals as goal

pub returns-then-ordinary : goal.returns-then-ordinary
returns-then-ordinary c = sym (ordinary_second _ _ (c.requires.1 c.if-ordinary.true))
