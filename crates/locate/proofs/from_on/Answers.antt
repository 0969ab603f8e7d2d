-- The first chunk of the type begins the list of those from `from` on; behind it the next one, if any, begins the rest of that list.
use Rattle.std.proofs.Common.{arith}
use Rattle.chunks.proofs.ChunkLaws.{walked, fine}
use Rattle.locate.proofs.LocateLaws.{one_located, more_located}
use Rattle.locate.proofs.from_on.Goals as goal

pub be32_at-length-requires : goal.be32_at-length-requires
be32_at-length-requires c = let a = c.in-Some.ensures in omega (arith, (fine _ _ a.inside a.walks).header)

pub skip-requires : goal.skip-requires
skip-requires c = let a = c.in-Some.ensures in (fine _ _ a.inside a.walks).header

pub next_of-requires-2 : goal.next_of-requires-2
next_of-requires-2 c = let a = c.in-Some.ensures in rw c.skip.ensures (walked _ _ a.inside a.walks)

pub returns-in-None : goal.returns-in-None
returns-in-None c = one_located _ _ _ _ c.in-Some.ensures _ c.be32_at-length.ensures.0 _ c.skip.ensures c.in-None.ensures

pub returns-in-Some-next_of : goal.returns-in-Some-next_of
returns-in-Some-next_of c =
    more_located _ _ _ _ c.in-Some.ensures _ c.be32_at-length.ensures.0 _ c.skip.ensures _ c.in-Some-next_of.ensures
