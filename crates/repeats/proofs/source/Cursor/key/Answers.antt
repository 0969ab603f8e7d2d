-- The key where the entry stands is the entry's.
use Rattle.repeats.proofs.SourceLaws.{key-is}
use Rattle.repeats.proofs.source.Cursor.key.Goals as goal

pub returns : goal.returns
returns g c = let s = c.args.self.now in key-is (g.L.Keys.source s.list) s.entry s.at _ s.stands c.key_at.ensures
