-- An accepted file has the room of its index, and its entries are those of the model.
use Rattle.std.proofs.Common.{ap, ◌∙◌, is_some}
use Rattle.locate.proofs.LocateLaws.{some-if, count_room, index-room, index-pair}
use Rattle.locate.proofs.in_index.Goals as goal

pub be32_at-count-requires : goal.be32_at-count-requires
be32_at-count-requires c = let p = c.requires in count_room _ _ p.1

pub find_place-requires : goal.find_place-requires
find_place-requires c = let p = c.requires in index-room _ _ p.1 _ c.be32_at-count.ensures.0

pub returns : goal.returns
returns c =
    let p = c.requires in
    c.is_some.ensures ∙ ap is_some c.find_place.ensures ∙ some-if _ _ ∙ index-pair _ _ p.1 _ c.be32_at-count.ensures.0 _ _
