-- The program's buffer has room for the longest listing, so the listing is written whole.
use Rattle.std.proofs.Common.{rules}
use Rattle.listing_io.proofs.Laws.{all_of_it, whole}
use Rattle.listing_io.proofs.list_whole.Goals as goal

pub unwrap-requires : goal.unwrap-requires
unwrap-requires c = let all = all_of_it c.args.file.now c.args.longer c.args.out.now _ c.requires c.list_input.ensures.0 in search rules

pub returns : goal.returns
returns c = whole c.args.file.now c.args.longer c.args.out.now _ c.requires c.list_input.ensures.0 _ _ c.unwrap.ensures (search rules) c.list_input.ensures.1
