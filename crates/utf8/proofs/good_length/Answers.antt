-- The characters from the text's first byte on end where its good beginning does.
use Rattle.utf8.proofs.RunLaws.{until_length}
use Rattle.utf8.proofs.good_length.Goals as goal

pub returns : goal.returns
returns c = until_length _ _ c.good_until.ensures
