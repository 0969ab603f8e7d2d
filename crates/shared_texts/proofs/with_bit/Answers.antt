-- The bit is a power that is not cut off, and a word has no bits but its own and that one.
use Rattle.shared_texts.proofs.BitLaws.{one_more}
use Rattle.shared_texts.proofs.with_bit.Goals as goal

pub returns : goal.returns
returns c = one_more c.args.word c.args.i c.requires
