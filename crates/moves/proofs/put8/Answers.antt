use Rattle.moves.proofs.MoveLaws.{one_byte}
use Rattle.moves.proofs.put8.Goals as goal

pub returns : goal.returns
returns c = one_byte c.args.buf.now c.args.at c.args.v c.requires
