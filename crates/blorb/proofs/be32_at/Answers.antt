-- The library's number of the four bytes is the definition's.
use Rattle.std.proofs.Common.{arith}
use Rattle.blorb.proofs.ByteLaws.{rd32-at}
use Rattle.blorb.proofs.be32_at.Goals as goal

pub returns : goal.returns
returns c = (omega (arith, c.from_be_bytes.ensures, rd32-at c.args.s.now c.args.at), c.from_be_bytes.type_inv)
