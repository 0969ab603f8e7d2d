-- The library's number of the four bytes is the definition's.
use Rattle.std.proofs.Common.{arith}
use Rattle.blorb.specs.Bytes.{rd32}
use Rattle.editor.proofs.code_of.Goals as goal

pub returns : goal.returns
unfolding rd32
returns c = omega (arith, c.from_be_bytes.ensures)
