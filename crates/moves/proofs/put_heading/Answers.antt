use Rattle.std.proofs.lemmas.Grind.{common_steps}
use native.Mathlib.Omega.{arith}
use Rattle.moves.proofs.MoveLaws.{heading-written}
use Rattle.moves.proofs.put_heading.Goals as goal

pub returns : goal.returns
returns c = grind (arith, common_steps, heading-written)
