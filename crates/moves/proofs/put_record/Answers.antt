use Rattle.std.proofs.lemmas.Grind.{common_steps}
use native.Mathlib.Omega.{arith}
use Rattle.moves.proofs.MoveLaws.{record_written}
use Rattle.moves.specs.Moves.{record_of}
use Rattle.moves.proofs.put_record.Goals as goal

pub returns : goal.returns
unfolding record_of
returns c = grind (arith, common_steps, record_written)
