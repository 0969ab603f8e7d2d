use Rattle.std.proofs.lemmas.Grind.{common_steps}
use native.Mathlib.Omega.{arith}
use Rattle.moves.proofs.MoveLaws.{words}
use Rattle.moves.proofs.put_words.Goals as goal

pub returns : goal.returns
returns c = grind (arith, common_steps, words)
