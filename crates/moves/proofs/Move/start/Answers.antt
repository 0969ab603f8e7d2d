use borrow.Author.Rules.{rules}
use Rattle.moves.specs.Moves.{relocated}
use Rattle.moves.proofs.Move.start.Goals as goal

pub returns-then-self-t : goal.returns-then-self-t
unfolding relocated
returns-then-self-t c = search rules

pub returns : goal.returns
unfolding relocated
returns c = search rules
