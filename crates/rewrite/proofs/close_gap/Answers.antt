use borrow.Author.Rules.{rules}
use Rattle.rewrite.specs.Rewriting.{closed}
use Rattle.rewrite.proofs.close_gap.Goals as goal

pub returns : goal.returns
unfolding closed
returns c = search rules
