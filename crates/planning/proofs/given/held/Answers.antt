-- The part that is left of the data is the definition's: from what is left out on, or nothing where there is less.
use Rattle.planning.proofs.GivenLaws.{held_none, held-part}
use Rattle.planning.proofs.given.held.Goals as goal

pub returns-then-d-from : goal.returns-then-d-from
returns-then-d-from c = held_none _ _ _ c.left_out-from.ensures.0 c.if-d-from.true

pub returns : goal.returns
returns c = held-part _ _ _ c.left_out-from.ensures.0
