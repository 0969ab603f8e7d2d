use Rattle.reader.proofs.PartLaws.{facts_are}
use Rattle.reader.proofs.parts.facts.Goals as goal

pub returns : goal.returns
returns c = facts_are _ _ _ _ _ _ _ _ c.target.ensures c.front_if.ensures c.begins_at.ensures
