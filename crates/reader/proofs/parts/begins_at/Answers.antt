use Rattle.chunks.proofs.StartLaws.{before-base}
use Rattle.reader.proofs.parts.begins_at.Goals as goal

pub returns-then-at-base : goal.returns-then-at-base
returns-then-at-base c = before-base _ _ _ c.if-at-base.true
