-- What stays true: what leads to the first segment leads on into the one that comes next. A word of remembered segments leads on, and so does a segment
-- that joins.
use Rattle.std.proofs.Common.{◌≡◌, ◌-◌, ◌*◌, ◌≤◌}
use Rattle.shared_texts.specs.Segments.{LeadsOn}
use Rattle.shared_texts.proofs.Segments.pass.Given as goal

abbrev pub invariant-loop-x : goal.invariant-loop-x
invariant-loop-x l = (l.x ≤ l.q) × (l.x ≡ l.g * l.size) × LeadsOn l.self.texts l.from l.x × (l.self ≡ l.initial.self)

abbrev pub decreases-loop-x : goal.decreases-loop-x
decreases-loop-x l = l.q - l.x
