-- The walk to the first border behind p comes first, then what is remembered; where the walk does not lead there, or the text is short, nothing is
-- passed.
use Rattle.std.proofs.Common.{refl}
use Rattle.shared_texts.proofs.SegmentLaws.{passed_none}
use Rattle.shared_texts.proofs.Segments.passed.Goals as goal

pub returns-then-q-p : goal.returns-then-q-p
returns-then-q-p c = (passed_none _ _ _ c.requires.0, refl)

pub returns-then-not-leads : goal.returns-then-not-leads
returns-then-not-leads c = (passed_none _ _ _ c.requires.0, refl)
