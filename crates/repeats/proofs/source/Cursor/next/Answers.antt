-- The place behind the one where an entry stands is where the next entry stands.
use mathlib.Core.Path.{◌∙◌}
use Rattle.repeats.proofs.SourceLaws.{spot-next}
use Rattle.repeats.proofs.source.Cursor.next.Goals as goal

pub invariant_of-result : goal.invariant_of-result
invariant_of-result g c =
    let s = c.args.self in
    record { stands = c.next_at.ensures ∙ spot-next (g.L.Keys.source s.list) s.entry s.at s.stands }
