-- Entry 0 stands where the list says.
use mathlib.Core.Path.{◌∙◌}
use Rattle.repeats.proofs.SourceLaws.{spot-start}
use Rattle.repeats.proofs.source.Cursor.start.Goals as goal

pub invariant_of-result : goal.invariant_of-result
invariant_of-result g c = record { stands = c.base.ensures ∙ spot-start (g.L.Keys.source c.args.list) }
