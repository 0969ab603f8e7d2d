-- Stirred twice.
use mathlib.Core.Path.{ap, ◌∙◌}
use Rattle.repeats.specs.Marks.{stirred, mixed}
use Rattle.repeats.proofs.marks.Scatter.mix.Goals as goal

pub returns : goal.returns
unfolding mixed
returns c = c.stir-2.ensures ∙ ap (stirred c.args.self) c.stir.ensures
