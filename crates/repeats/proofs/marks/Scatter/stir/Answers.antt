-- By the definition, at the factor that the value stands for.
use Rattle.repeats.specs.Marks.{stirred}
use Rattle.repeats.proofs.marks.Scatter.stir.Goals as goal

pub returns : goal.returns
unfolding stirred
returns c = rw c.self.view_is
