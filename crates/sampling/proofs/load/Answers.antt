-- Each turn is one step of the definition.
use Rattle.std.proofs.Common.{rules, refl, add-one}
use Rattle.sampling.specs.Samples.{loaded_to, loaded}
use Rattle.sampling.proofs.load.Goals as goal

pub loop-k-init : goal.loop-k-init
unfolding loaded_to
loop-k-init c = refl

pub loop-k-preserved : goal.loop-k-preserved
unfolding loaded_to
loop-k-preserved c = rw (add-one c.loop-k.k, c.loop-k.invariant, c.be32_at.ensures.0)

pub returns : goal.returns
unfolding loaded
returns c = search rules
