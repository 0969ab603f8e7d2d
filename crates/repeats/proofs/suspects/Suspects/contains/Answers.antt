use Rattle.repeats.proofs.SuspectLaws.{held_none, held_next}
use mathlib.Core.Path.{ap, ◌∙◌}
use mathlib.Core.Bool.{Bool, ◌||◌}
use lib.Dec.{eqb}
use lib.ListN.{get_or}
use Rattle.repeats.proofs.suspects.Suspects.contains.Goals as goal

pub loop-c-init : goal.loop-c-init
loop-c-init c = held_none _ _

pub loop-c-preserved : goal.loop-c-preserved
loop-c-preserved c =
    let a = c.args in
    let l = c.loop-c in
    ap (λ (z : Bool). eqb (get_or a.self.now.keys l.c 0) a.k || z) l.invariant ∙ held_next a.self.now.keys l.c a.k
