use native.Mathlib.Omega.{arith}
use Rattle.table.specs.Bridging.{rows_in}
use Rattle.table.proofs.CheckLaws.{held_all}
use Rattle.table.proofs.lists.Goals as goal

pub returns : goal.returns
returns c =
    let a = c.args in
    λ e. held_all a.index.now.file.now a.index.now.count (rows_in a.t.now) (λ j h. c.loop-i.invariant j (omega arith))
