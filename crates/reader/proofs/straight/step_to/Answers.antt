-- The entry's chunk is the next one, or the one of the last entry again, or the walk comes to it over good chunks.
use mathlib.Core.Path.{◌≡◌}
use mathlib.Core.Bool.{true}
use Rattle.reader.specs.Straight.{Over}
use Rattle.std.specs.Prelude.{Some}
use Rattle.reader.proofs.StraightLaws.{came_none, step_same, step_on}
use Rattle.reader.proofs.straight.step_to.Goals as goal
use Rattle.reader.proofs.straight.step_to.Goals.{In_ok-behind}

-- a good chunk begins at start
good : (c : In_ok-behind) → Over (Some c.in_ok-behind.behind) c.args.s.now c.args.start
good c = c.in_ok-behind.ensures

pub returns-then-start-at : goal.returns-then-start-at
returns-then-start-at c = λ base q s.
    let a = c.args in
    step_on a.s.now base _ a.at a.start _ q true (rw c.if-start-at.true (came_none _ _)) (good (goal.at.returns-then-start-at c).In_ok-behind) s

pub returns-then-start-found : goal.returns-then-start-found
returns-then-start-found c = λ base q s. step_same _ _ _ _ _ q c.if-start-found.true s

pub returns : goal.returns
returns c = λ base q s.
    let walk = c.pass_over-came in
    let a = c.args in
    let there : walk.result.at ≡ a.start = c.if-came-start.false in
    step_on _ base _ _ _ _ q _ (rw there at walk.ensures) (good (goal.at.returns c).In_ok-behind) s
