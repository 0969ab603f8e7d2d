-- What stays true: characters lead to where the walk stands. A byte up to 127 is one character, another byte begins what two_bytes and long_char tell;
-- none there ends the walk.
use Prim.Native.Nat.{◌-◌}
use Rattle.utf8.specs.Runs.{Reached}
use Rattle.utf8.proofs.good_until.Given as goal

abbrev pub invariant-loop-at : goal.invariant-loop-at
invariant-loop-at l = Reached l.s l.from l.stop l.at

abbrev pub decreases-loop-at : goal.decreases-loop-at
decreases-loop-at l = l.stop - l.at
