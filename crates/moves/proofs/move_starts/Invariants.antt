use Prim.Native.Nat.{◌-◌, ◌+◌, ◌*◌}
use mathlib.Core.Path.{◌≡◌}
use Rattle.moves.specs.Moves.{relocated, starts_moved}
use Rattle.moves.proofs.move_starts.Given as goal

abbrev pub invariant-loop-i : goal.invariant-loop-i
invariant-loop-i l = starts_moved (relocated l.m) (l.n - l.i) (l.at + 12 * l.i) l.buf ≡ starts_moved (relocated l.m) l.n l.at l.initial.buf
