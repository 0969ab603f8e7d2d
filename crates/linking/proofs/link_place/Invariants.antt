-- The starts rise along the index, so the new entry goes where the first later one stands: the loop keeps that the entry before i starts no later.
use Prim.Native.Nat.{◌-◌, ◌≤◌}
use Rattle.undoing.specs.UndoPlan.{start_in}
use Rattle.linking.proofs.link_place.Given as goal

abbrev pub invariant-loop-i : goal.invariant-loop-i
invariant-loop-i l = start_in l.s (l.i - 1) ≤ l.at
