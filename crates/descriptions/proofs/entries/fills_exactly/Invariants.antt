-- Whether the rest of the entries fill the rest of the data, at each entry.
use Rattle.std.proofs.Common.{◌≡◌, ◌-◌, ◌≤◌, length}
use Rattle.rdes.specs.Rdes.{fills_from}
use Rattle.descriptions.proofs.entries.fills_exactly.Given as goal

abbrev pub invariant-loop : goal.invariant-loop
invariant-loop l = (l.at ≤ length l.d) × (fills_from l.d (l.count - l.counter) l.at ≡ fills_from l.d l.count 4)
