-- The loop stands at the entry that is counted.
use Rattle.std.proofs.Common.{◌≡◌}
use Rattle.rdes.specs.Rdes.{offset_of}
use Rattle.descriptions.proofs.entries.Entries.offset.Given as goal

abbrev pub invariant-loop : goal.invariant-loop
invariant-loop l = l.at ≡ offset_of l.self-inside.bytes.now l.counter 4
