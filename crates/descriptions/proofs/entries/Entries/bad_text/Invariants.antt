-- The loop stands at an entry, and all texts before it are good.
use Rattle.std.proofs.Common.{◌≡◌}
use Rattle.rdes.specs.Rdes.{offset_of}
use Rattle.descriptions.specs.Faults.{GoodTo}
use Rattle.descriptions.proofs.entries.Entries.bad_text.Given as goal

abbrev pub invariant-loop-entry : goal.invariant-loop-entry
invariant-loop-entry l = (l.at ≡ offset_of l.self-inside.bytes.now l.entry 4) × GoodTo l.self-inside.bytes.now l.entry
