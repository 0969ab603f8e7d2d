-- What is still to be told is told from the entry on that is counted; the first entry that has the pair tells it.
use Rattle.std.proofs.Common.{◌≡◌, ◌-◌, ◌+◌}
use Rattle.rdes.specs.Rdes.{offset_of}
use Rattle.descriptions.specs.Texts.{tell_from_of}
use Rattle.descriptions.proofs.entries.Entries.tell.Given as goal

abbrev pub invariant-loop : goal.invariant-loop
invariant-loop l =
    (l.at ≡ offset_of l.self-inside.bytes.now l.counter 4)
    × (tell_from_of l.usage l.number l.self-inside.bytes.now (l.self-inside.start + 8) (l.end - l.counter) l.at
    ≡ tell_from_of l.usage l.number l.self-inside.bytes.now (l.self-inside.start + 8) l.end 4)
