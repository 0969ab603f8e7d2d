-- What is written and what is left are the same list all the time, and what is left fits behind it.
use Prim.Native.Nat.{◌+◌, ◌-◌, ◌≤◌}
use mathlib.Core.Path.{◌≡◌}
use lib.ListN.{length}
use Rattle.edits.specs.Run.{noted}
use Rattle.rdes.specs.Rdes.{entries_bytes}
use Rattle.describing.specs.List.{rows_from}
use Rattle.describing.specs.Bridging.{entries_size}
use Rattle.describing.proofs.chunk.put_entries.Given as goal

abbrev pub invariant-loop-i : goal.invariant-loop-i
invariant-loop-i l =
    (length l.buf ≡ length l.initial.buf) × (l.at + entries_size l.rows (l.n - l.i) l.i ≤ length l.initial.buf)
    × (noted l.buf l.at (entries_bytes (rows_from l.rows l.texts (l.n - l.i) l.i)) ≡ noted l.initial.buf 12 (entries_bytes (rows_from l.rows l.texts l.n 0)))
