-- After i turns the lines of the first i entries stand in the buffer, and take at most 48 bytes each.
use Prim.Native.Nat.{◌+◌, ◌*◌, ◌≤◌}
use lib.ListN.{take}
use Rattle.reader.specs.Reading.{index_of}
use Rattle.listing.specs.Listing.{lines_of}
use Rattle.listing.specs.InPlace.{Writes}
use Rattle.listing.proofs.Page.entries.Given as goal

abbrev pub invariant-loop-i : goal.invariant-loop-i
invariant-loop-i l = Writes l.initial.self (lines_of l.file (take l.i (index_of l.file))) l.self × (l.self.at ≤ l.initial.self.at + 48 * l.i)
