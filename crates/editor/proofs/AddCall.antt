-- The record of an add is the definition's: it has the new entry's place, which is the count.
use mathlib.Core.Path.{◌≡◌}
use Prim.Native.Nat.{ℕ}
use mathlib.Core.List.{List, []}
use lib.ListN.{length}
use Rattle.blorb.specs.Model.{model}
use Rattle.edits.specs.Edit.{add}
use Rattle.edits.specs.Journal.{rec_of, rec_bytes}
use Rattle.edits.specs.Run.{edit_record, noted}
use Rattle.moves.specs.Moves.{record_of}

pub record_written : (f : List ℕ) (U u n t : ℕ) (d j : List ℕ) (k : ℕ) → k ≡ length (model f).refs
    → noted j U (rec_bytes (record_of 1 (record { pair = record { usage = u; number = n }; start = 0 }) k 0 [])) ≡ noted j U (edit_record f (add u n t d))
unfolding record_of edit_record rec_of
record_written f U u n t d j k e = rw e
