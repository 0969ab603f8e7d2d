-- What the reader tells an editor of a file: its verdict, and of an accepted file the entry count, the chunk of one entry, the frontispiece,
-- and whether a chunk begins at an offset. All of it is told by the file's model.
use Rattle.std.specs.Prelude.{ℕ, Bool, true, false, length, ltb, Result, Ok, Option, Some, None}
use Rattle.blorb.specs.Format.{is_start}
use Rattle.blorb.specs.Verdict.{Verdict, accept, refuse}
use Rattle.blorb.specs.Tags.{Fspc}
use Rattle.blorb.specs.Rules.{type_in}
use Rattle.blorb.specs.Model.{Model, base}
use Rattle.blorb.specs.Queries.{find, ref_at, chunk_at, shared, start, front_place, front_number}
use Rattle.reader.specs.declared.Piece.{Piece}
use Rattle.reader.specs.declared.Frontispiece.{Frontispiece}
use Rattle.reader.specs.declared.Facts.{Facts}
use Rattle.blorb.specs.declared.refusal.Refusal.{Refusal}
use Rattle.blorb.specs.Refusals.{Refused}

-- entry i and its chunk
abbrev pub piece_of : Model → ℕ → Piece
piece_of m i = record {
  place = i;
  start = start m (ref_at m i).chunk;
  kind = (chunk_at m (ref_at m i).chunk).type;
  length = length (chunk_at m (ref_at m i).chunk).body;
  shared = shared m i;
}

abbrev pub target_by : Bool → Model → ℕ → Option Piece
target_by true m i = Some (piece_of m i)
target_by false m i = None

-- the entry (u, n), if there is one
unfoldable pub target_of : Model → ℕ → ℕ → Option Piece
target_of m u n = target_by (ltb (find u n m.refs) (length m.refs)) m (find u n m.refs)

abbrev pub front_by : Bool → Model → Option Frontispiece
front_by true m = Some (record { start = start m (front_place m.chunks); number = front_number m.chunks })
front_by false m = None

-- the frontispiece, if there is one
unfoldable pub front_of : Model → Option Frontispiece
front_of m = front_by (type_in Fspc m.chunks) m

-- of a model: its count, the entry (u, n), the frontispiece, and whether a chunk behind the index begins at x
abbrev pub facts_of : Model → ℕ → ℕ → ℕ → Facts
facts_of m u n x = record
    { count = length m.refs; target = target_of m u n; front = front_of m; begins = is_start x (base (length m.refs)) m.chunks }

abbrev pub inspection_of : Verdict → Model → ℕ → ℕ → ℕ → Result Facts Refusal
inspection_of accept m u n x = Ok (facts_of m u n x)
inspection_of (refuse k p) m u n x = Refused k p
