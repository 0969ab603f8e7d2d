-- The journal's last record as it is read back (01, The undo journal: "The last record is well formed if ..").
use Rattle.std.specs.Prelude.{ℕ, ◌+◌, List, Bool, true, false, Option, Some, None, length, drop}
use Rattle.blorb.specs.Bytes.{rd32}
use Rattle.edits.specs.Journal.{Rec, last_rec, well_formed}
use Rattle.undoing.specs.declared.journal.Record.{Record}
use Rattle.undoing.specs.declared.journal.Kind.{Kind}
use Rattle.undoing.specs.Kinds.{kind_of}

-- a record by its numbers: for its data their length
abbrev pub numbers_of : Rec → Record
numbers_of r = record
    { kind = kind_of r.kind; usage = r.usage; number = r.number; place = r.place; start = r.start; sort = r.type; length = length r.body }

abbrev pub last_by : Bool → Rec → Option Record
last_by true r = Some (numbers_of r)
last_by false r = None

-- the last record of the journal bytes j, if it is well formed
unfoldable pub last_of : List ℕ → Option Record
last_of j = last_by (well_formed j) (last_rec j)

-- the numbers at the offsets of a record of this kind that begins at `at`
unfoldable pub record_at_of : List ℕ → ℕ → Kind → Record
record_at_of j at kind = record {
  kind = kind;
  usage = rd32 (drop (at + 1) j);
  number = rd32 (drop (at + 5) j);
  place = rd32 (drop (at + 9) j);
  start = rd32 (drop (at + 13) j);
  sort = rd32 (drop (at + 17) j);
  length = rd32 (drop (at + 21) j);
}
