-- What an undo goes on with, and how it is told from the record's numbers and one reading of the file (01, The undo journal: "It fits when ..").
use Rattle.std.specs.Prelude.{
  ◌≡◌,
  ℕ,
  ◌+◌,
  ◌*◌,
  ◌-◌,
  ◌≤◌,
  List,
  Bool,
  true,
  false,
  ◌&&◌,
  ◌||◌,
  not,
  length,
  take,
  drop,
  eqb,
  leb,
  ltb,
  Option,
  Some,
  None,
  option_and_then,
  Result,
  Ok,
}
use Rattle.std.specs.Bool.{then_some}
use Rattle.blorb.specs.Bytes.{rd32, Byte}
use Rattle.blorb.specs.Tags.{RIdx, Pict, Exec, Rect}
use Rattle.blorb.specs.Format.{size, chunk_in, chunk_of}
use Rattle.blorb.specs.Layout.{size_of}
use Rattle.blorb.specs.declared.refusal.Refusal.{Refusal}
use Rattle.blorb.specs.Refusals.{Refused}
use Rattle.blorb.specs.Verdict.{Verdict, accept, refuse, verdict, known_usage_of, accepted}
use Rattle.blorb.specs.Rules.{allows, rules_of}
use Rattle.blorb.specs.Model.{Model, model}
use Rattle.blorb.specs.Queries.{ref_at, chunk_at, start}
use Rattle.blorb.specs.All.{All}
use Rattle.edits.specs.Journal.{Rec, by_kind, last_rec, fits}
use Rattle.edits.specs.Run.{undo, state, undone_file, fault}
use Rattle.edits.specs.Order.{between}
use Rattle.undoing.specs.declared.journal.Kind.{Kind}
use Rattle.undoing.specs.declared.journal.Kind.TheVariants.{Added, Replaced, Removed, Unlisted, Linked}
use Rattle.undoing.specs.declared.journal.Record.{Record}
use Rattle.reader.specs.declared.Piece.{Piece}
use Rattle.reader.specs.declared.Frontispiece.{Frontispiece}
use Rattle.reader.specs.declared.Facts.{Facts}
use Rattle.undoing.specs.declared.Undoing.{Undoing}
use Rattle.undoing.specs.declared.Question.{Question}
use Rattle.undoing.specs.LastRecord.{numbers_of, last_of}
use Rattle.reader.specs.Inspecting.{facts_of}

-- the chunk that an undo of record r is about: where it stands, or where it goes in, and the bytes of it that go or are replaced
abbrev pub chunk_start : Rec → Model → ℕ
chunk_start r m = by_kind r.kind (start m (ref_at m r.place).chunk) (start m (ref_at m r.place).chunk) (r.start - 12) (r.start - 12)
    (start m (ref_at m r.place).chunk)

abbrev pub chunk_size_of : Rec → Model → ℕ
chunk_size_of r m = by_kind r.kind (size (chunk_at m (ref_at m r.place).chunk)) (size (chunk_at m (ref_at m r.place).chunk)) 0 0 0

-- what the undo of the last record of j in the file f goes on with: the count, that chunk, the length after it, and the record's numbers
unfoldable pub go_of : List ℕ → List ℕ → Undoing
go_of f j = record {
  count = length (model f).refs;
  at = chunk_start (last_rec j) (model f);
  size = chunk_size_of (last_rec j) (model f);
  to = length (undone_file f j);
  last = numbers_of (last_rec j);
}

-- an undo goes on, or the refusal
abbrev pub undoing_of : Verdict → List ℕ → List ℕ → Result Undoing Refusal
undoing_of accept f j = Ok (go_of f j)
undoing_of (refuse k p) f j = Refused k p

unfoldable pub undo_plan_of : (profile : ℕ) → List ℕ → ℕ → List ℕ → ℕ → Result Undoing Refusal
undo_plan_of profile b l j u = undoing_of (fault (rules_of profile) (state b l j u) undo) (take l b) (take u j)

-- nothing unless the record fits and the file after it is accepted
abbrev pub fitting : Bool → Undoing → Option Undoing
fitting b x = then_some b x

unfoldable pub fitting_plan : (profile : ℕ) → List ℕ → List ℕ → Option Undoing
fitting_plan profile f j = fitting (fits (last_rec j) (model f) && accepted (verdict (rules_of profile) (undone_file f j))) (go_of f j)

-- 24 unless there is room, and 21 where nothing fits
abbrev pub roomy_by : Bool → Undoing → Result Undoing Refusal
roomy_by true x = Ok x
roomy_by false x = Refused 24 0

abbrev pub roomy : ℕ → Option Undoing → Result Undoing Refusal
roomy N (Some w) = roomy_by (leb w.to N) w
roomy N None = Refused 21 0

-- the offset that the reader is asked about: only an undo of kinds 3 and 4 wants to know whether a chunk begins there
abbrev pub asked_by : Kind → ℕ → ℕ
asked_by Added x = 0
asked_by Replaced x = 0
asked_by Removed x = x
asked_by Unlisted x = x
asked_by Linked x = 0

abbrev pub asked_at : Record → ℕ
asked_at r = asked_by r.kind (r.start - 12)

-- what the reader is asked: the last record's pair and that offset, or zeros where it isn't well formed
abbrev pub question_of : Option Record → Question
question_of (Some r) = record { usage = r.usage; number = r.number; at = asked_at r }
question_of None = record { usage = 0; number = 0; at = 0 }

-- the well-formed last record r of the first u journal bytes, and what the reader tells of the accepted file in the first l bytes
pub record UndoReady (profile : ℕ) (b : List ℕ) (l : ℕ) (j : List ℕ) (u : ℕ) (r : Record) (t : Facts) : Type 0 where
  pub inside : l ≤ length b
  pub within : u ≤ length j
  pub short : l ≤ 16777216
  pub file_is_bytes : All Byte (take l b)
  pub fine : verdict (rules_of profile) (take l b) ≡ accept
  pub bytes : All Byte (take u j)
  pub last : last_of (take u j) ≡ Some r
  pub facts_are : t ≡ facts_of (model (take l b)) r.usage r.number (asked_at r)

-- the pair is that of the frontispiece's picture
abbrev pub front_matches : Option Frontispiece → ℕ → ℕ → Bool
front_matches (Some f) u n = eqb u Pict && eqb n f.number
front_matches None u n = false

-- 12 and 14 to 16 of an entry with this pair, whose chunk rule 5 allows or not; the target is the entry that has the pair already
abbrev pub entry_fine_of : ℕ → ℕ → Bool → Option Piece → Bool
entry_fine_of u n allowed (Some p) = false
entry_fine_of u n allowed None = known_usage_of u && (allowed && (not (eqb u Exec) || eqb n 0))

abbrev pub on_piece : Option Piece → (Piece → Option Undoing) → Option Undoing
on_piece t k = option_and_then k t

-- kind 1, l being the file's length: the entry has the record's place and is the last one, and its chunk, which no other entry has, ends where the file ends
abbrev pub fits_added_of : Piece → ℕ → ℕ → ℕ → Bool
fits_added_of p count l place =
    eqb p.place place && (eqb count (place + 1) && (eqb (p.start + size_of p.length) l && not p.shared))

abbrev pub added_plan : Facts → ℕ → Record → Option Undoing
added_plan t l r =
    on_piece t.target (λ p. fitting (fits_added_of p t.count l r.place && not (front_matches t.front r.usage r.number))
    (record { count = t.count; at = p.start; size = size_of p.length; to = l - (12 + size_of p.length); last = r }))

-- kind 2: the entry has the record's place, and its chunk, which no other entry has, starts where the record says
abbrev pub fits_replaced_of : Piece → Record → Bool
fits_replaced_of p r = eqb p.place r.place && (eqb p.start r.start && not p.shared)

-- its old chunk, d being the record's data, is no index and one that rule 5 allows, and the frontispiece's picture doesn't become a 'Rect'
abbrev pub old_fine_of : (profile : ℕ) → Record → List ℕ → Option Frontispiece → Bool
old_fine_of profile r d f =
    not (eqb r.sort RIdx) && (allows profile r.usage (chunk_of r.sort d) && not (front_matches f r.usage r.number && eqb r.sort Rect))

abbrev pub replaced_plan : (profile : ℕ) → Facts → ℕ → Record → List ℕ → Option Undoing
replaced_plan profile t l r d =
    on_piece t.target (λ p. fitting (fits_replaced_of p r && (leb (l - size_of p.length + size_of r.length) 16777216 && old_fine_of profile r d t.front))
    (record { count = t.count; at = p.start; size = size_of p.length; to = l - size_of p.length + size_of r.length; last = r }))

-- kind 3: the place is at most the count, and a chunk begins at the record's start less 12, or the file ends there
abbrev pub fits_removed_of : Facts → ℕ → Record → Bool
fits_removed_of t l r = leb r.place t.count && (t.begins || eqb (r.start - 12) l)

-- the start that stands in entry i of the file s
abbrev pub start_in : List ℕ → ℕ → ℕ
start_in s i = rd32 (drop (32 + 12 * i) s)

-- and the file s after it is accepted; first of all its entries are in order. The entry in front of the new one starts below the new chunk, which pushes what
-- is there now up.
abbrev pub removed_fine : (profile : ℕ) → Facts → List ℕ → Record → List ℕ → Bool
removed_fine profile t s r d =
    between (start_in s) t.count r.place (r.start - 12) (r.start - 12)
    && (leb (length s + 12 + size_of r.length) 16777216
    && (not (eqb r.sort RIdx) && (ltb t.count 4096 && entry_fine_of r.usage r.number (allows profile r.usage (chunk_of r.sort d)) t.target)))

abbrev pub removed_plan : (profile : ℕ) → Facts → List ℕ → Record → List ℕ → Option Undoing
removed_plan profile t s r d =
    fitting (fits_removed_of t (length s) r && removed_fine profile t s r d)
    (record { count = t.count; at = r.start - 12; size = 0; to = length s + 12 + size_of r.length; last = r })

-- the header and data of a chunk that begins at `at` lie in the file s
abbrev pub ChunkInside : Bool → List ℕ → ℕ → Type 0
ChunkInside true s at = at + (8 + rd32 (drop (at + 4) s)) ≤ length s
ChunkInside false s at = Unit {0}

-- kind 4: as kind 3, but a chunk begins there; it is read in the file s, and the entry in front of the new one may start there too
abbrev pub unlisted_plan : (profile : ℕ) → Facts → List ℕ → Record → Option Undoing
unlisted_plan profile t s r =
    fitting ((leb r.place t.count && t.begins) && (between (start_in s) t.count r.place (r.start - 12 + 1) (r.start - 12)
    && (leb (length s + 12) 16777216 && (ltb t.count 4096
    && entry_fine_of r.usage r.number (allows profile r.usage (chunk_in (drop (r.start - 12) s))) t.target))))
    (record { count = t.count; at = r.start - 12; size = 0; to = length s + 12; last = r })

-- kind 5: the entry has the record's place, and its chunk, which another entry has too, starts where the record says (02, P8)
abbrev pub fits_linked_of : Piece → Record → Bool
fits_linked_of p r = eqb p.place r.place && (eqb p.start r.start && p.shared)

abbrev pub linked_plan : Facts → ℕ → Record → Option Undoing
linked_plan t l r =
    on_piece t.target (λ p. fitting (fits_linked_of p r && not (front_matches t.front r.usage r.number))
    (record { count = t.count; at = p.start; size = 0; to = l - 12; last = r }))
