-- When a successful edit or undo leaves the file's finding table good. Every add, removal and link changes the index; a replacement moves "only starts
-- behind it .. by the change in size" (01, The edits), so it changes no entry where the size stays or where no entry starts behind the chunk.
-- That a table is refused with 35 in every other case is proved in proofs/Stale.
use Rattle.std.specs.Prelude.{◌≡◌, ℕ, ◌<◌, length, take, Ok}
use mathlib.Core.List.{List, Memᴰ}
use Rattle.blorb.specs.Format.{Entry, Chunk, size}
use Rattle.blorb.specs.Model.{model}
use Rattle.blorb.specs.Queries.{find, ref_at, chunk_at, start}
use Rattle.reader.specs.Reading.{index_of}
use Rattle.rows.specs.Rows.{rows_of}
use Rattle.table.specs.Answers.{table_of, agree, check_of}
use Rattle.blorb.specs.Refusals.{Refused}
use Rattle.edits.specs.Edit.{Edit, add, replace, remove, link, given_chunk}
use Rattle.edits.specs.Journal.{Rec, last_rec, old_chunk, by_kind}
use Rattle.edits.specs.Run.{State, file_in, Call, edit, undo}

-- with c in the place of chunk k no start moves: c is as large, if an entry starts behind it
abbrev pub MovesNone : List ℕ → ℕ → Chunk → Type 0
MovesNone f k c = (e : Entry) → Memᴰ e (index_of f) → start (model f) k < e.start → size c ≡ size (chunk_at (model f) k)

-- an edit of f
abbrev pub EditLeaves : List ℕ → Edit → Type 0
EditLeaves f (add u n t d) = ⊥
EditLeaves f (replace u n t d) = MovesNone f (ref_at (model f) (find u n (model f).refs)).chunk (given_chunk t d)
EditLeaves f (remove u n) = ⊥
EditLeaves f (link v o u n) = ⊥

-- the undo of f by a record: of a replacement (kind 2) as the replacement itself, of any other kind never
abbrev pub UndoLeaves : List ℕ → Rec → Type 0
UndoLeaves f r = by_kind r.kind ⊥ (MovesNone f (ref_at (model f) r.place).chunk (old_chunk r)) ⊥ ⊥ ⊥

-- a call in a state, if it succeeds
abbrev pub Leaves : State → Call → Type 0
Leaves s (edit e) = EditLeaves (file_in s) e
Leaves s undo = UndoLeaves (file_in s) (last_rec (take s.U s.journal))

-- what becomes under a profile of the table t of the file f when f becomes g: it is good exactly if P, else refused with 35 at the first row in which the two
-- files'
-- tables differ, or the smaller row count where one is the other's beginning
pub record Caught (profile : ℕ) (P : Type 0) (f g t : List ℕ) : Type 0 where
  pub stays_good : P → check_of profile g (rows_of t) (length t) ≡ Ok tt
  pub good_only : check_of profile g (rows_of t) (length t) ≡ Ok tt → P
  pub else_35 : (P → ⊥) → check_of profile g (rows_of t) (length t) ≡ Refused 35 (agree (table_of f) (table_of g))
