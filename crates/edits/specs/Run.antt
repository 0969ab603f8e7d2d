-- The calls on the lent buffers, the ledger, and whole runs (01, Whole runs).
use Rattle.std.specs.Prelude.{ℕ, ◌+◌, ◌-◌, ◌<◌, max, List, [], ◌∷◌, ◌++◌, ◌&&◌, ◌||◌, not, length, take, drop, replicate, eqb, leb, ltb}
use Rattle.blorb.specs.Verdict.{Rules, Verdict, accept, refuse, ◌then◌, check, verdict, accepted}
use Rattle.blorb.specs.Model.{Model, model, file}
use Rattle.blorb.specs.Tags.{FORM}
use Rattle.edits.specs.Edit.{Edit, add, replace, remove, link, is_whole, edited}
use Rattle.blorb.specs.Queries.{find, shared}
use Rattle.edits.specs.Journal.{rec_of, rec_bytes, last_rec, well_formed, fits, undone}

-- what a call is lent and given: the file buffer and L, the journal and U
pub record State : Type 0 where
  pub buffer : List ℕ
  pub L : ℕ
  pub journal : List ℕ
  pub U : ℕ

-- these, in the order in which the calls take them
abbrev pub state : List ℕ → ℕ → List ℕ → ℕ → State
state b l j u = record { buffer = b; L = l; journal = j; U = u }

-- the file that a state holds: the buffer's first L bytes
abbrev pub file_in : State → List ℕ
file_in s = take s.L s.buffer

pub data Call : Type 0 where
  edit : Edit → Call
  undo : Call

-- an edit's usage, number and type are numbers of 32 bits
abbrev pub ArgsOk : Edit → Type 0
ArgsOk (add u n t d) = (u < 4294967296) × (n < 4294967296) × (t < 4294967296)
ArgsOk (replace u n t d) = (u < 4294967296) × (n < 4294967296) × (t < 4294967296)
ArgsOk (remove u n) = (u < 4294967296) × (n < 4294967296)
ArgsOk (link v o u n) = (v < 4294967296) × (o < 4294967296) × (u < 4294967296) × (n < 4294967296)

-- and so a call's; an undo has no arguments
abbrev pub CallOk : Call → Type 0
CallOk (edit e) = ArgsOk e
CallOk undo = Unit {0}

-- a call's answer: success or a refusal, and L and U after it
pub record Answer : Type 0 where
  pub result : Verdict
  pub L : ℕ
  pub U : ℕ

-- "An edit whose resulting file the reader would refuse with k is refused with 100 + k, place as in that resulting file"
abbrev pub hundred : Verdict → Verdict
hundred accept = accept
hundred (refuse k p) = refuse (100 + k) p

-- a file f written over one of L bytes: "buffer bytes between a shorter new end and the old end become zero; bytes past both ends stay"
unfoldable pub written : List ℕ → ℕ → List ℕ → List ℕ
written buffer L f = f ++ (replicate (L - length f) 0 ++ drop (max L (length f)) buffer)

-- "An edit writes its record at U and no other journal byte."
unfoldable pub noted : List ℕ → ℕ → List ℕ → List ℕ
noted journal U r = take U journal ++ (r ++ drop (U + length r) journal)

-- 30: "such data is under 8 bytes or its head disagrees" (02, P3)
unfoldable pub whole_fault : ℕ → List ℕ → Verdict
whole_fault t d = check (not (eqb t FORM) || is_whole d) 30 0

-- 22: "no such entry", of a link "for a missing original" (02, P8); 23: "the chunk to be replaced is shared"; 30: "after 23 and before 100 + k"
unfoldable pub target_fault : Model → Edit → Verdict
target_fault m (add u n t d) = whole_fault t d
target_fault m (replace u n t d) =
    check (ltb (find u n m.refs) (length m.refs)) 22 0
    then check (not (shared m (find u n m.refs))) 23 0
    then whole_fault t d
target_fault m (remove u n) = check (ltb (find u n m.refs) (length m.refs)) 22 0
target_fault m (link v o u n) = check (ltb (find v o m.refs) (length m.refs)) 22 0

-- the file after an edit, and the edit's record
unfoldable pub edited_file : List ℕ → Edit → List ℕ
edited_file f e = file (edited (model f) e)

unfoldable pub edit_record : List ℕ → Edit → List ℕ
edit_record f e = rec_bytes (rec_of (model f) e)

unfoldable pub undone_file : List ℕ → List ℕ → List ℕ
undone_file f j = file (undone (last_rec j) (model f))

abbrev pub answered : Verdict → State → State → State
answered accept s t = t
answered (refuse k p) s t = s

unfoldable pub after_edit : State → Edit → State
after_edit s e =
    let f = file_in s in
    record {
      buffer = written s.buffer s.L (edited_file f e);
      L = length (edited_file f e);
      journal = noted s.journal s.U (edit_record f e);
      U = s.U + length (edit_record f e);
    }

unfoldable pub after_undo : State → State
after_undo s =
    let f = file_in s in
    let j = take s.U s.journal in
    record {
      buffer = written s.buffer s.L (undone_file f j);
      L = length (undone_file f j);
      journal = s.journal;
      U = s.U - (29 + length (last_rec j).body);
    }

unfoldable pub after : State → Call → State
after s (edit e) = after_edit s e
after s undo = after_undo s

-- "Its file is the starting file with these applied in order": the list has the last edit first, so the first one applied stands at its end
module _ (f₀ : List ℕ) where
  unfoldable pub ledger_file : List Edit → List ℕ
  ledger_file [] = f₀
  ledger_file (e ∷ es) = edited_file (ledger_file es) e

  -- "the records of its list's edits, in order"
  unfoldable pub ledger_records : List Edit → List ℕ
  ledger_records [] = []
  ledger_records (e ∷ es) = ledger_records es ++ edit_record (ledger_file es) e

  -- "its U the sum of the lengths of their records"
  unfoldable pub ledger_used : List Edit → ℕ
  ledger_used [] = 0
  ledger_used (e ∷ es) = ledger_used es + length (edit_record (ledger_file es) e)

abbrev pub kept : Verdict → List Edit → List Edit → List Edit
kept accept es fs = fs
kept (refuse k p) es fs = es

unfoldable pub ledger_after : List Edit → Call → List Edit
ledger_after es (edit e) = e ∷ es
ledger_after [] undo = []
ledger_after (e ∷ es) undo = es

module _ (R : Rules) where
  -- "Add, replace, remove: 20, reader's number for the present file, 22, 23, 100 + k, 24, 25"; for a file f of length L in a buffer of N bytes
  -- and U bytes used of a journal of J
  unfoldable pub edit_fault : ℕ → ℕ → List ℕ → ℕ → ℕ → Edit → Verdict
  edit_fault N J f L U e =
      check (leb L N && leb U J) 20 0
      then verdict R f
      then target_fault (model f) e
      then hundred (verdict R (edited_file f e))
      then check (leb (length (edited_file f e)) N) 24 0
      then check (leb (U + length (edit_record f e)) J) 25 0

  -- "Undo: 20, reader's number, 26, 21, 24"; j is the journal's first U bytes. "The file after it must be accepted too."
  unfoldable pub undo_fault : ℕ → ℕ → List ℕ → ℕ → ℕ → List ℕ → Verdict
  undo_fault N J f L U j =
      check (leb L N && leb U J) 20 0
      then verdict R f
      then check (not (eqb U 0)) 26 0
      then check (well_formed j && fits (last_rec j) (model f) && accepted (verdict R (undone_file f j))) 21 0
      then check (leb (length (undone_file f j)) N) 24 0

  -- a call's refusal; 52: "an unknown profile, before all others" (02, P12)
  unfoldable pub fault : State → Call → Verdict
  fault s (edit e) = check R.known 52 0 then edit_fault (length s.buffer) (length s.journal) (file_in s) s.L s.U e
  fault s undo =
      check R.known 52 0
      then undo_fault (length s.buffer) (length s.journal) (file_in s) s.L s.U (take s.U s.journal)

  -- a call: "A refused call changes nothing."
  unfoldable pub step : State → Call → State
  step s c = answered (fault s c) s (after s c)

  -- the state after a run
  unfoldable pub run : State → List Call → State
  run s [] = s
  run s (c ∷ cs) = run (step s c) cs

  -- the answers of a run
  unfoldable pub answers : State → List Call → List Answer
  answers s [] = []
  answers s (c ∷ cs) = record { result = fault s c; L = (step s c).L; U = (step s c).U } ∷ answers (step s c) cs

  -- the ledger: "told the starting file, both buffers' lengths and the calls with their arguments, no answer and no journal byte". Its list
  -- holds the edits not taken back, the last one first.
  module _ (f₀ : List ℕ) (N J : ℕ) where
    -- "An edit is refused with the first reason in its order that holds for the call, the ledger's file, L and U and the buffers' lengths."
    -- "An undo is refused with 26 if the list is empty."
    unfoldable pub ledger_fault : List Edit → Call → Verdict
    ledger_fault es (edit e) = check R.known 52 0 then edit_fault N J (ledger_file f₀ es) (length (ledger_file f₀ es)) (ledger_used f₀ es) e
    ledger_fault [] undo = refuse 26 0
    ledger_fault (e ∷ es) undo = accept

    unfoldable pub ledger_step : List Edit → Call → List Edit
    ledger_step es c = kept (ledger_fault es c) es (ledger_after es c)

    unfoldable pub ledger_run : List Edit → List Call → List Edit
    ledger_run es [] = es
    ledger_run es (c ∷ cs) = ledger_run (ledger_step es c) cs

    unfoldable pub ledger_answers : List Edit → List Call → List Answer
    ledger_answers es [] = []
    ledger_answers es (c ∷ cs) =
        record { result = ledger_fault es c; L = length (ledger_file f₀ (ledger_step es c)); U = ledger_used f₀ (ledger_step es c) } ∷ ledger_answers
        (ledger_step es c) cs
