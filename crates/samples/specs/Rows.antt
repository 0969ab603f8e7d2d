-- What a row of the sample table says. Each row but that of a blank file names the profile first (02, P12).
use Rattle.blorb.specs.declared.refusal.Refusal.{Refusal}
use Rattle.blorb.specs.declared.Entry.{Entry}
use Rattle.reader.specs.declared.Accepted.{Accepted}
use Rattle.reader.specs.declared.Resource.{Resource}
use Rattle.std.specs.Prelude.{◌≡◌, ℕ, ◌-◌, List, [], ◌++◌, length, replicate, Result}
use Rattle.blorb.specs.Verdict.{accept, refuse}
use Rattle.blorb.specs.Rules.{rules_of}
use Rattle.edits.specs.Edit.{Edit}
use Rattle.edits.specs.Blank.{blanked}
use Rattle.edits.specs.Run.{State, state, file_in, Call, edit, undo, Answer, fault, edited_file, edit_record, undone_file, answers, run}
use Rattle.edits.specs.Demand3.{list_after}
use Rattle.edits.specs.TwoEditors.{grown, shrunk}
use Rattle.reader.specs.Reading.{read_of, asked_of, lookup_of, part_of}

pub data Row : Type 0 where
  -- a file and what the reader answers
  reads : (profile : ℕ) → List ℕ → Result Accepted Refusal → Row
  -- a file, an entry's place and the answer
  asks : (profile : ℕ) → List ℕ → ℕ → Result Entry Refusal → Row
  -- a file, a usage and number, the lookup's answer and the part it names
  looks : (profile : ℕ) → List ℕ → ℕ → ℕ → Result Resource Refusal → List ℕ → Row
  -- a file, an edit, the file after it and its journal record; both buffers have 100 bytes
  edits : (profile : ℕ) → List ℕ → Edit → List ℕ → List ℕ → Row
  -- a file, an edit, and the number and place of its refusal; both buffers have 100 bytes
  refuses : (profile : ℕ) → List ℕ → Edit → ℕ → ℕ → Row
  -- a file, the journal's used bytes and the file after an undo; both buffers have 100 bytes
  undoes : (profile : ℕ) → List ℕ → List ℕ → List ℕ → Row
  -- a buffer, and what it is after a blank file has been made in it
  blanks : List ℕ → List ℕ → Row
  -- a state, the calls of a run, their answers, and the state after it
  runs : (profile : ℕ) → State → List Call → List Answer → State → Row
  -- a state, the calls of a run, the edits not taken back (the last one first), what these added to the file's length and took from it, and L after it
  measures : (profile : ℕ) → State → List Call → List Edit → (more less : ℕ) → ℕ → Row

-- a file and a journal's used bytes, each at the front of a buffer of 100 bytes
abbrev pub lent : List ℕ → List ℕ → State
lent f j = state (f ++ replicate (100 - length f) 0) (length f) (j ++ replicate (100 - length j) 0) (length j)

abbrev pub RowHolds : Row → Type 0
RowHolds (reads p f r) = read_of p f ≡ r
RowHolds (asks p f i a) = asked_of p f i ≡ a
RowHolds (looks p f u n a d) = (lookup_of p f u n ≡ a) × (part_of a f ≡ d)
RowHolds (edits p f e g r) = (fault (rules_of p) (lent f []) (edit e) ≡ accept) × (edited_file f e ≡ g) × (edit_record f e ≡ r)
RowHolds (refuses p f e k q) = fault (rules_of p) (lent f []) (edit e) ≡ refuse k q
RowHolds (undoes p f j g) = (fault (rules_of p) (lent f j) undo ≡ accept) × (undone_file f j ≡ g)
RowHolds (blanks b c) = blanked b ≡ c
RowHolds (runs p s cs ans t) = (answers (rules_of p) s cs ≡ ans) × (run (rules_of p) s cs ≡ t)
RowHolds (measures p s cs es more less l) =
    (list_after (rules_of p) s cs ≡ es) × (grown (file_in s) es ≡ more) × (shrunk (file_in s) es ≡ less) × ((run (rules_of p) s cs).L ≡ l)
