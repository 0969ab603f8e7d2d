-- Whole runs of the editor's calls, told by their contracts (01, Whole runs).
use Rattle.std.specs.Prelude.{◌≡◌, ℕ, List, [], ◌∷◌, map, length, take}
use Rattle.blorb.specs.Verdict.{accept, verdict}
use Rattle.blorb.specs.Rules.{rules_of}
use Rattle.edits.specs.Run as edits
use Rattle.edits.specs.Run.{State, Call, ledger_file, ledger_used, ledger_records, ledger_answers}
use Rattle.edits.specs.Demand3.{list_after}
use Rattle.editor.specs.declared.Answer.{Answer}
use Rattle.editor.specs.Called.{verdict_of, Called}

-- one call of a run: what was asked, what was answered, and the buffers that it left
pub record Turn : Type 0 where
  pub call : Call
  pub answer : Answer
  pub buffer : List ℕ
  pub journal : List ℕ

abbrev pub call_of : Turn → Call
call_of t = t.call

-- the answer as the ledger gives one: success or refusal, and L and U
abbrev pub answer_of : Turn → edits.Answer
answer_of t = record { result = verdict_of t.answer.outcome; L = t.answer.len; U = t.answer.used }

-- what the next call is lent and given: "Every call is lent the same two whole buffers and given the L and U last handed back."
abbrev pub state_after : Turn → State
state_after t = record { buffer = t.buffer; L = t.answer.len; journal = t.journal; U = t.answer.used }

-- a run under one profile: each call keeps its contract in the state that the last one left
abbrev pub Ran : (profile : ℕ) → State → List Turn → Type 0
Ran profile s [] = Unit {0}
Ran profile s (t ∷ ts) = Called profile s t.call t.answer t.buffer t.journal × Ran profile (state_after t) ts

-- the state after it
abbrev pub end_of : State → List Turn → State
end_of s [] = s
end_of s (t ∷ ts) = end_of (state_after t) ts

-- demand 3 for a run of calls from state s, all under one profile: every answer and the state after it are the ledger's, which is told the
-- profile, the starting file, both buffers' lengths and the calls
pub record AsLedger (profile : ℕ) (s : State) (ts : List Turn) : Type 0 where
  pub answers_are : map answer_of ts ≡ ledger_answers (rules_of profile) (take s.L s.buffer) (length s.buffer) (length s.journal) [] (map call_of ts)
  pub L-is : (end_of s ts).L ≡ length (ledger_file (take s.L s.buffer) (list_after (rules_of profile) s (map call_of ts)))
  pub U-is : (end_of s ts).U ≡ ledger_used (take s.L s.buffer) (list_after (rules_of profile) s (map call_of ts))
  pub file_is : take (end_of s ts).L (end_of s ts).buffer ≡ ledger_file (take s.L s.buffer) (list_after (rules_of profile) s (map call_of ts))
  pub accepted_is : verdict (rules_of profile) (ledger_file (take s.L s.buffer) (list_after (rules_of profile) s (map call_of ts))) ≡ accept
  pub records_are : take (end_of s ts).U (end_of s ts).journal ≡ ledger_records (take s.L s.buffer) (list_after (rules_of profile) s (map call_of ts))
