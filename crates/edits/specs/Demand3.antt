-- Demand 3 (01, Whole runs): one claim about the whole run.
use Rattle.std.specs.Prelude.{◌≡◌, ◌≤◌, List, [], true, length, take}
use Rattle.blorb.specs.All.{All}
use Rattle.blorb.specs.Bytes.{Byte}
use Rattle.blorb.specs.Verdict.{Rules, accept, verdict}
use Rattle.edits.specs.Edit.{Edit}
use Rattle.edits.specs.Run.{State, Call, run, answers, ledger_file, ledger_used, ledger_records, ledger_run, ledger_answers}

-- where a run begins: "from an accepted file in the first L bytes of the file buffer and U = 0". That the buffer holds bytes is a fact of
-- its type in the code. "Demand 3 now asks one known profile for the whole run, its starting file accepted under it" (02, P12).
pub record Begins (R : Rules) (s : State) : Type 0 where
  pub known : R.known ≡ true
  pub bytes : All Byte s.buffer
  pub inside : s.L ≤ length s.buffer
  pub fresh : s.U ≡ 0
  pub fine : verdict R (take s.L s.buffer) ≡ accept

-- the ledger's list after the calls: it is told the starting file, both buffers' lengths and the calls
abbrev pub list_after : Rules → State → List Call → List Edit
list_after R s cs = ledger_run R (take s.L s.buffer) (length s.buffer) (length s.journal) [] cs

pub record Demand3 (R : Rules) (s : State) (cs : List Call) : Type 0 where
  -- "Each call answered as the ledger did: success or refusal, a refusal's number and place, and the L and U after that call."
  pub answers_are : answers R s cs ≡ ledger_answers R (take s.L s.buffer) (length s.buffer) (length s.journal) [] cs
  -- "After every run L and U are the ledger's,
  pub L-is : (run R s cs).L ≡ length (ledger_file (take s.L s.buffer) (list_after R s cs))
  pub U-is : (run R s cs).U ≡ ledger_used (take s.L s.buffer) (list_after R s cs)
  -- the first L bytes of the file buffer are its file,
  pub file_is : take (run R s cs).L (run R s cs).buffer ≡ ledger_file (take s.L s.buffer) (list_after R s cs)
  -- that file is accepted,
  pub accepted_is : verdict R (ledger_file (take s.L s.buffer) (list_after R s cs)) ≡ accept
  -- and the first U bytes of the journal are the records of its list's edits, in order."
  pub records_are : take (run R s cs).U (run R s cs).journal ≡ ledger_records (take s.L s.buffer) (list_after R s cs)
