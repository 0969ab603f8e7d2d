-- What a call of the editor promises under a profile: its answer and every byte of both buffers at exit, for every input.
use Rattle.std.specs.Prelude.{◌≡◌, ℕ, List, Bool, true, false, Ok}
pub use Rattle.blorb.specs.Refusals.{Refused, verdict_of}
use Rattle.blorb.specs.Rules.{rules_of}
use Rattle.edits.specs.Run.{State, Call, fault, step}
use Rattle.editor.specs.declared.Answer.{Answer}

-- under this profile a call c in state s gives the answer r and leaves these buffers
pub record Called (profile : ℕ) (s : State) (c : Call) (r : Answer) (b j : List ℕ) : Type 0 where
  pub outcome : verdict_of r.outcome ≡ fault (rules_of profile) s c
  pub len : r.len ≡ (step (rules_of profile) s c).L
  pub used : r.used ≡ (step (rules_of profile) s c).U
  pub file : b ≡ (step (rules_of profile) s c).buffer
  pub journal : j ≡ (step (rules_of profile) s c).journal

-- a call in state s is refused with k at p: it gives its lengths back and leaves both buffers as they were
pub record Untouched (k p : ℕ) (s : State) (r : Answer) (b j : List ℕ) : Type 0 where
  pub answer : r ≡ record { outcome = Refused k p; len = s.L; used = s.U }
  pub file : b ≡ s.buffer
  pub journal : j ≡ s.journal

-- blank's answer, told whether the buffer has room: "The answer is L = 24, U = 0"; "A buffer under 24 bytes: refusal 24 with L and U 0" (01, The edits)
abbrev pub blank_answer : Bool → Answer
blank_answer true = record { outcome = Ok tt; len = 24; used = 0 }
blank_answer false = record { outcome = Refused 24 0; len = 0; used = 0 }
