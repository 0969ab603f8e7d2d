-- What a call that edits promises to a C program under a profile: every number of its answer and every byte of both buffers at exit, for every input.
use Rattle.std.specs.Prelude.{◌≡◌, ℕ, List}
use Rattle.blorb.specs.Rules.{rules_of}
use Rattle.edits.specs.Run.{State, Call, fault, step}
use Rattle.capi.specs.declared.EditAnswer.{EditAnswer}
use Rattle.capi.specs.Numbers.{refusal_number, refusal_place}

-- under this profile a call c in state s gives the answer r and leaves these buffers
pub record Answered (profile : ℕ) (s : State) (c : Call) (r : EditAnswer) (b j : List ℕ) : Type 0 where
  pub refusal : r.refusal ≡ refusal_number (fault (rules_of profile) s c)
  pub place : r.place ≡ refusal_place (fault (rules_of profile) s c)
  pub len : r.length ≡ (step (rules_of profile) s c).L
  pub used : r.used ≡ (step (rules_of profile) s c).U
  pub file : b ≡ (step (rules_of profile) s c).buffer
  pub journal : j ≡ (step (rules_of profile) s c).journal
