-- One law for each way out of the calls.
use mathlib.Core.Path.{◌≡◌, ap}
use Prim.Native.Nat.{ℕ, ◌<◌}
use native.Mathlib.Omega.{arith}
use mathlib.Core.List.{List}
use Rattle.blorb.specs.Usages.{code_of}
use Rattle.blorb.specs.declared.Usage.{Usage}
use Rattle.blorb.specs.declared.Usage.TheVariants.{Pict, Snd, Data, Exec}
use Rattle.edits.specs.Run.{State, Call}
use Rattle.editor.specs.declared.Answer.{Answer}
use Rattle.editor.specs.Called.{Called}
use Rattle.capi.specs.declared.EditAnswer.{EditAnswer}
use Rattle.capi.specs.Numbers.{refusal_number, refusal_place, edit_numbers}
use Rattle.capi.specs.Answered.{Answered}

-- a usage's four bytes are a number of 32 bits
pub code_small : (u : Usage) → code_of u < 4294967296
code_small Pict = omega arith
code_small Snd = omega arith
code_small Data = omega arith
code_small Exec = omega arith

-- the editor's promise, in numbers
pub answered : (profile : ℕ) (s : State) (c : Call) (a : Answer) (r : EditAnswer) (b j : List ℕ) → r ≡ edit_numbers a → Called profile s c a b j
    → Answered profile s c r b j
answered profile s c a r b j e h =
    rw e (record {
      refusal = ap refusal_number h.outcome;
      place = ap refusal_place h.outcome;
      len = h.len;
      used = h.used;
      file = h.file;
      journal = h.journal;
    })
