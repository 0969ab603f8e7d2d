-- Demand 3 for the editor's calls: whatever calls keep their contracts one after another, the ledger has their answers and their end.
use mathlib.Core.Path.{◌≡◌, refl, ap, ◌∙◌}
use Prim.Native.Nat.{ℕ}
use mathlib.Core.List.{List, [], ◌∷◌, map}
use lib.ListN.{take}
use Rattle.blorb.specs.All.{All}
use Rattle.blorb.specs.Rules.{rules_of}
use Rattle.edits.specs.Run.{State, CallOk, step, run, answers}
use Rattle.edits.specs.Demand3.{Begins}
use Rattle.edits.proofs.Demand3.{demand3}
use Rattle.editor.specs.Called.{Called}
use Rattle.editor.specs.Runs.{Turn, call_of, answer_of, state_after, Ran, end_of, AsLedger}

pub state_after-is : (profile : ℕ) (s : State) (t : Turn) → Called profile s t.call t.answer t.buffer t.journal
    → state_after t ≡ step (rules_of profile) s t.call
state_after-is profile s t c = λ i. record { buffer = c.file i; L = c.len i; journal = c.journal i; U = c.used i }

pub ran_end : (profile : ℕ) (s : State) (ts : List Turn) → Ran profile s ts → end_of s ts ≡ run (rules_of profile) s (map call_of ts)
unfolding run
ran_end profile s [] h = refl
ran_end profile s (t ∷ ts) h =
    ran_end profile (state_after t) ts h.1 ∙ ap (λ (x : State). run (rules_of profile) x (map call_of ts)) (state_after-is profile s t h.0)

ran_answers : (profile : ℕ) (s : State) (ts : List Turn) → Ran profile s ts → map answer_of ts ≡ answers (rules_of profile) s (map call_of ts)
unfolding answers
ran_answers profile s [] h = refl
ran_answers profile s (t ∷ ts) h =
    let c = h.0 in
    let r : map answer_of ts ≡ answers (rules_of profile) (step (rules_of profile) s t.call) (map call_of ts)
    = ran_answers profile (state_after t) ts h.1 ∙ ap (λ (x : State). answers (rules_of profile) x (map call_of ts)) (state_after-is profile s t c) in
    λ i. record { result = c.outcome i; L = c.len i; U = c.used i } ∷ r i

-- demand 3
pub runs_as_ledger : (profile : ℕ) (s : State) (ts : List Turn) → Begins (rules_of profile) s → All CallOk (map call_of ts) → Ran profile s ts
    → AsLedger profile s ts
runs_as_ledger profile s ts b args h =
    let d = demand3 (rules_of profile) s (map call_of ts) b args in
    let e : end_of s ts ≡ run (rules_of profile) s (map call_of ts) = ran_end profile s ts h in
    record {
      answers_are = ran_answers profile s ts h ∙ d.answers_are;
      L-is = ap (λ (x : State). x.L) e ∙ d.L-is;
      U-is = ap (λ (x : State). x.U) e ∙ d.U-is;
      file_is = ap (λ (x : State). take x.L x.buffer) e ∙ d.file_is;
      accepted_is = d.accepted_is;
      records_are = ap (λ (x : State). take x.U x.journal) e ∙ d.records_are;
    }
