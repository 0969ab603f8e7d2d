-- Refusals in answers: what a call refuses with, and a check's answer as a verdict.
use Rattle.std.specs.Prelude.{ℕ, Result, Ok, Err}
use Rattle.blorb.specs.declared.refusal.Refusal.{Refusal}
use Rattle.blorb.specs.Verdict.{Verdict, accept, refuse}

-- refused with this number, at this place
pattern abbrev pub Refused : {A : Type 0} → ℕ → ℕ → Result A Refusal
Refused k p = Err (k, p)

-- a check's answer as a verdict
abbrev pub verdict_of : {A : Type 0} → Result A Refusal → Verdict
verdict_of (Ok x) = accept
verdict_of (Refused k p) = refuse k p

-- what is answered by a verdict: the value, or the refusal
abbrev pub answer_by : {A : Type 0} → Verdict → A → Result A Refusal
answer_by accept x = Ok x
answer_by (refuse k p) x = Refused k p
