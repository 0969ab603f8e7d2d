-- The two answers of a call.
use Rattle.std.specs.Prelude.{ℕ, Result, Ok}
use Rattle.blorb.specs.declared.refusal.Refusal.{Refusal}
use Rattle.blorb.specs.Refusals.{Refused}
use Rattle.editor.specs.declared.Answer.{Answer}
use Rattle.editor.specs.declared.Session.{Session}

-- of a refused one and of one that was made
abbrev pub refused_with : ℕ → ℕ → ℕ → ℕ → Answer
refused_with k p l u = record { outcome = Refused k p; len = l; used = u }

abbrev pub done_with : ℕ → ℕ → Answer
done_with l u = record { outcome = Ok tt; len = l; used = u }

-- a call's answer: l and u are the lengths that it was given
abbrev pub answered_with : Result Session Refusal → ℕ → ℕ → Answer
answered_with (Ok s) l u = done_with s.len s.used
answered_with (Refused k p) l u = refused_with k p l u
