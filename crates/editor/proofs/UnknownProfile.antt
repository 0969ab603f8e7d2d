-- "52 an unknown profile, before all others" (02, P12): under one every call of the editor, undo too, answers 52 at 0, gives its lengths back and
-- writes nothing. It follows from the contracts, since 52 stands in front of all else that a call is refused for.
use mathlib.Core.Path.{◌≡◌, ap, ◌∙◌}
use Prim.Native.Nat.{ℕ, ◌<◌}
use mathlib.Core.List.{List}
use native.Mathlib.Omega.{arith}
use borrow.Author.Tests.{lt-leb}
use Rattle.blorb.specs.Verdict.{refuse}
use Rattle.blorb.specs.Rules.{rules_of}
use Rattle.edits.specs.Run.{State, Call, step}
use Rattle.edits.proofs.UnknownProfile.{unknown_fault, unknown_step}
use Rattle.std.specs.Prelude.{Result, Ok, Err}
use Rattle.blorb.specs.declared.refusal.Refusal.{Refusal}
use Rattle.blorb.specs.Refusals.{Refused}
use Rattle.editor.specs.declared.Answer.{Answer}
use Rattle.editor.specs.Called.{verdict_of, Called, Untouched}
use Rattle.editor.proofs.Acts.{Act, state_of, profile_of, turn_of}
use Rattle.editor.proofs.DemandThree.{called}

refused_as : (o : Result (Unit {0}) Refusal) (k p : ℕ) → verdict_of o ≡ refuse k p → o ≡ Refused k p
refused_as (Ok x) k p e = let z : ◌≡◌ {A = ℕ} 0 1 = cc in absurd (omega arith)
refused_as (Err y) k p e =
    let a : y.0 ≡ k = cc in
    let b : y.1 ≡ p = cc in
    λ i. Refused (a i) (b i)

pub unknown_call : (profile : ℕ) (s : State) (c : Call) (r : Answer) (b j : List ℕ) → 1 < profile → Called profile s c r b j → Untouched 52 0 s r b j
unknown_call profile s c r b j h told =
    let f = unknown_fault (rules_of profile) (lt-leb profile 1 h) s c in
    let e : step (rules_of profile) s c ≡ s = unknown_step (rules_of profile) (lt-leb profile 1 h) s c in
    let o : r.outcome ≡ Refused 52 0 = refused_as r.outcome 52 0 (told.outcome ∙ f) in
    record {
      answer = λ i. record { outcome = o i; len = (told.len ∙ ap (λ (z : State). z.L) e) i; used = (told.used ∙ ap (λ (z : State). z.U) e) i };
      file = told.file ∙ ap (λ (z : State). z.buffer) e;
      journal = told.journal ∙ ap (λ (z : State). z.journal) e;
    }

-- the same of a call of the code
pub unknown_act : (x : Act) → 1 < profile_of x → Untouched 52 0 (state_of x) (turn_of x).answer (turn_of x).buffer (turn_of x).journal
unknown_act x h = unknown_call (profile_of x) (state_of x) (turn_of x).call (turn_of x).answer (turn_of x).buffer (turn_of x).journal h (called x)
