-- From plans to the promise of a call.
use mathlib.Core.Path.{◌≡◌, sym, ap, subst, ◌∙◌}
use Prim.Native.Nat.{ℕ, ◌+◌, ◌-◌, ◌≤◌, ◌<◌}
use mathlib.Core.List.{List}
use native.Mathlib.Omega.{arith}
use lib.ListN.{length, take, drop, length-drop}
use lib.Seq.{length-take-le}
use Rattle.blorb.specs.Verdict.{Verdict, accept, refuse}
use Rattle.blorb.specs.Rules.{rules_of}
use Rattle.edits.specs.Run.{State, Call, fault, after, step, answered}
use Rattle.editor.specs.declared.Answer.{Answer}
use Rattle.editor.specs.Called.{Called}
use Rattle.editor.specs.Post.{refused_with, done_with}

-- a call's promise
pub called_refused : (profile : ℕ) (s : State) (c : Call) (n p : ℕ) → fault (rules_of profile) s c ≡ refuse n p
    → Called profile s c (refused_with n p s.L s.U) s.buffer s.journal
called_refused profile s c n p h =
    let e : step (rules_of profile) s c ≡ s = (unfold step in ap (λ (v : Verdict). answered v s (after s c)) h) in
    record {
      outcome = sym h;
      len = ap (λ (z : State). z.L) (sym e);
      used = ap (λ (z : State). z.U) (sym e);
      file = ap (λ (z : State). z.buffer) (sym e);
      journal = ap (λ (z : State). z.journal) (sym e);
    }

pub called_done : (profile : ℕ) (s : State) (c : Call) (l u : ℕ) (b j : List ℕ) → fault (rules_of profile) s c ≡ accept
    → l ≡ (after s c).L → u ≡ (after s c).U → b ≡ (after s c).buffer → j ≡ (after s c).journal
    → Called profile s c (done_with l u) b j
called_done profile s c l u b j h el eu eb ej =
    let e : step (rules_of profile) s c ≡ after s c = (unfold step in ap (λ (v : Verdict). answered v s (after s c)) h) in
    record {
      outcome = sym h;
      len = el ∙ ap (λ (z : State). z.L) (sym e);
      used = eu ∙ ap (λ (z : State). z.U) (sym e);
      file = eb
          ∙ ap (λ (z : State). z.buffer) (sym e);
      journal = ej ∙ ap (λ (z : State). z.journal) (sym e);
    }

pub called_as : (profile : ℕ) (s : State) (c c' : Call) (r : Answer) (b j : List ℕ) → c ≡ c' → Called profile s c r b j → Called profile s c' r b j
called_as profile s c c' r b j e h = subst (λ (z : Call). Called profile s z r b j) e h

-- the same of an answer that a function gave
pub gave : (profile : ℕ) (s : State) (c : Call) (r r' : Answer) (b j : List ℕ) → r ≡ r' → Called profile s c r' b j → Called profile s c r b j
gave profile s c r r' b j e h = subst (λ (z : Answer). Called profile s c z b j) (sym e) h

-- a part of n bytes from x on
pub part-size : (x n : ℕ) → x + n - x ≡ n
part-size x n = omega arith

pub part_length : (b : List ℕ) (x n : ℕ) → x + n ≤ length b → length (take (x + n - x) (drop x b)) ≡ n
part_length b x n h = let e : length (drop x b) ≡ length b - x = length-drop x b in length-take-le (x + n - x) (drop x b) (omega arith) ∙ part-size x n
