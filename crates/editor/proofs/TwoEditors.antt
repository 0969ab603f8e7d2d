-- 02, P13, of the code: edits/specs/TwoEditors says both sentences, and what they do not claim. Read Acts for what a call of the code is. They hold since each
-- function's contract is `Called` (DemandThree), and edits/proofs/TwoEditors has them of whatever the definitions make of a run.
use mathlib.Core.Path.{◌≡◌, sym, ap, subst, ◌∙◌}
use Prim.Native.Nat.{ℕ}
use mathlib.Core.List.{List, [], ◌∷◌, map}
use Rattle.blorb.specs.All.{All}
use Rattle.blorb.specs.Bytes.{Byte}
use Rattle.blorb.specs.Verdict.{accept}
use Rattle.blorb.specs.Rules.{rules_of}
use Rattle.edits.specs.Edit.{Edit, replace}
use Rattle.edits.specs.Run.{State, Call, edit, CallOk, fault, step, run}
use Rattle.edits.specs.Demand3.{Begins, list_after}
use Rattle.edits.specs.TwoEditors.{SameFile, NamesOther, LengthIs}
use Rattle.edits.proofs.TwoEditors.{replacement_commutes, later_wins, length-after}
use Rattle.std.specs.Prelude.{Ok}
use Rattle.editor.specs.Called.{verdict_of}
use Rattle.editor.specs.Runs as runs
use Rattle.editor.specs.Runs.{Ran, end_of}
use Rattle.editor.proofs.Runs.{state_after-is, ran_end}
use Rattle.editor.proofs.Acts.{Act, turn_of, Follows}
use Rattle.editor.proofs.DemandThree.{bounded, all_bounded, ran}

-- the function was called with c, and carried it out
pub record Made (c : Call) (x : Act) : Type 0 where
  pub asked : (turn_of x).call ≡ c
  pub done : (turn_of x).answer.outcome ≡ Ok tt

-- "in either order, where all four calls succeed": four calls of the code, a and b one after the other from s, and b and a from s
pub record FourCalls (profile : ℕ) (s : State) (a b : Call) : Type 0 where
  pub first : Act
  pub then_second : Act
  pub second : Act
  pub then_first : Act
  pub one_order : Follows profile s (first ∷ (then_second ∷ []))
  pub other_order : Follows profile s (second ∷ (then_first ∷ []))
  pub made_first : Made a first
  pub made_then_second : Made b then_second
  pub made_second : Made b second
  pub made_then_first : Made a then_first

-- what a and b leave, and what b and a leave
abbrev pub one_end : {profile : ℕ} {s : State} {a b : Call} → FourCalls profile s a b → State
one_end {s = s} w = end_of s (map turn_of (w.first ∷ (w.then_second ∷ [])))

abbrev pub other_end : {profile : ℕ} {s : State} {a b : Call} → FourCalls profile s a b → State
other_end {s = s} w = end_of s (map turn_of (w.second ∷ (w.then_first ∷ [])))

-- two calls that were made one after the other are not refused by the definitions, and end where these do
record Pair (profile : ℕ) (s : State) (a b : Call) (end : State) : Type 0 where
  one : fault (rules_of profile) s a ≡ accept
  two : fault (rules_of profile) (step (rules_of profile) s a) b ≡ accept
  ends : end ≡ run (rules_of profile) s (a ∷ (b ∷ []))

pair : (profile : ℕ) (s : State) (a b : Call) (x y : Act) → Follows profile s (x ∷ (y ∷ [])) → Made a x → Made b y
    → Pair profile s a b (end_of s (map turn_of (x ∷ (y ∷ []))))
pair profile s a b x y h m n =
    let R = rules_of profile in
    let r : Ran profile s (turn_of x ∷ (turn_of y ∷ [])) = ran profile s (x ∷ (y ∷ [])) h in
    let p : fault R s (turn_of x).call ≡ accept = sym r.0.outcome ∙ ap verdict_of m.done in
    let q : fault R (step R s (turn_of x).call) (turn_of y).call ≡ accept
    = ap (λ (z : State). fault R z (turn_of y).call) (sym (state_after-is profile s (turn_of x) r.0)) ∙ sym r.1.0.outcome ∙ ap verdict_of n.done in
    record {
      one = rw (← m.asked) p;
      two = rw (← m.asked, ← n.asked) q;
      ends = rw (← m.asked, ← n.asked) (ran_end profile s (turn_of x ∷ (turn_of y ∷ [])) r);
    }

-- "Replacing two different resources in either order, where all four calls succeed, gives the same file"; and so a replacement and any edit that
-- names other resources. That the buffer holds bytes is a fact of its type.
pub code_commutes : (profile : ℕ) (s : State) (u n t : ℕ) (d : List ℕ) (e : Edit) → All Byte s.buffer → NamesOther u n e
    → (w : FourCalls profile s (edit (replace u n t d)) (edit e)) → SameFile (one_end w) (other_end w)
code_commutes profile s u n t d e bytes ne w =
    let R = rules_of profile in
    let a : Call = edit (replace u n t d) in
    let p = pair profile s a (edit e) w.first w.then_second w.one_order w.made_first w.made_then_second in
    let q = pair profile s (edit e) a w.second w.then_first w.other_order w.made_second w.made_then_first in
    let c = replacement_commutes R s u n t d e bytes
    (subst CallOk w.made_first.asked (bounded w.first)) (subst CallOk w.made_second.asked (bounded w.second)) ne
    (record { a_first = p.one; then_b = p.two; b_first = q.one; then_a = q.two }) in
    rw (p.ends, q.ends) c

-- three calls of the code: a and b one after the other from s, and b alone from s
pub record LaterCalls (profile : ℕ) (s : State) (a b : Call) : Type 0 where
  pub first : Act
  pub then_later : Act
  pub later : Act
  pub both : Follows profile s (first ∷ (then_later ∷ []))
  pub alone : Follows profile s (later ∷ [])
  pub made_first : Made a first
  pub made_then_later : Made b then_later
  pub made_later : Made b later

-- Two replacements of one resource leave the file that the later one leaves alone.
pub code_later_wins : (profile : ℕ) (s : State) (u n t : ℕ) (d : List ℕ) (x : ℕ) (y : List ℕ) → All Byte s.buffer
    → (w : LaterCalls profile s (edit (replace u n t d)) (edit (replace u n x y)))
    → SameFile (end_of s (map turn_of (w.first ∷ (w.then_later ∷ [])))) (end_of s (map turn_of (w.later ∷ [])))
code_later_wins profile s u n t d x y bytes w =
    let R = rules_of profile in
    let b : Call = edit (replace u n x y) in
    let p = pair profile s (edit (replace u n t d)) b w.first w.then_later w.both w.made_first w.made_then_later in
    let r : Ran profile s (turn_of w.later ∷ []) = ran profile s (w.later ∷ []) w.alone in
    let q : fault R s b ≡ accept = rw (← w.made_later.asked) (sym r.0.outcome ∙ ap verdict_of w.made_later.done) in
    let e : end_of s (map turn_of (w.later ∷ [])) ≡ run R s (b ∷ []) = rw (← w.made_later.asked) (ran_end profile s (turn_of w.later ∷ []) r) in
    rw (p.ends, e) (later_wins R s u n t d x y bytes (subst CallOk w.made_first.asked (bounded w.first)) p.one p.two q)

-- the edits of a run that were not taken back: the ledger's list
abbrev pub list_of : (profile : ℕ) → State → List Act → List Edit
list_of profile s xs = list_after (rules_of profile) s (map runs.call_of (map turn_of xs))

-- "After any run the file's length is its starting length plus, for each edit not taken back, its own change."
pub code-length : (profile : ℕ) (s : State) (xs : List Act) → Begins (rules_of profile) s → Follows profile s xs
    → LengthIs (end_of s (map turn_of xs)).L s (list_of profile s xs)
code-length profile s xs b f =
    rw (ran_end profile s (map turn_of xs) (ran profile s xs f)) (length-after (rules_of profile) s (map runs.call_of (map turn_of xs)) b (all_bounded xs))
