-- The refusals of an edit in their order, as the plans find them: what opening tells, what is judged, 24 and 25.
use mathlib.Core.Path.{◌≡◌, refl, sym, ap, ◌∙◌}
use Prim.Native.Nat.{ℕ, ◌+◌, ◌-◌, ◌≤◌}
use mathlib.Core.List.{List}
use mathlib.Core.Bool.{Bool, true, false, ◌&&◌}
use native.Mathlib.Omega.{arith}
use lib.ListN.{length, take}
use lib.Seq.{length-take-le}
use lib.Dec.{leb}
use borrow.Author.Tests.{le-leb, lt-leb, leb-true, leb-false}
use Rattle.blorb.specs.Verdict.{Verdict, accept, refuse, ◌then◌, check, verdict}
use Rattle.blorb.specs.Rules.{rules_of}
use Rattle.blorb.specs.Model.{model, file}
use Rattle.blorb.specs.All.{All}
use Rattle.blorb.specs.Bytes.{Byte}
use Rattle.blorb.proofs.Checks.{then_accept, check_accept, accepts, then_assoc, and_both}
use Rattle.blorb.proofs.Accept.{accept_back, accept_short}
use Rattle.blorb.proofs.Parts.{file-length}
use Rattle.edits.specs.Edit.{Edit}
use Rattle.edits.specs.Run.{hundred, target_fault, edit_fault, edited_file, edit_record}
use Rattle.edits.proofs.RunLaws.{hundred_accept}
use Rattle.std.specs.Prelude.{Result, Ok, Err}
use Rattle.blorb.specs.declared.refusal.Refusal.{Refusal}
use Rattle.blorb.specs.Refusals.{Refused, verdict_of, answer_by}
use Rattle.blorb.proofs.RefusalLaws.{not_refused}
use Rattle.judging.specs.Told.{Counted}
use Rattle.rewrite.specs.Rewriting.{Stands}
use Rattle.planning.specs.Plans.{edit_refusal}

-- an answer by a verdict tells the verdict
pub answer_no : {A : Type 0} (v : Verdict) (x : A) (y : Refusal) → answer_by v x ≡ Err y → v ≡ refuse y.0 y.1
answer_no accept x y e = absurd (not_refused e)
answer_no (refuse a b) x y e = ap verdict_of e

pub answer_go : {A : Type 0} (v : Verdict) (x y : A) → answer_by v x ≡ Ok y → (v ≡ accept) × (y ≡ x)
answer_go accept x y e = (refl, cc)
answer_go (refuse a b) x y e = absurd (not_refused (sym e))

-- what is known once 52, 20 and the reader's refusals are past
pub open_stands : (profile : ℕ) (b : List ℕ) (l u J k : ℕ) → All Byte (take l b)
    → check (leb profile 1) 52 0 then (check (leb l (length b) && leb u J) 20 0 then verdict (rules_of profile) (take l b)) ≡ accept
    → k ≡ length (model (take l b)).refs → Stands b l k × (u ≤ J)
open_stands profile b l u J k bytes h e =
    let a = then_accept _ _ (then_accept _ _ h).1 in
    let p = and_both _ _ (check_accept _ _ _ a.0) in
    let inside : l ≤ length b = leb-true _ _ p.0 in
    let g = accept_back (rules_of profile) (take l b) bytes a.1 in
    let len : length (take l b) ≡ l = length-take-le l b inside in
    let fl : length (file (model (take l b))) ≡ length (take l b) = ap length g.0 in (
      record { inside = inside; whole = g.0; sound = g.1; entries = e; index = omega (arith, file-length (model (take l b))); short = omega (arith, g.2) },
      leb-true _ _ p.1,
    )

-- the same with the count by another name
pub stands_as : (b : List ℕ) (l k n : ℕ) → k ≡ n → Stands b l n → Stands b l k
stands_as b l k n e s = record {
  inside = s.inside;
  whole = s.whole;
  sound = s.sound;
  entries = e ∙ s.entries;
  index = omega (arith, e, s.index);
  short = s.short;
}

-- the file by itself
pub stands_counted : (b : List ℕ) (l k : ℕ) → Stands b l k → Counted (take l b) k
stands_counted b l k s =
    let len : length (take l b) ≡ l = length-take-le l b s.inside in
    record { entries = s.entries; index = omega (arith, s.index); short = omega (arith, s.short) }

-- room for y more
left_room : (u y J : ℕ) → u ≤ J → leb (u + y) J ≡ leb y (J - u)
left_room u y J h = go (leb y (J - u)) refl
  where
    go : (b : Bool) → leb y (J - u) ≡ b → leb (u + y) J ≡ b
    go true e = le-leb (u + y) J (omega (arith, leb-true y (J - u) e))
    go false e = lt-leb (u + y) J (omega (arith, leb-false y (J - u) e))

-- an edit's refusals in their order
module _ (profile N J : ℕ) (f : List ℕ) (L U : ℕ) (e : Edit) where
  abbrev pub opening : Verdict
  opening = check (leb profile 1) 52 0 then (check (leb L N && leb U J) 20 0 then verdict (rules_of profile) f)

  -- the file is accepted under the profile
  pub opened_fine : opening ≡ accept → verdict (rules_of profile) f ≡ accept
  opened_fine h = (then_accept _ _ (then_accept _ _ h).1).1

  abbrev behind : Verdict
  behind =
      target_fault (model f) e
      then hundred (verdict (rules_of profile) (edited_file f e))
      then check (leb (length (edited_file f e)) N) 24 0
      then check (leb (U + length (edit_record f e)) J) 25 0

  edit_split : edit_refusal profile N J f L U e ≡ opening then behind
  unfolding edit_fault
  edit_split =
      let known : Verdict = check (leb profile 1) 52 0 in
      let lengths : Verdict = check (leb L N && leb U J) 20 0 in
      let v : Verdict = verdict (rules_of profile) f in
      sym (then_assoc known (lengths then v) behind ∙ ap (λ (z : Verdict). known then z) (then_assoc lengths v behind))

  -- what an edit that is not refused tells
  pub record Unrefused : Type 0 where
    pub opened : opening ≡ accept
    pub on_target : target_fault (model f) e ≡ accept
    pub short : length (edited_file f e) ≤ 16777216
    pub room : length (edited_file f e) ≤ N
    pub journal_room : U + length (edit_record f e) ≤ J

  pub unrefused : edit_refusal profile N J f L U e ≡ accept → Unrefused
  unrefused h =
      let a = then_accept _ _ (sym edit_split ∙ h) in
      let b = then_accept _ _ a.1 in
      let c = then_accept _ _ b.1 in
      let d = then_accept _ _ c.1 in
      record {
        opened = a.0;
        on_target = b.0;
        short = accept_short (rules_of profile) (edited_file f e) (hundred_accept _ c.0);
        room = leb-true _ _ (check_accept _ _ _ d.0);
        journal_room = leb-true _ _ (check_accept _ _ _ d.1);
      }

  edit_unopened : (n p : ℕ) → opening ≡ refuse n p → edit_refusal profile N J f L U e ≡ refuse n p
  edit_unopened n p h = edit_split ∙ ap (λ (v : Verdict). v then behind) h ∙ (unfold ◌then◌ in refl)

  edit_off_target : (n p : ℕ) → opening ≡ accept → target_fault (model f) e ≡ refuse n p → edit_refusal profile N J f L U e ≡ refuse n p
  edit_off_target n p h t = edit_split ∙ accepts _ _ h
      ∙ ap (λ (v : Verdict). v then (hundred (verdict (rules_of profile) (edited_file f e)) then (check (leb (length (edited_file f e)) N) 24 0 then check
      (leb (U + length (edit_record f e)) J) 25 0))) t ∙ (unfold ◌then◌ in refl)

  -- 22, 23 and 30, and what is refused before them
  module _ {A : Type 0} (x : A) where
    pub opening_no : (y : Refusal) → opening ≡ refuse y.0 y.1 → Err y ≡ answer_by (edit_refusal profile N J f L U e) x
    opening_no y h = ap (λ (v : Verdict). answer_by v x) (sym (edit_unopened y.0 y.1 h))

    pub target_no : (k p : ℕ) → opening ≡ accept → target_fault (model f) e ≡ refuse k p
        → Refused k p ≡ answer_by (edit_refusal profile N J f L U e) x
    target_no k p h t = ap (λ (v : Verdict). answer_by v x) (sym (edit_off_target k p h t))

  -- 100 + k, 24 and 25, as the code finds them: j is what was judged
  module _ {A : Type 0} (a : A) (h : opening ≡ accept) (t : target_fault (model f) e ≡ accept) (j : Result (Unit {0}) Refusal)
      (ej : verdict_of j ≡ hundred (verdict (rules_of profile) (edited_file f e))) where
    abbrev room_verdict : Verdict
    room_verdict = check (leb (length (edited_file f e)) N) 24 0 then check (leb (U + length (edit_record f e)) J) 25 0

    judged : edit_refusal profile N J f L U e ≡ verdict_of j then room_verdict
    judged = edit_split ∙ accepts _ _ h ∙ accepts _ _ t ∙ ap (λ (v : Verdict). v then room_verdict) (sym ej)

    pub judged_no : (y : Refusal) → j ≡ Err y → Err y ≡ answer_by (edit_refusal profile N J f L U e) a
    unfolding ◌then◌
    judged_no y q = ap (λ (v : Verdict). answer_by v a)
        (sym (judged ∙ ap (λ (z : Result (Unit {0}) Refusal). verdict_of z then room_verdict) q ∙ refl))

    -- x and y are the new file's and the record's length, r what the code found of the room for them
    module _ (ok : verdict_of j ≡ accept) (le : U ≤ J) (x y : ℕ) (ex : x ≡ length (edited_file f e)) (ey : y ≡ length (edit_record f e))
        (r : Result (Unit {0}) Refusal) (er : verdict_of r ≡ check (leb x N) 24 0 then check (leb y (J - U)) 25 0) where
      told : edit_refusal profile N J f L U e ≡ verdict_of r
      told =
          judged ∙ accepts _ _ ok
          ∙ (λ i. check (leb (sym ex i) N) 24 0 then check (left_room U (length (edit_record f e)) J le i) 25 0)
          ∙ ap (λ (z : ℕ). check (leb x N) 24 0 then check (leb z (J - U)) 25 0) (sym ey)
          ∙ sym er

      pub room_no : (z : Refusal) → r ≡ Err z → Err z ≡ answer_by (edit_refusal profile N J f L U e) a
      room_no z q = ap (λ (v : Verdict). answer_by v a) (sym (told ∙ ap verdict_of q))

      pub room_fine : verdict_of r ≡ accept → Ok a ≡ answer_by (edit_refusal profile N J f L U e) a
      room_fine q = ap (λ (v : Verdict). answer_by v a) (sym (told ∙ q))
