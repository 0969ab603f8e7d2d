-- The plan of an add: the ways out of it, and what a plan to go on tells.
use mathlib.Core.Path.{◌≡◌, refl, sym, ap, ◌∙◌}
use Prim.Native.Nat.{ℕ, ◌+◌, ◌-◌, ◌≤◌, ◌%◌}
use mathlib.Core.List.{List}
use mathlib.Core.Bool.{true, false, ◌&&◌, ◌||◌, not}
use native.Mathlib.Omega.{arith}
use lib.ListN.{length, take}
use lib.Dec.{eqb, leb}
use Rattle.blorb.specs.Verdict.{Verdict, accept, ◌then◌, check, verdict}
use Rattle.blorb.specs.Tags.{FORM}
use Rattle.blorb.specs.Rules.{rules_of}
use Rattle.blorb.specs.Model.{model, file}
use Rattle.blorb.specs.Format.{chunk_of}
use Rattle.edits.specs.Edit.{Edit, add, added, edited, held, given_chunk, is_whole}
use Rattle.edits.specs.Journal.{rec_of}
use Rattle.edits.proofs.JournalLaws.{length-rec_bytes}
use Rattle.blorb.specs.All.{All}
use Rattle.blorb.specs.Bytes.{Byte}
use Rattle.blorb.proofs.Checks.{holds_last}
use Rattle.edits.proofs.Lengths.{length-added, size-given}
use Rattle.edits.specs.Run.{hundred, whole_fault, target_fault, edited_file, edit_record}
use Rattle.std.specs.Prelude.{Result, Ok, Err}
use Rattle.blorb.specs.declared.refusal.Refusal.{Refusal}
use Rattle.blorb.specs.Refusals.{Refused, verdict_of, answer_by}
use Rattle.reader.specs.declared.Facts.{Facts}
use Rattle.reader.specs.Inspecting.{target_of}
use Rattle.judging.specs.Told.{Counted}
use Rattle.rewrite.specs.Rewriting.{Stands}
use Rattle.rewrite.proofs.Writes.{stands_length}
use Rattle.planning.specs.Plans.{edit_refusal}
use Rattle.judging.proofs.OpenLaws.{asked, asked-refused, asked_whole}
use Rattle.planning.proofs.PlanLaws.{answer_go, open_stands, opened_fine, stands_counted, opening_no, target_no, judged_no, room_no, room_fine, unrefused}

module _ (profile : ℕ) (b : List ℕ) (l J U u n t : ℕ) (d : List ℕ) (bytes : All Byte (take l b)) where
  abbrev pub f : List ℕ
  f = take l b

  abbrev pub E : Edit
  E = add u n t d

  abbrev pub K : ℕ
  K = length (model f).refs

  abbrev pub Vd : Verdict
  Vd = edit_refusal profile (length b) J f l U E

  abbrev pub O : Verdict
  O = check (leb profile 1) 52 0 then (check (leb l (length b) && leb U J) 20 0 then verdict (rules_of profile) f)

  -- the data as the chunk holds it
  abbrev pub D : List ℕ
  D = held t d

  record_29 : length (edit_record f E) ≡ 29
  unfolding edit_record rec_of
  record_29 = length-rec_bytes _

  pub add-length : O ≡ accept → length (edited_file f E) ≡ l + (20 + (length D + length D % 2))
  unfolding edited_file edited
  add-length h =
      let st = open_stands profile b l U J K bytes h refl in
      let lf : length (file (model f)) ≡ l = stands_length b l K st.0 in
      length-added (model f) u n (given_chunk t d) ∙ omega (arith, size-given t d)

  pub plan_unopened : (x : ℕ) (y : Refusal) → asked profile b l J U u n x ≡ Err y → Err y ≡ answer_by Vd K
  plan_unopened x y e = opening_no profile (length b) J f l U E K y (asked-refused profile b l J U u n x y.0 y.1 e)

  module _ (x : ℕ) (fs : Facts) (op : asked profile b l J U u n x ≡ Ok fs) where
    ok : O ≡ accept
    ok = (asked_whole profile b l J U u n x fs op).0

    count_is : fs.count ≡ K
    count_is = ap (λ (z : Facts). z.count) (asked_whole profile b l J U u n x fs op).1

    pub told_stands : Stands b l fs.count × (U ≤ J)
    told_stands = open_stands profile b l U J fs.count bytes ok count_is

    -- what add_fault asks
    pub told-pair : (verdict (rules_of profile) f ≡ accept) × (Counted f fs.count × (fs.target ≡ target_of (model f) u n))
    told-pair = (
      opened_fine profile (length b) J f l U E ok,
      (
        stands_counted b l fs.count told_stands.0,
        ap (λ (z : Facts). z.target)
            (asked_whole profile b l J U u n x fs op).1,
      ),
    )

    pub plan_30 : (not (eqb t FORM) || is_whole d) ≡ false → Refused 30 0 ≡ answer_by Vd K
    plan_30 e = target_no profile (length b) J f l U E K 30 0 ok (unfold target_fault whole_fault check in rw e)

    -- h: the data as the chunk holds it, as the code has it
    module _ (whole : (not (eqb t FORM) || is_whole d) ≡ true) (h : List ℕ) (eh : h ≡ held t d) (j : Result (Unit {0}) Refusal)
        (judged : verdict_of j ≡ hundred (verdict (rules_of profile) (file (added (model f) u n (chunk_of t h))))) where
      on_target : target_fault (model f) E ≡ accept
      unfolding target_fault whole_fault
      on_target = holds_last _ _ _ whole

      judged_is : verdict_of j ≡ hundred (verdict (rules_of profile) (edited_file f E))
      unfolding edited_file edited
      judged_is = judged ∙ ap (λ (z : List ℕ). hundred (verdict (rules_of profile) (file (added (model f) u n (chunk_of t z))))) eh

      new_is : l + (20 + (length h + length h % 2)) ≡ length (edited_file f E)
      new_is = ap (λ (z : List ℕ). l + (20 + (length z + length z % 2))) eh ∙ sym (add-length ok)

      pub plan_judged : (y : Refusal) → j ≡ Err y → Err y ≡ answer_by Vd K
      plan_judged y q = judged_no profile (length b) J f l U E K ok on_target j judged_is y q

      module _ (fine : verdict_of j ≡ accept) (r : Result (Unit {0}) Refusal)
          (e : verdict_of r ≡ check (leb (l + (20 + (length h + length h % 2))) (length b)) 24 0 then check (leb 29 (J - U)) 25 0) where
        pub plan_full : (y : Refusal) → r ≡ Err y → Err y ≡ answer_by Vd K
        plan_full y q = room_no profile (length b) J f l U E K ok on_target j judged_is fine told_stands.1 _ _ new_is (sym record_29) r e y q

        pub plan_fine : verdict_of r ≡ accept → Ok fs.count ≡ answer_by Vd K
        plan_fine q = ap Ok count_is
            ∙ room_fine profile (length b) J f l U E K ok on_target j judged_is fine told_stands.1 _ _ new_is (sym record_29) r e q

  -- what a plan to go on tells
  pub record Ready (k : ℕ) : Type 0 where
    pub stands : Stands b l k
    pub room : l + (20 + (length D + length D % 2)) ≤ length b
    pub short : l + (20 + (length D + length D % 2)) ≤ 16777216
    pub journal_room : U + 29 ≤ J
    pub fine : Vd ≡ accept
    pub new_length : l + (20 + (length D + length D % 2)) ≡ length (edited_file f E)
    pub new_record : 29 ≡ length (edit_record f E)

  pub ready : (k : ℕ) → answer_by Vd K ≡ Ok k → Ready k
  ready k e =
      let q = answer_go Vd K k e in
      let told = unrefused profile (length b) J f l U E q.0 in
      let len = add-length told.opened in
      record {
        stands = (open_stands profile b l U J k bytes told.opened q.1).0;
        room = omega (arith, told.room);
        short = omega (arith, told.short);
        journal_room = omega (arith, told.journal_room, record_29);
        fine = q.0;
        new_length = sym len;
        new_record = sym record_29;
      }
