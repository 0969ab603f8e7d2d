-- The plan of a replacement: the ways out of it, and what a plan to go on tells. The entry is found as one to be removed is.
use mathlib.Core.Path.{◌≡◌, refl, sym, ap, ◌∙◌}
use Prim.Native.Nat.{ℕ, ◌+◌, ◌-◌, ◌≤◌, ◌<◌, ◌%◌}
use mathlib.Core.List.{List}
use mathlib.Core.Bool.{true, false, ◌&&◌, ◌||◌, not}
use native.Mathlib.Omega.{arith}
use lib.ListN.{length, take}
use lib.Seq.{length-take-le}
use lib.Dec.{eqb, leb}
use borrow.Author.Tests.{lt-ltb, ltb-true}
use Rattle.blorb.specs.Format.{chunk_of, size}
use Rattle.blorb.specs.Tags.{FORM}
use Rattle.blorb.specs.Verdict.{Verdict, accept, refuse, ◌then◌, check, verdict}
use Rattle.blorb.specs.Rules.{rules_of}
use Rattle.blorb.specs.Model.{Model, model, file}
use Rattle.blorb.specs.Queries.{find, ref_at, chunk_at}
use Rattle.blorb.specs.All.{All}
use Rattle.blorb.specs.Bytes.{Byte}
use Rattle.blorb.proofs.Checks.{then_accept, check_accept, holds_last, pass}
use Rattle.edits.specs.Edit.{Edit, replace, replaced, held, given_chunk, is_whole, edited}
use Rattle.edits.specs.Journal.{rec_of}
use Rattle.edits.specs.Run.{hundred, whole_fault, target_fault, edited_file, edit_record}
use Rattle.edits.proofs.JournalLaws.{length-rec_bytes}
use Rattle.edits.proofs.Lengths.{length-replaced, size-given}
use Rattle.reader.specs.declared.Piece.{Piece}
use Rattle.std.specs.Prelude.{None, Result, Ok, Err}
use Rattle.blorb.specs.declared.refusal.Refusal.{Refusal}
use Rattle.blorb.specs.Refusals.{Refused, verdict_of, answer_by}
use Rattle.reader.specs.declared.Facts.{Facts}
use Rattle.reader.specs.Inspecting.{piece_of, front_of}
use Rattle.judging.specs.Told.{Own}
use Rattle.judging.proofs.OpenLaws.{asked, asked-refused, place_is, shared-is}
use Rattle.edits.proofs.FitFacts.{size_is}
use Rattle.planning.specs.declared.Owned.{Owned}
use Rattle.planning.specs.Plans.{edit_refusal, owned_of}
use Rattle.planning.proofs.PlanLaws.{answer_go, opened_fine, opening_no, target_no, judged_no, room_no, room_fine, unrefused}
use Rattle.planning.proofs.RemovePlan.{Found, found, Told, told_missing}

module _ (profile : ℕ) (b : List ℕ) (l J U u n t : ℕ) (d : List ℕ) (bytes : All Byte (take l b)) where
  abbrev pub f : List ℕ
  f = take l b

  abbrev pub m : Model
  m = model (take l b)

  abbrev pub i : ℕ
  i = find u n (model (take l b)).refs

  abbrev pub E : Edit
  E = replace u n t d

  abbrev pub K : ℕ
  K = length (model (take l b)).refs

  abbrev pub kc : ℕ
  kc = (ref_at (model (take l b)) (find u n (model (take l b)).refs)).chunk

  abbrev pub Vd : Verdict
  Vd = edit_refusal profile (length b) J (take l b) l U (replace u n t d)

  abbrev pub O : Verdict
  O = check (leb profile 1) 52 0 then (check (leb l (length b) && leb U J) 20 0 then verdict (rules_of profile) (take l b))

  -- the chunk's new size, by the data as the chunk holds it
  abbrev pub new : ℕ
  new = 8 + (length (held t d) + length (held t d) % 2)

  abbrev X : Owned
  X = owned_of (model (take l b)) u n

  pub plan_unopened : (x : ℕ) (y : Refusal) → asked profile b l J U u n x ≡ Err y → Err y ≡ answer_by Vd X
  plan_unopened x y e = opening_no profile (length b) J f l U E X y (asked-refused profile b l J U u n x y.0 y.1 e)

  pub plan_22 : (x : ℕ) (fs : Facts) → asked profile b l J U u n x ≡ Ok fs → fs.target ≡ None → Refused 22 0 ≡ answer_by Vd X
  plan_22 x fs e t =
      let h = told_missing profile b l J U u n bytes x fs e t in
      target_no profile (length b) J f l U E X 22 0 h.0 (unfold target_fault check ◌then◌ in rw h.1)

  new_length : Found profile b l J U u n bytes K → length (edited_file f E) ≡ l - size (chunk_at m kc) + new
  unfolding edited_file edited
  new_length w = omega (arith, length-replaced m kc (given_chunk t d) w.there, w.length_l, size-given t d, w.ends)

  record_length : length (edit_record f E) ≡ 29 + length (chunk_at m kc).body
  unfolding edit_record rec_of
  record_length = length-rec_bytes _

  -- an entry's own chunk, by what the reader tells
  module _ (p : Piece) (w : Found profile b l J U u n bytes K) (e : p ≡ piece_of m i) where
    pub record_now : 29 + p.length ≡ length (edit_record f E)
    record_now = ap (λ (z : Piece). 29 + z.length) e ∙ sym record_length

    module _ (a : ℕ) (ea : a ≡ 8 + (p.length + p.length % 2)) where
      pub size_now : a ≡ size (chunk_at m kc)
      size_now = ea ∙ ap (λ (z : Piece). 8 + (z.length + z.length % 2)) e ∙ sym (size_is (chunk_at m kc))

      pub inside : a ≤ l
      inside = omega (arith, size_now, w.ends)

      -- h: the data as the chunk holds it, as the code has it
      pub length_now : (h : List ℕ) → h ≡ held t d → l - a + (8 + (length h + length h % 2)) ≡ length (edited_file f E)
      length_now h eh = (λ z. l - size_now z + (8 + (length (eh z) + length (eh z) % 2))) ∙ sym (new_length w)

  module _ (fs : Facts) (p : Piece) (w : Told profile b l J U u n bytes fs p) where
    pub plan_23 : p.shared ≡ true → Refused 23 0 ≡ answer_by Vd X
    plan_23 h =
        let q : target_fault m E ≡ refuse 23 0 = (unfold target_fault check ◌then◌ in rw (
          lt-ltb i K w.found.listed,
          sym (shared-is m i p w.piece_is)
              ∙ h,
        )) in
        target_no profile (length b) J f l U E X 23 0 w.opened q

    module _ (alone : p.shared ≡ false) where
      -- what replace_fault asks
      pub own : (verdict (rules_of profile) f ≡ accept) × (Own f u n p × (fs.front ≡ front_of m))
      own =
          let st = w.found.stands in
          let lf : length f ≡ l = length-take-le l b st.inside in
          let sz = size_now p w.found w.piece_is (8 + (p.length + p.length % 2)) refl in (
            opened_fine profile (length b) J f l U E w.opened,
            (
              record {
                found = w.found.listed;
                piece = w.piece_is;
                alone = alone;
                inside = omega (arith, w.found.ends);
                short = omega (arith, st.short);
                low = omega (arith, place_is m i p w.piece_is, w.found.listed, st.index, st.short);
              },
              w.front_is,
            ),
          )

      -- neither 22 nor 23
      there_alone : target_fault m E ≡ whole_fault t d
      unfolding target_fault
      there_alone = pass _ _ _ _ (lt-ltb _ _ w.found.listed) ∙ pass _ _ _ _ (ap not (sym (shared-is m i p w.piece_is) ∙ alone))

      pub plan_30 : (not (eqb t FORM) || is_whole d) ≡ false → Refused 30 0 ≡ answer_by Vd X
      plan_30 e =
          let q : whole_fault t d ≡ refuse 30 0 = (unfold whole_fault check in rw e) in
          target_no profile (length b) J f l U E X 30 0 w.opened (there_alone ∙ q)

      module _ (whole : (not (eqb t FORM) || is_whole d) ≡ true) (h : List ℕ) (eh : h ≡ held t d) (j : Result (Unit {0}) Refusal)
          (judged : verdict_of j ≡ hundred (verdict (rules_of profile) (file (replaced m kc (chunk_of t h))))) where
        on_target : target_fault m E ≡ accept
        on_target = there_alone ∙ (unfold whole_fault in holds_last _ _ _ whole)

        judged_is : verdict_of j ≡ hundred (verdict (rules_of profile) (edited_file f E))
        unfolding edited_file edited
        judged_is = judged ∙ ap (λ (z : List ℕ). hundred (verdict (rules_of profile) (file (replaced m kc (chunk_of t z))))) eh

        pub plan_judged : (y : Refusal) → j ≡ Err y → Err y ≡ answer_by Vd X
        plan_judged y q = judged_no profile (length b) J f l U E X w.opened on_target j judged_is y q

        module _ (ok : verdict_of j ≡ accept) (a : ℕ) (ea : a ≡ 8 + (p.length + p.length % 2)) (r : Result (Unit {0}) Refusal)
            (e : verdict_of r ≡ check (leb (l - a + (8 + (length h + length h % 2))) (length b)) 24 0 then check (leb (29 + p.length) (J - U)) 25 0) where
          pub plan_full : (y : Refusal) → r ≡ Err y → Err y ≡ answer_by Vd X
          plan_full y q =
              room_no profile (length b) J f l U E X w.opened on_target j judged_is ok w.found.used_in _ _
              (length_now p w.found w.piece_is a ea h eh) (record_now p w.found w.piece_is) r e y q

          pub plan_fine : verdict_of r ≡ accept → Ok (record { count = fs.count; piece = p }) ≡ answer_by Vd X
          plan_fine q =
              (λ z. Ok (record { count = w.count_is z; piece = w.piece_is z }))
              ∙ room_fine profile (length b) J f l U E X w.opened on_target j judged_is ok w.found.used_in _ _
              (length_now p w.found w.piece_is a ea h eh) (record_now p w.found w.piece_is) r e q

  -- what a plan to go on tells
  pub record Ready (k : ℕ) (p : Piece) : Type 0 where
    pub fine : Vd ≡ accept
    pub found : Found profile b l J U u n bytes K
    pub count_is : k ≡ K
    pub piece_is : p ≡ piece_of m i
    pub room : length (edited_file f E) ≤ length b
    pub short : length (edited_file f E) ≤ 16777216
    pub journal_room : U + length (edit_record f E) ≤ J

  pub ready : (o : Owned) → answer_by Vd X ≡ Ok o → Ready o.count o.piece
  unfolding target_fault
  ready o e =
      let g = answer_go Vd X o e in
      let told = unrefused profile (length b) J f l U E g.0 in
      let lt : i < K = ltb-true _ _ (check_accept _ _ _ (then_accept _ _ told.on_target).0) in
      record {
        fine = g.0;
        found = found profile b l J U u n bytes told.opened lt;
        count_is = ap (λ (z : Owned). z.count) g.1;
        piece_is = ap (λ (z : Owned). z.piece) g.1;
        room = told.room;
        short = told.short;
        journal_room = told.journal_room;
      }
