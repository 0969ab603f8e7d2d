-- The plan of a link: the ways out of it, and what a plan to go on tells. The original is found as an entry to be removed is.
use mathlib.Core.Path.{◌≡◌, sym, ap, ◌∙◌}
use Prim.Native.Nat.{ℕ, ◌+◌, ◌-◌, ◌≤◌, ◌<◌}
use mathlib.Core.List.{List}
use mathlib.Core.Bool.{◌&&◌}
use native.Mathlib.Omega.{arith}
use lib.ListN.{length, take}
use lib.Dec.{leb}
use borrow.Author.Tests.{lt-ltb, ltb-true}
use Rattle.blorb.specs.Verdict.{Verdict, accept, ◌then◌, check, verdict}
use Rattle.blorb.specs.Rules.{rules_of}
use Rattle.blorb.specs.Model.{Model, model, file}
use Rattle.blorb.specs.Queries.{find, ref_at, start}
use Rattle.blorb.specs.All.{All}
use Rattle.blorb.specs.Bytes.{Byte}
use Rattle.blorb.proofs.Checks.{check_accept, holds_last}
use Rattle.edits.specs.Edit.{Edit, link, link_place_of, linked, edited}
use Rattle.edits.specs.Journal.{rec_of}
use Rattle.edits.specs.Run.{hundred, target_fault, edited_file, edit_record}
use Rattle.edits.proofs.JournalLaws.{length-rec_bytes}
use Rattle.edits.proofs.LinkLaws.{linked-length}
use Rattle.reader.specs.declared.Piece.{Piece}
use Rattle.std.specs.Prelude.{Some, None, Result, Ok, Err}
use Rattle.blorb.specs.declared.refusal.Refusal.{Refusal}
use Rattle.blorb.specs.Refusals.{Refused, verdict_of, answer_by}
use Rattle.reader.specs.declared.Facts.{Facts}
use Rattle.reader.specs.Inspecting.{piece_of}
use Rattle.judging.proofs.OpenLaws.{asked, asked-refused, place_is, start_is}
use Rattle.linking.specs.Original.{Original}
use Rattle.planning.specs.declared.Joining.{Joining}
use Rattle.planning.specs.Plans.{edit_refusal, joining_of}
use Rattle.planning.proofs.PlanLaws.{answer_go, opened_fine, stands_as, stands_counted, opening_no, target_no, judged_no, room_no, room_fine, unrefused}
use Rattle.planning.proofs.RemovePlan.{Found, Told}
use Rattle.planning.proofs.RemovePlan as original

module _ (profile : ℕ) (b : List ℕ) (l J U v o u n : ℕ) (bytes : All Byte (take l b)) where
  abbrev pub f : List ℕ
  f = take l b

  abbrev pub m : Model
  m = model (take l b)

  abbrev pub i : ℕ
  i = find v o (model (take l b)).refs

  abbrev pub K : ℕ
  K = length (model (take l b)).refs

  abbrev pub kc : ℕ
  kc = (ref_at (model (take l b)) (find v o (model (take l b)).refs)).chunk

  abbrev pub E : Edit
  E = link v o u n

  abbrev pub Vd : Verdict
  Vd = edit_refusal profile (length b) J (take l b) l U (link v o u n)

  abbrev pub O : Verdict
  O = check (leb profile 1) 52 0 then (check (leb l (length b) && leb U J) 20 0 then verdict (rules_of profile) (take l b))

  -- the original is found, as an entry to be removed is
  abbrev pub There : Type 0
  There = Found profile b l J U v o bytes K

  pub record_29 : length (edit_record f E) ≡ 29
  unfolding edit_record rec_of
  record_29 = length-rec_bytes _

  pub link-length : There → length (edited_file f E) ≡ l + 12
  unfolding edited_file edited
  link-length w = linked-length m kc u n ∙ ap (λ (z : ℕ). z + 12) w.length_l

  on_target : i < K → target_fault m E ≡ accept
  unfolding target_fault
  on_target h = holds_last _ _ _ (lt-ltb _ _ h)

  abbrev X : Joining
  X = joining_of (model (take l b)) v o

  pub plan_unopened : (x : ℕ) (y : Refusal) → asked profile b l J U v o x ≡ Err y → Err y ≡ answer_by Vd X
  plan_unopened x y e = opening_no profile (length b) J f l U E X y (asked-refused profile b l J U v o x y.0 y.1 e)

  module _ (x : ℕ) (fs : Facts) (e : asked profile b l J U v o x ≡ Ok fs) where
    pub plan_22 : fs.target ≡ None → Refused 22 0 ≡ answer_by Vd X
    plan_22 t =
        let h = original.told_missing profile b l J U v o bytes x fs e t in
        target_no profile (length b) J f l U E X 22 0 h.0 (unfold target_fault check in rw h.1)

    -- the original's piece, as the reader tells it
    module _ (p : Piece) (t : fs.target ≡ Some p) where
      pub told : Told profile b l J U v o bytes fs p
      told = original.told profile b l J U v o bytes x fs e p t

      its_place : p.place ≡ i
      its_place = place_is m i p told.piece_is

      its_chunk : (ref_at m p.place).chunk ≡ kc
      its_chunk = ap (λ (z : ℕ). (ref_at m z).chunk) its_place

      accepted : verdict (rules_of profile) f ≡ accept
      accepted = opened_fine profile (length b) J f l U E told.opened

      -- what link_place and link_fault ask
      pub told_original : Original f fs.count p
      told_original = record {
        indexed = record {
          profile = profile;
          fine = accepted;
          counted = stands_counted b l fs.count (stands_as b l fs.count K told.count_is told.found.stands);
        };
        there = omega (arith, its_place, told.found.listed, told.count_is);
        piece = told.piece_is ∙ ap (piece_of m) (sym its_place);
      }

      pub told-place : (y : ℕ) → (y ≡ link_place_of (ref_at m p.place).chunk m.refs) × (y ≤ fs.count)
          → (verdict (rules_of profile) f ≡ accept) × (Original f fs.count p × ((y ≡ link_place_of (ref_at m p.place).chunk m.refs) × (y ≤ fs.count)))
      told-place y h = (accepted, (told_original, h))

      module _ (j : Result (Unit {0}) Refusal)
          (judged : verdict_of j ≡ hundred (verdict (rules_of profile) (file (linked m (ref_at m p.place).chunk u n)))) where
        judged_is : verdict_of j ≡ hundred (verdict (rules_of profile) (edited_file f E))
        unfolding edited_file edited
        judged_is = judged ∙ ap (λ (z : ℕ). hundred (verdict (rules_of profile) (file (linked m z u n)))) its_chunk

        pub plan_judged : (y : Refusal) → j ≡ Err y → Err y ≡ answer_by Vd X
        plan_judged y q = judged_no profile (length b) J f l U E X told.opened (on_target told.found.listed) j judged_is y q

        module _ (ok : verdict_of j ≡ accept) (r : Result (Unit {0}) Refusal)
            (er : verdict_of r ≡ check (leb (l + 12) (length b)) 24 0 then check (leb 29 (J - U)) 25 0) where
          pub plan_full : (y : Refusal) → r ≡ Err y → Err y ≡ answer_by Vd X
          plan_full y q =
              room_no profile (length b) J f l U E X told.opened (on_target told.found.listed) j judged_is ok told.found.used_in _ _
              (sym (link-length told.found)) (sym record_29) r er y q

          pub plan_fine : (y : ℕ) → y ≡ link_place_of (ref_at m p.place).chunk m.refs → verdict_of r ≡ accept
              → Ok (record { count = fs.count; place = y; at = p.start }) ≡ answer_by Vd X
          plan_fine y ey q =
              (λ z. Ok (record
              { count = told.count_is z; place = (ey ∙ ap (λ (c : ℕ). link_place_of c m.refs) its_chunk) z; at = start_is m i p told.piece_is z }))
              ∙ room_fine profile (length b) J f l U E X told.opened (on_target told.found.listed) j judged_is ok told.found.used_in _ _
              (sym (link-length told.found)) (sym record_29) r er q

  -- what a plan to go on tells: k entries, the new one's place y, the chunk's start x
  pub record Ready (k y x : ℕ) : Type 0 where
    pub fine : Vd ≡ accept
    pub found : There
    pub count_is : k ≡ K
    pub place_is : y ≡ link_place_of kc m.refs
    pub start_is : x ≡ start m kc
    pub room : l + 12 ≤ length b
    pub short : l + 12 ≤ 16777216
    pub journal_room : U + 29 ≤ J

  pub ready : (w : Joining) → answer_by Vd X ≡ Ok w → Ready w.count w.place w.at
  unfolding target_fault
  ready w e =
      let g = answer_go Vd X w e in
      let told = unrefused profile (length b) J f l U E g.0 in
      let there : There = original.found profile b l J U v o bytes told.opened (ltb-true _ _ (check_accept _ _ _ told.on_target)) in
      let len = link-length there in
      record {
        fine = g.0;
        found = there;
        count_is = ap (λ (z : Joining). z.count) g.1;
        place_is = ap (λ (z : Joining). z.place) g.1;
        start_is = ap (λ (z : Joining). z.at) g.1;
        room = omega (arith, told.room);
        short = omega (arith, told.short);
        journal_room = omega (arith, told.journal_room, record_29);
      }
