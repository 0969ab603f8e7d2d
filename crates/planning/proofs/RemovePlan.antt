-- The plan of a removal: the ways out of it, and what a plan to go on tells.
use mathlib.Core.Path.{◌≡◌, refl, sym, ap, ◌∙◌}
use Prim.Native.Nat.{ℕ, zero, suc, ◌+◌, ◌*◌, ◌-◌, ◌≤◌, ◌<◌, ◌%◌}
use mathlib.Core.List.{List, [], ◌∷◌}
use mathlib.Core.Bool.{Bool, true, false, cond, ◌&&◌}
use native.Mathlib.Omega.{arith}
use native.Mathlib.Nat.{le_of_suc-le-suc, not-suc-le-zero}
use lib.ListN.{length, take, get_or}
use lib.Dec.{leb, ltb}
use borrow.Author.Tests.{lt-ltb, ltb-true}
use Rattle.blorb.specs.Format.{Chunk, size, sized, total}
use Rattle.blorb.specs.Verdict.{Verdict, accept, ◌then◌, check, verdict, no_chunk}
use Rattle.blorb.specs.Rules.{rules_of}
use Rattle.blorb.specs.Model.{Model, model, file, start_of, base}
use Rattle.blorb.specs.Queries.{find, ref_at, chunk_at, shared, start}
use Rattle.blorb.specs.All.{All}
use Rattle.blorb.specs.Bytes.{Byte}
use Rattle.blorb.proofs.VerdictLaws.{model_fault, file-judged}
use Rattle.blorb.proofs.Checks.{check_accept, holds_last}
use Rattle.blorb.proofs.Parts.{file-length}
use Rattle.blorb.proofs.ModelLaws.{chunk_in}
use Rattle.blorb.proofs.FindLaws.{find-pair}
use Rattle.edits.specs.Edit.{Edit, remove, removed, edited}
use Rattle.edits.specs.GoneSize.{gone_size_of}
use Rattle.edits.specs.Journal.{rec_of, removal}
use Rattle.edits.specs.Run.{hundred, target_fault, edited_file, edit_record}
use Rattle.edits.proofs.JournalLaws.{length-rec_bytes}
use Rattle.reader.specs.declared.Piece.{Piece}
use Rattle.std.specs.Prelude.{Some, None, Result, Ok, Err}
use Rattle.blorb.specs.declared.refusal.Refusal.{Refusal}
use Rattle.blorb.specs.Refusals.{Refused, verdict_of, answer_by}
use Rattle.reader.specs.declared.Facts.{Facts}
use Rattle.reader.specs.Inspecting.{piece_of, front_of}
use Rattle.judging.specs.Told.{Listed}
use Rattle.judging.proofs.OpenLaws.{asked, asked-refused, asked_whole, target_at, target-nothing, start_is, length-is}
use Rattle.judging.proofs.RemoveFault.{removed-length}
use Rattle.rewrite.specs.Rewriting.{Stands}
use Rattle.rewrite.proofs.Writes.{stands_length}
use Rattle.planning.specs.declared.Owned.{Owned}
use Rattle.planning.specs.Plans.{edit_refusal, owned_of}
use Rattle.planning.proofs.PlanLaws.{answer_go, open_stands, opened_fine, opening_no, target_no, judged_no, room_no, room_fine, unrefused}

-- the size that goes, by what the reader tells
gone_is : (m : Model) (i : ℕ) (p : Piece) → p ≡ piece_of m i → cond p.shared 0 (8 + (p.length + p.length % 2)) ≡ gone_size_of m i
unfolding gone_size_of size sized
gone_is m i p e = ap (λ (z : Piece). cond z.shared 0 (8 + (z.length + z.length % 2))) e

pub gone_sized : (m : Model) (i : ℕ) → gone_size_of m i ≤ size (chunk_at m (ref_at m i).chunk)
unfolding gone_size_of
gone_sized m i = go (shared m i)
  where
    go : (b : Bool) → cond b 0 (size (chunk_at m (ref_at m i).chunk)) ≤ size (chunk_at m (ref_at m i).chunk)
    go true = omega arith
    go false = omega arith

pub body-sized : (c : Chunk) → length c.body + 8 ≤ size c
unfolding size sized
body-sized c = omega arith

start-before : (m : Model) (k : ℕ) → k < length m.chunks → (start m k + size (chunk_at m k) ≤ length (file m)) × (24 + 12 * length m.refs ≤ start m k)
unfolding start start_of base total
start-before m k h = (omega (arith, total-upto m.chunks k h, file-length m), omega arith)
  where
    total-upto : (cs : List Chunk) (j : ℕ) → j < length cs → total (take j cs) + size (get_or cs j no_chunk) ≤ total cs
    total-upto [] j h = absurd (not-suc-le-zero h)
    total-upto (x ∷ cs) zero h = omega arith
    total-upto (x ∷ cs) (suc j) h = omega (arith, total-upto cs j (le_of_suc-le-suc h))

module _ (profile : ℕ) (b : List ℕ) (l J U u n : ℕ) (bytes : All Byte (take l b)) where
  abbrev pub f : List ℕ
  f = take l b

  abbrev pub m : Model
  m = model (take l b)

  abbrev pub i : ℕ
  i = find u n (model (take l b)).refs

  abbrev pub E : Edit
  E = remove u n

  abbrev pub K : ℕ
  K = length (model (take l b)).refs

  abbrev pub kc : ℕ
  kc = (ref_at (model (take l b)) (find u n (model (take l b)).refs)).chunk

  abbrev pub Vd : Verdict
  Vd = edit_refusal profile (length b) J (take l b) l U (remove u n)

  abbrev pub O : Verdict
  O = check (leb profile 1) 52 0 then (check (leb l (length b) && leb U J) 20 0 then verdict (rules_of profile) (take l b))

  -- what an entry that is found tells
  pub record Found (k : ℕ) : Type 0 where
    pub stands : Stands b l k
    pub used_in : U ≤ J
    pub length_l : length (file m) ≡ l
    pub model_fine : model_fault (rules_of profile) m ≡ accept
    pub listed : i < K
    pub there : kc < length m.chunks
    pub ends : start m kc + size (chunk_at m kc) ≤ l
    pub behind : 24 + 12 * K ≤ start m kc

  pub found : O ≡ accept → i < K → Found K
  found h lt =
      let st = open_stands profile b l U J K bytes h refl in
      let lm : length (file m) ≡ l = stands_length b l K st.0 in
      let th : kc < length m.chunks = chunk_in m i st.0.sound lt in
      let sb = start-before m kc th in
      record {
        stands = st.0;
        used_in = st.1;
        length_l = lm;
        model_fine =
            file-judged (rules_of profile) m st.0.sound (ap (verdict (rules_of profile)) st.0.whole ∙ opened_fine profile (length b) J f l U E h);
        listed = lt;
        there = th;
        ends = omega (arith, sb.0);
        behind = sb.1;
      }

  module _ (w : Found K) where
    pub new_length : length (edited_file f E) ≡ l - (12 + gone_size_of m i)
    unfolding edited_file edited
    new_length = let p = find-pair u n m.refs w.listed in omega (
      arith,
      removed-length profile m i u n w.stands.sound w.model_fine w.listed
          p.0 p.1,
      w.length_l,
    )

    pub record_length : length (edit_record f E) ≡ 29 + cond (shared m i) 0 (length (chunk_at m kc).body)
    unfolding edit_record rec_of removal
    record_length = length-rec_bytes (removal (shared m i) m u n i) ∙ go (shared m i)
      where
        go : (x : Bool) → 29 + length (removal x m u n i).body ≡ 29 + cond x 0 (length (chunk_at m kc).body)
        go true = refl
        go false = refl

    on_target : target_fault m E ≡ accept
    unfolding target_fault
    on_target = holds_last _ _ _ (lt-ltb _ _ w.listed)

  abbrev X : Owned
  X = owned_of (model (take l b)) u n

  pub plan_unopened : (x : ℕ) (y : Refusal) → asked profile b l J U u n x ≡ Err y → Err y ≡ answer_by Vd X
  plan_unopened x y e = opening_no profile (length b) J f l U E X y (asked-refused profile b l J U u n x y.0 y.1 e)

  -- what an inspection tells of the entry
  pub record Told (fs : Facts) (p : Piece) : Type 0 where
    pub opened : O ≡ accept
    pub found : Found K
    pub count_is : fs.count ≡ K
    pub front_is : fs.front ≡ front_of m
    pub piece_is : p ≡ piece_of m i

  module _ (x : ℕ) (fs : Facts) (e : asked profile b l J U u n x ≡ Ok fs) where
    pub told : (p : Piece) → fs.target ≡ Some p → Told fs p
    told p t =
        let w = asked_whole profile b l J U u n x fs e in
        let h = target_at m u n p (ap (λ (z : Facts). z.target) (sym w.1) ∙ t) in
        record {
          opened = w.0;
          found = found w.0 (ltb-true _ _ h.0);
          count_is = ap (λ (z : Facts). z.count) w.1;
          front_is =
              ap (λ (z : Facts). z.front) w.1;
          piece_is = h.1;
        }

    -- the entry is not there
    pub told_missing : fs.target ≡ None → (O ≡ accept) × (ltb i K ≡ false)
    told_missing t =
        let w = asked_whole profile b l J U u n x fs e in
        (w.0, target-nothing m u n (ap (λ (z : Facts). z.target) (sym w.1) ∙ t))

    pub plan_22 : fs.target ≡ None → Refused 22 0 ≡ answer_by Vd X
    plan_22 t =
        let h = told_missing t in
        target_no profile (length b) J f l U E X 22 0 h.0 (unfold target_fault check in rw h.1)

  -- the sizes of an entry that is there, as the code has them
  module _ (p : Piece) (w : Found K) (e : p ≡ piece_of m i) where
    pub body_short : p.length ≤ 16777216
    body_short = omega (arith, length-is m i p e, body-sized (chunk_at m kc), w.ends, w.stands.short)

    pub record_now : 29 + cond p.shared 0 p.length ≡ length (edit_record f E)
    record_now = ap (λ (z : Piece). 29 + cond z.shared 0 z.length) e ∙ sym (record_length w)

    module _ (a : ℕ) (ea : a ≡ cond p.shared 0 (8 + (p.length + p.length % 2))) where
      pub gone_now : a ≡ gone_size_of m i
      gone_now = ea ∙ gone_is m i p e

      pub shrinks : 12 + a ≤ l
      shrinks = omega (arith, gone_now, gone_sized m i, w.ends, w.behind)

      pub length_now : l - (12 + a) ≡ length (edited_file f E)
      length_now = ap (λ (z : ℕ). l - (12 + z)) gone_now ∙ sym (new_length w)

  module _ (fs : Facts) (p : Piece) (w : Told fs p) (a : ℕ) (ea : a ≡ cond p.shared 0 (8 + (p.length + p.length % 2))) where
    -- what remove_fault asks
    pub listed : (verdict (rules_of profile) f ≡ accept) × (Listed f u n p.start a × (fs.front ≡ front_of m))
    listed =
        let st = w.found.stands in
        let ga = gone_now p w.found w.piece_is a ea in (
          opened_fine profile (length b) J f l U E w.opened,
          (
            record {
              found = w.found.listed;
              starts = start_is m i p w.piece_is;
              gone = ga;
              small =
                  omega (arith, gone_sized m i, w.found.ends, st.short);
            },
            w.front_is,
          ),
        )

    module _ (j : Result (Unit {0}) Refusal) (judged : verdict_of j ≡ hundred (verdict (rules_of profile) (file (removed m i)))) where
      judged_is : verdict_of j ≡ hundred (verdict (rules_of profile) (edited_file f E))
      unfolding edited_file edited
      judged_is = judged

      pub plan_judged : (y : Refusal) → j ≡ Err y → Err y ≡ answer_by Vd X
      plan_judged y q = judged_no profile (length b) J f l U E X w.opened (on_target w.found) j judged_is y q

      module _ (ok : verdict_of j ≡ accept) (x : ℕ) (ex : x ≡ cond p.shared 0 p.length) (r : Result (Unit {0}) Refusal)
          (e : verdict_of r ≡ check (leb (l - (12 + a)) (length b)) 24 0 then check (leb (29 + x) (J - U)) 25 0) where
        record_is : 29 + x ≡ length (edit_record f E)
        record_is = ap (λ (z : ℕ). 29 + z) ex ∙ record_now p w.found w.piece_is

        pub plan_full : (y : Refusal) → r ≡ Err y → Err y ≡ answer_by Vd X
        plan_full y q =
            room_no profile (length b) J f l U E X w.opened (on_target w.found) j judged_is ok w.found.used_in _ _
            (length_now p w.found w.piece_is a ea) record_is r e y q

        pub plan_fine : verdict_of r ≡ accept → Ok (record { count = fs.count; piece = p }) ≡ answer_by Vd X
        plan_fine q =
            (λ z. Ok (record { count = w.count_is z; piece = w.piece_is z }))
            ∙ room_fine profile (length b) J f l U E X w.opened (on_target w.found) j judged_is ok w.found.used_in _ _
            (length_now p w.found w.piece_is a ea) record_is r e q

  -- what a plan to go on tells
  pub record Ready (k : ℕ) (p : Piece) : Type 0 where
    pub fine : Vd ≡ accept
    pub found : Found K
    pub count_is : k ≡ K
    pub piece_is : p ≡ piece_of m i
    pub journal_room : U + length (edit_record f E) ≤ J

  pub ready : (o : Owned) → answer_by Vd X ≡ Ok o → Ready o.count o.piece
  unfolding target_fault
  ready o e =
      let g = answer_go Vd X o e in
      let told = unrefused profile (length b) J f l U E g.0 in
      record {
        fine = g.0;
        found = found told.opened (ltb-true _ _ (check_accept _ _ _ told.on_target));
        count_is = ap (λ (z : Owned). z.count) g.1;
        piece_is = ap (λ (z : Owned). z.piece) g.1;
        journal_room = told.journal_room;
      }
