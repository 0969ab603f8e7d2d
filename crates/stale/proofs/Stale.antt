-- A stale table is caught: after a successful edit or undo the old table is accepted exactly where the call leaves it good (specs/Leaves), and refused with
-- 35 in every other case. An entry more or less changes the count; a replacement changes just the starts behind it.
use mathlib.Core.Path.{◌≡◌, ap, sym, ◌∙◌}
use Prim.Native.Nat.{ℕ, suc, ◌-◌, ◌<◌}
use mathlib.Core.List.{List, [], ◌∷◌, ◌++◌, map}
use mathlib.Core.Bool.{Bool, true, false, cond, ◌&&◌}
use native.Mathlib.Omega.{arith}
use lib.ListN.{length, take, length-append, length-map, length-take}
use lib.Dec.{eqb}
use Rattle.blorb.specs.Bytes.{Byte}
use Rattle.blorb.specs.All.{All}
use Rattle.blorb.specs.Format.{Ref, Chunk, size}
use Rattle.blorb.specs.Verdict.{accept, refuse, verdict, accepted}
use Rattle.blorb.specs.Rules.{rules_of, profile_verdict}
use Rattle.blorb.specs.Model.{Model, file, model}
use Rattle.blorb.specs.Queries.{find, ref_at, chunk_at, shared, start}
use Rattle.blorb.specs.Sound.{W, Sound}
use Rattle.blorb.proofs.AllLaws.{all_take}
use Rattle.blorb.proofs.Checks.{then_accept, check_accept, and_both, is_accept}
use Rattle.blorb.proofs.ModelLaws.{entries, model-file, chunk_in}
use Rattle.blorb.proofs.Accept.{accept_short}
use Rattle.blorb.proofs.Profiles.{profile_accept, profile_known}
use Rattle.reader.specs.Reading.{index_of}
use Rattle.reader.proofs.Promises.{index_is}
use Rattle.rows.specs.Rows.{rows_of}
use Rattle.table.specs.Answers.{table_of, agree, check_of}
use Rattle.table.specs.TableOf.{SameEntries}
use Rattle.blorb.specs.Refusals.{Refused}
use Rattle.std.specs.Prelude.{Ok}
use Rattle.table.proofs.Promises.{pairs_once, same-accepted, accepted-same, stale_refused}
use Rattle.edits.specs.Edit.{
  Edit,
  add,
  replace,
  remove,
  link,
  given_chunk,
  added,
  replaced,
  removed,
  removed_entry,
  removed_both,
  edited,
  raise,
  entered,
  inserted,
  link_place_of,
  linked,
}
use Rattle.edits.specs.Journal.{
  Rec,
  last_rec,
  old_chunk,
  old_place,
  fits,
  undone,
  undo1,
  undo2,
  undo3,
  undo4,
  undo5,
  fits1,
  fits2,
  fits3,
  fits4,
  fits5,
  well_formed,
}
use Rattle.edits.specs.Run.{State, file_in, Call, edit, undo, ArgsOk, CallOk, edited_file, undone_file, edit_fault, undo_fault, fault, step}
use Rattle.edits.specs.Run.{after, after_edit, after_undo}
use Rattle.edits.specs.Starts.{moved, behind}
use Rattle.edits.proofs.Starts.{starts_replaced}
use Rattle.edits.proofs.InsertJudged.{length-with}
use Rattle.edits.proofs.UndoLaws.{length_without, length_remaining}
use Rattle.edits.proofs.FitLaws.{edit-sound}
use Rattle.edits.proofs.RunLaws.{Good, made, take-written, target_applies}
use Rattle.edits.proofs.Applies.{Applies}
use Rattle.edits.proofs.UndoJudged.{AcceptedFile, accepted-facts, fits1-facts, fits2-facts, fits5-facts}
use Rattle.edits.proofs.UndoTold.{last_small}
use Rattle.stale.specs.Leaves.{MovesNone, EditLeaves, UndoLeaves, Leaves, Caught}
use Rattle.stale.proofs.Entries.{same_count, unmoved_same, same_unmoved}
use Rattle.stale.proofs.Sound.{sound1, sound2, sound3, sound4, sound5}

-- two files have the same entries exactly if P
pub record Exactly (P : Type 0) (f g : List ℕ) : Type 0 where
  pub same_if : P → SameEntries (index_of f) (index_of g)
  pub only_if : SameEntries (index_of f) (index_of g) → P

-- ---- an accepted file f, and an accepted file made of a sound model

module _ (profile : ℕ) (f : List ℕ) (fine : profile_verdict profile f ≡ accept) (new : Model) (s : Sound new)
    (fine2 : profile_verdict profile (file new) ≡ accept) where
  index-new : index_of (file new) ≡ entries new
  index-new = index_is profile (file new) fine2
      ∙ ap entries (model-file new s (omega (arith, accept_short (rules_of profile) (file new) (profile_accept profile (file new) fine2).1)))

  -- another number of entries
  pub other_count : (length new.refs ≡ length (model f).refs → ⊥) → Exactly ⊥ f (file new)
  other_count d =
      record {
        same_if = λ x. absurd x;
        only_if = λ same.
            (let e = same_count (index_of f) (index_of (file new)) (pairs_once profile f fine) (pairs_once profile (file new) fine2) same in
            let a : length (index_of f) ≡ length (model f).refs = ap length (index_is profile f fine) ∙ length-map (model f).refs _ in
            let b : length (index_of (file new)) ≡ length new.refs = ap length index-new ∙ length-map new.refs _ in
            d (sym b ∙ sym e ∙ a));
      }

-- chunk k replaced
module _ (profile : ℕ) (f : List ℕ) (fine : profile_verdict profile f ≡ accept) (k : ℕ) (c : Chunk) (l : k < length (model f).chunks)
    (s : Sound (replaced (model f) k c))
    (fine2 : profile_verdict profile (file (replaced (model f) k c)) ≡ accept) where
  index-moved : index_of (file (replaced (model f) k c)) ≡ map (moved (behind (start (model f) k) (size (chunk_at (model f) k)) (size c))) (index_of f)
  index-moved = index-new profile f fine (replaced (model f) k c) s fine2 ∙ starts_replaced (model f) k c l ∙ rw (index_is profile f fine)

  pub replaced_exactly : Exactly (MovesNone f k c) f (file (replaced (model f) k c))
  replaced_exactly =
      record {
        same_if = λ h. rw index-moved (unmoved_same (index_of f) (start (model f) k) (size (chunk_at (model f) k)) (size c) h);
        only_if = λ same. same_unmoved (index_of f) (start (model f) k) (size (chunk_at (model f) k)) (size c) (pairs_once profile f fine)
            (rw index-moved at same);
      }

-- ---- an edit

module _ (profile : ℕ) (f : List ℕ) (bytes : All Byte f) (fine : profile_verdict profile f ≡ accept) where
  facts : AcceptedFile profile f
  facts = accepted-facts profile f bytes (profile_accept profile f fine).1

  removed_fewer : (i : ℕ) → i < length (model f).refs → length (removed (model f) i).refs ≡ length (model f).refs → ⊥
  unfolding removed removed_entry
  removed_fewer i l = go (shared (model f) i)
    where
      go : (b : Bool) → length (cond b (removed_entry (model f) i) (removed_both (model f) i (ref_at (model f) i).chunk)).refs ≡ length (model f).refs → ⊥
      go true e = omega (arith, length_without i (model f).refs l)
      go false e = omega (arith, length_remaining (model f) i (ref_at (model f) i).chunk l)

  linked_more : (k u n : ℕ) → length (linked (model f) k u n).refs ≡ length (model f).refs → ⊥
  unfolding linked entered
  linked_more k u n e = omega (arith, length-with (link_place_of k (model f).refs) (record { usage = u; number = n; chunk = k }) (model f).refs)

  pub edit_exactly : (e : Edit) → ArgsOk e → Applies (model f) e → profile_verdict profile (edited_file f e) ≡ accept → Exactly (EditLeaves f e) f
      (edited_file f e)
  unfolding edited_file edited added
  edit_exactly (add u n t d) a p fine2 =
      other_count profile f fine (edited (model f) (add u n t d)) (edit-sound (model f) (add u n t d) facts.sound a p) fine2
      (λ e. let w : length ((model f).refs ++ (record { usage = u; number = n; chunk = length (model f).chunks } ∷ [])) ≡ suc (length (model f).refs) =
      simp length-append (omega arith) in
      omega arith)
  edit_exactly (replace u n t d) a p fine2 =
      replaced_exactly profile f fine (ref_at (model f) (find u n (model f).refs)).chunk (given_chunk t d)
      (chunk_in (model f) (find u n (model f).refs) facts.sound p.0)
      (edit-sound (model f) (replace u n t d) facts.sound a p) fine2
  edit_exactly (remove u n) a p fine2 =
      other_count profile f fine (edited (model f) (remove u n)) (edit-sound (model f) (remove u n) facts.sound a p) fine2 (removed_fewer (find u n (model f
      ).refs) p)
  edit_exactly (link v o u n) a p fine2 =
      other_count profile f fine (edited (model f) (link v o u n)) (edit-sound (model f) (link v o u n) facts.sound a p) fine2
      (linked_more (ref_at (model f) (find v o (model f).refs)).chunk u n)

  -- ---- an undo, by the record's kind

  module _ (r : Rec) (hu : r.usage < W) (hn : r.number < W) (ht : r.type < W) where
    take_less : length (take (length (model f).refs - 1) (model f).refs) ≡ length (model f).refs → fits1 r (model f) ≡ true → ⊥
    take_less e fit =
        let c = (fits1-facts r (model f) fit).count in
        let w : length (take (length (model f).refs - 1) (model f).refs) ≡ length (model f).refs - 1 = simp length-take (omega arith) in
        omega arith

    pub undo_exactly : fits r (model f) ≡ true → profile_verdict profile (file (undone r (model f))) ≡ accept → Exactly (UndoLeaves f r) f
        (file (undone r (model f)))
    unfolding fits undone undo1 undo2 undo3 undo4 undo5 inserted entered removed_entry
    undo_exactly = go (eqb r.kind 1) (eqb r.kind 2) (eqb r.kind 3) (eqb r.kind 4)
      where
        m : Model
        m = model f

        entry : Rec → Model → Ref
        entry r m = record { usage = r.usage; number = r.number; chunk = old_place r m }

        go : (a b c d : Bool) → cond a (fits1 r m) (cond b (fits2 r m) (cond c (fits3 r m) (cond d (fits4 r m) (fits5 r m)))) ≡ true
            → profile_verdict profile (file (cond a (undo1 m) (cond b (undo2 r m) (cond c (undo3 r m) (cond d (undo4 r m) (undo5 r m)))))) ≡ accept
            → Exactly (cond a ⊥ (cond b (MovesNone f (ref_at m r.place).chunk (old_chunk r)) (cond c ⊥ (cond d ⊥ ⊥)))) f
            (file (cond a (undo1 m) (cond b (undo2 r m) (cond c (undo3 r m) (cond d (undo4 r m) (undo5 r m))))))
        go true b c d fit fine2 = other_count profile f fine (undo1 m) (sound1 profile r m facts.sound facts.judged fit) fine2 (λ e. take_less e fit)
        go false true c d fit fine2 =
            let p = fits2-facts r m fit in
            replaced_exactly profile f fine (ref_at m r.place).chunk (old_chunk r)
            (chunk_in (model f) r.place facts.sound p.inside) (sound2 profile r m facts.sound
            facts.judged
            ht) fine2
        go false false true d fit fine2 =
            other_count profile f fine (undo3 r m) (sound3 profile r m facts.sound facts.judged hu hn ht) fine2
            (λ e. omega (arith, length-with r.place (entry r m) (map (raise (old_place r m)) m.refs), length-map m.refs (raise (old_place r m))))
        go false false false true fit fine2 =
            other_count profile f fine (undo4 r m) (sound4 profile r m facts.sound facts.judged hu hn fit) fine2
            (λ e. omega (arith, length-with r.place (entry r m) m.refs))
        go false false false false fit fine2 =
            other_count profile f fine (undo5 r m) (sound5 profile r m facts.sound facts.judged) fine2
            (λ e. omega (arith, length_without r.place m.refs (fits5-facts r m fit).inside))

-- ---- a call on the lent buffers

caught : (profile : ℕ) (P : Type 0) (f g t : List ℕ) → profile_verdict profile g ≡ accept → check_of profile f (rows_of t) (length t) ≡ Ok tt
    → Exactly P f g → Caught profile P f g t
caught profile P f g t fine good x =
    record {
      stays_good = λ p. same-accepted profile f g t fine good (x.same_if p);
      good_only = λ a. x.only_if (accepted-same profile f g t fine good a);
      else_35 = λ no. stale_refused profile f g t fine good (λ same. no (x.only_if same));
    }

-- a successful call under a profile: an add, a replacement, a removal, a link or an undo, in any state of the buffers
pub call_caught : (profile : ℕ) (s : State) (c : Call) (t : List ℕ) → All Byte s.buffer → All Byte s.journal → CallOk c
    → fault (rules_of profile) s c ≡ accept
    → check_of profile (file_in s) (rows_of t) (length t) ≡ Ok tt → Caught profile (Leaves s c) (file_in s) (file_in (step (rules_of profile) s c)) t
unfolding step after after_edit after_undo fault edit_fault undo_fault undone_file
call_caught profile s (edit e) t bytes bytesj args h good =
    let f : List ℕ = file_in s in
    let h0 = then_accept _ _ h in
    let read : (g : List ℕ) → verdict (rules_of profile) g ≡ accept → profile_verdict profile g ≡ accept = λ g v. profile_known profile g
    (check_accept _ _ _ h0.0) ∙ v in
    let h2 = then_accept _ _ (then_accept _ _ h0.1).1 in
    let h3 = then_accept _ _ h2.1 in
    let x = accepted-facts profile f (all_take Byte s.L s.buffer bytes) h2.0 in
    let old : Good (rules_of profile) f = record { fine = h2.0; whole = x.whole; sound = x.sound; short = accept_short (rules_of profile) f h2.0 } in
    let fine2 : verdict (rules_of profile) (edited_file f e) ≡ accept = (made (rules_of profile) (length s.buffer) (length s.journal) f s.L
    s.U e old args
    h0.1).good.fine in
    let q : file_in (step (rules_of profile) s (edit e)) ≡ edited_file f e = rw h (take-written s.buffer s.L (edited_file f e)) in
    rw q (caught profile (EditLeaves f e) f (edited_file f e) t (read _ fine2) good
    (edit_exactly profile f (all_take Byte s.L s.buffer bytes) (read f h2.0) e args (target_applies (model f) e h3.0) (read _ fine2)))
call_caught profile s undo t bytes bytesj args h good =
    let f : List ℕ = file_in s in
    let j : List ℕ = take s.U s.journal in
    let h0 = then_accept _ _ h in
    let read : (g : List ℕ) → verdict (rules_of profile) g ≡ accept → profile_verdict profile g ≡ accept = λ g v. profile_known profile g
    (check_accept _ _ _ h0.0) ∙ v in
    let h2 = then_accept _ _ (then_accept _ _ h0.1).1 in
    let h4 = then_accept _ _ (then_accept _ _ h2.1).1 in
    let p = and_both (well_formed j && fits (last_rec j) (model f)) (accepted (verdict (rules_of profile) (undone_file f j))) (check_accept _ _ _ h4.0) in
    let fit = (and_both (well_formed j) (fits (last_rec j) (model f)) p.0).1 in
    let fine2 : verdict (rules_of profile) (undone_file f j) ≡ accept = is_accept _ p.1 in
    let w = last_small j (all_take Byte s.U s.journal bytesj) in
    let q : file_in (step (rules_of profile) s undo) ≡ undone_file f j = rw h (take-written s.buffer s.L (undone_file f j)) in
    rw q (caught profile (UndoLeaves f (last_rec j)) f (undone_file f j) t (read _ fine2) good
    (undo_exactly profile f (all_take Byte s.L s.buffer bytes) (read f h2.0) (last_rec j) w.0 w.1 w.2 fit (read _ fine2)))

-- ---- the calls by themselves

-- t is a good table of the file in the state, and the call succeeds
module _ (profile : ℕ) (s : State) (t : List ℕ) (bytes : All Byte s.buffer) (bytesj : All Byte s.journal) (good : check_of profile (file_in s)
    (rows_of t) (length t) ≡
    Ok tt) where
  -- every add makes it stale
  pub add_stale : (u n k : ℕ) (d : List ℕ) → ArgsOk (add u n k d) → fault (rules_of profile) s (edit (add u n k d)) ≡ accept
      → check_of profile (file_in (step (rules_of profile) s (edit (add u n k d)))) (rows_of t) (length t)
      ≡ Refused 35 (agree (table_of (file_in s)) (table_of (file_in (step (rules_of profile) s (edit (add u n k d))))))
  add_stale u n k d a h = (call_caught profile s (edit (add u n k d)) t bytes bytesj a h good).else_35 (λ x. x)

  -- and every removal
  pub remove_stale : (u n : ℕ) → ArgsOk (remove u n) → fault (rules_of profile) s (edit (remove u n)) ≡ accept
      → check_of profile (file_in (step (rules_of profile) s (edit (remove u n)))) (rows_of t) (length t)
      ≡ Refused 35 (agree (table_of (file_in s)) (table_of (file_in (step (rules_of profile) s (edit (remove u n))))))
  remove_stale u n a h = (call_caught profile s (edit (remove u n)) t bytes bytesj a h good).else_35 (λ x. x)

  -- and every link
  pub link_stale : (v o u n : ℕ) → ArgsOk (link v o u n) → fault (rules_of profile) s (edit (link v o u n)) ≡ accept
      → check_of profile (file_in (step (rules_of profile) s (edit (link v o u n)))) (rows_of t) (length t)
      ≡ Refused 35 (agree (table_of (file_in s)) (table_of (file_in (step (rules_of profile) s (edit (link v o u n))))))
  link_stale v o u n a h = (call_caught profile s (edit (link v o u n)) t bytes bytesj a h good).else_35 (λ x. x)

  -- a refused call leaves it good: "A refused call changes nothing."
  pub refused-good : (c : Call) (k p : ℕ) → fault (rules_of profile) s c ≡ refuse k p → check_of profile (file_in (step (rules_of profile) s c)) (rows_of t)
      (length t) ≡ Ok tt
  unfolding step
  refused-good c k p h = rw h good
