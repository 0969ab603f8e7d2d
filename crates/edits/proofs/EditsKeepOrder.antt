-- 01's edits keep the order of the chunks (02, P5), whatever the edit: an added entry stands last in the index and on the last chunk, a
-- replacement leaves the entries alone, and where an entry goes the others keep their order. So no edit's result is refused with 27, and no edit
-- is refused with 127: where the order holds, what is left to judge of a file (model_fault) has no 27 in it. Neither has it 6, 28 or 29, nor any other
-- number but 1, 9, 11, 12 and 14 to 19 (blorb/proofs/Never). A file that is refused itself is answered with its own number, which is under 100.
use mathlib.Core.Path.{◌≡◌, refl, ap, subst, ◌∙◌}
use Prim.Native.Nat.{ℕ, ◌+◌, ◌<◌}
use mathlib.Core.List.{List}
use mathlib.Core.Bool.{Bool, true, false, cond}
use native.Mathlib.Omega.{arith}
use lib.ListN.{length, drop}
use lib.Dec.{eqb, leb}
use borrow.Author.Tests.{ne_eqb, eqb-false}
use Rattle.blorb.specs.Bytes.{Byte}
use Rattle.blorb.specs.Format.{Chunk, chunks_of}
use Rattle.blorb.specs.Verdict.{Verdict, accept, refuse, ◌then◌, check, verdict}
use Rattle.blorb.specs.Rules.{rules_of}
use Rattle.blorb.specs.Model.{Model, model, file}
use Rattle.blorb.specs.Queries.{find, ref_at, shared}
use Rattle.blorb.specs.All.{All}
use Rattle.blorb.specs.Sound.{Sound}
use Rattle.blorb.proofs.Accept.{accept_back}
use Rattle.blorb.proofs.VerdictLaws.{model_fault, refs_in_order, verdict-file, file-ordered}
use Rattle.blorb.proofs.AllLaws.{all_take}
use Rattle.blorb.proofs.Never.{Never, never_itself, other, both, more, Elsewhere, model_never, head_never, walk_never, layout_never}
use Rattle.edits.specs.Edit.{Edit, add, replace, remove, link, edited, linked, entered, added, replaced, removed, removed_both, removed_entry, given_chunk}
use Rattle.edits.specs.Run.{State, file_in, edit, ArgsOk, hundred, whole_fault, target_fault, edited_file, edit_fault, fault}
use Rattle.edits.proofs.Applies.{Applies}
use Rattle.edits.proofs.FitLaws.{edit-sound}
use Rattle.edits.proofs.RunLaws.{target_applies}
use Rattle.edits.proofs.OrderLaws.{order_linked, order_added, order_without, order_removed}

-- 01's edits keep the order, and so does a link
pub added_in_order : (m : Model) (u n : ℕ) (c : Chunk) → Sound m → refs_in_order 0 m.refs ≡ true → refs_in_order 0 (added m u n c).refs ≡ true
unfolding added
added_in_order m u n c s o = order_added 0 (length m.chunks) m.refs _ (omega arith) s.refs_ok refl o

pub linked_in_order : (m : Model) (k u n : ℕ) → refs_in_order 0 m.refs ≡ true → refs_in_order 0 (linked m k u n).refs ≡ true
unfolding linked entered
linked_in_order m k u n o = order_linked 0 k _ m.refs refl (omega arith) o

pub edits_keep_order : (m : Model) (e : Edit) → Sound m → refs_in_order 0 m.refs ≡ true → refs_in_order 0 (edited m e).refs ≡ true
unfolding edited replaced removed removed_entry removed_both
edits_keep_order m (add u n t d) s o = added_in_order m u n (given_chunk t d) s o
edits_keep_order m (replace u n t d) s o = o
edits_keep_order m (link v o u n) s h = linked_in_order m (ref_at m (find v o m.refs)).chunk u n h
edits_keep_order m (remove u n) s o = go (shared m (find u n m.refs))
  where
    go : (b : Bool) → refs_in_order 0
        (cond b (removed_entry m (find u n m.refs)) (removed_both m (find u n m.refs) (ref_at m (find u n m.refs)).chunk)).refs ≡ true
    go true = order_without 0 (find u n m.refs) m.refs o
    go false = order_removed (ref_at m (find u n m.refs)).chunk (find u n m.refs) m.refs o

-- the answer: 20, 22, 23, 30, 100 + k, 24, 25
hundred_never : (k : ℕ) (v : Verdict) → Never k v → Never (100 + k) (hundred v)
hundred_never k accept h = tt
hundred_never k (refuse n p) h = ne_eqb (100 + n) (100 + k) (λ (q : 100 + n ≡ 100 + k). eqb-false n k h (omega (arith, q)))

-- a number of two digits is none of the hundred and more
low : (n k : ℕ) → n < 100 → eqb n (100 + k) ≡ false
low n k l = ne_eqb n (100 + k) (λ (q : n ≡ 100 + k). omega (arith, q, l))

target_never : (k : ℕ) (m : Model) (e : Edit) → Never (100 + k) (target_fault m e)
unfolding target_fault whole_fault
target_never k m (add u n t d) = other _ (100 + k) 30 0 (low 30 k (omega arith))
target_never k m (replace u n t d) =
    more _ (100 + k) 22 0 _ (low 22 k (omega arith)) (more _ (100 + k) 23 0 _ (low 23 k (omega arith)) (other _ (100 + k) 30 0 (low 30 k (omega arith))))
target_never k m (remove u n) = other _ (100 + k) 22 0 (low 22 k (omega arith))
target_never k m (link v o u n) = other _ (100 + k) 22 0 (low 22 k (omega arith))

-- f: an accepted file
module _ (profile : ℕ) (f : List ℕ) (bytes : All Byte f) (fine : verdict (rules_of profile) f ≡ accept) (e : Edit) (args : ArgsOk e) where
  result_never : (k : ℕ) → Elsewhere k → Applies (model f) e → Never k (verdict (rules_of profile) (edited_file f e))
  unfolding edited_file
  result_never k h a =
      let g = accept_back (rules_of profile) f bytes fine in
      let o : refs_in_order 0 (model f).refs ≡ true = file-ordered (rules_of profile) (model f) g.1 (ap (verdict (rules_of profile)) g.0 ∙ fine) in
      let r = edited (model f) e in
      let v : verdict (rules_of profile) (file r) ≡ check (leb (length (file r)) 16777216) 1 0 then model_fault (rules_of profile) r
      = verdict-file (rules_of profile) r (edit-sound (model f) e g.1 args a) (edits_keep_order (model f) e g.1 o) in
      rw v (more _ k 1 0 _ h.0 (model_never k h profile r))

  behind : (k : ℕ) → Elsewhere k → (v w : Verdict) → target_fault (model f) e ≡ v → Never (100 + k) v → Never (100 + k) w
      → Never (100 + k) (v then hundred (verdict (rules_of profile) (edited_file f e)) then w)
  unfolding ◌then◌
  behind k h accept w q hv hw =
      let v : Verdict = verdict (rules_of profile) (edited_file f e) in
      both (100 + k) (hundred v) w (hundred_never k v (result_never k h (target_applies (model f) e q))) hw
  behind k h (refuse n p) w q hv hw = hv

  answer_never : (k : ℕ) → Elsewhere k → (N J L U : ℕ) → Never (100 + k) (edit_fault (rules_of profile) N J f L U e)
  unfolding edit_fault
  answer_never k h N J L U =
      more _ (100 + k) 20 0 _ (low 20 k (omega arith))
      (rw fine (unfold ◌then◌ in behind k h (target_fault (model f) e) _ refl (target_never k (model f) e)
      (more _ (100 + k) 24 0 _ (low 24 k (omega arith)) (other _ (100 + k) 25 0 (low 25 k (omega arith))))))

  -- no edit's result is refused with k
  pub result_elsewhere : (k p : ℕ) → Elsewhere k → Applies (model f) e → verdict (rules_of profile) (edited_file f e) ≡ refuse k p → ⊥
  result_elsewhere k p h a q = never_itself k p _ (result_never k h a) q

  -- no edit's result is refused with 27 (02, P5)
  pub result_in_order : (p : ℕ) → Applies (model f) e → verdict (rules_of profile) (edited_file f e) ≡ refuse 27 p → ⊥
  result_in_order p a q = result_elsewhere 27 p (refl, refl, refl, refl, refl, refl, refl, refl, refl, refl) a q

-- no file at all is refused with a hundred or more
module _ (k : ℕ) where
  low_elsewhere : Elsewhere (100 + k)
  low_elsewhere = (
    low 1 k (omega arith),
    low 9 k (omega arith),
    low 11 k (omega arith),
    low 12 k (omega arith),
    low 14 k (omega arith),
    low 15 k (omega arith),
    low 16 k (omega arith),
    low 17 k (omega arith),
    low 18 k (omega arith),
    low 19 k (omega arith),
  )

  verdict_never : (profile : ℕ) (f : List ℕ) → Never (100 + k) (verdict (rules_of profile) f)
  unfolding verdict
  verdict_never profile f =
      both (100 + k) _ _
      (head_never (100 + k) low_elsewhere (low 2 k (omega arith)) (low 3 k (omega arith)) (low 4 k (omega arith)) (low 5 k (omega arith)) f)
      (both (100 + k) _ _
      (walk_never (100 + k) low_elsewhere (low 6 k (omega arith)) (low 28 k (omega arith)) (low 29 k (omega arith)) (low 7 k (omega arith)) (length f) 12
      (drop 12 f))
      (layout_never (100 + k) low_elsewhere (low 8 k (omega arith)) (low 10 k (omega arith)) (low 13 k (omega arith)) (low 27 k (omega arith)) profile
      (chunks_of f)))

-- the answer to a call, whatever the state
module _ (profile : ℕ) (s : State) (bytes : All Byte s.buffer) (e : Edit) (args : ArgsOk e) where
  call_never : (k : ℕ) → Elsewhere k → Never (100 + k) (fault (rules_of profile) s (edit e))
  unfolding fault
  call_never k h = more _ (100 + k) 52 0 _ (low 52 k (omega arith)) (by (verdict (rules_of profile) (file_in s)) refl)
    where
      by : (v : Verdict) → verdict (rules_of profile) (file_in s) ≡ v
          → Never (100 + k) (edit_fault (rules_of profile) (length s.buffer) (length s.journal) (file_in s) s.L s.U e)
      by accept q = answer_never profile (file_in s) (all_take Byte s.L s.buffer bytes) q e args k h _ _ _ _
      by (refuse n p) q =
          unfold edit_fault in more _ (100 + k) 20 0 _ (low 20 k (omega arith))
          (rw q (unfold ◌then◌ in subst (λ (w : Verdict). Never (100 + k) w) q (verdict_never k profile (file_in s))))

  -- no edit is refused with 100 + k
  pub answer_elsewhere : (k p : ℕ) → Elsewhere k → fault (rules_of profile) s (edit e) ≡ refuse (100 + k) p → ⊥
  answer_elsewhere k p h q = never_itself (100 + k) p _ (call_never k h) q

  -- no edit is refused with 127 (02, P5)
  pub never_127 : (p : ℕ) → fault (rules_of profile) s (edit e) ≡ refuse 127 p → ⊥
  never_127 p q = answer_elsewhere 27 p (refl, refl, refl, refl, refl, refl, refl, refl, refl, refl) q

  -- nor with 106, 128 or 129: an edit breaks no chunk off (02, P1)
  pub never_106 : (p : ℕ) → fault (rules_of profile) s (edit e) ≡ refuse 106 p → ⊥
  never_106 p q = answer_elsewhere 6 p (refl, refl, refl, refl, refl, refl, refl, refl, refl, refl) q

  pub never_128 : (p : ℕ) → fault (rules_of profile) s (edit e) ≡ refuse 128 p → ⊥
  never_128 p q = answer_elsewhere 28 p (refl, refl, refl, refl, refl, refl, refl, refl, refl, refl) q

  pub never_129 : (p : ℕ) → fault (rules_of profile) s (edit e) ≡ refuse 129 p → ⊥
  never_129 p q = answer_elsewhere 29 p (refl, refl, refl, refl, refl, refl, refl, refl, refl, refl) q
