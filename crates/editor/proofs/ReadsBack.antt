-- What was put in reads back. The theorems speak of the definitions that the contracts cite: `lookup_of` and `part_of` of reader::lookup and
-- reader::data, `fault` and `step` of editor::add, replace and remove.
use mathlib.Core.Path.{◌≡◌, refl, sym, ap, subst, ◌∙◌}
use Prim.Native.Nat.{ℕ, ◌+◌, ◌≤◌}
use mathlib.Core.List.{List, [], ◌++◌}
use mathlib.Core.Bool.{true, not}
use native.Mathlib.Omega.{arith}
use lib.ListN.{length, take}
use lib.Seq.{length-take-le}
use lib.Dec.{leb}
use borrow.Author.Tests.{ne_eqb, le-leb, leb-true}
use Rattle.blorb.specs.All.{All}
use Rattle.blorb.specs.Bytes.{Byte}
use Rattle.blorb.specs.Verdict.{Verdict, accept, refuse, verdict}
use Rattle.blorb.specs.Rules.{rules_of}
use Rattle.blorb.proofs.AllLaws.{all_take}
use Rattle.blorb.proofs.Accept.{accept_back}
use Rattle.blorb.proofs.Checks.{then_accept, check_accept, pass, accepts, holds_last, both_true, and_both}
use Rattle.edits.specs.Edit.{Edit}
use Rattle.edits.specs.Run.{
  State,
  Call,
  edit,
  undo,
  ArgsOk,
  fault,
  step,
  answered,
  after,
  after_edit,
  after_undo,
  written,
  noted,
  edit_fault,
  undo_fault,
  edited_file,
  edit_record,
  undone_file,
}
use Rattle.edits.proofs.RunLaws.{length-written, take-written, length-noted, take-noted, Good, Made, made}
use Rattle.std.specs.Prelude.{Ok}
use Rattle.blorb.specs.Refusals.{Refused}
use Rattle.editor.specs.declared.Answer.{Answer}
use Rattle.editor.specs.Called.{verdict_of, Called}
use Rattle.editor.specs.ReadsBack.{content_of, file_of, file_after, DataBytes, ReadsBack}
use Rattle.editor.proofs.ContentLaws.{edit-told, own_pair, other_pair}

-- the state and the file after a successful edit
edit-state : (profile : ℕ) (s : State) (e : Edit) → fault (rules_of profile) s (edit e) ≡ accept → step (rules_of profile) s (edit e) ≡ after_edit s e
unfolding step after
edit-state profile s e h = ap (λ (v : Verdict). answered v s (after_edit s e)) h

file-edited : (s : State) (e : Edit) → file_of (after_edit s e) ≡ edited_file (file_of s) e
unfolding after_edit
file-edited s e = take-written s.buffer s.L (edited_file (file_of s) e)

-- what it tells of the profile and of the edit's own refusals
edit-fault : (profile : ℕ) (s : State) (e : Edit) → fault (rules_of profile) s (edit e) ≡ accept
    → (leb profile 1 ≡ true) × (edit_fault (rules_of profile) (length s.buffer) (length s.journal) (file_of s) s.L s.U e ≡ accept)
unfolding fault
edit-fault profile s e h = let a = then_accept _ _ h in (check_accept _ _ _ a.0, a.1)

-- A successful add or replace leaves exactly its type and data for its pair, head included, a successful remove leaves no entry; every other
-- pair keeps what it had.
pub reads_back : (profile : ℕ) (s : State) (e : Edit) → All Byte s.buffer → ArgsOk e → DataBytes e → fault (rules_of profile) s (edit e) ≡ accept
    → ReadsBack profile e (file_of s) (file_after profile s (edit e))
reads_back profile s e bytes args given h =
    let a = edit-fault profile s e h in
    let t = edit-told profile (length s.buffer) (length s.journal) (file_of s) s.L s.U e (all_take Byte s.L s.buffer bytes) args
    a.0 a.1 in
    subst (λ (g : List ℕ). ReadsBack profile e (file_of s) g) (sym (ap file_of (edit-state profile s e h) ∙ file-edited s e))
    (record { own = own_pair profile (file_of s) e given t; others = λ v k o. other_pair profile (file_of s) e v k t o })

-- a refused call, edit or undo, leaves every pair as it was
pub refused_keeps : (profile : ℕ) (s : State) (c : Call) (k p : ℕ) → fault (rules_of profile) s c ≡ refuse k p → (u n : ℕ)
    → content_of profile (file_after profile s c) u n ≡ content_of profile (file_of s) u n
unfolding step
refused_keeps profile s c k p h u n = ap (λ (v : Verdict). content_of profile (file_of (answered v s (after s c))) u n) h

-- the undo of an edit that has just been made, over plain variables
undo_fine : (profile N J : ℕ) (f p : List ℕ) (U : ℕ) (e : Edit) → Made (rules_of profile) N J f U e → verdict (rules_of profile) f ≡ accept → length f ≤ N
    → undo_fault (rules_of profile) N J (edited_file f e) (length (edited_file f e)) (U + length (edit_record f e)) (p ++ edit_record f e) ≡ accept
unfolding undo_fault
undo_fine profile N J f p U e m fine room =
    pass _ _ _ _ (both_true _ _ (le-leb (length (edited_file f e)) N m.room) (le-leb (U + length (edit_record f e)) J m.journal_room))
    ∙ accepts _ _ m.good.fine
    ∙ pass _ _ _ _ (ap not (ne_eqb (U + length (edit_record f e)) 0 (omega (arith, m.size []))))
    ∙ pass _ _ _ _ (both_true _ _ (both_true _ _ (m.reads p) (m.fitting p)) (rw (m.back p, fine)))
    ∙ holds_last _ _ _ (rw (m.back p) (le-leb (length f) N room))

undo-done : (profile : ℕ) (s : State) (e : Edit) → leb profile 1 ≡ true
    → Made (rules_of profile) (length s.buffer) (length s.journal) (file_of s) s.U e → verdict (rules_of profile) (file_of s) ≡ accept
    → s.L ≤ length s.buffer
    → (fault (rules_of profile) (after_edit s e) undo ≡ accept) × (file_of (after_undo (after_edit s e)) ≡ file_of s)
unfolding fault after_edit after_undo
undo-done profile s e known m fine inside =
    let b : List ℕ = s.buffer in
    let f : List ℕ = file_of s in
    let g : List ℕ = edited_file f e in
    let r : List ℕ = edit_record f e in
    let lf : length f ≡ s.L = length-take-le s.L b inside in
    let file = take-written b s.L g in
    let records = take-noted s.journal s.U r m.journal_room in
    let back : undone_file (take (length g) (written b s.L g)) (take (s.U + length r) (noted s.journal s.U r)) ≡ f
    = rw (file, records) (m.back (take s.U s.journal)) in (
      pass _ _ _ _ known
          ∙ rw (length-written b s.L g inside m.room, length-noted s.journal s.U r m.journal_room, file, records)
          (undo_fine profile (length b) (length s.journal) f (take s.U s.journal) s.U e m fine (omega arith)),
      take-written _ _ _ ∙ back,
    )

-- An undo right after a successful edit isn't refused, and the file is the old file again: so is what it holds, for every pair.
pub undo_gives_back : (profile : ℕ) (s : State) (e : Edit) → All Byte s.buffer → ArgsOk e → fault (rules_of profile) s (edit e) ≡ accept
    → (fault (rules_of profile) (step (rules_of profile) s (edit e)) undo ≡ accept) × (file_after profile (step (rules_of profile) s (edit e)) undo ≡ file_of s)
unfolding step after edit_fault
undo_gives_back profile s e bytes args h =
    let k = edit-fault profile s e h in
    let a = then_accept _ _ k.1 in
    let inside : s.L ≤ length s.buffer = leb-true _ _ (and_both _ _ (check_accept _ _ _ a.0)).0 in
    let fine : verdict (rules_of profile) (file_of s) ≡ accept = (then_accept _ _ a.1).0 in
    let q = accept_back (rules_of profile) (file_of s) (all_take Byte s.L s.buffer bytes) fine in
    let good : Good (rules_of profile) (file_of s) = record { fine = fine; whole = q.0; sound = q.1; short = q.2 } in
    let m = made (rules_of profile) (length s.buffer) (length s.journal) (file_of s) s.L s.U e good args k.1 in
    let d = undo-done profile s e k.0 m fine inside in
    rw (edit-state profile s e h, d.0) (refl, d.1)

-- The same for the buffers and the answer of a call: this is what its contract (`Called`) and reader::lookup's tell together.
pub call_reads_back : (profile : ℕ) (s : State) (e : Edit) (r : Answer) (b j : List ℕ) → All Byte s.buffer → ArgsOk e → DataBytes e
    → Called profile s (edit e) r b j → r.outcome ≡ Ok tt → ReadsBack profile e (file_of s) (take r.len b)
call_reads_back profile s e r b j bytes args given c done =
    subst (λ (g : List ℕ). ReadsBack profile e (file_of s) g) (λ i. take (sym c.len i) (sym c.file i))
    (reads_back profile s e bytes args given (sym c.outcome ∙ ap verdict_of done))

pub call_refused_keeps : (profile : ℕ) (s : State) (x : Call) (r : Answer) (b j : List ℕ) (k p : ℕ) → Called profile s x r b j → r.outcome ≡ Refused k p
    → (u n : ℕ) → content_of profile (take r.len b) u n ≡ content_of profile (file_of s) u n
call_refused_keeps profile s x r b j k p c e u n =
    (λ i. content_of profile (take (c.len i) (c.file i)) u n) ∙ refused_keeps profile s x k p (sym c.outcome ∙ ap verdict_of e) u n
