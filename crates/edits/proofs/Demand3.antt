-- Demand 3: after every run the state is the ledger's, and every call answered as the ledger did.
use mathlib.Core.Path.{◌≡◌, refl, sym, ap as cong, ◌∙◌}
use Prim.Native.Nat.{ℕ, ◌+◌, ◌-◌, ◌≤◌}
use mathlib.Core.List.{List, [], ◌∷◌, ◌++◌}
use mathlib.Core.Bool.{true, not}
use native.Mathlib.Omega.{arith}
use lib.ListN.{length, take, length-append}
use lib.Seq.{take-take, take-append_seam, length-take-le}
use borrow.Author.Tests.{ne_eqb, le-leb}
use Rattle.blorb.specs.Verdict.{Rules, Verdict, accept, refuse}
use Rattle.edits.specs.Edit.{Edit}
use Rattle.edits.specs.Journal.{last_rec}
use Rattle.blorb.specs.All.{All}
use Rattle.blorb.proofs.AllLaws.{all_take}
use Rattle.edits.specs.Run.{
  ArgsOk,
  State,
  Call,
  edit,
  undo,
  edited_file,
  edit_record,
  undone_file,
  edit_fault,
  undo_fault,
  answered,
  after_edit,
  after_undo,
  fault,
  after,
  step,
  run,
  answers,
  ledger_file,
  ledger_records,
  ledger_used,
  ledger_fault,
  kept,
  ledger_after,
  ledger_step,
  ledger_run,
  ledger_answers,
  CallOk,
}
use Rattle.blorb.specs.Bytes.{Byte}
use Rattle.blorb.proofs.Accept.{accept_back}
use Rattle.blorb.proofs.Checks.{pass, stop, holds_last, accepts, both_true}
use Rattle.edits.specs.Demand3.{Begins, Demand3}
use Rattle.edits.proofs.RunLaws.{length-written, take-written, length-noted, take-noted, Good, Made, made}

-- the sum of the records' lengths is the length of them all
used_is : (f₀ : List ℕ) (es : List Edit) → ledger_used f₀ es ≡ length (ledger_records f₀ es)
unfolding ledger_used ledger_records
used_is f₀ [] = refl
used_is f₀ (e ∷ es) = simp length-append (cong (λ (n : ℕ). n + length (edit_record (ledger_file f₀ es) e)) (used_is f₀ es))

module _ (R : Rules) (f₀ : List ℕ) (N J : ℕ) (known : R.known ≡ true) where
  -- every edit of the list was made on the file before it
  abbrev pub Valid : List Edit → Type 0
  Valid [] = Good R f₀ × (length f₀ ≤ N)
  Valid (e ∷ es) = Valid es × ArgsOk e × (edit_fault R N J (ledger_file f₀ es) (length (ledger_file f₀ es)) (ledger_used f₀ es) e ≡ accept)

  pub record Holds (es : List Edit) : Type 0 where
    pub good : Good R (ledger_file f₀ es)
    pub room : length (ledger_file f₀ es) ≤ N
    pub used : ledger_used f₀ es ≤ J

  pub holds : (es : List Edit) → Valid es → Holds es
  unfolding ledger_file ledger_used
  holds [] v = record { good = v.0; room = v.1; used = omega arith }
  holds (e ∷ es) v =
      let h = holds es v.0 in
      let m = made R N J (ledger_file f₀ es) (length (ledger_file f₀ es)) (ledger_used f₀ es) e h.good v.1 v.2 in
      record { good = m.good; room = m.room; used = m.journal_room }

  pub record Match (s : State) (es : List Edit) : Type 0 where
    pub buffer_length : length s.buffer ≡ N
    pub journal_length : length s.journal ≡ J
    pub L-is : s.L ≡ length (ledger_file f₀ es)
    pub U-is : s.U ≡ ledger_used f₀ es
    pub file_is : take s.L s.buffer ≡ ledger_file f₀ es
    pub records_are : take s.U s.journal ≡ ledger_records f₀ es

  last_made : (e : Edit) (es : List Edit) → Valid (e ∷ es) → Made R N J (ledger_file f₀ es) (ledger_used f₀ es) e
  last_made e es v = made R N J (ledger_file f₀ es) (length (ledger_file f₀ es)) (ledger_used f₀ es) e (holds es v.0).good v.1 v.2

  -- undo at an empty list, and at any other
  undo-none : Valid [] → undo_fault R N J (ledger_file f₀ []) (length (ledger_file f₀ [])) (ledger_used f₀ []) (ledger_records f₀ []) ≡ refuse 26 0
  unfolding undo_fault ledger_file ledger_used ledger_records
  undo-none v =
      pass _ _ _ _ (both_true _ _ (le-leb (length f₀) N v.1) (le-leb 0 J (omega arith)))
      ∙ accepts _ _ v.0.fine
      ∙ stop _ _ _ _ refl

  undo_last : (e : Edit) (es : List Edit) → Valid (e ∷ es)
      → undo_fault R N J (ledger_file f₀ (e ∷ es)) (length (ledger_file f₀ (e ∷ es))) (ledger_used f₀ (e ∷ es)) (ledger_records f₀ (e ∷ es)) ≡ accept
  unfolding undo_fault ledger_file ledger_used ledger_records
  undo_last e es v =
      let m = last_made e es v in
      let p : List ℕ = ledger_records f₀ es in
      let r : List ℕ = edit_record (ledger_file f₀ es) e in
      let old = holds es v.0 in
      pass _ _ _ _ (both_true _ _ (le-leb (length (edited_file (ledger_file f₀ es) e)) N m.room) (le-leb (ledger_used f₀ es + length r) J m.journal_room))
      ∙ accepts _ _ m.good.fine
      ∙ pass _ _ _ _ (cong not (ne_eqb (ledger_used f₀ es + length r) 0 (omega (arith, m.size []))))
      ∙ pass _ _ _ _ (both_true _ _ (both_true _ _ (m.reads p) (m.fitting p)) (rw (m.back p, old.good.fine)))
      ∙ holds_last _ _ _ (rw (m.back p) (le-leb (length (ledger_file f₀ es)) N old.room))

  -- the call's refusal is the ledger's
  fault-is : (s : State) (es : List Edit) (c : Call) → Valid es → Match s es → fault R s c ≡ ledger_fault R f₀ N J es c
  unfolding fault ledger_fault
  fault-is s es (edit e) v m = rw (m.file_is, m.buffer_length, m.journal_length, m.L-is, m.U-is)
  fault-is s [] undo v m = pass _ _ _ _ known ∙ rw (m.records_are, m.file_is, m.buffer_length, m.journal_length, m.L-is, m.U-is) (undo-none v)
  fault-is s (e ∷ es) undo v m = pass _ _ _ _ known ∙ rw (m.records_are, m.file_is, m.buffer_length, m.journal_length, m.L-is, m.U-is) (undo_last e es v)

  -- the state after a successful call
  edit_match : (s : State) (es : List Edit) (e : Edit) → Valid (e ∷ es) → Match s es → Match (after_edit s e) (e ∷ es)
  unfolding after_edit ledger_file ledger_used ledger_records
  edit_match s es e v m =
      let d = last_made e es v in
      let h = holds es v.0 in
      let f : List ℕ = edited_file (ledger_file f₀ es) e in
      let r : List ℕ = edit_record (ledger_file f₀ es) e in
      record {
        buffer_length = rw m.file_is (length-written s.buffer s.L f (omega (arith, m.L-is, m.buffer_length, h.room))
            (omega (arith, m.buffer_length, d.room)) ∙ m.buffer_length);
        journal_length = rw m.file_is (length-noted s.journal s.U r (omega (arith, m.U-is, m.journal_length, d.journal_room)) ∙ m.journal_length);
        L-is = rw m.file_is;
        U-is = rw (m.file_is, m.U-is) refl;
        file_is = rw m.file_is (take-written s.buffer s.L f);
        records_are = rw m.file_is (take-noted s.journal s.U r (omega (arith, m.U-is, m.journal_length, d.journal_room))
            ∙ cong (λ (p : List ℕ). p ++ r) m.records_are);
      }

  undo_match : (s : State) (es : List Edit) (e : Edit) → Valid (e ∷ es) → Match s (e ∷ es) → Match (after_undo s) es
  unfolding after_undo ledger_file ledger_used ledger_records
  undo_match s es e v m =
      let d = last_made e es v in
      let h = holds es v.0 in
      let f : List ℕ = ledger_file f₀ es in
      let p : List ℕ = ledger_records f₀ es in
      let r : List ℕ = edit_record (ledger_file f₀ es) e in
      let back : undone_file (take s.L s.buffer) (take s.U s.journal) ≡ f = rw (m.file_is, m.records_are) (d.back p) in
      let up : ledger_used f₀ es ≡ length p = used_is f₀ es in
      let less : s.U - (29 + length (last_rec (take s.U s.journal)).body) ≡ ledger_used f₀ es
      = rw (m.records_are, m.U-is, d.size p) (omega arith) in
      record {
        buffer_length = rw back (length-written s.buffer s.L f (omega (arith, m.L-is, m.buffer_length, d.room))
            (omega (arith, m.buffer_length, h.room)) ∙ m.buffer_length);
        journal_length = m.journal_length;
        L-is = rw back;
        U-is = less;
        file_is = rw back (take-written s.buffer s.L f);
        records_are = rw (less, up) (sym (take-take (length p) s.U s.journal (omega (arith, m.U-is))) ∙ cong (take (length p)) m.records_are
            ∙ take-append_seam p r);
      }

  -- a call keeps the two together
  pub record Both (s : State) (es : List Edit) : Type 0 where
    pub valid : Valid es
    pub match : Match s es

  step_both : (s : State) (es : List Edit) (c : Call) → CallOk c → Both s es → Both (step R s c) (ledger_step R f₀ N J es c)
  unfolding step ledger_step after ledger_after ledger_fault
  step_both s es c ok b = rw (fault-is s es c b.valid b.match) (go es c ok b (ledger_fault R f₀ N J es c) refl)
    where
      go : (es : List Edit) (c : Call) → CallOk c → Both s es → (v : Verdict) → ledger_fault R f₀ N J es c ≡ v → Both (answered v s (after s c))
          (kept v es (ledger_after es c))
      go es c ok b (refuse k p) e = b
      go es (edit d) ok b accept e =
          let v : Valid (d ∷ es) = (b.valid, ok, sym (pass _ _ _ _ known) ∙ e) in record { valid = v; match = edit_match s es d v b.match }
      go [] undo ok b accept e = let z : ◌≡◌ {A = ℕ} 0 1 = cc in absurd (omega arith)
      go (d ∷ es) undo ok b accept e = record { valid = b.valid.0; match = undo_match s es d b.valid b.match }

  pub agree : (s : State) (es : List Edit) (cs : List Call) → All CallOk cs → Both s es
      → (answers R s cs ≡ ledger_answers R f₀ N J es cs) × Both (run R s cs) (ledger_run R f₀ N J es cs)
  unfolding answers ledger_answers run ledger_run
  agree s es [] ok b = (refl, b)
  agree s es (c ∷ cs) ok b =
      let n = step_both s es c ok.0 b in
      let r = agree (step R s c) (ledger_step R f₀ N J es c) cs ok.1 n in
      (λ i. record { result = fault-is s es c b.valid b.match i; L = n.match.L-is i; U = n.match.U-is i } ∷ r.0 i, r.1)

module _ (R : Rules) (s : State) (cs : List Call) (b : Begins R s) (args : All CallOk cs) where
  pub first : Both R (take s.L s.buffer) (length s.buffer) (length s.journal) b.known s []
  unfolding ledger_file ledger_used ledger_records
  first =
      let f : List ℕ = take s.L s.buffer in
      let a = accept_back R f (all_take Byte s.L s.buffer b.bytes) b.fine in
      let l : length f ≡ s.L = length-take-le s.L s.buffer b.inside in
      record {
        valid = (record { fine = b.fine; whole = a.0; sound = a.1; short = a.2 }, omega arith);
        match = record { buffer_length = refl; journal_length = refl; L-is = sym l; U-is = b.fresh; file_is = refl; records_are = rw b.fresh };
      }

  -- demand 3
  pub demand3 : Demand3 R s cs
  demand3 =
      let f : List ℕ = take s.L s.buffer in
      let N : ℕ = length s.buffer in
      let J : ℕ = length s.journal in
      let r = agree R f N J b.known s [] cs args first in
      let h = holds R f N J b.known (ledger_run R f N J [] cs) r.1.valid in
      record {
        answers_are = r.0;
        L-is = r.1.match.L-is;
        U-is = r.1.match.U-is;
        file_is = r.1.match.file_is;
        accepted_is = h.good.fine;
        records_are = r.1.match.records_are;
      }
