-- The ways out of an undo's plan.
use mathlib.Core.Path.{◌≡◌, refl, sym, ap, subst, ◌∙◌}
use Prim.Native.Nat.{ℕ, ◌+◌, ◌*◌, ◌-◌, ◌≤◌, ◌<◌}
use mathlib.Core.List.{List}
use mathlib.Core.Bool.{Bool, true, false, ◌&&◌, not, and-false}
use native.Mathlib.Omega.{arith}
use lib.ListN.{length, take, drop}
use lib.Seq.{length-take-le}
use lib.Dec.{eqb, leb}
use borrow.Author.Tests.{le-leb, lt-leb, eq-eqb, ne_eqb}
use Rattle.std.specs.Prelude.{Option, Some, None, Result, Ok}
use Rattle.blorb.specs.declared.refusal.Refusal.{Refusal}
use Rattle.blorb.specs.Refusals.{Refused, verdict_of}
use Rattle.blorb.specs.Verdict.{Verdict, accept, refuse, ◌then◌, check, verdict, accepted}
use Rattle.blorb.specs.Rules.{rules_of, profile_verdict}
use Rattle.blorb.specs.Model.{Model, base, model}
use Rattle.blorb.specs.All.{All}
use Rattle.blorb.proofs.AllLaws.{all_take}
use Rattle.blorb.specs.Bytes.{Byte}
use Rattle.blorb.proofs.Checks.{pass, accepts}
use Rattle.blorb.proofs.Accept.{accept_short}
use Rattle.blorb.proofs.Profiles.{profile_known}
use Rattle.blorb.proofs.ModelLaws.{length-file}
use Rattle.edits.proofs.JudgedLaws.{model_parts}
use Rattle.edits.specs.Journal.{Rec, last_rec, well_formed, fits}
use Rattle.edits.specs.Run.{undo, state, undone_file, undo_fault, fault}
use Rattle.edits.proofs.UndoJudged.{AcceptedFile, accepted-facts}
use Rattle.undoing.specs.declared.journal.Record.{Record}
use Rattle.undoing.specs.declared.journal.Kind.TheVariants.{Added, Replaced, Removed, Unlisted, Linked}
use Rattle.reader.specs.declared.Facts.{Facts}
use Rattle.undoing.specs.declared.Undoing.{Undoing}
use Rattle.undoing.specs.declared.Question.{Question}
use Rattle.undoing.specs.LastRecord.{numbers_of, last_of}
use Rattle.reader.specs.Inspecting.{facts_of, inspection_of}
use Rattle.undoing.specs.UndoPlan.{
  go_of,
  undoing_of,
  undo_plan_of,
  fitting,
  fitting_plan,
  roomy_by,
  roomy,
  asked_at,
  question_of,
  UndoReady,
  ChunkInside,
  added_plan,
  replaced_plan,
  removed_plan,
  unlisted_plan,
  linked_plan,
}
use Rattle.undoing.proofs.LastRead.{Ends, good_ends, last_bad, kind_is, body_is}
use Rattle.undoing.proofs.UndoFits.{fits-added, fits_replaced, fits-removed, fits_unlisted, fits-linked, begins-there}

-- a well-formed record, by its kind
module _ (profile : ℕ) (b : List ℕ) (l : ℕ) (j : List ℕ) (u : ℕ) (r : Record) (t : Facts) (a : UndoReady profile b l j u r t) where
  abbrev rec : Rec
  rec = last_rec (take u j)

  file_facts : AcceptedFile profile (take l b)
  file_facts = accepted-facts profile (take l b) a.file_is_bytes a.fine

  pub ends : Ends j u r
  ends = good_ends j u r a.within a.last

  numbers : r ≡ numbers_of (last_rec (take u j))
  numbers = sym ends.numbers

  pub file_is : l ≡ length (take l b)
  file_is = sym (length-take-le l b a.inside)

  -- what the reader tells: enough for kinds 1, 2 and 5, whose plans don't depend on the offset
  facts_are : t ≡ facts_of (model (take l b)) (last_rec (take u j)).usage (last_rec (take u j)).number (asked_at (numbers_of (last_rec (take u j))))
  facts_are = a.facts_are ∙ (λ i. facts_of (model (take l b)) (numbers i).usage (numbers i).number (asked_at (numbers i)))

  -- kinds 3 and 4: asked about the record's start less 12
  start-facts : asked_at r ≡ r.start - 12 → t ≡ facts_of (model (take l b)) (last_rec (take u j)).usage (last_rec (take u j)).number
      ((last_rec (take u j)).start - 12)
  start-facts h =
      a.facts_are ∙ ap (λ (z : ℕ). facts_of (model (take l b)) r.usage r.number z) h
      ∙ (λ i. facts_of (model (take l b)) (numbers i).usage (numbers i).number ((numbers i).start - 12))

  pub record_room : 29 + r.length ≤ u
  record_room = ends.room

  pub asked-added : (x : Option Undoing) → r.kind ≡ Added → x ≡ added_plan t l r → x ≡ fitting_plan profile (take l b) (take u j)
  asked-added x h e =
      e ∙ (λ i. added_plan (facts_are i) (file_is i) (numbers i)) ∙ fits-added profile (take l b) (take u j) file_facts a.bytes (kind_is j u r ends Added h)

  pub asked-replaced : (x : Option Undoing) → r.kind ≡ Replaced → x ≡ replaced_plan profile t l r
      (take (u - 4 - (u - 4 - r.length)) (drop (u - 4 - r.length) j))
      → x ≡ fitting_plan profile (take l b) (take u j)
  asked-replaced x h e =
      e ∙ (λ i. replaced_plan profile (facts_are i) (file_is i) (numbers i) (body_is j u r ends i)) ∙ fits_replaced profile (take l b) (take u j) file_facts
      a.bytes (kind_is j u r ends Replaced h)

  pub asked-removed : (x : Option Undoing) → r.kind ≡ Removed
      → x ≡ removed_plan profile t (take l b) r (take (u - 4 - (u - 4 - r.length)) (drop (u - 4 - r.length) j)) → x ≡ fitting_plan profile (take l b) (take u j)
  asked-removed x h e =
      e ∙ (λ i. removed_plan profile (start-facts (rw h) i) (take l b) (numbers i) (body_is j u r ends i))
      ∙ fits-removed profile (take l b) (take u j) file_facts a.bytes (kind_is j u r ends Removed h)

  pub asked_unlisted : (x : Option Undoing) → r.kind ≡ Unlisted → x ≡ unlisted_plan profile t (take l b) r → x ≡ fitting_plan profile (take l b) (take u j)
  asked_unlisted x h e =
      e ∙ (λ i. unlisted_plan profile (start-facts (rw h) i) (take l b) (numbers i)) ∙ fits_unlisted profile (take l b) (take u j) file_facts
      a.bytes (kind_is j u r ends Unlisted h)

  pub asked-linked : (x : Option Undoing) → r.kind ≡ Linked → x ≡ linked_plan t l r → x ≡ fitting_plan profile (take l b) (take u j)
  asked-linked x h e =
      e ∙ (λ i. linked_plan (facts_are i) (file_is i) (numbers i)) ∙ fits-linked profile (take l b) (take u j) file_facts a.bytes (kind_is j u r ends Linked h)

  -- the index lies in the file
  pub index_inside : (length (take l b) ≤ 16777216) × (t.count ≤ 4096) × (24 + 12 * t.count ≤ length (take l b))
  unfolding base
  index_inside =
      let m : Model = model (take l b) in
      let c : t.count ≡ length m.refs = ap (λ (z : Facts). z.count) facts_are in (
        omega (arith, file_is, a.short),
        omega (arith, c, (model_parts profile m file_facts.judged).few),
        omega (arith, c, length-file m, ap length file_facts.whole),
      )

  pub asked-begins : r.kind ≡ Unlisted → (length (take l b) ≤ 16777216) × ChunkInside t.begins (take l b) (r.start - 12) × (t.count ≤ 4096)
      × (24 + 12 * t.count ≤ length (take l b))
  asked-begins h =
      let k : asked_at r ≡ r.start - 12 = rw h in (
        index_inside.0,
        subst (λ (z : Facts × Record). ChunkInside z.0.begins (take l b) (z.1.start - 12))
            (λ i. (sym (start-facts k) i, sym numbers i)) (begins-there profile (take l b) (take u j) file_facts a.bytes),
        index_inside.1,
        index_inside.2,
      )

-- the order of the refusals: 52, 20, the reader's, 26, 21, 24
module _ (profile : ℕ) (b : List ℕ) (l : ℕ) (j : List ℕ) (u : ℕ) where
  abbrev f : List ℕ
  f = take l b

  pub unknown_profile : 1 < profile → Refused 52 0 ≡ undo_plan_of profile b l j u
  unfolding undo_plan_of fault check ◌then◌
  unknown_profile h = rw (lt-leb profile 1 h)

  pub short_buffer : profile ≤ 1 → length b < l → Refused 20 0 ≡ undo_plan_of profile b l j u
  unfolding undo_plan_of fault undo_fault check ◌then◌
  short_buffer known h = rw (le-leb profile 1 known, lt-leb l (length b) h)

  pub short_journal : profile ≤ 1 → length j < u → Refused 20 0 ≡ undo_plan_of profile b l j u
  unfolding undo_plan_of fault undo_fault check ◌then◌
  short_journal known h = rw (le-leb profile 1 known, lt-leb u (length j) h, and-false (leb l (length b)))

  -- the refusals behind the reader's; fit is refusal 21's test of a well-formed record
  abbrev fit : Bool
  fit = fits (last_rec (take u j)) (model (take l b)) && accepted (verdict (rules_of profile) (undone_file (take l b) (take u j)))

  abbrev behind : Verdict
  behind =
      check (not (eqb u 0)) 26 0
      then check (well_formed (take u j) && fits (last_rec (take u j)) (model (take l b)) && accepted
      (verdict (rules_of profile) (undone_file (take l b) (take u j)))) 21 0
      then check (leb (length (undone_file (take l b) (take u j))) (length b)) 24 0

  behind_26 : u ≡ 0 → behind ≡ refuse 26 0
  unfolding ◌then◌ check
  behind_26 h = rw (eq-eqb u 0 h)

  behind_21 : (u ≡ 0 → ⊥) → well_formed (take u j) ≡ false → behind ≡ refuse 21 0
  unfolding ◌then◌ check
  behind_21 n h = rw (ne_eqb u 0 n, h)

  behind-fit : (u ≡ 0 → ⊥) → well_formed (take u j) ≡ true → behind ≡ check fit 21 0 then check
      (leb (length (undone_file (take l b) (take u j))) (length b)) 24 0
  behind-fit n h =
      pass (not (eqb u 0)) 26 0 _ (rw (ne_eqb u 0 n))
      ∙ ap (λ (w : Bool). check (w && fits (last_rec (take u j)) (model (take l b)) && accepted
      (verdict (rules_of profile) (undone_file (take l b) (take u j)))) 21 0
      then check (leb (length (undone_file (take l b) (take u j))) (length b)) 24 0) h

  fit_plan : (p : Bool) → undoing_of (check p 21 0 then check (leb (length (undone_file (take l b) (take u j))) (length b)) 24 0) (take l b) (take u j) ≡ roomy
      (length b) (fitting p (go_of (take l b) (take u j)))
  unfolding ◌then◌ check go_of
  fit_plan false = refl
  fit_plan true = go (leb (length (undone_file (take l b) (take u j))) (length b))
    where
      go : (q : Bool) → undoing_of (check q 24 0) (take l b) (take u j) ≡ roomy_by q (go_of (take l b) (take u j))
      go true = refl
      go false = refl

  module _ (known : profile ≤ 1) (hl : l ≤ length b) (hu : u ≤ length j) (x y z : ℕ) where
    by_rules : profile_verdict profile (take l b) ≡ verdict (rules_of profile) (take l b)
    by_rules = profile_known profile (take l b) (le-leb profile 1 known)

    opened : fault (rules_of profile) (state b l j u) undo ≡ profile_verdict profile (take l b) then behind
    unfolding fault undo_fault
    opened =
        pass (leb profile 1) 52 0 _ (le-leb profile 1 known)
        ∙ pass (leb l (length b) && leb u (length j)) 20 0 _ (rw (le-leb l (length b) hl, le-leb u (length j) hu))
        ∙ ap (λ (o : Verdict). o then behind) (sym by_rules)

    -- the plan, once the reader has given its verdict
    planned : (v w : Verdict) → profile_verdict profile (take l b) ≡ v → v then behind ≡ w → undoing_of w (take l b) (take u j) ≡ undo_plan_of profile b l j u
    unfolding undo_plan_of
    planned v w e q = ap (λ (o : Verdict). undoing_of o (take l b) (take u j)) (sym (opened ∙ ap (λ (o : Verdict). o then behind) e ∙ q))

    pub unread : (n p : ℕ) → inspection_of (profile_verdict profile (take l b)) (model (take l b)) x y z ≡ Refused n p → Refused n p ≡ undo_plan_of profile
        b l j u
    unfolding ◌then◌
    unread n p e = go (profile_verdict profile f) refl e
      where
        go : (v : Verdict) → profile_verdict profile (take l b) ≡ v → inspection_of v (model (take l b)) x y z ≡ Refused n p → Refused n p ≡ undo_plan_of
            profile b l j u
        go accept q e = let i : ◌≡◌ {A = ℕ} 0 1 = cc in absurd (omega arith)
        go (refuse k o) q e =
            ap (λ (z : Result Facts Refusal). undoing_of (verdict_of z) (take l b) (take u j)) (sym e) ∙ planned (refuse k o) (refuse k o) q refl

    module _ (t : Facts) (e : inspection_of (profile_verdict profile (take l b)) (model (take l b)) x y z ≡ Ok t) where
      read_fine : (profile_verdict profile (take l b) ≡ accept) × (t ≡ facts_of (model (take l b)) x y z)
      read_fine = go (profile_verdict profile f) e
        where
          go : (v : Verdict) → inspection_of v (model (take l b)) x y z ≡ Ok t → (v ≡ accept) × (t ≡ facts_of (model (take l b)) x y z)
          go accept e = (refl, cc)
          go (refuse k o) e = let i : ◌≡◌ {A = ℕ} 0 1 = cc in absurd (omega arith)

      pub nothing_used : u ≡ 0 → Refused 26 0 ≡ undo_plan_of profile b l j u
      nothing_used h = planned accept (refuse 26 0) read_fine.0 (accepts accept behind refl ∙ behind_26 h)

      module _ (n : u ≡ 0 → ⊥) where
        pub unformed : last_of (take u j) ≡ None → Refused 21 0 ≡ undo_plan_of profile b l j u
        unformed h = planned accept (refuse 21 0) read_fine.0 (accepts accept behind refl ∙ behind_21 n (last_bad (take u j) h))

        module _ (r : Record) (good : last_of (take u j) ≡ Some r) where
          formed : (v : Result Undoing Refusal) → v ≡ roomy (length b) (fitting_plan profile (take l b) (take u j)) → v ≡ undo_plan_of profile b l j u
          unfolding fitting_plan
          formed v w =
              w ∙ sym (fit_plan fit)
              ∙ planned accept (check fit 21 0 then check (leb (length (undone_file (take l b) (take u j))) (length b)) 24 0) read_fine.0
              (accepts accept behind refl ∙ behind-fit n (good_ends j u r hu good).formed)

          abbrev plan : Option Undoing
          plan = fitting_plan profile (take l b) (take u j)

          pub unfit : plan ≡ None → Refused 21 0 ≡ undo_plan_of profile b l j u
          unfit h = formed (Refused 21 0) (ap (roomy (length b)) (sym h))

          pub no_room : (w : Undoing) → plan ≡ Some w → length b < w.to → Refused 24 0 ≡ undo_plan_of profile b l j u
          no_room w h g = formed (Refused 24 0) (sym (ap (roomy (length b)) h ∙ rw (lt-leb w.to (length b) g)))

          pub room_for : (w : Undoing) → plan ≡ Some w → w.to ≤ length b → Ok w ≡ undo_plan_of profile b l j u
          room_for w h g = formed (Ok w) (sym (ap (roomy (length b)) h ∙ rw (le-leb w.to (length b) g)))

          pub asked : All Byte b → All Byte j → ◌≡◌ {A = Question} (record { usage = x; number = y; at = z }) (question_of (Some r))
              → UndoReady profile b l j u r t
          asked bb bj e =
              let fine : verdict (rules_of profile) (take l b) ≡ accept = sym by_rules ∙ read_fine.0 in
              let len : length (take l b) ≡ l = length-take-le l b hl in
              record {
                inside = hl;
                within = hu;
                short = omega (arith, accept_short (rules_of profile) (take l b) fine);
                file_is_bytes = all_take Byte l b bb;
                fine = fine;
                bytes = all_take Byte u j bj;
                last = good;
                facts_are = read_fine.1 ∙ ap (λ (q : Question). facts_of (model (take l b)) q.usage q.number q.at) e;
              }
