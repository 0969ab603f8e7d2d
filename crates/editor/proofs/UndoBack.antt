-- What a plan to go on tells, and that the writers give the file that the definitions say: the record fits, so each of its numbers is the one that the writer
-- of its kind asks for, and the file written is that of the model undone.
use mathlib.Core.Path.{◌≡◌, refl, sym, ap, ◌∙◌}
use Prim.Native.Nat.{ℕ, ◌+◌, ◌*◌, ◌-◌, ◌≤◌, ◌<◌, ◌%◌}
use mathlib.Core.List.{List}
use mathlib.Core.Bool.{Bool, true, false, ◌&&◌, ◌||◌, cond}
use native.Mathlib.Omega.{arith}
use lib.ListN.{length, take, drop}
use lib.Seq.{length-take-le}
use lib.Dec.{leb, eqb}
use borrow.Author.Tests.{leb-true, eqb-true, eqb-false}
use Rattle.blorb.specs.Format.{size, chunk_of}
use Rattle.blorb.specs.Layout.{size_of}
use Rattle.blorb.specs.Verdict.{Verdict, accept, refuse, verdict, accepted}
use Rattle.blorb.specs.Rules.{rules_of}
use Rattle.blorb.specs.Model.{Model, base, start_of, model, file}
use Rattle.blorb.specs.Queries.{ref_at, chunk_at, start, place_at, shared}
use Rattle.blorb.specs.All.{All}
use Rattle.blorb.proofs.AllLaws.{all_take}
use Rattle.blorb.specs.Sound.{W}
use Rattle.blorb.specs.Bytes.{Byte}
use Rattle.blorb.proofs.Checks.{then_accept, check_accept, and_both, neither, is_accept}
use Rattle.blorb.proofs.Accept.{accept_short}
use Rattle.blorb.proofs.ModelLaws.{length-file, chunk_in}
use Rattle.edits.specs.Edit.{removed, removed_both, removed_entry, replaced, entered, inserted}
use Rattle.edits.specs.GoneSize.{gone_size_of}
use Rattle.edits.specs.Journal.{Rec, last_rec, well_formed, fits, undo2, undo3, undo4, undo5, old_chunk}
use Rattle.edits.specs.Run.{undo, state, undone_file, undo_fault, fault}
use Rattle.edits.proofs.UndoJudged.{AcceptedFile, accepted-facts, fits1-facts, fits2-facts, fits5-facts, undo1-removed, kind_1, kind_2, kind_3, kind_4, kind_5}
use Rattle.edits.proofs.FitFacts.{size_is}
use Rattle.edits.proofs.UndoTold.{after_2, after_3, after_4}
use Rattle.undoing.specs.declared.journal.Record.{Record}
use Rattle.undoing.specs.declared.journal.Kind.TheVariants.{Added, Replaced, Removed, Unlisted, Linked}
use Rattle.undoing.specs.declared.Undoing.{Undoing}
use Rattle.std.specs.Prelude.{Some, Ok, Err}
use Rattle.blorb.specs.declared.refusal.Refusal.{Refusal}
use Rattle.blorb.specs.Refusals.{verdict_of}
use Rattle.blorb.proofs.RefusalLaws.{not_refused}
use Rattle.rewrite.specs.Rewriting.{Stands, Removable, Replaceable, Insertable}
use Rattle.undoing.specs.LastRecord.{numbers_of, last_of}
use Rattle.undoing.specs.UndoPlan.{chunk_start, chunk_size_of, go_of, undoing_of, undo_plan_of}
use Rattle.undoing.proofs.LastRead.{Ends, good_ends, kind_is, body_is}
use Rattle.rewrite.proofs.InsertBytes.{insertable3, insertable4}
use Rattle.rewrite.proofs.Writes.{stands_length}
use Rattle.undoing.proofs.UndoFits.{chunk_ends, at_1, at_2, at_3, at_4, at_5}

-- the undo goes on with these numbers
pub record Ready (profile : ℕ) (b : List ℕ) (l : ℕ) (j : List ℕ) (u k a s t : ℕ) (r : Record) : Type 0 where
  pub unrefused : fault (rules_of profile) (state b l j u) undo ≡ accept
  pub within : u ≤ length j
  pub stands : Stands b l k
  pub file_facts : AcceptedFile profile (take l b)
  pub ends : Ends j u r
  pub fit : fits (last_rec (take u j)) (model (take l b)) ≡ true
  pub fine : verdict (rules_of profile) (undone_file (take l b) (take u j)) ≡ accept
  pub room : length (undone_file (take l b) (take u j)) ≤ length b
  pub at_is : a ≡ chunk_start (last_rec (take u j)) (model (take l b))
  pub size_is : s ≡ chunk_size_of (last_rec (take u j)) (model (take l b))
  pub to_is : t ≡ length (undone_file (take l b) (take u j))

plan_goes : (v : Verdict) (f j : List ℕ) (w : Undoing) → undoing_of v f j ≡ Ok w → (v ≡ accept) × (go_of f j ≡ w)
plan_goes accept f j w e = (refl, cc)
plan_goes (refuse n p) f j w e = absurd (not_refused (sym e))

pub plan_not : (v : Verdict) (f j : List ℕ) (y : Refusal) → undoing_of v f j ≡ Err y → v ≡ refuse y.0 y.1
plan_not accept f j y e = absurd (not_refused e)
plan_not (refuse k o) f j y e = ap verdict_of e

formed_last : (j : List ℕ) → well_formed j ≡ true → last_of j ≡ Some (numbers_of (last_rec j))
unfolding last_of
formed_last j h = rw h

index_in : (m : Model) → 24 + 12 * length m.refs ≤ length (file m)
unfolding base
index_in m = omega (arith, length-file m)

start-behind : (m : Model) (k : ℕ) → 24 + 12 * length m.refs ≤ start m k
unfolding start start_of base
start-behind m k = omega arith

-- where the plan goes on
module _ (profile : ℕ) (b : List ℕ) (l : ℕ) (j : List ℕ) (u k a s t : ℕ) (r : Record) (bytes : All Byte b)
    (e : undo_plan_of profile b l j u ≡ Ok (record { count = k; at = a; size = s; to = t; last = r })) where
  abbrev f : List ℕ
  f = take l b

  abbrev q : List ℕ
  q = take u j

  planned : (fault (rules_of profile) (state b l j u) undo ≡ accept) × (go_of (take l b) (take u j) ≡ record { count = k; at = a; size = s; to = t; last = r })
  unfolding undo_plan_of
  planned = plan_goes (fault (rules_of profile) (state b l j u) undo) f q _ e

  pub ready : Ready profile b l j u k a s t r
  unfolding fault undo_fault go_of
  ready =
      let h0 = then_accept _ _ planned.0 in
      let h1 = then_accept _ _ h0.1 in
      let h2 = then_accept _ _ h1.1 in
      let h3 = then_accept _ _ h2.1 in
      let h4 = then_accept _ _ h3.1 in
      let lens = and_both (leb l (length b)) (leb u (length j)) (check_accept _ _ _ h1.0) in
      let test = and_both (well_formed q && fits (last_rec q) (model f)) (accepted (verdict (rules_of profile) (undone_file f q))) (check_accept _ _ _ h4.0) in
      let good = and_both (well_formed q) (fits (last_rec q) (model f)) test.0 in
      let inside : l ≤ length b = leb-true l (length b) lens.0 in
      let len : length (take l b) ≡ l = length-take-le l b inside in
      let g : go_of (take l b) (take u j) ≡ record { count = k; at = a; size = s; to = t; last = r } = planned.1 in
      let n : numbers_of (last_rec q) ≡ r = ap (λ (z : Undoing). z.last) g in
      let st = accepted-facts profile f (all_take Byte l b bytes) h2.0 in
      let count : k ≡ length (model f).refs = ap (λ (z : Undoing). z.count) (sym g) in
      record {
        unrefused = planned.0;
        within = leb-true u (length j) lens.1;
        stands = record {
          inside = inside;
          whole = st.whole;
          sound = st.sound;
          entries = count;
          index = omega (arith, count, index_in (model f), ap length st.whole);
          short = omega (arith, accept_short (rules_of profile) f h2.0);
        };
        file_facts = st;
        ends = good_ends j u r (leb-true u (length j) lens.1) (formed_last q good.0 ∙ ap Some n);
        fit = good.1;
        fine = is_accept _ test.1;
        room = leb-true _ _ (check_accept _ _ _ h4.1);
        at_is = ap (λ (z : Undoing). z.at) (sym g);
        size_is = ap (λ (z : Undoing). z.size) (sym g);
        to_is = ap (λ (z : Undoing). z.to) (sym g);
      }

-- then each writer may be called, and gives the file that the undo is to give
module _ (profile : ℕ) (b : List ℕ) (l : ℕ) (j : List ℕ) (u k a s t : ℕ) (r : Record) (bytes : All Byte b) (w : Ready profile b l j u k a s t r) where
  abbrev m : Model
  m = model (take l b)

  abbrev rec : Rec
  rec = last_rec (take u j)

  -- the record's data, as the code lends them
  abbrev d : List ℕ
  d = take (u - 4 - (u - 4 - r.length)) (drop (u - 4 - r.length) j)

  place_is : (last_rec (take u j)).place ≡ r.place
  place_is = ap (λ (z : Record). z.place) w.ends.numbers

  old_is : chunk_of r.sort (take (u - 4 - (u - 4 - r.length)) (drop (u - 4 - r.length) j)) ≡ old_chunk (last_rec (take u j))
  old_is = λ i. record { type = (sym w.ends.numbers i).sort; body = body_is j u r w.ends i }

  file_is : length (take l b) ≡ l
  file_is = length-take-le l b w.stands.inside

  small : length (file (model (take l b))) < W
  small = omega (arith, w.file_facts.short)

  after_short : length (undone_file (take l b) (take u j)) ≤ 16777216
  after_short = accept_short (rules_of profile) (undone_file (take l b) (take u j)) w.fine

  -- the entry at the record's place goes, with its own chunk or alone
  entry_goes : (x : Bool) → rec.place < length m.refs → shared m rec.place ≡ x → a ≡ start m (ref_at m rec.place).chunk
      → s ≡ cond x 0 (size (chunk_at m (ref_at m rec.place).chunk)) → Stands b l k × Removable b l k r.place a s
  unfolding gone_size_of
  entry_goes x listed e ea es =
      let c : ℕ = (ref_at m rec.place).chunk in
      let there = chunk_in m rec.place w.file_facts.sound listed in (
        w.stands,
        record {
          listed = omega (arith, listed, place_is, w.stands.entries);
          starts = ea ∙ ap (λ (z : ℕ). start m (ref_at m z).chunk) place_is;
          gone = es ∙ sym (ap (λ (z : Bool). cond z 0 (size (chunk_at m c))) e)
              ∙ ap (λ (z : ℕ). cond (shared m z) 0 (size (chunk_at m (ref_at m z).chunk))) place_is;
          behind = omega (arith, ea, start-behind m c, w.stands.entries);
          ends = omega (arith, ea, es, most x (size (chunk_at m c)), chunk_ends m c w.file_facts.sound there small, stands_length b l k w.stands);
        },
      )
    where
      most : (x : Bool) (n : ℕ) → cond x 0 n ≤ n
      most true n = omega arith
      most false n = omega arith

  -- kind 1
  pub back-added : r.kind ≡ Added → Stands b l k × Removable b l k r.place a s
  back-added h =
      let q = kind_is j u r w.ends Added h in
      let p = fits1-facts rec m (sym (kind_1 rec m q).0 ∙ w.fit) in
      entry_goes false (omega (arith, p.count)) p.alone (w.at_is ∙ (at_1 rec m q).0) (w.size_is ∙ (at_1 rec m q).1)

  pub written-added : r.kind ≡ Added → file (removed (model (take l b)) r.place) ≡ undone_file (take l b) (take u j)
  unfolding undone_file
  written-added h =
      let fit = sym (kind_1 rec m (kind_is j u r w.ends Added h)).0 ∙ w.fit in
      ap file (ap (removed m) (sym place_is) ∙ sym (undo1-removed rec m w.file_facts.sound fit) ∙ sym (kind_1 rec m (kind_is j u r w.ends Added h)).1)

  -- kind 5
  pub back-linked : r.kind ≡ Linked → Stands b l k × Removable b l k r.place a s
  back-linked h =
      let q = kind_is j u r w.ends Linked h in
      let p = fits5-facts rec m (sym (kind_5 rec m q).0 ∙ w.fit) in
      entry_goes true p.inside p.holds (w.at_is ∙ (at_5 rec m q).0) (w.size_is ∙ (at_5 rec m q).1)

  pub written-linked : r.kind ≡ Linked → file (removed (model (take l b)) r.place) ≡ undone_file (take l b) (take u j)
  unfolding undone_file undo5 removed
  written-linked h =
      let fit = sym (kind_5 rec m (kind_is j u r w.ends Linked h)).0 ∙ w.fit in
      let e : shared m r.place ≡ true = ap (shared m) (sym place_is) ∙ (fits5-facts rec m fit).holds in
      ap file (ap (λ (z : Bool). cond z (removed_entry m r.place) (removed_both m r.place (ref_at m r.place).chunk)) e
      ∙ ap (removed_entry m) (sym place_is) ∙ sym (kind_5 rec m (kind_is j u r w.ends Linked h)).1)

  -- kind 2
  pub back-replaced : (All Byte j) → r.kind ≡ Replaced
      → Stands b l k × (Replaceable b l k r.place a s × ((l - s + (8 + (length d + length d % 2)) ≤ length b)
      × (l - s + (8 + (length d + length d % 2)) ≤ 16777216)))
  back-replaced bj h =
      let fit = sym (kind_2 rec m (kind_is j u r w.ends Replaced h)).0 ∙ w.fit in
      let p = fits2-facts rec m fit in
      let there = chunk_in m rec.place w.file_facts.sound p.inside in
      let c : ℕ = (ref_at m rec.place).chunk in
      let ea : a ≡ start m c = w.at_is ∙ (at_2 rec m (kind_is j u r w.ends Replaced h)).0 in
      let es : s ≡ size (chunk_at m c) = w.size_is ∙ (at_2 rec m (kind_is j u r w.ends Replaced h)).1 in
      let to : l - s + (8 + (length d + length d % 2)) ≡ length (undone_file (take l b) (take u j))
      = (λ i. sym file_is i - (es ∙ size_is (chunk_at m c)) i + size_of (length (body_is j u r w.ends i)))
      ∙ sym (after_2 profile (take l b) (take u j) w.file_facts (all_take Byte u j bj) (kind_is j u r w.ends Replaced h) fit) in (
        w.stands,
        (
          record {
            listed = omega (arith, p.inside, place_is, w.stands.entries);
            starts = ea ∙ ap (λ (z : ℕ). start m (ref_at m z).chunk) place_is;
            sized = es ∙ ap (λ (z : ℕ). size (chunk_at m (ref_at m z).chunk)) place_is;
            behind = omega (arith, ea, start-behind m c, w.stands.entries);
            ends = omega (arith, ea, es, chunk_ends m c w.file_facts.sound there small, stands_length b l k w.stands);
          },
          (omega (arith, to, w.room), omega (arith, to, after_short)),
        ),
      )

  pub written-replaced : r.kind ≡ Replaced → file (replaced (model (take l b)) (ref_at (model (take l b)) r.place).chunk (chunk_of r.sort d)) ≡ undone_file
      (take l b) (take u j)
  unfolding undone_file undo2
  written-replaced h =
      (λ i. file (replaced m (ref_at m (sym place_is i)).chunk (old_is i))) ∙ sym (ap file (kind_2 rec m (kind_is j u r w.ends Replaced h)).1)

  -- kind 3
  module _ (h : r.kind ≡ Removed) where
    at_3_is : a ≡ (last_rec (take u j)).start - 12
    at_3_is = w.at_is ∙ (at_3 rec m (kind_is j u r w.ends Removed h)).0

    pub back-removed : (All Byte j) → Stands b l k × (Insertable b l k r.place a × ((l + (20 + (length d + length d % 2)) ≤ length b)
        × (l + (20 + (length d + length d % 2)) ≤ 16777216)))
    back-removed bj =
        let i = insertable3 b l k w.stands rec (sym (kind_3 rec m (kind_is j u r w.ends Removed h)).0 ∙ w.fit) in
        let to : length (undone_file (take l b) (take u j)) ≡ l + 12 + size_of (length d)
        = after_3 profile (take l b) (take u j) w.file_facts (all_take Byte u j bj) (kind_is j u r w.ends Removed h)
        ∙ (λ i. file_is i + 12 + size_of (length (sym (body_is j u r w.ends) i))) in
        (w.stands, (coe 0 1 (z. Insertable b l k (place_is z) (sym at_3_is z)) i, (omega (arith, to, w.room), omega (arith, to, after_short))))

    pub written-removed : file (inserted (model (take l b)) r.place (place_at (model (take l b)) a) r.usage r.number (chunk_of r.sort d)) ≡
        undone_file (take l b) (take u j)
    unfolding undone_file undo3
    written-removed =
        let n : r ≡ numbers_of rec = sym w.ends.numbers in
        (λ i. file (inserted m (n i).place (place_at m (at_3_is i)) (n i).usage (n i).number (old_is i)))
        ∙ sym (ap file (kind_3 rec m (kind_is j u r w.ends Removed h)).1)

  -- kind 4
  module _ (h : r.kind ≡ Unlisted) where
    at_4_is : a ≡ (last_rec (take u j)).start - 12
    at_4_is = w.at_is ∙ (at_4 rec m (kind_is j u r w.ends Unlisted h)).0

    pub back_unlisted : (All Byte j) → Stands b l k × (Insertable b l k r.place a × ((l + 12 ≤ length b) × (l + 12 ≤ 16777216)))
    back_unlisted bj =
        let fit = sym (kind_4 rec m (kind_is j u r w.ends Unlisted h)).0 ∙ w.fit in
        let i = insertable4 b l k w.stands rec fit in
        let to : length (undone_file (take l b) (take u j)) ≡ l + 12
        = after_4 profile (take l b) (take u j) w.file_facts (all_take Byte u j bj) (kind_is j u r w.ends Unlisted h) fit ∙ ap (λ (z : ℕ). z + 12) file_is in
        (w.stands, (coe 0 1 (z. Insertable b l k (place_is z) (sym at_4_is z)) i, (omega (arith, to, w.room), omega (arith, to, after_short))))

    pub written_unlisted : file (entered (model (take l b)) r.place (place_at (model (take l b)) a) r.usage r.number) ≡ undone_file (take l b) (take u j)
    unfolding undone_file undo4
    written_unlisted =
        let n : r ≡ numbers_of rec = sym w.ends.numbers in
        (λ i. file (entered m (n i).place (place_at m (at_4_is i)) (n i).usage (n i).number)) ∙ sym (ap file (kind_4 rec m (kind_is j u r w.ends Unlisted h)).1)
