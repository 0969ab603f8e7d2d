-- Laws of the buffers, and what a successful edit leaves.
use mathlib.Core.Path.{◌≡◌, refl, sym, ap as cong}
use Prim.Native.Nat.{ℕ, ◌+◌, ◌-◌, ◌≤◌, ◌<◌, max}
use mathlib.Core.List.{List, ◌++◌, append_assoc}
use mathlib.Core.Bool.{Bool, true, false}
use native.Mathlib.Omega.{arith}
use lib.ListN.{length, take, drop, replicate, length-append, length-replicate, length-drop, length-take}
use lib.Seq.{take_at, take-append_seam}
use borrow.Author.Tests.{leb-true, ltb-true, not-true}
use Rattle.blorb.specs.Verdict.{Rules, Verdict, accept, refuse, verdict, no_chunk}
use Rattle.blorb.specs.Model.{Model, model, file, start_of, base}
use Rattle.edits.specs.Edit.{Edit, add, replace, remove, link, link_place_of, edited}
use Rattle.blorb.specs.Queries.{find, shared, ref_at, chunk_at, start}
use Rattle.edits.specs.Journal.{rec_of, removal, last_rec, well_formed, fits, zeros}
use Rattle.blorb.proofs.AllLaws.{all_get_d}
use Rattle.blorb.specs.Sound.{W, ChunkOk, Sound}
use Rattle.edits.specs.Run.{ArgsOk, hundred, written, noted, target_fault, edited_file, edit_record, undone_file, edit_fault}
use Rattle.edits.proofs.Applies.{Applies}
use Rattle.edits.proofs.FitLaws.{edit-back, edit-sound, link_place_le, linked-start}
use Rattle.blorb.proofs.ModelLaws.{model-file, length-file, total-take, size-get_or, chunk_in}
use Rattle.blorb.proofs.Places.{body-size}
use Rattle.edits.proofs.JournalLaws.{RecOk, last_rec_lem, well_formed_lem, length-rec_bytes}
use Rattle.blorb.proofs.Accept.{accept_short}
use Rattle.blorb.proofs.Checks.{then_accept, check_accept}

-- the buffers
pub length-written : (b : List ℕ) (L : ℕ) (f : List ℕ) → L ≤ length b → length f ≤ length b → length (written b L f) ≡ length b
unfolding written
length-written b L f h k = simp (length-append, length-replicate, length-drop) (omega arith)

pub take-written : (b : List ℕ) (L : ℕ) (f : List ℕ) → take (length f) (written b L f) ≡ f
unfolding written
take-written b L f = take-append_seam f (replicate (L - length f) 0 ++ drop (max L (length f)) b)

pub length-noted : (j : List ℕ) (U : ℕ) (r : List ℕ) → U + length r ≤ length j → length (noted j U r) ≡ length j
unfolding noted
length-noted j U r h = simp (length-append, length-take, length-drop) (omega arith)

pub take-noted : (j : List ℕ) (U : ℕ) (r : List ℕ) → U + length r ≤ length j → take (U + length r) (noted j U r) ≡ take U j ++ r
unfolding noted
take-noted j U r h =
    rw (← append_assoc (take U j) r (drop (U + length r) j))
    (take_at (take U j ++ r) (drop (U + length r) j) (U + length r) (simp (length-append, length-take) (omega arith)))

-- what an edit that is made tells of its target
pub target_applies : (m : Model) (e : Edit) → target_fault m e ≡ accept → Applies m e
unfolding target_fault
target_applies m (add u n t d) h = tt
target_applies m (replace u n t d) h =
    let p = then_accept _ _ h in
    (ltb-true _ _ (check_accept _ _ _ p.0), not-true _ (check_accept _ _ _ (then_accept _ _ p.1).0))
target_applies m (remove u n) h = ltb-true _ _ (check_accept _ _ _ h)
target_applies m (link v o u n) h = ltb-true _ _ (check_accept _ _ _ h)

pub hundred_accept : (v : Verdict) → hundred v ≡ accept → v ≡ accept
hundred_accept accept h = refl
hundred_accept (refuse k p) h = cc

-- the record of an edit is well formed
module _ (m : Model) (s : Sound m) (small : length (file m) ≤ 16777216) where
  start_small : (k : ℕ) → start m k < W
  unfolding start start_of
  start_small k = omega (arith, total-take k m.chunks, length-file m)

  next_small : (k : ℕ) → start m k + 12 < W
  unfolding start start_of
  next_small k = omega (arith, total-take k m.chunks, length-file m)

  place_small : (i : ℕ) → i ≤ length m.refs → i < W
  unfolding base
  place_small i h = omega (arith, length-file m)

  body_small : (i : ℕ) → i < length m.refs → 25 + length (chunk_at m (ref_at m i).chunk).body < W
  body_small i h = omega (arith, body-size (chunk_at m (ref_at m i).chunk), size-get_or m.chunks (ref_at m i).chunk no_chunk (chunk_in m i s h), length-file m)

  type_small : (i : ℕ) → i < length m.refs → (chunk_at m (ref_at m i).chunk).type < W
  type_small i h = (all_get_d ChunkOk m.chunks (ref_at m i).chunk no_chunk s.chunks_ok (chunk_in m i s h)).type_fits

  removal_ok : (b : Bool) (u n i : ℕ) → u < W → n < W → i < length m.refs → RecOk (removal b m u n i)
  unfolding removal zeros
  removal_ok true u n i hu hn h = record {
    kind_low = omega arith;
    kind_high = omega arith;
    usage_fits = hu;
    number_fits = hn;
    place_fits = place_small i (omega arith);
    start_fits = start_small (ref_at m i).chunk;
    type_fits = omega arith;
    body_fits = omega arith;
    zeros_ok = refl;
  }
  removal_ok false u n i hu hn h = record {
    kind_low = omega arith;
    kind_high = omega arith;
    usage_fits = hu;
    number_fits = hn;
    place_fits = place_small i (omega arith);
    start_fits = start_small (ref_at m i).chunk;
    type_fits = type_small i h;
    body_fits = body_small i h;
    zeros_ok = refl;
  }

  pub rec_ok : (e : Edit) → ArgsOk e → Applies m e → RecOk (rec_of m e)
  unfolding rec_of zeros
  rec_ok (add u n t d) a h = record {
    kind_low = omega arith;
    kind_high = omega arith;
    usage_fits = a.0;
    number_fits = a.1;
    place_fits = place_small (length m.refs) (omega arith);
    start_fits = omega arith;
    type_fits = omega arith;
    body_fits = omega arith;
    zeros_ok = refl;
  }
  rec_ok (replace u n t d) a h = record {
    kind_low = omega arith;
    kind_high = omega arith;
    usage_fits = a.0;
    number_fits = a.1;
    place_fits = place_small (find u n m.refs) (omega (arith, h.0));
    start_fits = start_small (ref_at m (find u n m.refs)).chunk;
    type_fits = type_small (find u n m.refs) h.0;
    body_fits = body_small (find u n m.refs) h.0;
    zeros_ok = refl;
  }
  rec_ok (link v o u n) a h =
      let k : ℕ = (ref_at m (find v o m.refs)).chunk in
      record {
        kind_low = omega arith;
        kind_high = omega arith;
        usage_fits = a.2;
        number_fits = a.3;
        place_fits = place_small (link_place_of k m.refs) (link_place_le k m.refs);
        start_fits = rw (linked-start m u n k) (next_small k);
        type_fits = omega arith;
        body_fits = omega arith;
        zeros_ok = refl;
      }
  rec_ok (remove u n) a h = removal_ok (shared m (find u n m.refs)) u n (find u n m.refs) a.0 a.1 h

-- a file that a run can stand on
pub record Good (R : Rules) (f : List ℕ) : Type 0 where
  pub fine : verdict R f ≡ accept
  pub whole : file (model f) ≡ f
  pub sound : Sound (model f)
  pub short : length f ≤ 16777216

module _ (R : Rules) where
  -- what a successful edit leaves, and that its undo gives back
  pub record Made (N J : ℕ) (f : List ℕ) (U : ℕ) (e : Edit) : Type 0 where
    pub good : Good R (edited_file f e)
    pub room : length (edited_file f e) ≤ N
    pub journal_room : U + length (edit_record f e) ≤ J
    pub reads : (p : List ℕ) → well_formed (p ++ edit_record f e) ≡ true
    pub size : (p : List ℕ) → 29 + length (last_rec (p ++ edit_record f e)).body ≡ length (edit_record f e)
    pub fitting : (p : List ℕ) → fits (last_rec (p ++ edit_record f e)) (model (edited_file f e)) ≡ true
    pub back : (p : List ℕ) → undone_file (edited_file f e) (p ++ edit_record f e) ≡ f

  pub made : (N J : ℕ) (f : List ℕ) (L U : ℕ) (e : Edit) → Good R f → ArgsOk e → edit_fault R N J f L U e ≡ accept → Made N J f U e
  unfolding edit_fault edited_file edit_record undone_file
  made N J f L U e g a h =
      let h1 = then_accept _ _ h in
      let h2 = then_accept _ _ h1.1 in
      let h3 = then_accept _ _ h2.1 in
      let h4 = then_accept _ _ h3.1 in
      let h5 = then_accept _ _ h4.1 in
      let ap : Applies (model f) e = target_applies (model f) e h3.0 in
      let new : verdict R (file (edited (model f) e)) ≡ accept = hundred_accept _ h4.0 in
      let len : length (file (edited (model f) e)) ≤ 16777216 = accept_short R (file (edited (model f) e)) new in
      let sd : Sound (edited (model f) e) = edit-sound (model f) e g.sound a ap in
      let same : model (file (edited (model f) e)) ≡ edited (model f) e = model-file (edited (model f) e) sd (omega arith) in
      let eb = edit-back (model f) e g.sound ap in
      let ok : RecOk (rec_of (model f) e) = rec_ok (model f) g.sound (rw g.whole g.short) e a ap in
      record {
        good = record { fine = new; whole = cong file same; sound = rw same sd; short = len };
        room = leb-true _ _ (check_accept _ _ _ h5.0);
        journal_room = leb-true _ _ (check_accept _ _ _ h5.1);
        reads = λ p. well_formed_lem (rec_of (model f) e) ok p;
        size = λ p. rw (last_rec_lem (rec_of (model f) e) ok p) (sym (length-rec_bytes (rec_of (model f) e)));
        fitting = λ p. rw (last_rec_lem (rec_of (model f) e) ok p, same) eb.0;
        back = λ p. rw (last_rec_lem (rec_of (model f) e) ok p, same, eb.1) g.whole;
      }
