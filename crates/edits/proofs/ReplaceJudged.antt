-- Whether the file is accepted after a chunk has been replaced, as one test.
use mathlib.Core.Path.{◌≡◌, refl, ap, ◌∙◌}
use Prim.Native.Nat.{ℕ, zero, suc, ◌+◌, ◌*◌, ◌-◌, ◌≤◌, ◌<◌}
use mathlib.Core.List.{List, [], ◌∷◌}
use mathlib.Core.Bool.{Bool, true, false, ◌&&◌, not}
use native.Mathlib.Omega.{arith}
use native.Mathlib.Nat.{le_of_suc-le-suc, not-suc-le-zero}
use lib.ListN.{length, set}
use lib.Dec.{eqb, leb}
use borrow.Author.Tests.{le-leb}
use Rattle.blorb.specs.Tags.{RIdx, Pict, Rect, Fspc}
use Rattle.blorb.specs.Format.{Chunk, size, chunk_of}
use Rattle.blorb.specs.Verdict.{Verdict, accept, ◌then◌, check, no_chunk, second_index, verdict, accepted}
use Rattle.blorb.specs.Rules.{allows, type_in, optional, rules_of}
use Rattle.blorb.specs.Model.{Model, base, file}
use Rattle.blorb.specs.Queries.{find, ref_at, chunk_at, shared, front_number}
use Rattle.blorb.specs.Sound.{W, Sound}
use Rattle.blorb.proofs.Checks.{then_accept, check_accept, pass, then_end, and_where}
use Rattle.blorb.proofs.ModelLaws.{length-file, size-get_or, chunk_in}
use Rattle.blorb.proofs.VerdictLaws.{refs_fault, model_fault, refs_in_order}
use Rattle.blorb.proofs.FindLaws.{find-pair}
use Rattle.edits.specs.Edit.{replaced}
use Rattle.edits.proofs.AddVerdict.{second-any}
use Rattle.edits.proofs.FitLaws.{replaced-sound}
use Rattle.edits.proofs.Lengths.{length-replaced}
use Rattle.edits.proofs.ReplaceVerdict.{refs_replaced}
use Rattle.edits.proofs.RuleSeven.{allowed_plain}
use Rattle.edits.proofs.UndoVerdict.{accepted-check}
use Rattle.edits.proofs.JudgedLaws.{model_parts, accepted-ordered, accepted-front, is_front_of, chunk_plain}
use Rattle.edits.proofs.FrontPicture.{optional-replaced}

-- a second index: only the new chunk can be one
second-set : (at at' : ℕ) (cs : List Chunk) (k : ℕ) (c : Chunk) → k < length cs → second_index at cs ≡ accept → accepted (second_index at' (set cs k c)) ≡ not
    (eqb c.type RIdx)
unfolding second_index
second-set at at' [] k c h ok = absurd (not-suc-le-zero h)
second-set at at' (x ∷ cs) zero c h ok =
    ap accepted (ap (λ (v : Verdict). check (not (eqb c.type RIdx)) 9 at' then v) (second-any (at + size x) (at' + size c) cs (then_accept _ _ ok).1)
    ∙ then_end _)
    ∙ accepted-check (not (eqb c.type RIdx)) 9 at'
second-set at at' (x ∷ cs) (suc k) c h ok =
    let p = then_accept _ _ ok in
    ap accepted (pass _ _ _ _ (check_accept _ _ _ p.0)) ∙ second-set (at + size x) (at' + size x) cs k c (le_of_suc-le-suc h) p.1

module _ (profile : ℕ) (m : Model) (u n t : ℕ) (d : List ℕ) (s : Sound m) (ok : model_fault (rules_of profile) m ≡ accept)
    (h : find u n m.refs < length m.refs) (alone : shared m (find u n m.refs) ≡ false) where
  abbrev place : ℕ
  place = find u n m.refs

  abbrev own : ℕ
  own = (ref_at m (find u n m.refs)).chunk

  front-replaced : allows profile u (chunk_of t d) ≡ true
      → accepted (optional (base (length m.refs)) m.refs (set m.chunks own (chunk_of t d))) ≡ not (is_front_of m.chunks u n && eqb t Rect)
  unfolding shared
  front-replaced pl =
      let p = model_parts profile m ok in
      let there = chunk_in m place s h in
      ap accepted (optional-replaced (rules_of profile) (base (length m.refs)) (base (length m.refs)) m.chunks m.refs u n (chunk_of t d)
      p.entries_fine p.seven h alone there
      (chunk_plain profile m.chunks [] 24 m.refs place p.entries_fine h) (allowed_plain profile u (chunk_of t d) pl))
      ∙ accepted-front (type_in Fspc m.chunks) (not ((eqb u Pict && eqb n (front_number m.chunks)) && eqb t Rect)) _
      ∙ turn (type_in Fspc m.chunks) (eqb u Pict && eqb n (front_number m.chunks)) (eqb t Rect)
    where
      turn : (a b c : Bool) → not (a && not (not (b && c))) ≡ not (a && b && c)
      turn true true true = refl
      turn true true false = refl
      turn true false c = refl
      turn false b c = refl

  pub replaced-length : length (file (replaced m own (chunk_of t d))) ≡ length (file m) - size (chunk_at m own) + size (chunk_of t d)
  replaced-length =
      let there = chunk_in m place s h in
      omega (arith, length-replaced m own (chunk_of t d) there, size-get_or m.chunks own no_chunk there, length-file m)

  pub replaced-accepted : t < W → refs_in_order 0 m.refs ≡ true → accepted (verdict (rules_of profile) (file (replaced m own (chunk_of t d))))
      ≡ (leb (length (file m) - size (chunk_at m own) + size (chunk_of t d)) 16777216 &&
      (not (eqb t RIdx) && (allows profile u (chunk_of t d) && not (is_front_of m.chunks u n && eqb t Rect))))
  replaced-accepted ht ord =
      let p = model_parts profile m ok in
      let there = chunk_in m place s h in
      let x : Model = replaced m own (chunk_of t d) in
      let sd : Sound x = replaced-sound m own (chunk_of t d) s (record { type_fits = ht }) in
      let a : accepted (second_index (base (length x.refs)) x.chunks) ≡ not (eqb t RIdx)
      = (unfold replaced in second-set (base (length m.refs)) (base (length m.refs)) m.chunks own (chunk_of t d) there p.no_second) in
      let few : length x.refs ≤ 4096 = (unfold replaced in p.few) in
      let b : accepted (refs_fault (rules_of profile) x.chunks [] 24 x.refs) ≡ allows profile u (chunk_of t d)
      = (unfold replaced shared in
      ap accepted (refs_replaced (rules_of profile) m.chunks own (chunk_of t d) there [] 24 m.refs place h refl alone p.entries_fine)
      ∙ accepted-check (allows profile (ref_at m place).usage (chunk_of t d)) 14 (24 + 12 * place)
      ∙ ap (λ (z : ℕ). allows profile z (chunk_of t d)) (find-pair u n m.refs h).0) in
      let q : allows profile u (chunk_of t d) ≡ true → accepted (optional (base (length x.refs)) x.refs x.chunks) ≡ not
      (is_front_of m.chunks u n && eqb t Rect)
      = λ pl. (unfold replaced in front-replaced pl) in
      accepted-ordered profile x sd (unfold replaced in ord)
      ∙ rw (replaced-length, a, le-leb (length x.refs) 4096 few, b)
      (ap (λ (z : Bool). leb (length (file m) - size (chunk_at m own) + size (chunk_of t d)) 16777216 && (not (eqb t RIdx) && z))
      (and_where (allows profile u (chunk_of t d)) (accepted (optional (base (length x.refs)) x.refs x.chunks))
      (not (is_front_of m.chunks u n && eqb t Rect)) q))
