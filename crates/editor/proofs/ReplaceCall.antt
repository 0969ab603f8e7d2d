-- The replacement that is made once its plan goes on: what is asked of the writers holds, the record is the definition's, and so the call keeps its promise.
use mathlib.Core.Path.{◌≡◌, sym, ap, ◌∙◌}
use Prim.Native.Nat.{ℕ, ◌+◌, ◌-◌, ◌≤◌, ◌%◌}
use mathlib.Core.List.{List}
use native.Mathlib.Omega.{arith}
use lib.ListN.{length, take, drop}
use Rattle.blorb.specs.Format.{chunk_of, size}
use Rattle.blorb.specs.Model.{Model, model, file}
use Rattle.blorb.specs.Queries.{find, ref_at, chunk_at, start}
use Rattle.blorb.specs.All.{All}
use Rattle.blorb.specs.Bytes.{Byte}
use Rattle.edits.specs.Edit.{replace, replaced, held, edited}
use Rattle.edits.specs.Journal.{rec_of, rec_bytes, Rec}
use Rattle.edits.specs.Run.{edit, state, edited_file, edit_record, noted, written, fault, after, after_edit}
use Rattle.moves.specs.Moves.{record_of}
use Rattle.rewrite.specs.Rewriting.{Stands, Replaceable}
use Rattle.reader.specs.declared.Piece.{Piece}
use Rattle.judging.proofs.OpenLaws.{place_is, start_is, length-is}
use Rattle.planning.proofs.PlanLaws.{stands_as}
use Rattle.planning.proofs.RemovePlan.{body-sized}
use Rattle.planning.proofs.ReplacePlan.{Ready, size_now, length_now, record_now}
use Rattle.editor.specs.Called.{Called}
use Rattle.editor.specs.Post.{done_with}
use Rattle.editor.proofs.RemoveCall.{body_of}
use Rattle.editor.proofs.CallLaws.{called_done, part-size, part_length}

module _ (profile : ℕ) (b : List ℕ) (l J U u n t : ℕ) (d : List ℕ) (bytes : All Byte (take l b)) where
  abbrev m : Model
  m = model (take l b)

  abbrev i : ℕ
  i = find u n (model (take l b)).refs

  abbrev kc : ℕ
  kc = (ref_at (model (take l b)) (find u n (model (take l b)).refs)).chunk

  module _ (k : ℕ) (p : Piece) (r : Ready profile b l J U u n t d bytes k p) where
    pub used_now : 29 + p.length ≡ length (edit_record (take l b) (replace u n t d))
    used_now = record_now profile b l J U u n t d bytes p r.found r.piece_is

    pub body_in : p.start + 8 + p.length ≤ l
    body_in = omega (arith, start_is m i p r.piece_is, length-is m i p r.piece_is, body-sized (chunk_at m kc), r.found.ends)

    pub replaceable : (h : List ℕ) → h ≡ held t d → (a : ℕ) → a ≡ 8 + (p.length + p.length % 2)
        → Stands b l k × (Replaceable b l k p.place p.start a
        × ((l - a + (8 + (length h + length h % 2)) ≤ length b) × (l - a + (8 + (length h + length h % 2)) ≤ 16777216)))
    replaceable h eh a ea =
        let w = r.found in
        let sz = size_now profile b l J U u n t d bytes p w r.piece_is a ea in
        let ln = length_now profile b l J U u n t d bytes p w r.piece_is a ea h eh in
        let es = start_is m i p r.piece_is in
        let ep = place_is m i p r.piece_is in (
          stands_as b l k (length m.refs) r.count_is w.stands,
          (
            record {
              listed = omega (arith, r.count_is, w.listed);
              starts = es ∙ ap (λ (z : ℕ). start m (ref_at m z).chunk) (sym ep);
              sized = sz ∙ ap (λ (z : ℕ). size (chunk_at m (ref_at m z).chunk)) (sym ep);
              behind = omega (arith, r.count_is, w.behind);
              ends = omega (arith, w.ends);
            },
            (omega (arith, r.room), omega (arith, r.short)),
          ),
        )

    pub record_is : record_of 2 (record { pair = record { usage = u; number = n }; start = p.start }) p.place p.kind (take p.length (drop (p.start + 8) b))
        ≡ rec_of m (replace u n t d)
    unfolding record_of rec_of
    record_is =
        ap (λ (z : Piece). record_of 2 (record { pair = record { usage = u; number = n }; start = z.start }) z.place z.kind
        (take z.length (drop (z.start + 8) b)))
        r.piece_is
        ∙ (λ z. record {
          kind = 2;
          usage = u;
          number = n;
          place = i;
          start = start m kc;
          type = (chunk_at m kc).type;
          body = body_of profile b l J U u n bytes
              r.found z;
        })

-- the call, once its plan goes on
module _ (profile : ℕ) (b j : List ℕ) (l U u n t : ℕ) (d : List ℕ) (bytes : All Byte (take l b)) (k : ℕ) (p : Piece)
    (r : Ready profile b l (length j) U u n t d bytes k p) where
  pub part_in : p.start + 8 + p.length ≤ length b
  part_in = omega (arith, body_in profile b l (length j) U u n t d bytes k p r, r.found.stands.inside)

  pub used_room : U + (29 + p.length) ≤ length j
  used_room = omega (arith, used_now profile b l (length j) U u n t d bytes k p r, r.journal_room)

  pub record_room : U + (29 + length (take (p.start + 8 + p.length - (p.start + 8)) (drop (p.start + 8) b))) ≤ length j
  record_room = let h = part_length b (p.start + 8) p.length part_in in omega (arith, used_room)

  pub made : (h : List ℕ) → h ≡ held t d → (a : ℕ) (b' j' : List ℕ) → a ≡ 8 + (p.length + p.length % 2)
      → b' ≡ written b l (file (replaced (model (take l b)) (ref_at (model (take l b)) p.place).chunk (chunk_of t h)))
      → j' ≡ noted j U (rec_bytes (record_of 2 (record { pair = record { usage = u; number = n }; start = p.start }) p.place p.kind
      (take (p.start + 8 + p.length - (p.start + 8)) (drop (p.start + 8) b))))
      → Called profile (state b l j U) (edit (replace u n t d)) (done_with (l - a + (8 + (length h + length h % 2))) (U + (29 + p.length))) b' j'
  unfolding fault after after_edit edited_file edited edit_record
  made h eh a b' j' ea eb ej =
      called_done profile (state b l j U) (edit (replace u n t d)) _ _ b' j' r.fine
      (length_now profile b l (length j) U u n t d bytes p r.found r.piece_is a ea h eh)
      (ap (λ (z : ℕ). U + z) (used_now profile b l (length j) U u n t d bytes k p r))
      (eb
      ∙ (λ z. written b l (file (replaced (model (take l b))
      (ref_at (model (take l b)) (place_is (model (take l b)) (find u n (model (take l b)).refs) p r.piece_is z)).chunk (chunk_of t (eh z))))))
      (ej ∙ ap (λ (z : ℕ). noted j U (rec_bytes (record_of 2 (record { pair = record { usage = u; number = n }; start = p.start }) p.place p.kind
      (take z (drop (p.start + 8) b))))) (part-size (p.start + 8) p.length)
      ∙ ap (λ (z : Rec). noted j U (rec_bytes z)) (record_is profile b l (length j) U u n t d bytes k p r))
