-- The removal that is made once its plan goes on: what is asked of the writers holds, the record is the definition's, and so the call keeps its promise.
use mathlib.Core.Path.{◌≡◌, refl, sym, ap, ◌∙◌}
use Prim.Native.Nat.{ℕ, ◌+◌, ◌-◌, ◌≤◌, ◌%◌}
use mathlib.Core.List.{List, ◌++◌}
use mathlib.Core.Bool.{Bool, true, false, cond}
use native.Mathlib.Omega.{arith}
use lib.ListN.{length, take, drop, take-append-drop, length-drop}
use lib.Seq.{take-append-le, drop-append-le}
use Rattle.blorb.specs.Format.{Chunk}
use Rattle.blorb.specs.Model.{Model, model, file}
use Rattle.blorb.specs.Queries.{find, ref_at, chunk_at, shared, start}
use Rattle.blorb.specs.All.{All}
use Rattle.blorb.specs.Bytes.{Byte}
use Rattle.edits.specs.Edit.{remove, removed, edited}
use Rattle.edits.specs.GoneSize.{gone_size_of}
use Rattle.edits.specs.Journal.{rec_of, rec_bytes, Rec, removal}
use Rattle.edits.specs.Run.{edit, state, edited_file, edit_record, noted, written, fault, after, after_edit}
use Rattle.moves.specs.Moves.{record_of}
use Rattle.rewrite.specs.Rewriting.{Stands, Removable}
use Rattle.reader.specs.declared.Piece.{Piece}
use Rattle.judging.proofs.OpenLaws.{place_is, start_is, length-is}
use Rattle.undoing.proofs.ChunkAt.{body_at}
use Rattle.planning.proofs.PlanLaws.{stands_as}
use Rattle.planning.proofs.RemovePlan.{Found, Ready, gone_sized, gone_now, body-sized, length_now, record_now}
use Rattle.editor.specs.Called.{Called}
use Rattle.editor.specs.Post.{done_with}
use Rattle.editor.proofs.CallLaws.{called_done, part-size, part_length}

module _ (profile : ℕ) (b : List ℕ) (l J U u n : ℕ) (bytes : All Byte (take l b)) where
  abbrev m : Model
  m = model (take l b)

  abbrev i : ℕ
  i = find u n (model (take l b)).refs

  abbrev kc : ℕ
  kc = (ref_at (model (take l b)) (find u n (model (take l b)).refs)).chunk

  -- the data of the entry's chunk, in the buffer
  pub body_of : (w : Found profile b l J U u n bytes (length m.refs)) → take (length (chunk_at m kc).body) (drop (start m kc + 8) b) ≡ (chunk_at m kc).body
  body_of w =
      let c : Chunk = chunk_at m kc in
      let whole : b ≡ file m ++ drop l b = sym (take-append-drop l b) ∙ ap (λ (z : List ℕ). z ++ drop l b) (sym w.stands.whole) in
      let h1 : start m kc + 8 ≤ length (file m) = omega (arith, body-sized c, w.ends, w.length_l) in
      let ld : length (drop (start m kc + 8) (file m)) ≡ length (file m) - (start m kc + 8) = length-drop (start m kc + 8) (file m) in
      let h2 : length c.body ≤ length (drop (start m kc + 8) (file m)) = omega (arith, body-sized c, w.ends, w.length_l) in
      ap (λ (z : List ℕ). take (length c.body) (drop (start m kc + 8) z)) whole
      ∙ ap (take (length c.body)) (drop-append-le (start m kc + 8) (file m) (drop l b) h1)
      ∙ take-append-le (length c.body) (drop (start m kc + 8) (file m)) (drop l b) h2
      ∙ body_at m kc w.stands.sound w.there (omega (arith, w.length_l, w.stands.short))

  module _ (k : ℕ) (p : Piece) (r : Ready profile b l J U u n bytes k p) where
    pub used_now : 29 + cond p.shared 0 p.length ≡ length (edit_record (take l b) (remove u n))
    used_now = record_now profile b l J U u n bytes p r.found r.piece_is

    kept_less : cond p.shared 0 p.length ≤ p.length
    kept_less = go p.shared
      where
        go : (y : Bool) → cond y 0 p.length ≤ p.length
        go true = omega arith
        go false = omega arith

    pub body_in : p.start + 8 + cond p.shared 0 p.length ≤ l
    body_in = omega (arith, kept_less, start_is m i p r.piece_is, length-is m i p r.piece_is, body-sized (chunk_at m kc), r.found.ends)

    pub removable : (a : ℕ) → a ≡ cond p.shared 0 (8 + (p.length + p.length % 2)) → Stands b l k × Removable b l k p.place p.start a
    removable a ea =
        let w = r.found in
        let ga : a ≡ gone_size_of m i = gone_now profile b l J U u n bytes p w r.piece_is a ea in
        let es = start_is m i p r.piece_is in
        let ep = place_is m i p r.piece_is in (
          stands_as b l k (length m.refs) r.count_is w.stands,
          record {
            listed = omega (arith, r.count_is, w.listed);
            starts = es ∙ ap (λ (z : ℕ). start m (ref_at m z).chunk) (sym ep);
            gone = ga ∙ ap (gone_size_of m) (sym ep);
            behind = omega (arith, r.count_is, w.behind);
            ends = omega (arith, gone_sized m i, w.ends);
          },
        )

    pub record_is : record_of (cond p.shared 4 3) (record { pair = record { usage = u; number = n }; start = p.start }) p.place (cond p.shared 0 p.kind)
        (take (cond p.shared 0 p.length) (drop (p.start + 8) b)) ≡ rec_of m (remove u n)
    unfolding record_of rec_of removal
    record_is =
        ap (λ (z : Piece). record_of (cond z.shared 4 3) (record { pair = record { usage = u; number = n }; start = z.start }) z.place (cond z.shared 0 z.kind)
        (take (cond z.shared 0 z.length) (drop (z.start + 8) b))) r.piece_is
        ∙ go (shared m i)
      where
        go : (y : Bool) → record_of (cond y 4 3) (record { pair = record { usage = u; number = n }; start = start m kc }) i (cond y 0 (chunk_at m kc).type)
            (take (cond y 0 (length (chunk_at m kc).body)) (drop (start m kc + 8) b)) ≡ removal y m u n i
        go true = refl
        go false = λ z. record { kind = 3; usage = u; number = n; place = i; start = start m kc; type = (chunk_at m kc).type; body = body_of r.found z }

-- the call, once its plan goes on: a bytes go, and x bytes of data are kept
module _ (profile : ℕ) (b j : List ℕ) (l U u n : ℕ) (bytes : All Byte (take l b)) (k : ℕ) (p : Piece) (r : Ready profile b l (length j) U u n bytes k p)
    (x : ℕ) (ex : x ≡ cond p.shared 0 p.length) where
  pub part_in : p.start + 8 + x ≤ length b
  part_in = omega (arith, body_in profile b l (length j) U u n bytes k p r, r.found.stands.inside)

  pub used_room : U + (29 + x) ≤ length j
  used_room = omega (arith, used_now profile b l (length j) U u n bytes k p r, r.journal_room)

  pub record_room : U + (29 + length (take (p.start + 8 + x - (p.start + 8)) (drop (p.start + 8) b))) ≤ length j
  record_room = let h = part_length b (p.start + 8) x part_in in omega (arith, used_room)

  pub made : (a kd t : ℕ) (b' j' : List ℕ) → a ≡ cond p.shared 0 (8 + (p.length + p.length % 2)) → kd ≡ cond p.shared 4 3
      → t ≡ cond p.shared 0 p.kind
      → b' ≡ written b l (file (removed (model (take l b)) p.place))
      → j' ≡ noted j U (rec_bytes (record_of kd (record { pair = record { usage = u; number = n }; start = p.start }) p.place t
      (take (p.start + 8 + x - (p.start + 8))
      (drop (p.start + 8) b))))
      → Called profile (state b l j U) (edit (remove u n)) (done_with (l - (12 + a)) (U + (29 + x))) b' j'
  unfolding fault after after_edit edited_file edited edit_record
  made a kd t b' j' ea ek et eb ej =
      let px : p.start + 8 + x - (p.start + 8) ≡ cond p.shared 0 p.length = part-size (p.start + 8) x ∙ ex in
      called_done profile (state b l j U) (edit (remove u n)) _ _ b' j' r.fine (length_now profile b l (length j) U u n bytes p r.found
      r.piece_is a ea)
      (ap (λ (z : ℕ). U + (29 + z)) ex ∙ ap (λ (z : ℕ). U + z) (used_now profile b l (length j) U u n bytes k p r))
      (eb ∙ ap (λ (z : ℕ). written b l (file (removed (model (take l b)) z))) (place_is (model (take l b)) (find u n (model (take l b)).refs) p r.piece_is))
      (ej ∙ (λ z. noted j U (rec_bytes (record_of (ek z) (record { pair = record { usage = u; number = n }; start = p.start }) p.place (et z)
      (take (px z) (drop (p.start + 8) b)))))
      ∙ ap (λ (z : Rec). noted j U (rec_bytes z)) (record_is profile b l (length j) U u n bytes k p r))
