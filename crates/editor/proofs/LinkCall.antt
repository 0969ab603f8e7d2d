-- The link that is made once its plan goes on: what is asked of the writers holds, the record is the definition's, and so the call keeps its promise.
use mathlib.Core.Path.{◌≡◌, sym, ap, ◌∙◌}
use Prim.Native.Nat.{ℕ, ◌+◌, ◌≤◌}
use mathlib.Core.List.{List, []}
use native.Mathlib.Omega.{arith}
use lib.ListN.{length, take}
use Rattle.blorb.specs.Model.{Model, base, model, file}
use Rattle.blorb.specs.Queries.{find, ref_at, start, place_at}
use Rattle.blorb.specs.All.{All}
use Rattle.blorb.specs.Bytes.{Byte}
use Rattle.blorb.proofs.Places.{place_of-start_of}
use Rattle.edits.specs.Edit.{link, linked, entered, edited}
use Rattle.edits.specs.Journal.{Rec, rec_of, rec_bytes}
use Rattle.edits.specs.Run.{edit, state, edited_file, edit_record, noted, written, fault, after, after_edit}
use Rattle.edits.proofs.FitLaws.{link_place_le, linked-start}
use Rattle.moves.specs.Moves.{record_of}
use Rattle.rewrite.specs.Rewriting.{Stands, Insertable}
use Rattle.planning.proofs.PlanLaws.{stands_as}
use Rattle.planning.proofs.LinkPlan.{Ready, record_29, link-length}
use Rattle.editor.specs.Called.{Called}
use Rattle.editor.specs.Post.{done_with}
use Rattle.editor.proofs.CallLaws.{called_done}

module _ (profile : ℕ) (b : List ℕ) (l J U v o u n : ℕ) (bytes : All Byte (take l b)) where
  abbrev m : Model
  m = model (take l b)

  abbrev kc : ℕ
  kc = (ref_at (model (take l b)) (find v o (model (take l b)).refs)).chunk

  module _ (k y x : ℕ) (r : Ready profile b l J U v o u n bytes k y x) where
    its_number : place_at m x ≡ kc
    unfolding start
    its_number = ap (place_at m) r.start_is ∙ place_of-start_of (base (length m.refs)) m.chunks kc (omega (arith, r.found.there))

    pub insertable : Stands b l k × (Insertable b l k y x × ((l + 12 ≤ length b) × (l + 12 ≤ 16777216)))
    insertable = (
      stands_as b l k (length m.refs) r.count_is r.found.stands,
      (
        record {
          listed = omega (arith, r.place_is, r.count_is, link_place_le kc m.refs);
          starts = r.start_is ∙ ap (start m) (sym its_number);
          behind = omega (arith, r.count_is, r.start_is, r.found.behind);
          ends = omega (arith, r.start_is, r.found.ends);
        },
        (r.room, r.short),
      ),
    )

    pub start_small : x + 12 ≤ 16777216
    start_small = omega (arith, r.start_is, r.found.ends, r.short)

    file_is : file (entered m y (place_at m x) u n) ≡ edited_file (take l b) (link v o u n)
    unfolding edited_file edited linked
    file_is = λ z. file (entered m (r.place_is z) (its_number z) u n)

    record_is : record_of 5 (record { pair = record { usage = u; number = n }; start = x + 12 }) y 0 [] ≡ rec_of m (link v o u n)
    unfolding record_of rec_of
    record_is =
        let s : x + 12 ≡ start (linked m kc u n) kc = ap (λ (z : ℕ). z + 12) r.start_is ∙ sym (linked-start m u n kc) in
        λ z. record { kind = 5; usage = u; number = n; place = r.place_is z; start = s z; type = 0; body = [] }

-- the call, once its plan goes on
pub made : (profile : ℕ) (b j : List ℕ) (l U v o u n : ℕ) (bytes : All Byte (take l b)) (k y x : ℕ) → Ready profile b l (length j) U v o u n bytes k y x
    → (b' j' : List ℕ) → b' ≡ written b l (file (entered (model (take l b)) y (place_at (model (take l b)) x) u n))
    → j' ≡ noted j U (rec_bytes (record_of 5 (record { pair = record { usage = u; number = n }; start = x + 12 }) y 0 []))
    → Called profile (state b l j U) (edit (link v o u n)) (done_with (l + 12) (U + 29)) b' j'
unfolding fault after after_edit edit_record
made profile b j l U v o u n bytes k y x r b' j' eb ej =
    called_done profile (state b l j U) (edit (link v o u n)) _ _ b' j' r.fine (sym (link-length profile b l (length j) U v o u n bytes r.found))
    (ap (λ (z : ℕ). U + z) (sym (record_29 profile b l (length j) U v o u n bytes)))
    (eb ∙ ap (written b l) (file_is profile b l (length j) U v o u n bytes k y x r))
    (ej ∙ ap (λ (z : Rec). noted j U (rec_bytes z)) (record_is profile b l (length j) U v o u n bytes k y x r))
