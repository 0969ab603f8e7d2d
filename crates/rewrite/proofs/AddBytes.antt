-- The bytes of an add: an entry put in at the index's end, and its chunk at the file's end, the last place of all.
use mathlib.Core.Path.{◌≡◌, sym, ap, ◌∙◌}
use Prim.Native.Nat.{ℕ}
use mathlib.Core.List.{List}
use native.Mathlib.Omega.{arith}
use lib.ListN.{length, take}
use lib.Seq.{take-length}
use Rattle.blorb.specs.Format.{Chunk}
use Rattle.blorb.specs.Model.{Model, base, start_of, file, model}
use Rattle.blorb.specs.Queries.{start, place_at}
use Rattle.blorb.proofs.Parts.{file-length}
use Rattle.blorb.proofs.Places.{place_of-start_of}
use Rattle.edits.specs.Edit.{added, inserted}
use Rattle.edits.proofs.AddInserts.{added-inserted}
use Rattle.rewrite.specs.Rewriting.{Stands, Insertable}
use Rattle.rewrite.proofs.Writes.{stands_length}

end_start : (m : Model) → length (file m) ≡ start m (length m.chunks)
unfolding start start_of base
end_start m = rw (take-length m.chunks) (file-length m)

end_place : (m : Model) (l : ℕ) → l ≡ length (file m) → place_at m l ≡ length m.chunks
unfolding start
end_place m l e = ap (place_at m) (e ∙ end_start m) ∙ place_of-start_of (base (length m.refs)) m.chunks (length m.chunks) (omega arith)

module _ (b : List ℕ) (l k : ℕ) (stands : Stands b l k) where
  abbrev m : Model
  m = model (take l b)

  lm : l ≡ length (file m)
  lm = sym (stands_length b l k stands)

  pub insertable_end : Insertable b l k k l
  insertable_end = record {
    listed = omega arith;
    starts = lm ∙ end_start m ∙ ap (start m) (sym (end_place m l lm));
    behind = stands.index;
    ends = omega arith;
  }

  pub added-file : (u n : ℕ) (c : Chunk) → file (inserted (model (take l b)) k (place_at (model (take l b)) l) u n c) ≡ file (added (model (take l b)) u n c)
  added-file u n c = (λ i. file (inserted m (stands.entries i) (end_place m l lm i) u n c)) ∙ ap file (added-inserted m u n c stands.sound)
