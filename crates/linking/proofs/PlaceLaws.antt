-- Where the loop over the starts ends is the link's place: the entry before it starts at the chunk, the one behind it later, and the index is in order.
use mathlib.Core.Path.{◌≡◌, sym, ap}
use Prim.Native.Nat.{ℕ, ◌-◌, ◌≤◌, ◌<◌}
use mathlib.Core.List.{List}
use native.Mathlib.Omega.{arith}
use lib.ListN.{length}
use Rattle.blorb.specs.Bytes.{Byte}
use Rattle.blorb.specs.All.{All}
use Rattle.blorb.specs.Model.{model}
use Rattle.blorb.specs.Queries.{ref_at, start}
use Rattle.blorb.proofs.ModelLaws.{chunk_in}
use Rattle.edits.specs.Edit.{link_place_of}
use Rattle.edits.proofs.LinkLaws.{link_here}
use Rattle.reader.specs.declared.Piece.{Piece}
use Rattle.undoing.specs.UndoPlan.{start_in}
use Rattle.linking.specs.Original.{Original}
use Rattle.linking.proofs.IndexRead.{facts, start-read}

module _ (f : List ℕ) (k : ℕ) (p : Piece) (o : Original f k p) (bytes : All Byte f) where
  pub chunk_there : (ref_at (model f) p.place).chunk < length (model f).chunks
  chunk_there = chunk_in (model f) p.place (facts f k o.indexed bytes).sound (omega (arith, o.there, o.indexed.counted.entries))

  pub starts_at : p.start ≡ start (model f) (ref_at (model f) p.place).chunk
  starts_at = ap (λ (z : Piece). z.start) o.piece

  -- the original itself starts there
  pub own-start : start_in f p.place ≤ p.start
  own-start = omega (arith, start-read f k o.indexed bytes p.place o.there, starts_at)

  pub place_here : (i : ℕ) → 0 < i → i ≤ k → start_in f (i - 1) ≤ p.start → (i < k → p.start < start_in f i)
      → i ≡ link_place_of (ref_at (model f) p.place).chunk (model f).refs
  place_here i pos le low high =
      let a = facts f k o.indexed bytes in
      let e = o.indexed.counted.entries in
      sym (link_here (model f) (ref_at (model f) p.place).chunk a.sound chunk_there i a.ordered pos (omega arith)
      (omega (arith, start-read f k o.indexed bytes (i - 1) (omega arith), starts_at))
      (λ h. omega (arith, high (omega arith), start-read f k o.indexed bytes i (omega arith), starts_at)))
