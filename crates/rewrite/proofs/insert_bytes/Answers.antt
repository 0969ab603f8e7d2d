use native.Mathlib.Omega.{arith}
use mathlib.Core.Path.{refl}
use Prim.Native.Nat.{◌+◌, ◌-◌, ◌%◌}
use lib.ListN.{length}
use Rattle.moves.specs.declared.Move.{Move}
use Rattle.rewrite.proofs.InsertBytes.{relocated-risen, insert_written}
use Rattle.rewrite.proofs.insert_bytes.Goals as goal

pub returns : goal.returns
returns c =
    let a = c.args in
    let b = a.buf.now in
    let p = c.requires in
    let sz = 8 + (length a.d.now + length a.d.now % 2) in
    let mv : Move = record { limit = a.gap.at - 1; behind = record { up = 12 + sz; down = 0 }; others = record { up = 12; down = 0 } } in
    rw (
      c.put_heading.ensures,
      c.behind.ensures,
      c.put_chunk.ensures,
      c.put_words.ensures,
      c.shift_right-2.ensures,
      c.shift_right.ensures,
      c.move_starts.ensures,
      c.chunk_size-size.ensures,
      relocated-risen mv a.gap.at sz (omega (arith, p.1.0.behind)) refl refl refl refl refl,
    )
    (insert_written b a.extent.len a.extent.count a.gap.place a.gap.at a.pair.usage a.pair.number p.0 p.1.0 a.kind a.d.now p.1.1.0)
