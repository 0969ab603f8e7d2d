use mathlib.Core.Path.{◌≡◌, refl}
use native.Mathlib.Omega.{arith}
use Prim.Native.Nat.{◌+◌, ◌-◌, ◌*◌}
use lib.ListN.{replicate}
use Rattle.edits.specs.Run.{noted}
use Rattle.moves.specs.declared.Move.{Move}
use Rattle.rewrite.proofs.RemoveBytes.{relocated-fallen, remove-written}
use Rattle.rewrite.proofs.remove_bytes.Goals as goal

pub returns : goal.returns
returns c =
    let a = c.args in
    let b = a.buf.now in
    let p = c.requires in
    let mv : Move = record { limit = a.part.start; behind = record { up = 0; down = 12 + a.part.size }; others = record { up = 0; down = 12 } } in
    let cleared : c.clear.new.buf ≡ noted
    c.shift_left-2.new.buf (a.extent.len - (12 + a.part.size))
    (replicate (12 + a.part.size) 0) = c.clear.ensures in
    let turned : a.extent.len - (24 + 12 * a.extent.count) - a.part.size ≡ a.extent.len - a.part.size - (24 + 12 * a.extent.count) = omega arith in
    rw (
      c.put_heading.ensures,
      c.behind.ensures,
      turned,
      cleared,
      c.shift_left-2.ensures,
      c.shift_left.ensures,
      c.move_starts.ensures,
      relocated-fallen mv a.part.start a.part.size refl refl refl refl refl,
    )
    (remove-written b a.extent.len a.extent.count a.part.place a.part.start a.part.size p.0 p.1.listed p.1.starts p.1.gone)
