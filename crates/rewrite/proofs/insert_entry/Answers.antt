use mathlib.Core.Path.{refl}
use Rattle.moves.specs.declared.Move.{Move}
use Rattle.rewrite.proofs.Writes.{relocated_alike}
use Rattle.rewrite.proofs.InsertBytes.{enter_written}
use Rattle.rewrite.proofs.insert_entry.Goals as goal

pub returns : goal.returns
returns c =
    let a = c.args in
    let b = a.buf.now in
    let p = c.requires in
    let mv : Move = record { limit = 0; behind = record { up = 12; down = 0 }; others = record { up = 12; down = 0 } } in
    rw (
      c.put_heading.ensures,
      c.behind.ensures,
      c.put_words.ensures,
      c.shift_right.ensures,
      c.move_starts.ensures,
      relocated_alike mv 12 refl refl refl refl,
    )
    (enter_written b a.extent.len a.extent.count a.gap.place a.gap.at a.pair.usage a.pair.number p.0 p.1.0 p.1.1.0)
