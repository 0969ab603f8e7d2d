use Prim.Native.Nat.{◌+◌, ◌-◌, ◌*◌}
use mathlib.Core.Path.{◌≡◌}
use native.Mathlib.Omega.{arith}
use Rattle.moves.proofs.ShiftLaws as laws
use Rattle.moves.proofs.shift.shift_right.Goals as goal

pub loop-part-preserved : goal.loop-part-preserved
loop-part-preserved c =
    let l = c.loop-part in
    let a = c.args in
    let i = laws.reached a.at a.len (l.part - 1) in
    let j = laws.reached a.at a.len l.part in
    let from : i ≡ a.at + (l.part - 1) * 2048 = omega arith in
    let size : j - i ≡ c.min.result = omega arith in
    laws.right_part a.buf.now l.buf c.move_part.new.buf a.at i j a.len a.k (rw (size, from) c.move_part.ensures) l.invariant
    (omega arith) (omega arith) c.requires.1
