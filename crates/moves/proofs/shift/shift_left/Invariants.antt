use Rattle.moves.proofs.ShiftLaws as laws
use Rattle.moves.proofs.shift.shift_left.Given as goal

abbrev pub invariant-loop-part : goal.invariant-loop-part
invariant-loop-part l = laws.Left l.initial.buf l.at l.len l.k l.buf (laws.reached l.at l.len l.part)
