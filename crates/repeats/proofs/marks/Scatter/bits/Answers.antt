-- By the definition.
use Rattle.repeats.specs.Marks.{bits_of}
use Rattle.repeats.proofs.marks.Scatter.bits.Goals as goal

pub returns : goal.returns
unfolding bits_of
returns c =
    rw (c.bit.ensures, c.bit-2.ensures, c.bit-3.ensures, c.bit-4.ensures, c.mix-m.ensures)
