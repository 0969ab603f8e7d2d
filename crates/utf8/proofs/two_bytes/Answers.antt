-- Below 194 no first byte stands; from there to 223 the table asks only for a tail byte.
use Rattle.std.proofs.Common.{sym, ◌∙◌, arith}
use borrow.Author.Tests.{lt-leb}
use Rattle.utf8.proofs.FormLaws.{few, by_two}
use Rattle.utf8.proofs.two_bytes.Goals as goal

pub returns-then-a-ge194 : goal.returns-then-a-ge194
returns-then-a-ge194 c =
    let a = c.args in
    by_two a.s.now a.at a.a c.requires.1 c.if-a-ge194.true c.requires.3 ∙ rw (← c.is_tail.ensures)

pub returns-else-a-ge194 : goal.returns-else-a-ge194
returns-else-a-ge194 c =
    let a = c.args in
    rw (lt-leb 194 a.a c.if-a-ge194.false) (sym (few a.s.now a.at a.a c.requires.1 c.requires.2 (omega arith)))
