-- What is judged is the row's text.
use Rattle.std.proofs.Common.{refl, ◌∙◌, arith}
use borrow.Author.Tests.{lt-leb}
use Rattle.describing.proofs.JudgeLaws.{text-past, text-told}
use Rattle.describing.proofs.judge.text_good.Goals as goal

pub returns-then-end-len : goal.returns-then-end-len
returns-then-end-len c =
    let a = c.args in
    let row = c.at-row.ensures in
    let told = rw (row.2, row.3) at c.is_text.ensures.0 in
    (text-told a.rows.now a.texts.now.texts a.i _ (omega (arith, row.2, row.3, c.len.ensures, c.if-end-len.true)) told, c.is_text.ensures.1)

pub returns-else-end-len : goal.returns-else-end-len
returns-else-end-len c =
    let a = c.args in
    let row = c.at-row.ensures in
    (lt-leb _ _ c.if-end-len.false ∙ text-past a.rows.now a.texts.now.texts a.i (omega (arith, row.2, row.3, c.len.ensures, c.if-end-len.false)), refl)
