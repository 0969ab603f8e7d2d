-- Rows that rise, as many as the entries, with each entry among them, are the sorted ones.
use Rattle.table.proofs.AnswerLaws.{quick-rows}
use Rattle.table.proofs.quick.Goals as goal

pub returns : goal.returns
returns c =
    let a = c.args in
    let t = a.t.now in
    let x = a.index.now in
    λ e. (
      c.if-t-index.false,
      quick-rows x.file.now t.numbers.now x.count t.rows t.step t.gap c.requires.whole c.if-t-index.false c.requires.once
          (c.rises.ensures c.if-not-rises.false) (c.lists.ensures e),
    )
