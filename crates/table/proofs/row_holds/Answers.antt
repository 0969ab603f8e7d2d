-- The same pair and the same start: the same row.
use mathlib.Core.Path.{sym, ◌∙◌}
use borrow.Author.Tests.{eqb-true}
use Rattle.index.specs.Entries.{place}
use Rattle.table.proofs.CheckLaws.{row_read}
use Rattle.table.proofs.row_holds.Goals as goal

pub returns : goal.returns
returns c =
    let a = c.args in
    let t = a.t.now in
    λ e. row_read a.index.now.file.now t.numbers.now (place a.i) a.row t.step t.gap (sym c.key.ensures.0 ∙ c.if-key.false ∙ c.key-2.ensures.0)
    c.key.ensures.1 c.key-2.ensures.1 (sym c.start.ensures ∙ eqb-true _ _ e ∙ c.start-2.ensures)
