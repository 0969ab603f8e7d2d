-- Two writes side by side are one; a text of no bytes is none.
use mathlib.Core.Path.{◌≡◌, ◌∙◌}
use native.Mathlib.Omega.{arith}
use lib.ListN.{length}
use Rattle.describing.proofs.ChunkLaws.{entry-written, entry_textless}
use Rattle.describing.proofs.chunk.put_entry.Goals as goal

pub returns-then-not-is_empty : goal.returns-then-not-is_empty
returns-then-not-is_empty c =
    let a = c.args in
    rw (c.copy_in.ensures, c.put_words.ensures)
    (entry-written a.buf.now a.at a.usage a.number a.text.now c.requires)

pub returns-else-not-is_empty : goal.returns-else-not-is_empty
returns-else-not-is_empty c =
    let a = c.args in
    let none : length a.text.now ≡ 0 = grind arith in
    c.put_words.ensures ∙ entry_textless a.buf.now a.at a.usage a.number a.text.now none c.requires
