-- Header and count, entries and padding stand side by side.
use Rattle.describing.proofs.ChunkLaws.{list_written}
use Rattle.describing.proofs.chunk.put_list.Goals as goal

pub returns : goal.returns
returns c =
    let a = c.args in
    let h = c.requires in
    rw (c.clear.ensures, c.put_entries.ensures, c.put_words.ensures)
    (list_written a.rows.now a.texts.now a.n h.1.0 a.buf.now a.m h.1.1.0 h.1.1.1)
