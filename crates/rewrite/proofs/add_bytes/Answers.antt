use mathlib.Core.Path.{ap, ◌∙◌}
use Rattle.blorb.specs.Format.{chunk_of}
use Rattle.edits.specs.Run.{written}
use Rattle.rewrite.proofs.AddBytes.{insertable_end, added-file}
use Rattle.rewrite.proofs.add_bytes.Goals as goal

pub insert_bytes-requires : goal.insert_bytes-requires
insert_bytes-requires c =
    let a = c.args in
    let b = a.buf.now in
    let p = c.requires in
    (p.0, (insertable_end b a.extent.len a.extent.count p.0, p.1))

pub returns : goal.returns
returns c =
    let a = c.args in
    let b = a.buf.now in
    c.insert_bytes.ensures
    ∙ ap (written b a.extent.len) (added-file b a.extent.len a.extent.count c.requires.0 a.pair.usage a.pair.number
    (chunk_of a.kind a.d.now))
