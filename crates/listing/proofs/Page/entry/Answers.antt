-- The line of an entry is its fields and what is told of its chunk, one behind the other.
use native.Mathlib.Omega.{arith}
use mathlib.Core.Path.{◌∙◌}
use Rattle.listing.proofs.LineLaws.{entry-text}
use Rattle.listing.proofs.Page.entry.Goals as goal

pub chunk-requires : goal.chunk-requires
chunk-requires c =
    let a = c.args in (
      omega arith,
      omega arith,
    )

pub returns : goal.returns
returns c =
    let a = c.args in
    let w =
    entry-text a.file.now a.self.now.out.now _ _ a.p _ a.self.now.at _ _ c.be32_at-start.ensures.0 (c.fields.ensures.0.0, c.fields.ensures.1)
    (c.chunk.ensures.0.0, c.chunk.ensures.1) in
    ((w.0, c.chunk.ensures.0.1 ∙ c.fields.ensures.0.1, c.chunk.ensures.0.2 ∙ c.fields.ensures.0.2), w.1)
