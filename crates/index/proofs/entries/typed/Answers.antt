-- The plain types first, then those of the profile.
use native.Mathlib.Omega.{arith}
use mathlib.Core.Path.{sym}
use Rattle.chunks.proofs.ChunkLaws.{whole}
use Rattle.index.proofs.EntryLaws.{typed_plain, typed_else}
use Rattle.index.proofs.entries.typed.Goals as goal

pub returns-then-plainly_typed : goal.returns-then-plainly_typed
returns-then-plainly_typed c =
    let a = c.args in
    sym (typed_plain a.profile a.s.now _ a.at _ c.plainly_typed.ensures c.if-plainly_typed.true)

pub be32_at-requires : goal.be32_at-requires
be32_at-requires c = omega (arith, (whole _ _ c.requires.0 c.requires.1).header)

pub returns : goal.returns
returns c =
    let a = c.args in
    typed_else a.profile a.s.now _ a.at _ c.be32_at.ensures.0 _ c.also_allows.ensures _
    c.plainly_typed.ensures c.if-plainly_typed.false
