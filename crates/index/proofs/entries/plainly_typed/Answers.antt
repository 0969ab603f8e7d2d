-- The chunk's header lies in the file, and so does its data.
use Prim.Native.Nat.{ℕ, ◌+◌}
use native.Mathlib.Omega.{arith}
use mathlib.Core.Path.{refl, ap, ◌∙◌}
use Rattle.blorb.specs.Rules.{plain_allows_of}
use Rattle.chunks.proofs.ChunkLaws.{whole}
use Rattle.index.proofs.EntryLaws.{chunk-at}
use Rattle.index.proofs.entries.plainly_typed.Goals as goal

pub be32_at-requires : goal.be32_at-requires
be32_at-requires c = omega (arith, (whole _ _ c.requires.0 c.requires.1).header)

pub be32_at-requires-2 : goal.be32_at-requires-2
be32_at-requires-2 c = omega (arith, (whole _ _ c.requires.0 c.requires.1).header)

pub slice_bounds-plain_allows-end : goal.slice_bounds-plain_allows-end
slice_bounds-plain_allows-end c = let i = whole _ _ c.requires.0 c.requires.1 in
    omega (arith, i.inside, i.next, c.be32_at.ensures.0)

pub returns : goal.returns
returns c =
    let a = c.args in
    c.plain_allows.ensures ∙ ap (plain_allows_of _)
    (chunk-at a.s.now _ _ _ _ refl (ap (λ (n : ℕ). a.at + 8 + n) c.be32_at.ensures.0)
    c.be32_at-2.ensures.0)
