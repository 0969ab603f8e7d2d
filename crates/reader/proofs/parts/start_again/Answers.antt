-- The starts of a passed file's entries never fall, so those of the two entries beside it decide. Past the first test the next entry has another start,
-- or there is none.
use native.Mathlib.Omega.{arith}
use Prim.Native.Nat.{◌+◌}
use mathlib.Core.Path.{◌∙◌}
use Rattle.reader.proofs.SharedLaws.{beside_hit, beside_none, beside_last}
use Rattle.reader.proofs.parts.start_again.Goals as goal
use Rattle.reader.proofs.parts.start_again.Goals.{then-i-count+else-be32_at-start, else-i-count}

pub returns-then-be32_at-start : goal.returns-then-be32_at-start
returns-then-be32_at-start c =
    let p = c.requires in
    let i = c.args.i in
    beside_hit _ _ _ _ p.0 p.1 p.2 (i + 1) _ (omega (arith, c.if-i-count.true)) (λ q. omega arith) c.be32_at.ensures.0
    c.if-be32_at-start.true

pub returns-then-i-eq0 : goal.returns-then-i-eq0
returns-then-i-eq0 c =
    let p = c.requires in
    beside_none _ _ _ _ p.0 p.1 p.2 (elim c.if-i-count.branch [ then-i-count+else-be32_at-start w ↦ λ l e. w.if-be32_at-start.false (w.be32_at.ensures.0 ∙ e) | else-i-count w ↦ λ l e. omega arith ])
    (λ l e. omega arith)

pub returns : goal.returns
returns c =
    let p = c.requires in
    beside_last _ _ _ _ p.0 p.1 p.2 (elim c.if-i-count.branch [ then-i-count+else-be32_at-start w ↦ λ l e. w.if-be32_at-start.false (w.be32_at.ensures.0 ∙ e) | else-i-count w ↦ λ l e. omega arith ])
    _ c.if-i-eq0.false c.be32_at-2.ensures.0
