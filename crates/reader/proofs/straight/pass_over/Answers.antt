use native.Mathlib.Omega.{arith}
use mathlib.Core.Path.{◌≡◌, sym, ◌∙◌}
use Prim.Native.Nat.{◌+◌, ◌≤◌}
use lib.ListN.{length, drop}
use Rattle.blorb.specs.Verdict.{accept, chunk_fault}
use Rattle.blorb.proofs.RefusalLaws.{good_unless_err}
use Rattle.chunks.proofs.ChunkLaws.{chunk_good_header}
use Rattle.reader.proofs.StraightLaws.{came_none, came_next}
use Rattle.reader.proofs.straight.pass_over.Goals as goal
use Rattle.reader.proofs.straight.pass_over.Goals.{Else-is_err}

-- the chunk has no fault
good : (c : Else-is_err) → chunk_fault c.loop-at.at (drop
    c.loop-at.at c.args.s.now) ≡ accept
good c = sym c.chunk.ensures ∙ good_unless_err _ (sym c.if-is_err.ensures.value)

header : (c : Else-is_err) → c.loop-at.at + 8 ≤ length c.args.s.now
header c = chunk_good_header _ _ c.if-s-at.false (good c)

pub loop-at-init : goal.loop-at-init
loop-at-init c = came_none _ _

pub returns-then-s-at : goal.returns-then-s-at
returns-then-s-at c = c.loop-at.invariant

pub returns-then-is_err : goal.returns-then-is_err
returns-then-is_err c = c.loop-at.invariant

pub be32_at-kind-requires : goal.be32_at-kind-requires
be32_at-kind-requires c = omega (arith, header (goal.at.be32_at-kind-requires c).Else-is_err)

pub returns-then-kind-eq-RIDX : goal.returns-then-kind-eq-RIDX
returns-then-kind-eq-RIDX c = c.loop-at.invariant

pub skip-at-requires : goal.skip-at-requires
skip-at-requires c = header (goal.at.skip-at-requires c).Else-is_err

pub loop-at-smaller : goal.loop-at-smaller
loop-at-smaller c = omega (arith, c.if-s-at.false, c.skip-at.ensures)

pub loop-at-preserved : goal.loop-at-preserved
loop-at-preserved c = came_next _ _ _ _ _ _ _ c.if-s-at.false (good (goal.at.loop-at-preserved c).Else-is_err)
    c.be32_at-kind.ensures.0 c.if-kind-eq-RIDX.false
    c.is_ordinary-ordinary.ensures c.skip-at.ensures c.loop-at.invariant

pub returns : goal.returns
returns c = c.loop-at.invariant
