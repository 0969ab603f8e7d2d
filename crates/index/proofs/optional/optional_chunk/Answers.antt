use mathlib.Core.Path.{sym, ◌∙◌}
use native.Mathlib.Omega.{arith}
use Rattle.std.proofs.lemmas.Result.{err_from_is_err_and}
use Rattle.chunks.proofs.ChunkLaws.{fine}
use Rattle.index.proofs.OptionalLaws.{single-length, rule_none, rule_reln, fspc_stop, fspc_on}
use Rattle.index.proofs.optional.optional_chunk.Goals as goal

pub be32_at-t-requires : goal.be32_at-t-requires
be32_at-t-requires c = omega (arith, (fine _ _ c.requires.1 c.requires.2).header)

pub returns-then-t-eq-RELN : goal.returns-then-t-eq-RELN
returns-then-t-eq-RELN c = c.single.ensures ∙ rule_reln _ _ c.requires.1 c.requires.2 _ _ _ _
    c.be32_at-t.ensures.0 c.if-t-eq-RELN.true

pub returns-then-t-ne-FSPC : goal.returns-then-t-ne-FSPC
returns-then-t-ne-FSPC c = rule_none _ _ c.requires.1 c.requires.2 _ _ _ _
    c.be32_at-t.ensures.0 c.if-t-eq-RELN.false c.if-t-ne-FSPC.true

pub returns-in_err-single : goal.returns-in_err-single
returns-in_err-single c =
    let p = err_from_is_err_and c.from_residual.result c.from_residual.ensures.1 in
    rw (p.1, p.2)
    (fspc_stop _ _ c.requires.1 c.requires.2 _ _ _ _ c.be32_at-t.ensures.0 c.if-t-eq-RELN.false c.if-t-ne-FSPC.false _ _
    (sym c.in_err-single.ensures))

pub frontispiece-requires : goal.frontispiece-requires
frontispiece-requires c = let i = fine _ _ c.requires.1
    c.requires.2 in let l =
    single-length _ _ c.requires.1 c.requires.2
    c.args.fspc 4 (sym c.in_ok-single.ensures) in (c.requires.0, omega (arith, i.inside, i.next, l))

pub returns : goal.returns
returns c = c.frontispiece.ensures ∙ fspc_on _ _ c.requires.1
    c.requires.2 _ _ _ _
    c.be32_at-t.ensures.0 c.if-t-eq-RELN.false
    c.if-t-ne-FSPC.false (sym c.in_ok-single.ensures)
