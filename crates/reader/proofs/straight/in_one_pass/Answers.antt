-- The head and the index's length are tested here, the rest by the pass over chunks and entries.
use mathlib.Core.Path.{sym, ◌∙◌}
use Rattle.blorb.proofs.RefusalLaws.{good_if_ok}
use Rattle.reader.proofs.StraightLaws.{straight_told}
use Rattle.reader.proofs.straight.in_one_pass.Goals as goal

pub returns : goal.returns
returns c = straight_told _ _ _ _ (sym c.head.ensures ∙ good_if_ok _ (sym c.in_ok-ok.ensures.variant))
    c.if-file-lt24.false
    (sym c.be32_at.ensures.0 ∙ c.if-be32_at-ne-RIDX.false)
    c.be32_at-2.ensures.0 c.be32_at-count.ensures.0
    c.if-be32_at-count.false c.if-count-gt4096.false
    c.if-file-count.false c.side_by_side.result c.side_by_side.ensures
