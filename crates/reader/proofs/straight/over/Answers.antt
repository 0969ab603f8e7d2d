-- The chunk is judged as the walk would judge it.
use native.Mathlib.Omega.{arith}
use mathlib.Core.Path.{sym, ◌∙◌}
use Rattle.blorb.proofs.RefusalLaws.{good_if_ok}
use Rattle.reader.proofs.straight.over.Goals as goal

pub returns : goal.returns
returns c = (
  omega (arith, c.if-s-start.false),
  sym c.chunk.ensures ∙ good_if_ok _ (sym c.in_ok-ok.ensures.variant),
  c.skip.ensures,
)
