-- The fields of the ten bytes, read as numbers.
use mathlib.Core.Path.{sym, ◌∙◌}
use Rattle.aiff.proofs.CommonLaws.{rate_at_lem}
use Rattle.aiff.proofs.rate.rate_at.Goals as goal

pub returns : goal.returns
returns c =
    let a = c.args in
    c.value.ensures
    ∙ rw (c.be16_at-top.ensures, c.be32_at.ensures.0, c.be32_at-2.ensures.0) (sym (rate_at_lem a.s.now a.at))
