-- Two bytes, the first the higher.
use mathlib.Core.Path.{sym, ◌∙◌}
use Rattle.aiff.proofs.RateLaws.{rd16-at}
use Rattle.aiff.proofs.rate.be16_at.Goals as goal

pub returns : goal.returns
returns c =
    let a = c.args in
    c.from_be_bytes.ensures ∙ sym (rd16-at a.s.now a.at)
