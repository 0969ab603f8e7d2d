use mathlib.Core.Path.{ap, ◌∙◌}
use Prim.Native.Nat.{ℕ}
use lib.Dec.{eqb}
use Rattle.blorb.specs.Tags.{AIFF}
use Rattle.blorb.proofs.UsageLaws.{snd_other, snd_short, snd_form}
use Rattle.blorb.proofs.sound_type.Goals as goal

pub returns-then-t-ne-FORM : goal.returns-then-t-ne-FORM
returns-then-t-ne-FORM c = c.snd_type.ensures ∙ snd_other _ _ c.if-t-ne-FORM.true

pub returns-then-d-lt4 : goal.returns-then-d-lt4
returns-then-d-lt4 c = snd_short _ _ c.if-t-ne-FORM.false c.if-d-lt4.true

pub returns : goal.returns
returns c = ap (λ (n : ℕ). eqb n AIFF) c.be32_at.ensures.0 ∙ snd_form _ _ c.if-t-ne-FORM.false c.if-d-lt4.false
