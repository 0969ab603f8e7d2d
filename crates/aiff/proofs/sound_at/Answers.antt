-- Rate and fields are read where the chunk's data lies in the file (sound-at). The rate is at least 1, so there is something to divide by.
use Prim.Native.Nat.{◌+◌}
use mathlib.Core.Path.{◌≡◌, sym, ◌∙◌}
use native.Mathlib.Omega.{arith}
use lib.ListN.{take, drop}
use Rattle.aiff.specs.Rate.{rd16, rate_in}
use Rattle.aiff.specs.Length.{sound_of, sound_by}
use Rattle.std.specs.Prelude.{Some, None}
use Rattle.blorb.specs.Bytes.{rd32}
use Rattle.aiff.proofs.RateLaws.{rate_least}
use Rattle.aiff.proofs.CommonLaws.{sound-at}
use Rattle.aiff.proofs.sound_at.Goals as goal
use Rattle.aiff.proofs.sound_at.Goals.{In-Some}

-- the rate is a whole number
whole : (c : In-Some) → let a = c.args in rate_in (drop (a.at + 16) a.s.now) ≡ Some c.in-Some.rate
whole c = sym c.rate_at.ensures ∙ c.in-Some.is

pub returns-in_default : goal.returns-in_default
returns-in_default c =
    let a = c.args in
    let f = a.s.now in
    let e : rate_in (drop (a.at + 16) f) ≡ None = sym c.rate_at.ensures ∙ c.in_default.is in
    sym (sound-at f a.at ∙ rw e)

pub nonzero_div-result : goal.nonzero_div-result
nonzero_div-result c = omega (arith, rate_least _ _ (whole (goal.at.nonzero_div-result c).In-Some))

pub returns : goal.returns
returns c =
    let a = c.args in
    let f = a.s.now in
    let rate = c.in-Some.rate in
    let e : sound_of (take 18 (drop (a.at + 8) f)) ≡ sound_by (Some rate) (rd16 (drop (a.at + 8) f)) (rd32 (drop (a.at + 10) f)) (rd16 (drop (a.at + 14) f))
    = sound-at f a.at ∙ rw (whole (goal.at.returns c).In-Some) in
    rw (c.be16_at-channels.ensures, c.be32_at-frames.ensures.0, c.be16_at-sample_size.ensures) (sym e)
