-- 49 by is_aiff, 50 by common_in, and the rest by sound_at, each handed on with what the one before it told.
use mathlib.Core.Path.{◌≡◌, sym, ◌∙◌}
use mathlib.Core.Bool.{true}
use Rattle.std.specs.Prelude.{Some, None}
use Rattle.aiff.specs.Common.{is_aiff_of}
use Rattle.aiff.specs.Seeing.{Told}
use Rattle.aiff.proofs.CommonLaws.{no_aiff, no_common, one-common}
use Rattle.aiff.proofs.length.Goals as goal
use Rattle.aiff.proofs.length.Goals.{After-common_in, In-Some}

-- behind the first test the bytes are an AIFF
aiff : (c : After-common_in) → is_aiff_of c.args.bytes.now ≡ true
aiff c = sym c.is_aiff.ensures ∙ c.if-not-is_aiff.false

-- its 'COMM' chunk is the one at `at`
told : (c : In-Some) → Told c.args.bytes.now (Some c.in-Some.at)
told c = let e = c.common_in.ensures in rw c.in-Some.is at e

pub returns-then-not-is_aiff : goal.returns-then-not-is_aiff
returns-then-not-is_aiff c = no_aiff _ (sym c.is_aiff.ensures ∙ c.if-not-is_aiff.true)

pub common_in-requires : goal.common_in-requires
common_in-requires c = sym c.is_aiff.ensures ∙ c.if-not-is_aiff.false

pub sound_at-requires : goal.sound_at-requires
sound_at-requires c = (told (goal.at.sound_at-requires c).In-Some).1

pub returns : goal.returns
returns c = c.sound_at.ensures ∙ one-common _ (aiff (goal.at.returns c).After-common_in) _ (told (goal.at.returns c).In-Some)

pub returns-in_default : goal.returns-in_default
returns-in_default c =
    let e = c.common_in.ensures in
    let t : Told _ None = rw c.in_default.is at e in
    no_common _ (aiff (goal.at.returns-in_default c).After-common_in) t
