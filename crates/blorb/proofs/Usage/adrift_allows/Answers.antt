-- Told the usage, only its own part of the definition is left: the code's tests, one by one, for a picture or a sound, none for data and executables.
use mathlib.Core.Path.{◌≡◌, ◌∙◌}
use mathlib.Core.Bool.{◌||◌, or-false}
use lib.Dec.{eqb}
use Rattle.blorb.specs.Tags.{GIF, WAV, MIDI, MP3}
use Rattle.blorb.specs.declared.Usage.TheVariants.{Pict, Snd}
use Rattle.blorb.specs.Usages.{code_of}
use Rattle.blorb.specs.Rules.{adrift_allows_of, one_of}
use Rattle.blorb.proofs.Usage.adrift_allows.Goals as goal

pub returns-in-Pict : goal.returns-in-Pict
unfolding adrift_allows_of one_of
returns-in-Pict c =
    let t = c.args.kind in
    let tests : eqb t GIF ≡ adrift_allows_of (code_of Pict) t = simp or-false in
    rw c.in-Pict.is tests

pub returns-in-Snd : goal.returns-in-Snd
unfolding adrift_allows_of one_of
returns-in-Snd c =
    let t = c.args.kind in
    let tests : (eqb t WAV || (eqb t MIDI || eqb t MP3)) ≡ adrift_allows_of (code_of Snd) t = simp or-false in
    rw c.in-Snd.is (c.adrift_sound_type.ensures ∙ tests)

pub returns-in-Data : goal.returns-in-Data
unfolding adrift_allows_of
returns-in-Data c = rw c.in-Data.is

pub returns-in-Exec : goal.returns-in-Exec
unfolding adrift_allows_of
returns-in-Exec c = rw c.in-Exec.is
