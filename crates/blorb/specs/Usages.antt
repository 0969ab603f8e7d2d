-- The four usages as one of four kinds each (01, rule 4), and rule 5 for each usage over a chunk's type and length.
use Rattle.std.specs.Prelude.{ℕ, Bool, true, false, ◌&&◌, ◌||◌, eqb, Option, Some, None}
use Rattle.blorb.specs.Tags as tags
use Rattle.blorb.specs.Tags.{
  JPEG,
  PNG,
  Rect,
  OGGV,
  MOD,
  SONG,
  TEXT,
  BINA,
  ZCOD,
  GLUL,
  TAD2,
  TAD3,
  HUGO,
  ALAN,
  ADRI,
  LEVE,
  AGT,
  MAGS,
  ADVS,
  EXEC,
  WAV,
  MIDI,
  MP3,
}
use Rattle.blorb.specs.declared.Usage.{Usage}
use Rattle.blorb.specs.declared.Usage.TheVariants.{Pict, Snd, Data, Exec}

-- the four usages, as the four bytes of each
abbrev pub code_of : Usage → ℕ
code_of Pict = tags.Pict
code_of Snd = tags.Snd
code_of Data = tags.Data
code_of Exec = tags.Exec

abbrev pub pick_known : Bool → Option Usage → Option Usage → Option Usage
pick_known true a b = a
pick_known false a b = b

unfoldable pub usage_of : ℕ → Option Usage
usage_of n =
    pick_known (eqb n (code_of Pict)) (Some Pict)
    (pick_known (eqb n (code_of Snd)) (Some Snd)
    (pick_known (eqb n (code_of Data)) (Some Data)
    (pick_known (eqb n (code_of Exec)) (Some Exec) None)))

-- rule 5 by usage, as the code asks it: over a chunk's type and, for a picture, its length; a sound of type 'FORM' is asked apart
abbrev pub pict_type_of : ℕ → ℕ → Bool
pict_type_of t m = eqb t JPEG || (eqb t PNG || (eqb t Rect && eqb m 8))

abbrev pub snd_type_of : ℕ → Bool
snd_type_of t = eqb t OGGV || (eqb t MOD || eqb t SONG)

-- what ADRIFT allows besides
abbrev pub adrift_sound_type_of : ℕ → Bool
adrift_sound_type_of t = eqb t WAV || (eqb t MIDI || eqb t MP3)

abbrev pub data_type_of : ℕ → Bool
data_type_of t = eqb t TEXT || eqb t BINA

abbrev pub exec_type_of : ℕ → Bool
exec_type_of t =
    eqb t ZCOD || (eqb t GLUL || (eqb t
    TAD2 || (eqb t TAD3 || (eqb t HUGO || (eqb t ALAN || (eqb t ADRI || (eqb t LEVE || (eqb t AGT || (eqb t MAGS || (eqb t ADVS || eqb t EXEC))))))))))
