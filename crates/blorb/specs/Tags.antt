-- Four characters that stand for a type or a usage, as the number that their bytes hold. A name without its trailing space stands for the
-- four bytes with it: Snd is 'Snd ', PNG is 'PNG ' (bytes 80, 78, 71, 32, as rule 5 has it), MOD is 'MOD ', AGT is 'AGT '.
use Rattle.std.specs.Prelude.{ℕ, ◌+◌, ◌*◌}

abbrev pub tag : ℕ → ℕ → ℕ → ℕ → ℕ
tag a b c d = a * 16777216 + b * 65536 + c * 256 + d

-- the file, its index, and the optional chunks (rules 1, 3 and 7)
abbrev pub FORM : ℕ
FORM = tag 70 79 82 77

abbrev pub IFRS : ℕ
IFRS = tag 73 70 82 83

abbrev pub RIdx : ℕ
RIdx = tag 82 73 100 120

abbrev pub RelN : ℕ
RelN = tag 82 101 108 78

abbrev pub Fspc : ℕ
Fspc = tag 70 115 112 99

-- usages (rule 4)
abbrev pub Pict : ℕ
Pict = tag 80 105 99 116

abbrev pub Snd : ℕ
Snd = tag 83 110 100 32

abbrev pub Data : ℕ
Data = tag 68 97 116 97

abbrev pub Exec : ℕ
Exec = tag 69 120 101 99

-- types of pictures (rule 5)
abbrev pub JPEG : ℕ
JPEG = tag 74 80 69 71

abbrev pub PNG : ℕ
PNG = tag 80 78 71 32

abbrev pub Rect : ℕ
Rect = tag 82 101 99 116

-- of the ADRIFT house (02, P12)
abbrev pub GIF : ℕ
GIF = tag 71 73 70 32

abbrev pub WAV : ℕ
WAV = tag 87 65 86 32

abbrev pub MIDI : ℕ
MIDI = tag 77 73 68 73

abbrev pub MP3 : ℕ
MP3 = tag 77 80 51 32

-- types of sounds (rule 5), and the form type that a 'FORM' must have
abbrev pub OGGV : ℕ
OGGV = tag 79 71 71 86

abbrev pub MOD : ℕ
MOD = tag 77 79 68 32

abbrev pub SONG : ℕ
SONG = tag 83 79 78 71

abbrev pub AIFF : ℕ
AIFF = tag 65 73 70 70

-- types of data (rule 5)
abbrev pub TEXT : ℕ
TEXT = tag 84 69 88 84

abbrev pub BINA : ℕ
BINA = tag 66 73 78 65

-- types of code (rule 5)
abbrev pub ZCOD : ℕ
ZCOD = tag 90 67 79 68

abbrev pub GLUL : ℕ
GLUL = tag 71 76 85 76

abbrev pub TAD2 : ℕ
TAD2 = tag 84 65 68 50

abbrev pub TAD3 : ℕ
TAD3 = tag 84 65 68 51

abbrev pub HUGO : ℕ
HUGO = tag 72 85 71 79

abbrev pub ALAN : ℕ
ALAN = tag 65 76 65 78

abbrev pub ADRI : ℕ
ADRI = tag 65 68 82 73

abbrev pub LEVE : ℕ
LEVE = tag 76 69 86 69

abbrev pub AGT : ℕ
AGT = tag 65 71 84 32

abbrev pub MAGS : ℕ
MAGS = tag 77 65 71 83

abbrev pub ADVS : ℕ
ADVS = tag 65 68 86 83

abbrev pub EXEC : ℕ
EXEC = tag 69 88 69 67
