-- Rule 5 under each profile, rule 7, and the verdict under a profile.
use Rattle.std.specs.Prelude.{ℕ, ◌+◌, List, [], ◌∷◌, ◌++◌, Bool, false, ◌||◌, ◌&&◌, not, cond, length, get_or, eqb, leb}
use Rattle.blorb.specs.Bytes.{rd32}
use Rattle.blorb.specs.Tags.{FORM, RelN, Fspc, Pict, Snd, Data, Exec}
use Rattle.blorb.specs.Tags.{JPEG, PNG, Rect, GIF, OGGV, MOD, SONG, AIFF, WAV, MIDI, MP3, TEXT, BINA}
use Rattle.blorb.specs.Tags.{ZCOD, GLUL, TAD2, TAD3, HUGO, ALAN, ADRI, LEVE, AGT, MAGS, ADVS, EXEC}
use Rattle.blorb.specs.Format.{Chunk, Ref, size}
use Rattle.blorb.specs.Verdict.{Rules, Verdict, accept, ◌then◌, check, no_chunk, reading}

unfoldable pub one_of : ℕ → List ℕ → Bool
one_of t [] = false
one_of t (x ∷ xs) = eqb t x || one_of t xs

-- rule 5 of plain files: the types that a usage allows, and what each asks of the chunk besides
unfoldable pub plain_allows_of : ℕ → Chunk → Bool
plain_allows_of u c =
    (eqb u Pict && (one_of c.type (JPEG ∷ (PNG ∷ [])) || (eqb c.type Rect && eqb (length c.body) 8)))
    || (eqb u Snd && (one_of c.type (OGGV ∷ (MOD ∷ (SONG ∷ []))) || (eqb c.type FORM && leb 4 (length c.body) && eqb (rd32 c.body) AIFF)))
    || (eqb u Data && one_of c.type (TEXT ∷ (BINA ∷ [])))
    || (eqb u Exec && one_of c.type (ZCOD ∷ (GLUL ∷ (TAD2 ∷ (TAD3 ∷ (HUGO ∷ (ALAN ∷ (ADRI ∷ (LEVE ∷ (AGT ∷ (MAGS ∷ (ADVS ∷ (EXEC ∷ [])))))))))))))

-- what ADRIFT allows besides: "'GIF ' pictures and 'WAV ', 'MIDI' and 'MP3 ' sounds under the ADRIFT profile" (02, P12; 001, section 14.5)
unfoldable pub adrift_allows_of : ℕ → ℕ → Bool
adrift_allows_of u t = (eqb u Pict && eqb t GIF) || (eqb u Snd && one_of t (WAV ∷ (MIDI ∷ (MP3 ∷ []))))

-- rule 5 under a profile, "0 plain and 1 ADRIFT; plain keeps 01's types"
unfoldable pub allows : (profile : ℕ) → ℕ → Chunk → Bool
allows profile u c = plain_allows_of u c || (eqb profile 1 && adrift_allows_of u c.type)

-- rule 7: "The picture named is in the index and isn't a 'Rect'."
unfoldable pub picture : ℕ → List Chunk → List Ref → Bool
picture n cs [] = false
picture n cs (r ∷ rs) = (eqb r.usage Pict && eqb r.number n && not (eqb (get_or cs r.chunk no_chunk).type Rect)) || picture n cs rs

-- a chunk of this type is among these
unfoldable pub type_in : ℕ → List Chunk → Bool
type_in t [] = false
type_in t (c ∷ cs) = eqb c.type t || type_in t cs

module _ (rs : List Ref) (all : List Chunk) where
  -- 17: "a second 'RelN' or 'Fspc'", at its start; 18: "its length wrong", at its start + 4. earlier: the chunks before it
  unfoldable pub single : ℕ → ℕ → List Chunk → ℕ → Chunk → Verdict
  single t n earlier at c = check (not (type_in t earlier)) 17 at then check (eqb (length c.body) n) 18 (at + 4)

  -- rule 7 for one chunk; 19: "a frontispiece whose picture isn't in the index, or is a 'Rect'", at its start + 8
  unfoldable pub chunk_rule : List Chunk → ℕ → Chunk → Verdict
  chunk_rule earlier at c =
      cond (eqb c.type RelN) (single RelN 2 earlier at c)
      (cond (eqb c.type Fspc) (single Fspc 4 earlier at c then check (picture (rd32 c.body) all rs) 19 (at + 8)) accept)

  -- "17 to 19 go by file position, in that order within a chunk."
  unfoldable pub chunk_rules : List Chunk → ℕ → List Chunk → Verdict
  chunk_rules earlier at [] = accept
  chunk_rules earlier at (c ∷ cs) = chunk_rule earlier at c then chunk_rules (earlier ++ (c ∷ [])) (at + size c) cs

-- rule 7 for all chunks behind the index, the first of which stands at base
unfoldable pub optional : ℕ → List Ref → List Chunk → Verdict
optional base rs cs = chunk_rules rs cs [] base cs

-- the rules of a profile; 0 and 1 are known
abbrev pub rules_of : (profile : ℕ) → Rules
rules_of profile = record { known = leb profile 1; rule5 = allows profile; rule7 = optional }

-- the verdict on a file under a profile: 52, or the table
unfoldable pub profile_verdict : (profile : ℕ) → List ℕ → Verdict
profile_verdict profile = reading (rules_of profile)
