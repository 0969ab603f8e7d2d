-- Texts (02, P7): the examples of RFC 3629, and files that hold an 'RDes', proved in one table. What the code answers follows by its contracts.
use Rattle.std.specs.Prelude.{Ok}
use Rattle.blorb.specs.Refusals.{Refused}
use Rattle.descriptions.specs.Texts.{described_with, told_with}
use mathlib.Core.Path.{refl}
use Prim.Native.Nat.{ℕ}
use mathlib.Core.List.{List, [], ◌∷◌, ◌++◌}
use lib.ListN.{length, take, set}
use Rattle.blorb.specs.Bytes.{be32}
use Rattle.blorb.specs.Tags.{Pict, Snd, Data}
use Rattle.blorb.specs.Format.{chunk_of, chunk_bytes}
use Rattle.blorb.specs.All.{All}
use Rattle.utf8.specs.Utf8.{forms, begins, form_length, char_length, good_in, good_length_of}
use Rattle.rdes.specs.Rdes.{RDes, offset_of, fills_from, fills, descs_from, pair_among}
use Rattle.rdes.specs.Rdes as rdes
use Rattle.locate.specs.Located.{of_type, located_of}
use Rattle.descriptions.specs.Texts.{rdes_verdict, described_of, tell_from_of, told_of}
use Rattle.samples.specs.Files.{A, eel}
use Rattle.samples.specs.TextRows.{TextRow, good, describes, tells, TextRowHolds}
use Rattle.samples.proofs.Parts.{parts}
use Rattle.samples.proofs.Table.{computed}

abbrev entry : ℕ → ℕ → List ℕ → List ℕ
entry u n t = be32 u ++ (be32 n ++ (be32 (length t) ++ t))

abbrev body : List ℕ → List ℕ
body e = be32 1 ++ e

-- A with an 'RDes' behind its chunk, at 48; n is the length that its FORM then has
abbrev described : ℕ → List ℕ → List ℕ
described n d = set A 7 n ++ chunk_bytes (chunk_of RDes d)

-- with the text "eel" for Data 7
abbrev spoken : List ℕ
spoken = described 68 (body (entry Data 7 eel))

unfoldable pub texts : List TextRow
texts =
    -- RFC 3629, section 7: "A<NOT IDENTICAL TO><ALPHA>."
    good (65 ∷ (226 ∷ (137 ∷ (162 ∷ (206 ∷ (145 ∷ (46 ∷ []))))))) 7 ∷ (
    -- "hangugeo" and "nihongo"
    good (237 ∷ (149 ∷ (156 ∷ (234 ∷ (181 ∷ (173 ∷ (236 ∷ (150 ∷ (180 ∷ []))))))))) 9 ∷ (
    good (230 ∷ (151 ∷ (165 ∷ (230 ∷ (156 ∷ (172 ∷ (232 ∷ (170 ∷ (158 ∷ []))))))))) 9 ∷ (
    -- a byte order mark and a character of four bytes
    good (239 ∷ (187 ∷ (191 ∷ (240 ∷ (163 ∷ (142 ∷ (180 ∷ []))))))) 7 ∷ (
    -- section 10: C0 80 for a zero, and "/../" with an overlong dot
    good (192 ∷ (128 ∷ [])) 0 ∷ (
    good (47 ∷ (192 ∷ (174 ∷ (46 ∷ (47 ∷ []))))) 1 ∷ (
    -- a surrogate, a character above 10FFFF, one cut short
    good (97 ∷ (237 ∷ (160 ∷ (128 ∷ [])))) 1 ∷ (
    good (244 ∷ (144 ∷ (128 ∷ (128 ∷ [])))) 0 ∷ (
    good (226 ∷ (130 ∷ [])) 0 ∷ (
    -- the text of Data 7, at 72; no other entry, no other pair
    describes 0 spoken 0 (Ok (described_with Data 7 72 3)) ∷ (
    describes 0 spoken 1 (Refused 22 0) ∷ (
    tells 0 spoken Data 7 (Ok (told_with 72 3)) ∷ (
    tells 1 spoken Data 7 (Ok (told_with 72 3)) ∷ (
    tells 0 spoken Pict 1 (Refused 22 0) ∷ (
    -- no 'RDes'
    describes 0 A 0 (Refused 22 0) ∷ (
    -- a resource that is not in the index: by entry, not by pair
    describes 0 (described 68 (body (entry Snd 3 eel))) 0 (Ok (described_with Snd 3 72 3)) ∷ (
    tells 0 (described 68 (body (entry Snd 3 eel))) Snd 3 (Refused 22 0) ∷ (
    -- 52; the reader's own
    describes 2 spoken 0 (Refused 52 0) ∷ (
    describes 0 (take 75 spoken) 0 (Refused 5 4) ∷ (
    -- 37: a count too large, no data
    describes 0 (described 68 (be32 2 ++ entry Data 7 eel)) 0 (Refused 37 48) ∷ (
    describes 0 (described 48 []) 0 (Refused 37 48) ∷ (
    -- 38, also where the text is bad; 39 at the first byte behind the good beginning
    describes 0 (described 82 (be32 2 ++ (entry Data 7 eel ++ entry Data 7 (101 ∷ (255 ∷ (108 ∷ [])))))) 0 (Refused 38 75) ∷ (
    describes 0 (described 68 (body (entry Data 7 (101 ∷ (255 ∷ (108 ∷ [])))))) 0 (Refused 39 73) ∷ (
    -- 36, and the first one's own 37 before it
    describes 0 (set spoken 7 96 ++ chunk_bytes (chunk_of RDes (body (entry Data 7 eel)))) 0 (Refused 36 76) ∷ (
    describes 0 (set (described 48 []) 7 76 ++ chunk_bytes (chunk_of RDes (body (entry Data 7 eel)))) 0 (Refused 37 48) ∷ []))))))))))))))))))))))))

pub text-samples : All TextRowHolds texts
unfolding computed texts forms begins form_length char_length good_in good_length_of offset_of fills_from fills descs_from pair_among rdes.entries_fault rdes.chunk_fault
    of_type located_of rdes_verdict described_of tell_from_of told_of
text-samples =
    parts TextRowHolds 9 texts (refl, (refl, (refl, (refl, (refl, (refl, (refl, (refl, (refl, tt)))))))))
    (refl, (refl, (refl, (refl, (refl, (refl, (refl, (refl, (refl, (refl, (refl, (refl, (refl, (refl, (refl, (refl, tt))))))))))))))))
