-- Samples of 02's P8, links, in one table: the place and record of a link, what it reads back, what it is refused for, and its undo.
use Rattle.std.specs.Prelude.{Ok}
use Rattle.reader.specs.Reading.{accepted_with, found_with}
use mathlib.Core.Path.{refl}
use Prim.Native.Nat.{ℕ}
use mathlib.Core.List.{List, [], ◌∷◌, ◌++◌}
use lib.ListN.{take, drop, set}
use Rattle.blorb.specs.Bytes.{be32}
use Rattle.blorb.specs.Tags.{Pict, Snd, Data, Exec, Rect, TEXT, GIF, ZCOD}
use Rattle.blorb.specs.declared.Usage.TheVariants as usage
use Rattle.blorb.specs.All.{All}
use Rattle.blorb.specs.Verdict.{refuse}
use Rattle.edits.specs.Edit.{replace, remove, link}
use Rattle.edits.specs.Run.{edit, undo}
use Rattle.samples.specs.Files.{A, B, eel, sides, entry, text, kind_of, fronted}
use Rattle.samples.specs.Rows.{Row, reads, asks, looks, edits, refuses, undoes, runs, RowHolds}
use Rattle.samples.proofs.Table.{computed}
use Rattle.samples.proofs.Parts.{parts}

-- B with Pict 2 on its picture: 88 bytes, starts 60, 72 and 72
abbrev two_pictures : List ℕ
two_pictures = set (set (set (take 24 B) 7 80) 19 40) 23 3 ++ (entry Data 7 60 ++ (entry Pict 1 72 ++ (entry Pict 2 72 ++ drop 48 B)))

-- a record without data: kind, usage, number, place, start
abbrev bare : ℕ → ℕ → ℕ → ℕ → ℕ → List ℕ
bare k u n i s = k ∷ (be32 u ++ (be32 n ++ (be32 i ++ (be32 s ++ (be32 0 ++ (be32 0 ++ be32 25))))))

-- the same with type 1, and with one byte of data
abbrev typed : List ℕ
typed = set (bare 5 Pict 2 2 72) 20 1

abbrev long : List ℕ
long = set (take 25 (bare 5 Pict 2 2 72)) 24 1 ++ (0 ∷ be32 26)

-- Data 7 and Data 8, each on a chunk of its own
abbrev two_texts : List ℕ
two_texts = set (take 24 B) 7 64 ++ (entry Data 7 48 ++ (entry Data 8 60 ++ (text ++ text)))

-- the same with Data 9 on the first of them
abbrev three_texts : List ℕ
three_texts = set (set (set (take 24 B) 7 76) 19 40) 23 3 ++ (entry Data 7 60 ++ (entry Data 9 60 ++ (entry Data 8 72 ++ (text ++ text))))

-- A's chunk as the game
abbrev game : List ℕ
game = take 24 A ++ (entry Exec 0 36 ++ (be32 ZCOD ++ drop 40 A))

-- the frontispiece's picture with a second name
abbrev two_fronts : List ℕ
two_fronts = set (set (set (take 24 fronted) 7 64) 19 28) 23 2 ++ (entry Pict 7 48 ++ (entry Pict 8 48 ++ drop 36 fronted))

unfoldable pub table : List Row
table =
    -- 02's own: place 2, start 72 in the new file
    edits 0 B (link Pict 1 Pict 2) two_pictures (bare 5 Pict 2 2 72) ∷ (
    reads 0 two_pictures (accepted_with 88 3) ∷ (
    asks 0 two_pictures 2 (Ok (record { usage = usage.Pict; number = 2; start = 72 })) ∷ (
    looks 0 two_pictures Pict 2 (found_with Rect 80 8) sides ∷ (
    looks 0 two_pictures Pict 1 (found_with Rect 80 8) sides ∷ (
    looks 0 two_pictures Data 7 (found_with TEXT 68 3) eel ∷ (
    undoes 0 two_pictures (bare 5 Pict 2 2 72) B ∷ (
    -- the chunk is shared now
    refuses 0 two_pictures (replace Pict 1 Rect sides) 23 0 ∷ (
    refuses 0 two_pictures (replace Pict 2 Rect sides) 23 0 ∷ (
    -- the original goes, the chunk stays; and back
    edits 0 two_pictures (remove Pict 1) (set B 43 2) (bare 4 Pict 1 1 72) ∷ (
    undoes 0 (set B 43 2) (bare 4 Pict 1 1 72) two_pictures ∷ (
    -- in the middle of the index
    edits 0 two_texts (link Data 7 Data 9) three_texts (bare 5 Data 9 1 60) ∷ (
    undoes 0 three_texts (bare 5 Data 9 1 60) two_texts ∷ (
    -- behind the run of entries on the chunk, whichever is the original
    refuses 0 two_pictures (link Pict 1 Pict 1) 116 60 ∷ (
    refuses 0 two_pictures (link Pict 2 Pict 1) 116 60 ∷ (
    -- a pair that is there already: the later of the two is the new entry, or the old one
    refuses 0 B (link Pict 1 Pict 1) 116 48 ∷ (
    refuses 0 two_texts (link Data 8 Data 7) 116 48 ∷ (
    refuses 0 two_texts (link Data 7 Data 8) 116 48 ∷ (
    refuses 0 two_texts (link Data 7 Data 7) 116 36 ∷ (
    -- a game under another number; under a usage whose types don't allow the chunk; under none
    refuses 0 game (link Exec 0 Exec 1) 115 40 ∷ (
    refuses 0 game (link Exec 0 Exec 0) 116 36 ∷ (
    refuses 0 B (link Data 7 Pict 2) 114 36 ∷ (
    refuses 0 B (link Pict 1 Snd 1) 114 48 ∷ (
    refuses 0 B (link Pict 1 0 2) 112 48 ∷ (
    -- no original comes first
    refuses 0 B (link Pict 2 Pict 1) 22 0 ∷ (
    refuses 0 B (link Data 1 0 1) 22 0 ∷ (
    -- under ADRIFT
    refuses 0 (kind_of Pict GIF) (link Pict 7 Pict 8) 14 24 ∷ (
    edits 1 fronted (link Pict 7 Pict 8) two_fronts (bare 5 Pict 8 1 48) ∷ (
    -- records that don't fit: type 1; m 1; an unshared chunk; the start of the old file; another place; the pair of the entry before
    runs 0 (record { buffer = two_pictures; L = 88; journal = typed; U = 29 }) (undo ∷ []) (record { result = refuse 21 0; L = 88; U = 29 } ∷ [])
    (record { buffer = two_pictures; L = 88; journal = typed; U = 29 }) ∷ (
    runs 0 (record { buffer = two_pictures; L = 88; journal = long; U = 30 }) (undo ∷ []) (record { result = refuse 21 0; L = 88; U = 30 } ∷ [])
    (record { buffer = two_pictures; L = 88; journal = long; U = 30 }) ∷ (
    runs 0 (record { buffer = B; L = 76; journal = bare 5 Pict 1 1 60; U = 29 }) (undo ∷ []) (record { result = refuse 21 0; L = 76; U = 29 } ∷ [])
    (record { buffer = B; L = 76; journal = bare 5 Pict 1 1 60; U = 29 }) ∷ (
    runs 0 (record { buffer = two_pictures; L = 88; journal = bare 5 Pict 2 2 60; U = 29 }) (undo ∷ []) (record { result = refuse 21 0; L = 88; U = 29 } ∷ [])
    (record { buffer = two_pictures; L = 88; journal = bare 5 Pict 2 2 60; U = 29 }) ∷ (
    runs 0 (record { buffer = two_pictures; L = 88; journal = bare 5 Pict 2 1 72; U = 29 }) (undo ∷ []) (record { result = refuse 21 0; L = 88; U = 29 } ∷ [])
    (record { buffer = two_pictures; L = 88; journal = bare 5 Pict 2 1 72; U = 29 }) ∷ (
    runs 0 (record { buffer = two_pictures; L = 88; journal = bare 5 Pict 1 2 72; U = 29 }) (undo ∷ []) (record { result = refuse 21 0; L = 88; U = 29 } ∷ [])
    (record { buffer = two_pictures; L = 88; journal = bare 5 Pict 1 2 72; U = 29 }) ∷ (
    -- the frontispiece's picture would go
    runs 1 (record { buffer = two_fronts; L = 72; journal = bare 5 Pict 7 0 48; U = 29 }) (undo ∷ []) (record { result = refuse 21 0; L = 72; U = 29 } ∷ [])
    (record { buffer = two_fronts; L = 72; journal = bare 5 Pict 7 0 48; U = 29 }) ∷ (
    undoes 1 two_fronts (bare 5 Pict 8 1 48) fronted ∷ (
    -- no room for the entry (24), then none for the record (25)
    runs 0 (record { buffer = B ++ eel; L = 76; journal = []; U = 0 }) (edit (link Pict 1 Pict 2) ∷ (edit (link Pict 1 Pict 1) ∷ []))
    (record { result = refuse 24 0; L = 76; U = 0 } ∷ (record { result = refuse 116 48; L = 76; U = 0 } ∷ []))
    (record { buffer = B ++ eel; L = 76; journal = []; U = 0 }) ∷ (
    runs 0 (record { buffer = B ++ (sides ++ sides); L = 76; journal = drop 1 (bare 5 Pict 2 2 72); U = 0 }) (edit (link Pict 1 Pict 2) ∷ [])
    (record { result = refuse 25 0; L = 76; U = 0 } ∷ [])
    (record { buffer = B ++ (sides ++ sides); L = 76; journal = drop 1 (bare 5 Pict 2 2 72); U = 0 }) ∷ [])))))))))))))))))))))))))))))))))))))

pub samples : All RowHolds table
unfolding computed table
samples =
    parts RowHolds 8 table ((refl, refl, refl), (refl, (refl, ((refl, refl), ((refl, refl), ((refl, refl), ((refl, refl), (refl, tt))))))))
    (parts RowHolds 8 (drop 8 table) (refl, ((refl, refl, refl), ((refl, refl), ((refl, refl, refl), ((refl, refl), (refl, (refl, (refl, tt))))))))
    (parts RowHolds 11 (drop 16 table) (refl, (refl, (refl, (refl, (refl, (refl, (refl, (refl, (refl, (refl, (refl, tt)))))))))))
    (parts RowHolds 6 (drop 27 table) ((refl, refl, refl), ((refl, refl), ((refl, refl), ((refl, refl), ((refl, refl), ((refl, refl), tt))))))
    ((refl, refl), ((refl, refl), ((refl, refl), ((refl, refl), ((refl, refl), tt))))))))
