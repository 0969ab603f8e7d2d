-- 01's sample files and records, byte by byte; and some of 02's, made of their parts.
use Rattle.std.specs.Prelude.{ℕ, List, [], ◌∷◌, ◌++◌, take, drop, set}
use Rattle.blorb.specs.Bytes.{be32}
use Rattle.blorb.specs.Tags.{FORM, IFRS, RIdx, Data, Pict, Snd, Fspc, GIF, AIFF}

-- 'FORM' 16 'IFRS' 'RIdx' 4 0
abbrev pub blank : List ℕ
blank = 70 ∷ (79 ∷ (82 ∷ (77 ∷
    (0 ∷ (0 ∷ (0 ∷ (16 ∷ (73 ∷ (70 ∷ (82 ∷ (83 ∷ (82 ∷ (73 ∷ (100 ∷ (120 ∷ (0 ∷ (0 ∷ (0 ∷ (4 ∷ (0 ∷ (0 ∷ (0 ∷ (0 ∷ [])))))))))))))))))))))))

-- A: 48 bytes, FORM length 40, index length 16, Data 7 at 36, 'TEXT' "eel"
abbrev pub A : List ℕ
A = 70 ∷ (79 ∷ (82 ∷ (77 ∷ (0 ∷
    (0 ∷ (0 ∷ (40 ∷ (73 ∷ (70 ∷ (82 ∷
    (83 ∷ (82 ∷ (73 ∷ (100 ∷ (120 ∷
    (0 ∷ (0 ∷ (0 ∷ (16 ∷ (0 ∷ (0 ∷
    (0 ∷ (1 ∷ (68 ∷ (97 ∷ (116 ∷ (97 ∷
    (0 ∷ (0 ∷ (0 ∷ (7 ∷ (0 ∷ (0 ∷ (0 ∷
    (36 ∷ (84 ∷ (69 ∷ (88 ∷ (84 ∷ (0 ∷ (0 ∷ (0 ∷ (3 ∷ (101 ∷ (101 ∷ (108 ∷ (0 ∷ [])))))))))))))))))))))))))))))))))))))))))))))))

-- B: 76 bytes, starts 48 and 60, Pict 1 a 'Rect' of 320 by 0
abbrev pub B : List ℕ
B = 70 ∷ (79 ∷ (82 ∷ (77 ∷ (0 ∷
    (0 ∷ (0 ∷ (68 ∷ (73 ∷ (70 ∷ (82 ∷
    (83 ∷ (82 ∷ (73 ∷ (100 ∷ (120 ∷
    (0 ∷ (0 ∷ (0 ∷ (28 ∷ (0 ∷ (0 ∷
    (0 ∷ (2 ∷ (68 ∷ (97 ∷ (116 ∷ (97 ∷
    (0 ∷ (0 ∷ (0 ∷ (7 ∷ (0 ∷ (0 ∷ (0 ∷
    (48 ∷ (80 ∷ (105 ∷ (99 ∷ (116 ∷
    (0 ∷ (0 ∷ (0 ∷ (1 ∷ (0 ∷ (0 ∷ (0 ∷
    (60 ∷ (84 ∷ (69 ∷ (88 ∷ (84 ∷ (0 ∷
    (0 ∷ (0 ∷ (3 ∷ (101 ∷ (101 ∷ (108 ∷
    (0 ∷ (82 ∷ (101 ∷ (99 ∷ (116 ∷
    (0 ∷ (0 ∷ (0 ∷ (8 ∷ (0 ∷ (0 ∷ (1 ∷ (64 ∷ (0 ∷ (0 ∷ (0 ∷ (0 ∷ [])))))))))))))))))))))))))))))))))))))))))))))))))))))))))))))))))))))))))))

-- B without Data 7: 52 bytes, Pict at 36
abbrev pub without_eel : List ℕ
without_eel = 70 ∷ (79 ∷ (82 ∷ (77 ∷
    (0 ∷ (0 ∷ (0 ∷ (44 ∷ (73 ∷ (70 ∷
    (82 ∷ (83 ∷ (82 ∷ (73 ∷ (100 ∷
    (120 ∷ (0 ∷ (0 ∷ (0 ∷ (16 ∷ (0 ∷
    (0 ∷ (0 ∷ (1 ∷ (80 ∷ (105 ∷ (99 ∷
    (116 ∷ (0 ∷ (0 ∷ (0 ∷ (1 ∷ (0 ∷
    (0 ∷ (0 ∷ (36 ∷ (82 ∷ (101 ∷ (99 ∷
    (116 ∷ (0 ∷ (0 ∷ (0 ∷ (8 ∷ (0 ∷ (0 ∷ (1 ∷ (64 ∷ (0 ∷ (0 ∷ (0 ∷ (0 ∷ [])))))))))))))))))))))))))))))))))))))))))))))))))))

-- B with Data 7 as 'BINA', no data: 72 bytes, Pict at 56
abbrev pub binary : List ℕ
binary = 70 ∷ (79 ∷ (82 ∷ (77 ∷
    (0 ∷ (0 ∷ (0 ∷ (64 ∷ (73 ∷ (70 ∷
    (82 ∷ (83 ∷ (82 ∷ (73 ∷ (100 ∷
    (120 ∷ (0 ∷ (0 ∷ (0 ∷ (28 ∷ (0 ∷
    (0 ∷ (0 ∷ (2 ∷ (68 ∷ (97 ∷ (116 ∷
    (97 ∷ (0 ∷ (0 ∷ (0 ∷ (7 ∷ (0 ∷
    (0 ∷ (0 ∷ (48 ∷ (80 ∷ (105 ∷ (99 ∷
    (116 ∷ (0 ∷ (0 ∷ (0 ∷ (1 ∷ (0 ∷
    (0 ∷ (0 ∷ (56 ∷ (66 ∷ (73 ∷ (78 ∷
    (65 ∷ (0 ∷ (0 ∷ (0 ∷ (0 ∷ (82 ∷
    (101 ∷ (99 ∷ (116 ∷ (0 ∷ (0 ∷ (0 ∷ (8 ∷ (0 ∷ (0 ∷ (1 ∷ (64 ∷ (0 ∷ (0 ∷ (0 ∷ (0 ∷ [])))))))))))))))))))))))))))))))))))))))))))))))))))))))))))))))))))))))

-- "eel"
abbrev pub eel : List ℕ
eel = 101 ∷ (101 ∷ (108 ∷ []))

-- 320 by 0
abbrev pub sides : List ℕ
sides = 0 ∷ (0 ∷ (1 ∷ (64 ∷ (0 ∷ (0 ∷ (0 ∷ (0 ∷ [])))))))

-- the record of A's add
abbrev pub added_eel : List ℕ
added_eel = 1 ∷ (68 ∷ (97 ∷ (116 ∷
    (97 ∷ (0 ∷ (0 ∷ (0 ∷ (7 ∷ (0 ∷
    (0 ∷ (0 ∷ (0 ∷ (0 ∷ (0 ∷ (0 ∷ (0 ∷ (0 ∷ (0 ∷ (0 ∷ (0 ∷ (0 ∷ (0 ∷ (0 ∷ (0 ∷ (0 ∷ (0 ∷ (0 ∷ (25 ∷ []))))))))))))))))))))))))))))

-- the record of B's add: 29 bytes, trailer 25
abbrev pub added_rect : List ℕ
added_rect = 1 ∷ (80 ∷ (105 ∷ (99 ∷
    (116 ∷ (0 ∷ (0 ∷ (0 ∷ (1 ∷ (0 ∷
    (0 ∷ (0 ∷ (1 ∷ (0 ∷ (0 ∷ (0 ∷ (0 ∷ (0 ∷ (0 ∷ (0 ∷ (0 ∷ (0 ∷ (0 ∷ (0 ∷ (0 ∷ (0 ∷ (0 ∷ (0 ∷ (25 ∷ []))))))))))))))))))))))))))))

-- the record of the removal of Data 7 from B
abbrev pub removed_eel : List ℕ
removed_eel = 3 ∷ (68 ∷ (97 ∷ (116 ∷
    (97 ∷ (0 ∷ (0 ∷ (0 ∷ (7 ∷ (0 ∷
    (0 ∷ (0 ∷ (0 ∷ (0 ∷ (0 ∷ (0 ∷ (48 ∷
    (84 ∷ (69 ∷ (88 ∷ (84 ∷ (0 ∷ (0 ∷ (0 ∷ (3 ∷ (101 ∷ (101 ∷ (108 ∷ (0 ∷ (0 ∷ (0 ∷ (28 ∷ [])))))))))))))))))))))))))))))))

-- the record of its replacement
abbrev pub replaced_eel : List ℕ
replaced_eel = 2 ∷ (68 ∷ (97 ∷ (116 ∷
    (97 ∷ (0 ∷ (0 ∷ (0 ∷ (7 ∷ (0 ∷
    (0 ∷ (0 ∷ (0 ∷ (0 ∷ (0 ∷ (0 ∷ (48 ∷
    (84 ∷ (69 ∷ (88 ∷ (84 ∷ (0 ∷ (0 ∷ (0 ∷ (3 ∷ (101 ∷ (101 ∷ (108 ∷ (0 ∷ (0 ∷ (0 ∷ (28 ∷ [])))))))))))))))))))))))))))))))

-- 02, P5. An entry, and B's 'TEXT' chunk of 12 bytes
abbrev pub entry : ℕ → ℕ → ℕ → List ℕ
entry u n s = be32 u ++ (be32 n ++ be32 s)

abbrev pub text : List ℕ
text = take 12 (drop 48 B)

-- B with its two entries turned
abbrev pub turned : List ℕ
turned = take 24 B ++ (take 12 (drop 36 B) ++ (take 12 (drop 24 B) ++ drop 48 B))

-- Data 7 and Data 8 on one start
abbrev pub two_names : List ℕ
two_names = set (take 24 B) 7 52 ++ (entry Data 7 48 ++ (entry Data 8 48 ++ text))

-- Data 7 on the second chunk, then Data 7 on the first one
abbrev pub same_twice : List ℕ
same_twice = set (take 24 B) 7 64 ++ (entry Data 7 60 ++ (entry Data 7 48 ++ (text ++ text)))

-- three entries: the second has a lower start than the first, the third an unknown usage
abbrev pub low_then_unknown : List ℕ
low_then_unknown = set (set (set (take 24 B) 7 76) 19 40) 23 3 ++ (entry Data 7 72 ++ (entry Data 8 60 ++ (entry 0 9 60 ++ (text ++ text))))

-- 02, P12. A with another usage and type: Pict 7 a 'GIF ', for one
abbrev pub kind_of : ℕ → ℕ → List ℕ
kind_of u t = take 24 A ++ (be32 u ++ (take 8 (drop 28 A) ++ (be32 t ++ drop 40 A)))

-- and with a frontispiece behind it, which names Pict 7
abbrev pub fronted : List ℕ
fronted = set (kind_of Pict GIF) 7 52 ++ (be32 Fspc ++ (be32 4 ++ be32 7))

-- 02, P3. A whole AIFF file of 13 bytes
abbrev pub aiff : List ℕ
aiff = be32 FORM ++ (be32 5 ++ (be32 AIFF ++ (120 ∷ [])))

-- the file that has it as Snd 3: 50 bytes, its chunk with a padding byte
abbrev pub sound : List ℕ
sound = be32 FORM ++ (be32 42 ++ (be32 IFRS ++ (be32 RIdx ++ (be32 16 ++ (be32 1 ++ (entry Snd 3 36 ++ (aiff ++ (0 ∷ []))))))))
