-- Samples of 02's P13, two editors, in one table: two replacements in either order, what does not hold where the request's conditions are left out,
-- and the length after a run.
use mathlib.Core.Path.{refl}
use Prim.Native.Nat.{ℕ}
use mathlib.Core.List.{List, [], ◌∷◌, ◌++◌}
use lib.ListN.{take, drop, set, replicate}
use Rattle.blorb.specs.Bytes.{be32}
use Rattle.blorb.specs.Tags.{FORM, Pict, Snd, Data, Rect, PNG, TEXT, BINA}
use Rattle.blorb.specs.All.{All}
use Rattle.blorb.specs.Verdict.{accept, refuse}
use Rattle.edits.specs.Edit.{add, replace, remove, link}
use Rattle.edits.specs.Run.{State, Call, edit, undo, ledger_file, ledger_used, ledger_fault, ledger_after, ledger_step, ledger_run}
use Rattle.blorb.specs.Rules.{rules_of}
use Rattle.edits.specs.TwoEditors.{BothOrders, padded, grows, falls, grown, shrunk}
use Rattle.samples.specs.Files.{blank, A, B, without_eel, binary, eel, sides, added_eel, added_rect, removed_eel, replaced_eel, two_names, entry, text, aiff}
use Rattle.samples.specs.Rows.{Row, runs, measures, RowHolds}
use Rattle.samples.proofs.Table.{computed}

-- the two corrections: Data 7 gets nine bytes for its three, Pict 1 none for its eight
abbrev nine : List ℕ
nine = sides ++ (9 ∷ [])

abbrev longer : Call
longer = edit (replace Data 7 TEXT nine)

abbrev shorter : Call
shorter = edit (replace Pict 1 PNG [])

-- from B in a buffer of 86 bytes
abbrev start : State
start = record { buffer = B ++ replicate 10 9; L = 76; journal = replicate 80 7; U = 0 }

-- B with both of them: 74 bytes; and with the second alone: 68
abbrev both : List ℕ
both = set (take 24 B) 7 66 ++ (entry Data 7 48 ++ (entry Pict 1 66 ++ (be32 TEXT ++ (be32 9 ++ (nine ++ (0 ∷ (be32 PNG ++ be32 0)))))))

abbrev one : List ℕ
one = set (take 24 B) 7 60 ++ (entry Data 7 48 ++ (entry Pict 1 60 ++ (text ++ (be32 PNG ++ be32 0))))

-- the record of the second, whose entry is at place i and whose chunk starts at s
abbrev kept_rect : ℕ → ℕ → List ℕ
kept_rect i s = 2 ∷ (be32 Pict ++ (be32 1 ++ (be32 i ++ (be32 s ++ (be32 Rect ++ (be32 8 ++ (sides ++ be32 33)))))))

-- B without Data 7, and with the second correction: 44 bytes
abbrev picture_only : List ℕ
picture_only = set (take 24 without_eel) 7 36 ++ (entry Pict 1 36 ++ (be32 PNG ++ be32 0))

-- Data 8 alone, a 'BINA' with no data: 44 bytes
abbrev binary_only : List ℕ
binary_only = set (take 24 A) 7 36 ++ (entry Data 8 36 ++ (be32 BINA ++ be32 0))

-- the record of the removal of the shared Data 7 from two_names
abbrev dropped_name : List ℕ
dropped_name = 4 ∷ (be32 Data ++ (be32 7 ++ (be32 0 ++ (be32 48 ++ (be32 0 ++ (be32 0 ++ be32 25))))))

-- B with the picture first
abbrev picture_first : List ℕ
picture_first = take 24 B ++ (entry Pict 1 48 ++ (entry Data 7 64 ++ (drop 60 B ++ text)))

unfoldable pub table : List Row
table =
    -- both corrections in either order, all four calls succeed: the first 74 bytes are the same, the bytes behind them and the journals are not
    runs 0 start (longer ∷ (shorter ∷ []))
    (record { result = accept; L = 82; U = 32 } ∷ (record { result = accept; L = 74; U = 69 } ∷ []))
    (record { buffer = both ++ (replicate 8 0 ++ replicate 4 9); L = 74; journal = replaced_eel ++ (kept_rect 1 66 ++ replicate 11 7); U = 69 }) ∷ (
    runs 0 start (shorter ∷ (longer ∷ []))
    (record { result = accept; L = 68; U = 37 } ∷ (record { result = accept; L = 74; U = 69 } ∷ []))
    (record { buffer = both ++ (replicate 2 0 ++ replicate 10 9); L = 74; journal = kept_rect 1 60 ++ (replaced_eel ++ replicate 11 7); U = 69 }) ∷ (
    -- a call refused: in 80 bytes the one order finds no room for its first call, and the other goes through
    runs 0 (record { buffer = B ++ replicate 4 9; L = 76; journal = replicate 80 7; U = 0 }) (longer ∷ (shorter ∷ []))
    (record { result = refuse 24 0; L = 76; U = 0 } ∷ (record { result = accept; L = 68; U = 37 } ∷ []))
    (record { buffer = one ++ (replicate 8 0 ++ replicate 4 9); L = 68; journal = kept_rect 1 60 ++ replicate 43 7; U = 37 }) ∷ (
    runs 0 (record { buffer = B ++ replicate 4 9; L = 76; journal = replicate 80 7; U = 0 }) (shorter ∷ (longer ∷ []))
    (record { result = accept; L = 68; U = 37 } ∷ (record { result = accept; L = 74; U = 69 } ∷ []))
    (record { buffer = both ++ (replicate 2 0 ++ replicate 4 9); L = 74; journal = kept_rect 1 60 ++ (replaced_eel ++ replicate 11 7); U = 69 }) ∷ (
    -- the same resource twice, all four succeed: the later wins
    runs 0 start
    (edit (replace Data 7 BINA []) ∷ (edit (replace Data 7 TEXT eel) ∷ []))
    (record { result = accept; L = 72; U = 32 } ∷ (record { result = accept; L = 76; U = 61 } ∷ []))
    (record {
      buffer = B ++ replicate 10 9;
      L = 76;
      journal = replaced_eel ++ (take 17 replaced_eel ++ (be32 BINA ++ (be32 0 ++ (be32 25 ++ replicate 19 7))));
      U = 61;
    }) ∷ (
    runs 0 start
    (edit (replace Data 7 TEXT eel) ∷ (edit (replace Data 7 BINA []) ∷ []))
    (record { result = accept; L = 76; U = 32 } ∷ (record { result = accept; L = 72; U = 64 } ∷ []))
    (record { buffer = binary ++ (replicate 4 0 ++ replicate 10 9); L = 72; journal = replaced_eel ++ (replaced_eel ++ replicate 16 7); U = 64 }) ∷ (
    -- a removal and a replacement of different resources
    runs 0 (record { buffer = B; L = 76; journal = replicate 69 7; U = 0 }) (edit (remove Data 7) ∷ (shorter ∷ []))
    (record { result = accept; L = 52; U = 32 } ∷ (record { result = accept; L = 44; U = 69 } ∷ []))
    (record { buffer = picture_only ++ replicate 32 0; L = 44; journal = removed_eel ++ kept_rect 0 36; U = 69 }) ∷ (
    runs 0 (record { buffer = B; L = 76; journal = replicate 69 7; U = 0 }) (shorter ∷ (edit (remove Data 7) ∷ []))
    (record { result = accept; L = 68; U = 37 } ∷ (record { result = accept; L = 44; U = 69 } ∷ []))
    (record { buffer = picture_only ++ replicate 32 0; L = 44; journal = kept_rect 1 60 ++ removed_eel; U = 69 }) ∷ (
    -- two names of one chunk: it cannot be replaced before one of them is gone (23)
    runs 0 (record { buffer = two_names; L = 60; journal = replicate 61 7; U = 0 }) (edit (replace Data 8 BINA []) ∷ (edit (remove Data 7) ∷ []))
    (record { result = refuse 23 0; L = 60; U = 0 } ∷ (record { result = accept; L = 48; U = 29 } ∷ []))
    (record { buffer = set A 31 8 ++ replicate 12 0; L = 48; journal = dropped_name ++ replicate 32 7; U = 29 }) ∷ (
    runs 0 (record { buffer = two_names; L = 60; journal = replicate 61 7; U = 0 }) (edit (remove Data 7) ∷ (edit (replace Data 8 BINA []) ∷ []))
    (record { result = accept; L = 48; U = 29 } ∷ (record { result = accept; L = 44; U = 61 } ∷ []))
    (record { buffer = binary_only ++ replicate 16 0; L = 44; journal = dropped_name ++ set (set replaced_eel 8 8) 16 36; U = 61 }) ∷ (
    -- two adds, where the order is that of the file
    runs 0 (record { buffer = blank ++ replicate 52 9; L = 24; journal = replicate 58 7; U = 0 })
    (edit (add Data 7 TEXT eel) ∷ (edit (add Pict 1 Rect sides) ∷ []))
    (record { result = accept; L = 48; U = 29 } ∷ (record { result = accept; L = 76; U = 58 } ∷ []))
    (record { buffer = B; L = 76; journal = added_eel ++ added_rect; U = 58 }) ∷ (
    runs 0 (record { buffer = blank ++ replicate 52 9; L = 24; journal = replicate 58 7; U = 0 })
    (edit (add Pict 1 Rect sides) ∷ (edit (add Data 7 TEXT eel) ∷ []))
    (record { result = accept; L = 52; U = 29 } ∷ (record { result = accept; L = 76; U = 58 } ∷ []))
    (record { buffer = picture_first; L = 76; journal = set added_rect 12 0 ++ set added_eel 12 1; U = 58 }) ∷ (
    -- the length after a run. A whole AIFF of 13 bytes, of which the chunk holds 5: 26; a link: 12; nine bytes for three: 10 less 4; a shared entry
    -- removed: less 12; an add that is refused (116), and one that is undone; the nine bytes removed: less 12, 8 and 10
    measures 0 (record { buffer = B ++ replicate 64 9; L = 76; journal = replicate 200 7; U = 0 })
    (edit (add Snd 3 FORM aiff)
    ∷ (edit (link Pict 1 Pict 2)
    ∷ (longer
    ∷ (edit (remove Pict 1)
    ∷ (edit (add Data 7 TEXT eel)
    ∷ (edit (add Data 9 TEXT eel)
    ∷ (undo
    ∷ (edit (remove Data 7)
    ∷ []))))))))
    (remove Data 7 ∷ (remove Pict 1 ∷ (replace Data 7 TEXT nine ∷ (link Pict 1 Pict 2 ∷ (add Snd 3 FORM aiff ∷ []))))) 48 46 78 ∷ (
    -- everything undone
    measures 0 start (longer ∷ (shorter ∷ (undo ∷ (undo ∷ (undo ∷ []))))) [] 0 0 76 ∷ (
    -- What the length needs of a run's start. With a record of before in the journal the undo takes back an edit that is in no list. With L past the
    -- buffer every call is refused (20), where the ledger knows of the buffer's bytes alone.
    measures 0 (record { buffer = A; L = 48; journal = added_eel; U = 29 }) (undo ∷ []) [] 0 0 24 ∷ (
    measures 0 (record { buffer = A; L = 50; journal = replicate 40 7; U = 0 }) (edit (remove Data 7) ∷ []) (remove Data 7 ∷ []) 0 24 50
    ∷ [])))))))))))))))

pub samples : All RowHolds table
unfolding computed table padded grows falls grown shrunk ledger_file ledger_used ledger_fault ledger_after ledger_step ledger_run
samples = (
  (refl, refl),
  (
    (refl, refl),
    (
      (refl, refl),
      (
        (refl, refl),
        (
          (refl, refl),
          (
            (refl, refl),
            (
              (refl, refl),
              (
                (refl, refl),
                (
                  (refl, refl),
                  (
                    (refl, refl),
                    (
                      (refl, refl),
                      ((refl, refl), ((refl, refl, refl, refl), ((refl, refl, refl, refl), ((refl, refl, refl, refl), ((refl, refl, refl, refl), tt))))),
                    ),
                  ),
                ),
              ),
            ),
          ),
        ),
      ),
    ),
  ),
)

-- what the first two rows start from meets the conditions of 02's sentence
pub conditions : BothOrders (rules_of 0) start longer shorter
unfolding computed
conditions = record { a_first = refl; then_b = refl; b_first = refl; then_a = refl }
