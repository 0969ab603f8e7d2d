-- Samples of 02's P3, whole 'FORM' files, in one table: what goes in comes out, and where 30 stands in the order.
use Rattle.reader.specs.Reading.{accepted_with, found_with}
use mathlib.Core.Path.{refl}
use Prim.Native.Nat.{ℕ}
use mathlib.Core.List.{List, [], ◌∷◌, ◌++◌}
use lib.ListN.{take, drop, set}
use Rattle.blorb.specs.Bytes.{be32}
use Rattle.blorb.specs.Tags.{FORM, Pict, Snd, Data, MOD}
use Rattle.blorb.specs.All.{All}
use Rattle.edits.specs.Edit.{add, replace, remove}
use Rattle.samples.specs.Files.{blank, A, eel, added_eel, two_names, entry, aiff, sound}
use Rattle.samples.specs.Rows.{Row, reads, looks, edits, refuses, undoes, RowHolds}
use Rattle.samples.proofs.Table.{computed}

-- the record of the add of Snd 3, and one of kind k that keeps an AIFF chunk's data, 5 bytes without the head
abbrev added_sound : List ℕ
added_sound = 1 ∷ (be32 Snd ++ (be32 3 ++ drop 9 added_eel))

abbrev kept_sound : ℕ → List ℕ
kept_sound k = k ∷ (be32 Snd ++ (be32 3 ++ (be32 0 ++ (be32 36 ++ (be32 FORM ++ (be32 5 ++ (drop 8 aiff ++ be32 30)))))))

-- A's chunk as a 'MOD ' under Snd 3
abbrev tune : List ℕ
tune = take 24 A ++ (entry Snd 3 36 ++ (be32 MOD ++ drop 40 A))

unfoldable pub table : List Row
table =
    -- an AIFF of 13 bytes goes in, and the same 13 come out; its chunk has 5 data bytes and a padding byte
    edits 0 blank (add Snd 3 FORM aiff) sound added_sound ∷ (
    reads 0 sound (accepted_with 50 1) ∷ (
    looks 0 sound Snd 3 (found_with FORM 36 13) aiff ∷ (
    -- records keep the data only
    edits 0 sound (replace Snd 3 MOD eel) tune (kept_sound 2) ∷ (
    undoes 0 tune (kept_sound 2) sound ∷ (
    edits 0 sound (remove Snd 3) blank (kept_sound 3) ∷ (
    undoes 0 blank (kept_sound 3) sound ∷ (
    looks 0 tune Snd 3 (found_with MOD 44 3) eel ∷ (
    -- 7 bytes; 8 good bytes
    refuses 0 blank (add Snd 3 FORM (take 7 aiff)) 30 0 ∷ (
    refuses 0 blank (add Snd 3 FORM (be32 FORM ++ be32 0)) 114 24 ∷ (
    -- the head is judged by the type alone: a picture of type 'FORM' with a bad head and with a good one
    refuses 0 blank (add Pict 3 FORM (set aiff 0 102)) 30 0 ∷ (
    refuses 0 blank (add Pict 3 FORM aiff) 114 24 ∷ (
    -- the data without its head, a length one too large, and the padding byte still on
    refuses 0 blank (add Snd 3 FORM (drop 8 aiff ++ aiff)) 30 0 ∷ (
    refuses 0 blank (add Snd 3 FORM (set aiff 7 6)) 30 0 ∷ (
    refuses 0 blank (add Snd 3 FORM (aiff ++ (0 ∷ []))) 30 0 ∷ (
    -- after 22 and 23, before 100 + k
    refuses 0 A (replace Data 8 FORM (set aiff 0 102)) 22 0 ∷ (
    refuses 0 two_names (replace Data 7 FORM (set aiff 0 102)) 23 0 ∷ (
    refuses 0 A (replace Data 7 FORM (set aiff 0 102)) 30 0 ∷ (
    refuses 0 A (replace Data 7 FORM aiff) 114 24 ∷ []))))))))))))))))))

pub samples : All RowHolds table
unfolding computed table
samples = (
  (refl, refl, refl),
  (
    refl,
    (
      (refl, refl),
      (
        (refl, refl, refl),
        (
          (refl, refl),
          (
            (refl, refl, refl),
            (
              (refl, refl),
              (
                (refl, refl),
                (
                  refl,
                  (
                    refl,
                    (refl, (refl, (refl, (refl, (refl, (refl, (refl, (refl, (refl, tt))))))))),
                  ),
                ),
              ),
            ),
          ),
        ),
      ),
    ),
  ),
)
