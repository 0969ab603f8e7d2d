-- The samples of 01, and of 02's requests, proved in one table under a single statement. The rows marked with a star in 01 are all here, one of them as P1
-- has it; what the code does with these files follows by its contracts, which are equations with the definitions that the rows compute.
use Rattle.std.specs.Prelude.{Ok}
use Rattle.blorb.specs.Refusals.{Refused}
use Rattle.reader.specs.Reading.{accepted_with, found_with}
use mathlib.Core.Path.{refl}
use Prim.Native.Nat.{ℕ}
use mathlib.Core.List.{List, [], ◌∷◌, ◌++◌}
use lib.ListN.{take, drop, set, replicate}
use Rattle.blorb.specs.Bytes.{be32, rd32}
use Rattle.blorb.specs.Tags.{FORM, IFRS, Pict, Snd, Data, Rect, TEXT, BINA, OGGV, GIF, WAV, MIDI, MP3}
use Rattle.blorb.specs.declared.Usage.TheVariants as usage
use Rattle.blorb.specs.All.{All}
use Rattle.edits.specs.Edit.{add, replace, remove, with_at, lower, raise, added, replaced, removed_both, removed_entry, removed, edited, entered, inserted}
use Rattle.edits.specs.Edit.{held, is_whole}
use Rattle.edits.specs.Edit.{any_up_to, link_place_of, linked}
use Rattle.edits.specs.Blank.{blanked, blank_file}
use Rattle.blorb.specs.Verdict.{
  accept,
  refuse,
  ◌then◌,
  check,
  head_fault,
  chunk_fault,
  walk_fault,
  second_index,
  index_fault,
  pair_in,
  last_place,
  ref_fault,
  entries_fault,
  rest_fault,
  layout_fault,
  verdict,
  reading,
}
use Rattle.edits.specs.Run.{whole_fault}
use Rattle.edits.specs.Run.{
  edit,
  undo,
  target_fault,
  edited_file,
  edit_record,
  undone_file,
  edit_fault,
  undo_fault,
  written,
  noted,
  after_edit,
  after_undo,
  after,
  fault,
  step,
  run,
  answers,
}
use Rattle.samples.specs.Files.{
  blank,
  A,
  B,
  without_eel,
  binary,
  eel,
  sides,
  added_eel,
  added_rect,
  removed_eel,
  replaced_eel,
  turned,
  two_names,
  same_twice,
  low_then_unknown,
  kind_of,
  fronted,
}
use Rattle.samples.specs.Rows.{Row, reads, asks, looks, edits, undoes, blanks, runs, RowHolds}
use Rattle.blorb.specs.Format.{
  sized,
  size,
  chunk_bytes,
  chunks_bytes,
  total,
  file_bytes,
  chunk_in,
  chunks_in,
  chunks_of,
  entry_from,
  entries_in,
  entry_bytes,
  entries_bytes,
  index_chunk,
  entries_of,
  is_start,
  place_of,
  ref_of,
}
use Rattle.blorb.specs.Rules.{one_of, plain_allows_of, adrift_allows_of, allows, picture, type_in, single, chunk_rule, chunk_rules, optional, profile_verdict}
use Rattle.blorb.specs.Model.{base, start_of, entry_of, file, model_of_chunks, model}
use Rattle.blorb.specs.Queries.{without, find, uses, shared, start, front_place}
use Rattle.blorb.specs.Usages.{usage_of}
use Rattle.blorb.specs.Lookup.{left_out_of}
use Rattle.edits.specs.Journal.{
  rec_body,
  rec_bytes,
  removal,
  rec_of,
  trailer,
  rec_in,
  last_body,
  last_rec,
  zeros,
  well_formed,
  fits1,
  fits2,
  fits3,
  fits4,
  fits5,
  fits,
  undo1,
  undo2,
  undo3,
  undo4,
  undo5,
  undone,
}
use Rattle.reader.specs.Reading.{index_of, read_of, asked_of, lookup_of}
use Rattle.index.specs.Hits.{hit_in}
use Rattle.samples.proofs.Parts.{parts}

-- opens every definition that a row computes with: a definition opens what its own line names
unfoldable pub computed : ℕ
unfolding be32 rd32 sized size chunk_bytes chunks_bytes total file_bytes chunk_in chunks_in chunks_of entry_from entries_in entry_bytes entries_bytes index_chunk
    entries_of is_start place_of ref_of ◌then◌ check head_fault chunk_fault walk_fault second_index index_fault pair_in last_place ref_fault entries_fault rest_fault
    layout_fault verdict reading one_of plain_allows_of adrift_allows_of allows picture type_in single chunk_rule chunk_rules optional profile_verdict base start_of entry_of
    file model_of_chunks model without find uses shared start front_place usage_of with_at lower raise entered inserted any_up_to link_place_of linked added replaced
    removed_both removed_entry removed held edited rec_body rec_bytes removal rec_of trailer rec_in last_body last_rec zeros well_formed fits1 fits2 fits3 fits4 fits5
    fits undo1 undo2 undo3 undo4 undo5 undone left_out_of is_whole whole_fault target_fault edited_file edit_record undone_file edit_fault undo_fault index_of read_of
    asked_of hit_in lookup_of written noted after_edit after_undo after fault step run answers blanked blank_file
computed = 0

-- the record of the replacement of Snd 7, whose type was t and whose data "eel", in kind_of Snd t
abbrev record_of : ℕ → List ℕ
record_of t = take 1 replaced_eel ++ (be32 Snd ++ (take 8 (drop 5 replaced_eel) ++ (be32 36 ++ (be32 t ++ drop 21 replaced_eel))))

-- A less its last byte, FORM length 39
abbrev no_padding : List ℕ
no_padding = set (take 47 A) 7 39

unfoldable pub table : List Row
table =
    -- A: blank, then add Data 7 'TEXT' "eel"
    edits 0 blank (add Data 7 TEXT eel) A added_eel ∷ (
    reads 0 A (accepted_with 48 1) ∷ (
    -- B: A, then add Pict 1 'Rect' 320 by 0
    edits 0 A (add Pict 1 Rect sides) B added_rect ∷ (
    reads 0 B (accepted_with 76 2) ∷ (
    asks 0 B 0 (Ok (record { usage = usage.Data; number = 7; start = 48 })) ∷ (
    asks 0 B 1 (Ok (record { usage = usage.Pict; number = 1; start = 60 })) ∷ (
    -- undo gives A
    undoes 0 B (added_eel ++ added_rect) A ∷ (
    -- B without Data 7, and back
    edits 0 B (remove Data 7) without_eel removed_eel ∷ (
    reads 0 without_eel (accepted_with 52 1) ∷ (
    asks 0 without_eel 0 (Ok (record { usage = usage.Pict; number = 1; start = 36 })) ∷ (
    undoes 0 without_eel removed_eel B ∷ (
    -- B with Data 7 as 'BINA', no data, and back
    edits 0 B (replace Data 7 BINA []) binary replaced_eel ∷ (
    reads 0 binary (accepted_with 72 2) ∷ (
    asks 0 binary 1 (Ok (record { usage = usage.Pict; number = 1; start = 56 })) ∷ (
    undoes 0 binary replaced_eel B ∷ (
    -- 11 bytes; 'FORM' 4 'IFRS'; blank
    reads 0 (take 11 blank) (Refused 2 0) ∷ (
    reads 0 (be32 FORM ++ (be32 4 ++ be32 IFRS)) (Refused 8 12) ∷ (
    reads 0 blank (accepted_with 24 0) ∷ (
    -- A with padding byte 1
    reads 0 (set A 47 1) (Refused 7 47) ∷ (
    -- where a chunk broke off (02, P1). A less its last byte, FORM length 39
    reads 0 no_padding (Refused 29 47) ∷ (
    asks 0 no_padding 0 (Refused 29 47) ∷ (
    looks 0 no_padding Data 7 (Refused 29 47) [] ∷ (
    runs 0 (record { buffer = no_padding ++ replicate 50 9; L = 47; journal = replicate 60 7; U = 0 })
    (edit (add Pict 1 Rect sides) ∷ (edit (replace Data 7 TEXT eel) ∷ (edit (remove Data 7) ∷ (undo ∷ []))))
    (replicate 4 (record { result = refuse 29 47; L = 47; U = 0 }))
    (record { buffer = no_padding ++ replicate 50 9; L = 47; journal = replicate 60 7; U = 0 }) ∷ (
    -- A less two bytes, and with 7 bytes of its chunk's header
    reads 0 (set (take 46 A) 7 38) (Refused 28 40) ∷ (
    reads 0 (set (take 43 A) 7 35) (Refused 6 36) ∷ (
    -- A with length 5, and with 4,294,967,295
    reads 0 (set A 43 5) (Refused 28 40) ∷ (
    reads 0 (set (set (set (set A 40 255) 41 255) 42 255) 43 255) (Refused 28 40) ∷ (
    -- B and a byte: its first chunk's data ends just at the end, with length 21, or a byte behind it, with 22
    reads 0 (set (set (B ++ (0 ∷ [])) 7 69) 55 21) (Refused 29 77) ∷ (
    reads 0 (set (set (B ++ (0 ∷ [])) 7 69) 55 22) (Refused 28 52) ∷ (
    -- B with padding byte 1 in its first chunk and a length too large in its last
    reads 0 (set (set B 59 1) 67 9) (Refused 7 59) ∷ (
    -- A with start 37, or 12
    reads 0 (set A 35 37) (Refused 13 32) ∷ (
    reads 0 (set A 35 12) (Refused 13 32) ∷ (
    -- A with count 1,073,741,825 and index length 16
    reads 0 (set (set A 20 64) 23 1) (Refused 10 16) ∷ (
    -- an entry, and one too far
    asks 0 A 0 (Ok (record { usage = usage.Data; number = 7; start = 36 })) ∷ (
    asks 0 A 1 (Refused 22 0) ∷ (
    -- lookups
    looks 0 A Data 7 (found_with TEXT 44 3) eel ∷ (
    looks 0 B Pict 1 (found_with Rect 68 8) sides ∷ (
    looks 0 B Pict 7 (Refused 22 0) [] ∷ (
    -- a blank file in a buffer of 26 bytes, and in one of 23
    blanks (replicate 26 9) (blank ++ (9 ∷ (9 ∷ []))) ∷ (
    blanks (replicate 23 9) (replicate 23 9) ∷ (
    -- from blank in 50 bytes, journal of 60: an add, one that finds no room (24), an undo, one too many (26); the zeros that the undo leaves, and
    -- the bytes behind both ends
    runs 0 (record { buffer = blank ++ replicate 26 9; L = 24; journal = replicate 60 7; U = 0 })
    (edit (add Data 7 TEXT eel) ∷ (edit (add Pict 1 Rect sides) ∷ (undo ∷ (undo ∷ []))))
    (record { result = accept; L = 48; U = 29 } ∷ (record { result = refuse 24 0; L = 48; U = 29 } ∷ (record { result = accept; L = 24; U = 0 } ∷
    (record { result = refuse 26 0; L = 24; U = 0 } ∷ []))))
    (record { buffer = blank ++ (replicate 24 0 ++ (9 ∷ (9 ∷ []))); L = 24; journal = added_eel ++ replicate 31 7; U = 0 }) ∷ (
    -- 02, P5: B with its two entries turned; two entries on one start; 16 and 27 in one entry; entry 1 with 27 and entry 2 with 12
    reads 0 turned (Refused 27 44) ∷ (
    reads 0 two_names (accepted_with 60 2) ∷ (
    reads 0 same_twice (Refused 16 36) ∷ (
    reads 0 low_then_unknown (Refused 27 44) ∷ (
    -- the removal of Data 7 with place 1 in its record: its chunk would go in front of that of the entry before it
    runs 0 (record { buffer = without_eel; L = 52; journal = set removed_eel 12 1; U = 32 }) (undo ∷ []) (record { result = refuse 21 0; L = 52; U = 32 } ∷ [])
    (record { buffer = without_eel; L = 52; journal = set removed_eel 12 1; U = 32 }) ∷ (
    -- 02, P12. 'GIF ' under Pict: 14 as plain, accepted under ADRIFT; under Snd neither. 'WAV ', 'MIDI' and 'MP3 ' under Snd, and not under Pict
    reads 0 (kind_of Pict GIF) (Refused 14 24) ∷ (
    reads 1 (kind_of Pict GIF) (accepted_with 48 1) ∷ (
    asks 1 (kind_of Pict GIF) 0 (Ok (record { usage = usage.Pict; number = 7; start = 36 })) ∷ (
    looks 0 (kind_of Pict GIF) Pict 7 (Refused 14 24) [] ∷ (
    looks 1 (kind_of Pict GIF) Pict 7 (found_with GIF 44 3) eel ∷ (
    reads 1 (kind_of Snd GIF) (Refused 14 24) ∷ (
    reads 0 (kind_of Snd WAV) (Refused 14 24) ∷ (
    reads 1 (kind_of Snd WAV) (accepted_with 48 1) ∷ (
    reads 1 (kind_of Snd MIDI) (accepted_with 48 1) ∷ (
    reads 1 (kind_of Snd MP3) (accepted_with 48 1) ∷ (
    reads 1 (kind_of Pict WAV) (Refused 14 24) ∷ (
    reads 1 (kind_of Data GIF) (Refused 14 24) ∷ (
    -- a 'GIF ' as the frontispiece's picture
    reads 0 fronted (Refused 14 24) ∷ (
    reads 1 fronted (accepted_with 60 1) ∷ (
    -- what is plain answers the same under ADRIFT, refusals too
    reads 1 A (accepted_with 48 1) ∷ (
    looks 1 B Pict 1 (found_with Rect 68 8) sides ∷ (
    reads 1 no_padding (Refused 29 47) ∷ (
    reads 1 (take 11 blank) (Refused 2 0) ∷ (
    -- an unknown profile comes before all others: on 11 bytes, on A, and in a call with L past its buffer
    reads 2 (take 11 blank) (Refused 52 0) ∷ (
    reads 2 A (Refused 52 0) ∷ (
    reads 4294967295 A (Refused 52 0) ∷ (
    asks 2 A 1 (Refused 52 0) ∷ (
    looks 2 A Data 7 (Refused 52 0) [] ∷ (
    runs 2 (record { buffer = A; L = 49; journal = added_eel; U = 29 })
    (edit (add Pict 1 Rect sides) ∷ (edit (replace Data 7 TEXT eel) ∷ (edit (remove Data 7) ∷ (undo ∷ []))))
    (replicate 4 (record { result = refuse 52 0; L = 49; U = 29 }))
    (record { buffer = A; L = 49; journal = added_eel; U = 29 }) ∷ (
    runs 0 (record { buffer = A; L = 49; journal = added_eel; U = 29 }) (undo ∷ []) (record { result = refuse 20 0; L = 49; U = 29 } ∷ [])
    (record { buffer = A; L = 49; journal = added_eel; U = 29 }) ∷ (
    -- an added 'GIF ' is refused as plain
    edits 1 blank (add Pict 7 GIF eel) (kind_of Pict GIF) (set (set (set (set added_eel 1 80) 2 105) 3 99) 4 116) ∷ (
    runs 0 (record { buffer = blank ++ replicate 26 9; L = 24; journal = replicate 29 7; U = 0 }) (edit (add Pict 7 GIF eel) ∷ [])
    (record { result = refuse 114 24; L = 24; U = 0 } ∷ [])
    (record { buffer = blank ++ replicate 26 9; L = 24; journal = replicate 29 7; U = 0 }) ∷ (
    -- a 'WAV ' in the place of an 'OGGV', undone under ADRIFT and as plain: the present file is refused
    edits 1 (kind_of Snd OGGV) (replace Snd 7 WAV eel) (kind_of Snd WAV) (record_of OGGV) ∷ (
    undoes 1 (kind_of Snd WAV) (record_of OGGV) (kind_of Snd OGGV) ∷ (
    runs 0 (record { buffer = kind_of Snd WAV; L = 48; journal = record_of OGGV; U = 32 }) (undo ∷ []) (record { result = refuse 14 24; L = 48; U = 32 } ∷ [])
    (record { buffer = kind_of Snd WAV; L = 48; journal = record_of OGGV; U = 32 }) ∷ (
    -- an 'OGGV' in the place of a 'WAV ': the undo would bring the 'WAV ' back
    undoes 1 (kind_of Snd OGGV) (record_of WAV) (kind_of Snd WAV) ∷ (
    runs 0 (record { buffer = kind_of Snd OGGV; L = 48; journal = record_of WAV; U = 32 }) (undo ∷ []) (record { result = refuse 21 0; L = 48; U = 32 } ∷ [])
    (record { buffer = kind_of Snd OGGV; L = 48; journal = record_of WAV; U = 32 }) ∷
    [])))))))))))))))))))))))))))))))))))))))))))))))))))))))))))))))))))))))))))))

pub samples : All RowHolds table
unfolding computed table
samples =
    parts RowHolds 7 table ((refl, refl, refl), (refl, ((refl, refl, refl), (refl, (refl, (refl, ((refl, refl), tt)))))))
    (parts RowHolds 8 (drop 7 table) ((refl, refl, refl), (refl, (refl, ((refl, refl), ((refl, refl, refl), (refl, (refl, ((refl, refl), tt))))))))
    (parts RowHolds 11 (drop 15 table) (refl, (refl, (refl, (refl, (refl, (refl, ((refl, refl), ((refl, refl), (refl, (refl, (refl, tt)))))))))))
    (parts RowHolds 11 (drop 26 table) (refl, (refl, (refl, (refl, (refl, (refl, (refl, (refl, (refl, ((refl, refl), ((refl, refl), tt)))))))))))
    (parts RowHolds 10 (drop 37 table) ((refl, refl), (refl, (refl, ((refl, refl), (refl, (refl, (refl, (refl, ((refl, refl), (refl, tt))))))))))
    (parts RowHolds 11 (drop 47 table) (refl, (refl, ((refl, refl), ((refl, refl), (refl, (refl, (refl, (refl, (refl, (refl, (refl, tt)))))))))))
    (parts RowHolds 11 (drop 58 table) (refl, (refl, (refl, ((refl, refl), (refl, (refl, (refl, (refl, (refl, (refl, ((refl, refl), tt)))))))))))
    (parts RowHolds 6 (drop 69 table) ((refl, refl), ((refl, refl), ((refl, refl, refl), ((refl, refl), ((refl, refl, refl), ((refl, refl), tt))))))
    ((refl, refl), ((refl, refl), ((refl, refl), tt))))))))))
