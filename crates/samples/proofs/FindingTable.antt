-- Samples of the finding table (02, P2 and P10), in one table under a single statement. For the rows on files, on searches and on turning, what the code
-- does follows by its contracts, which are equations with the definitions that these rows compute (build_of, check_of, search_of, turn_of). The rows on entries
-- alone compute the parts
-- of which those consist (written, compared) for an index that no sample file has.
use Rattle.std.specs.Prelude.{Ok, Result}
use Rattle.blorb.specs.declared.refusal.Refusal.{Refusal}
use Rattle.blorb.specs.Refusals.{Refused}
use mathlib.Core.Path.{refl}
use Prim.Native.Nat.{ℕ}
use mathlib.Core.List.{List, [], ◌∷◌, ◌++◌}
use lib.ListN.{take, set, replicate, drop}
use Rattle.blorb.specs.All.{All}
use Rattle.blorb.specs.Format.{Entry}
use Rattle.blorb.specs.Tags.{Pict, Snd, Data, GIF}
use Rattle.rows.specs.Rows.{listed, rows_of, columns_of, flat, flat_columns}
use Rattle.rows.specs.Order.{insert_row, sorted}
use Rattle.rows.specs.Halving.{halving}
use Rattle.table.specs.Answers.{table_of, build_of, turn_of, agree, check_of, search_of}
use Rattle.samples.specs.Files.{blank, A, B, without_eel, binary, kind_of}
use Rattle.samples.specs.TableRows.{TableRow, built_for, checked_for, builds, checks, searches, to_columns, to_rows, columns_for, columns_search, TableRowHolds}
use Rattle.samples.proofs.Table.{computed}
use Rattle.samples.proofs.Parts.{parts}

-- the index of a file with two pictures and a text, in chunk order
abbrev index : List Entry
index = record { usage = Pict; number = 9; start = 60 } ∷ (record { usage = Data; number = 7; start = 72 }
    ∷ (record { usage = Pict; number = 1; start = 84 } ∷ []))

-- its table: by usage ('Data' before 'Pict'), then number
abbrev good : List ℕ
good = Data ∷ (7 ∷ (72 ∷ (Pict ∷ (1 ∷ (84 ∷ (Pict ∷ (9 ∷ (60 ∷ []))))))))

-- the table of B
abbrev table_b : List ℕ
table_b = Data ∷ (7 ∷ (48 ∷ (Pict ∷ (1 ∷ (60 ∷ [])))))

-- both in three columns: all usages, all numbers, all starts
abbrev good_columns : List ℕ
good_columns = Data ∷ (Pict ∷ (Pict ∷ (7 ∷ (1 ∷ (9 ∷ (72 ∷ (84 ∷ (60 ∷ []))))))))

abbrev columns_b : List ℕ
columns_b = Data ∷ (Pict ∷ (7 ∷ (1 ∷ (48 ∷ (60 ∷ [])))))

unfoldable pub table_samples : List TableRow
table_samples =
    -- B's table, with room to spare, with just enough, with a number too few; A with padding byte 1; a file of no entries
    built_for 0 B (replicate 6 0 ++ (5 ∷ [])) (Ok 2) (table_b ++ (5 ∷ [])) ∷ (
    built_for 0 B (replicate 6 9) (Ok 2) table_b ∷ (
    built_for 0 B (replicate 5 9) (Refused 34 0) (replicate 5 9) ∷ (
    built_for 0 (set A 47 1) (replicate 6 9) (Refused 7 47) (replicate 6 9) ∷ (
    built_for 0 blank (5 ∷ []) (Ok 0) (5 ∷ []) ∷ (
    -- it is B's, and stale after the removal of Data 7, after a replacement that moves the second start, and for another file
    checked_for 0 B table_b (Ok tt) ∷ (
    checked_for 0 without_eel table_b (Refused 35 0) ∷ (
    checked_for 0 binary table_b (Refused 35 1) ∷ (
    checked_for 0 A (take 3 table_b) (Refused 35 0) ∷ (
    checked_for 0 blank table_b (Refused 35 0) ∷ (
    checked_for 0 (set A 47 1) table_b (Refused 7 47) ∷ (
    -- built in a slice with room to spare: what is behind the last row stays
    builds (0 ∷ (0 ∷ (0 ∷ (0 ∷ (0 ∷ (0 ∷ (0 ∷ (0 ∷ (0 ∷ (5 ∷ (6 ∷ []))))))))))) index (good ++ (5 ∷ (6 ∷ []))) ∷ (
    builds (5 ∷ []) [] (5 ∷ []) ∷ (
    checks good index (Ok tt) ∷ (
    checks [] [] (Ok tt) ∷ (
    -- a number more, a row too few, a partial row, nothing at all
    checks (good ++ (0 ∷ [])) index (Refused 35 3) ∷ (
    checks (take 6 good) index (Refused 35 2) ∷ (
    checks (take 8 good) index (Refused 35 2) ∷ (
    checks [] index (Refused 35 0) ∷ (
    checks (0 ∷ []) [] (Refused 35 0) ∷ (
    -- a start of last year, in the last row and in the second; the rows in the order of the index
    checks (set good 8 48) index (Refused 35 2) ∷ (
    checks (set good 5 72) index (Refused 35 1) ∷ (
    checks (flat index) index (Refused 35 0) ∷ (
    -- the middle row at the first look, the others at the second; a pair that is not there; no row at all; a partial row
    searches good Pict 1 (record { found = Ok 84; probes = 1 }) ∷ (
    searches good Data 7 (record { found = Ok 72; probes = 2 }) ∷ (
    searches good Pict 9 (record { found = Ok 60; probes = 2 }) ∷ (
    searches good Snd 1 (record { found = Refused 22 0; probes = 2 }) ∷ (
    searches [] Data 7 (record { found = Refused 22 0; probes = 0 }) ∷ (
    searches (take 2 good) Data 7 (record { found = Refused 22 0; probes = 0 }) ∷ (
    -- rows out of order may be missed
    searches (flat index) Pict 9 (record { found = Refused 22 0; probes = 2 }) ∷ (
    -- 02, P12: a 'GIF ' under Pict, as plain and under ADRIFT; an unknown profile
    built_for 0 (kind_of Pict GIF) (replicate 3 9) (Refused 14 24) (replicate 3 9) ∷ (
    built_for 1 (kind_of Pict GIF) (replicate 3 9) (Ok 1) (Pict ∷ (7 ∷ (36 ∷ []))) ∷ (
    built_for 2 B (replicate 5 9) (Refused 52 0) (replicate 5 9) ∷ (
    checked_for 0 (kind_of Pict GIF) (Pict ∷ (7 ∷ (36 ∷ []))) (Refused 14 24) ∷ (
    checked_for 1 (kind_of Pict GIF) (Pict ∷ (7 ∷ (36 ∷ []))) (Ok tt) ∷ (
    checked_for 1 B table_b (Ok tt) ∷ (
    checked_for 2 B table_b (Refused 52 0) ∷ (
    -- turned with room to spare, which stays, and with a number too few; a partial row is not carried
    to_columns good (replicate 11 5) (Ok 3) (good_columns ++ (5 ∷ (5 ∷ []))) ∷ (
    to_columns good (replicate 8 5) (Refused 34 0) (replicate 8 5) ∷ (
    to_columns (table_b ++ (8 ∷ (9 ∷ []))) (replicate 6 5) (Ok 2) columns_b ∷ (
    to_columns (1 ∷ (2 ∷ [])) [] (Ok 0) [] ∷ (
    -- and back
    to_rows good_columns (replicate 9 5) (Ok 3) good ∷ (
    to_rows good_columns (replicate 8 5) (Refused 34 0) (replicate 8 5) ∷ (
    to_rows (columns_b ++ (8 ∷ (9 ∷ []))) (replicate 7 5) (Ok 2) (table_b ++ (5 ∷ [])) ∷ (
    -- columns are B's, and not B's: its rows, a number more, a moved start, three rows for its two (the columns' length is the slice's), another file
    columns_for 0 B columns_b (Ok tt) ∷ (
    columns_for 0 B table_b (Refused 35 0) ∷ (
    columns_for 0 B (columns_b ++ (0 ∷ [])) (Refused 35 2) ∷ (
    columns_for 0 binary columns_b (Refused 35 1) ∷ (
    columns_for 0 B (Data ∷ (Pict ∷ (Snd ∷ (7 ∷ (1 ∷ (1 ∷ (48 ∷ (60 ∷ (72 ∷ []))))))))) (Refused 35 2) ∷ (
    columns_for 0 without_eel columns_b (Refused 35 0) ∷ (
    columns_for 0 (set A 47 1) columns_b (Refused 7 47) ∷ (
    columns_for 0 (kind_of Pict GIF) (Pict ∷ (7 ∷ (36 ∷ []))) (Refused 14 24) ∷ (
    columns_for 1 (kind_of Pict GIF) (Pict ∷ (7 ∷ (36 ∷ []))) (Ok tt) ∷ (
    columns_for 2 B columns_b (Refused 52 0) ∷ (
    -- the same answers and counts as in rows; no row at all
    columns_search good_columns Pict 1 (record { found = Ok 84; probes = 1 }) ∷ (
    columns_search good_columns Data 7 (record { found = Ok 72; probes = 2 }) ∷ (
    columns_search good_columns Snd 1 (record { found = Refused 22 0; probes = 2 }) ∷ (
    columns_search (take 2 good_columns) Data 7 (record { found = Refused 22 0; probes = 0 }) ∷ [])))))))))))))))))))))))))))))))))))))))))))))))))))))))))

pub table-samples : All TableRowHolds table_samples
unfolding computed table_samples table_of build_of turn_of check_of listed rows_of columns_of flat flat_columns insert_row sorted halving agree search_of
table-samples =
    parts TableRowHolds 8 table_samples ((refl, refl), ((refl, refl), ((refl, refl), ((refl, refl), ((refl, refl), (refl, (refl, (refl, tt))))))))
    (parts TableRowHolds 13 (drop 8 table_samples) (refl, (refl, (refl, (refl, (refl, (refl, (refl, (refl, (refl, (refl, (refl, (refl, (refl, tt)))))))))))))
    (parts TableRowHolds 11 (drop 21 table_samples) (refl, (refl, (refl, (refl, (refl, (refl, (refl, (refl, (refl, ((refl, refl), ((refl, refl), tt)))))))))))
    (parts TableRowHolds 8 (drop 32 table_samples) ((refl, refl), (refl, (refl, (refl, (refl, ((refl, refl), ((refl, refl), ((refl, refl), tt))))))))
    (parts TableRowHolds 9 (drop 40 table_samples) ((refl, refl), ((refl, refl), ((refl, refl), ((refl, refl), (refl, (refl, (refl, (refl, (refl, tt)))))))))
    (refl, (refl, (refl, (refl, (refl, (refl, (refl, (refl, (refl, tt)))))))))))))
