-- A list and a file that meet all conditions of `written_back` together. The list has two texts over one slice, in another order than the index: "eel"
-- for a picture, the letter é for a data resource. Written, it stands behind the two chunks of an accepted file. All of it computes.
use Rattle.std.specs.Prelude.{Ok}
use mathlib.Core.Path.{◌≡◌, refl}
use Prim.Native.Nat.{ℕ, zero, suc, ◌<◌}
use mathlib.Core.List.{List, [], ◌∷◌, ◌++◌}
use mathlib.Core.Bool.{true}
use native.Mathlib.Omega.{arith}
use lib.ListN.{length, take, drop, get_or, replicate}
use lib.Dec.{lit<}
use Rattle.blorb.specs.All.{All}
use Rattle.blorb.specs.Bytes.{be32, rd32}
use Rattle.blorb.specs.Sound.{W}
use Rattle.blorb.specs.Tags.{FORM, IFRS, RIdx, Data, Pict, TEXT, Rect}
use Rattle.blorb.specs.Format.{chunk_of, sized, size, chunk_bytes, chunk_in, chunks_in, chunks_of, entry_from, entries_in, entries_of, is_start, place_of, ref_of}
use Rattle.blorb.specs.Verdict.{◌then◌, check, head_fault, chunk_fault, walk_fault, second_index, index_fault, pair_in, last_place, ref_fault, entries_fault}
use Rattle.blorb.specs.Verdict.{rest_fault, layout_fault, verdict, reading}
use Rattle.blorb.specs.Rules.{one_of, plain_allows_of, allows, picture, type_in, single, chunk_rule, chunk_rules, optional, profile_verdict}
use Rattle.blorb.specs.Model.{base, start_of, entry_of, model_of_chunks, model}
use Rattle.utf8.specs.Utf8.{forms, begins, form_length, char_length, good_in, good_length_of}
use Rattle.rdes.specs.Rdes.{RDes, entries_bytes, body_of, pair_among}
use Rattle.locate.specs.Located.{of_type, located_of}
use Rattle.locate.specs.declared.Located.TheVariants as located
use Rattle.describing.specs.List.{usage_of, number_of, row_at, rows_from, count_of}
use Rattle.describing.specs.Writing.{repeated, text_good_of, row_fault, rows_fault, write_fault, writing_of, written_of}
use Rattle.described.specs.ReadsBack.{Tells, ReadsBack}
use Rattle.described.proofs.FileBack.{written_back}

-- the list: usage, number, place and length of each text
abbrev texts : List ℕ
texts = 101 ∷ (101 ∷ (108 ∷ (195 ∷ (169 ∷ []))))

abbrev rows : List ℕ
rows = Pict ∷ (1 ∷ (0 ∷ (3 ∷ (Data ∷ (7 ∷ (3 ∷ (2 ∷ [])))))))

-- what the writer leaves in a buffer of 50 bytes: the 42 of the chunk, and the last 8 as they were
abbrev buffer : List ℕ
buffer = replicate 50 9

-- a file of 118 bytes: Data 7 at 48, Pict 1 at 60, and the chunk written, at 76
abbrev index : List ℕ
index = be32 2 ++ (be32 Data ++ (be32 7 ++ (be32 48 ++ (be32 Pict ++ (be32 1 ++ be32 60)))))

abbrev chunks : List ℕ
chunks = chunk_bytes (chunk_of RIdx index) ++ (chunk_bytes (chunk_of TEXT (take 3 texts)) ++ chunk_bytes (chunk_of Rect (replicate 8 0)))

abbrev file : List ℕ
file = be32 FORM ++ (be32 110 ++ (be32 IFRS ++ (chunks ++ take 42 (written_of rows texts buffer))))

-- what is unfolded to compute
format : ℕ
unfolding be32 rd32 sized size chunk_bytes chunk_in chunks_in chunks_of entry_from entries_in entries_of is_start place_of ref_of base start_of entry_of model_of_chunks model
format = 0

verdicts : ℕ
unfolding ◌then◌ check head_fault chunk_fault walk_fault second_index index_fault pair_in last_place ref_fault entries_fault rest_fault layout_fault verdict
    reading one_of plain_allows_of allows picture type_in single chunk_rule chunk_rules optional profile_verdict of_type located_of
verdicts = 0

writing : ℕ
unfolding forms begins form_length char_length good_in good_length_of entries_bytes body_of pair_among rows_from repeated text_good_of row_fault rows_fault write_fault
    writing_of written_of
writing = 0

-- numbers of 32 bits
small : (xs : List ℕ) → All (λ (x : ℕ). x < W) xs → (i : ℕ) → get_or xs i 0 < W
small [] h i = lit< tt
small (x ∷ xs) h zero = h.0
small (x ∷ xs) h (suc i) = small xs h.1 i

fit : All (λ (x : ℕ). x < W) rows
fit = (lit< tt, (lit< tt, (lit< tt, (lit< tt, (lit< tt, (lit< tt, (lit< tt, (lit< tt, tt))))))))

-- the writer takes the list; its chunk is the one 'RDes' of the file, which is accepted
written : writing_of rows texts (length buffer) ≡ Ok 42
unfolding format verdicts writing
written = refl

one : located_of 0 file RDes ≡ Ok (located.One 76 33)
unfolding format verdicts writing
one = refl

same : take 42 (drop 76 file) ≡ take 42 (written_of rows texts buffer)
unfolding format verdicts writing
same = refl

-- both pairs are in the index
listed : (i : ℕ) → i < count_of rows → pair_in (usage_of rows i) (number_of rows i) (model file).refs ≡ true
unfolding format verdicts writing
listed zero h = refl
listed (suc zero) h = refl
listed (suc (suc i)) h = absurd (omega arith)

-- so the list reads back, by entry and by pair
pub instance : ReadsBack 0 file rows texts
instance = written_back rows texts buffer 42 (small rows fit) written 0 file 76 33 one same

pub both_told : (i : ℕ) → i < count_of rows → Tells 0 file (row_at rows texts i)
both_told i h = instance.pair i h (listed i h)
