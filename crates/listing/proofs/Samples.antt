-- 01's sample files, one of 02's P3 and one of its P12: what the lister prints of them, computed.
use mathlib.Core.Path.{◌≡◌, refl}
use Prim.Native.Nat.{ℕ}
use mathlib.Core.List.{List, [], ◌∷◌, ◌++◌}
use lib.ListN.{set}
use Rattle.blorb.specs.Bytes.{be32, rd32}
use Rattle.blorb.specs.Format.{
  ref_of,
  Chunk,
  size,
  sized,
  total,
  chunk_bytes,
  chunks_bytes,
  file_bytes,
  chunk_in,
  chunks_in,
  chunks_of,
  entry_from,
  entries_in,
  entry_bytes,
  entries_bytes,
  index_chunk,
  entries_of,
  is_start,
  place_of,
}
use Rattle.blorb.specs.Lookup.{left_out_of}
use Rattle.blorb.specs.Tags.{tag, FORM, Pict, Snd, Data, Rect, GIF}
use Rattle.blorb.specs.Verdict.{
  head_fault,
  ◌then◌,
  check,
  verdict,
  reading,
  chunk_fault,
  walk_fault,
  second_index,
  index_fault,
  ref_fault,
  entries_fault,
  rest_fault,
  layout_fault,
  pair_in,
  last_place,
}
use Rattle.blorb.specs.Rules.{plain_allows_of, allows, adrift_allows_of, optional, profile_verdict, one_of, picture, type_in, single, chunk_rule, chunk_rules}
use Rattle.reader.specs.Reading.{accepted_with, read_of, index_of, lookup_of}
use Rattle.index.specs.Hits.{hit_in}
use Rattle.listing.specs.Text.{text, decimal}
use Rattle.listing.specs.Listing.{head_line, refused_line, entry_line, lines_of, listing_of}

computed : ℕ
unfolding listing_of lines_of head_line refused_line entry_line decimal read_of index_of lookup_of left_out_of hit_in ref_of profile_verdict reading plain_allows_of
    adrift_allows_of allows optional one_of picture type_in single chunk_rule chunk_rules head_fault verdict ◌then◌ check chunk_fault walk_fault second_index index_fault
    ref_fault entries_fault rest_fault layout_fault pair_in last_place rd32 be32 chunks_of chunks_in chunk_in sized size total entries_of entries_in entry_from is_start
    place_of file_bytes chunk_bytes chunks_bytes index_chunk entries_bytes entry_bytes
computed = 0

eel : Chunk
eel = record { type = tag 84 69 88 84; body = text "eel" }

rect : Chunk
rect = record { type = Rect; body = be32 320 ++ be32 0 }

-- A: 48 bytes, start 36
A : List ℕ
A = file_bytes (index_chunk (record { usage = Data; number = 7; start = 36 } ∷ []) ∷ (eel ∷ []))

-- B: 76 bytes, starts 48 and 60
B : List ℕ
B = file_bytes (index_chunk (record { usage = Data; number = 7; start = 48 } ∷ (record { usage = Pict; number = 1; start = 60 } ∷ [])) ∷ (eel ∷ (rect ∷ [])))

-- "The lister given A on standard input prints exactly:"
lists-A : listing_of A ≡ text "blorb 48 bytes 1 resources\nData 7 at 36 TEXT 3\n"
unfolding computed A eel
lists-A = refl

-- "For a refused file it prints one line": A with padding byte 1
lists-refused : listing_of (set A 47 1) ≡ text "refused 7 at 47\n"
unfolding computed A eel
lists-refused = refl

lists-B : listing_of B ≡ text "blorb 76 bytes 2 resources\nData 7 at 48 TEXT 3\nPict 1 at 60 Rect 8\n"
unfolding computed B eel rect
lists-B = refl

lists-blank : listing_of (file_bytes (index_chunk [] ∷ [])) ≡ text "blorb 24 bytes 0 resources\n"
unfolding computed
lists-blank = refl

-- an AIFF of 13 bytes: "The lister prints the length of what a lookup gives" (02, P3); the number after `at` is the entry's start
aiff : Chunk
aiff = record { type = FORM; body = text "AIFFx" }

lists-aiff : listing_of (file_bytes (index_chunk (record { usage = Snd; number = 3; start = 36 } ∷ []) ∷ (aiff ∷ [])))
    ≡ text "blorb 50 bytes 1 resources\nSnd  3 at 36 FORM 13\n"
unfolding computed aiff
lists-aiff = refl

-- "plain keeps 01's types, and the lister stays plain" (02, P12): A with its data made a 'GIF ' picture, a file that ADRIFT accepts
gif : Chunk
gif = record { type = GIF; body = text "eel" }

G : List ℕ
G = file_bytes (index_chunk (record { usage = Pict; number = 7; start = 36 } ∷ []) ∷ (gif ∷ []))

lists_adrift : (listing_of G ≡ text "refused 14 at 24\n") × (read_of 1 G ≡ accepted_with 48 1)
unfolding computed G gif
lists_adrift = (refl, refl)
