-- What the lister prints (01, Sizes and Sample files), byte for byte, and where it goes in a lent buffer. "The lister stays plain" (02, P12): profile 0.
use Rattle.std.specs.Prelude.{ℕ, ◌+◌, ◌*◌, List, [], ◌∷◌, ◌++◌, Bool, ◌||◌, cond, length, drop, leb, ltb, Result, Ok, Option, Some, None}
use Rattle.blorb.specs.Bytes.{be32}
use Rattle.blorb.specs.Format.{Entry}
use Rattle.reader.specs.Reading.{index_of, read_of, lookup_of}
use Rattle.blorb.specs.Refusals.{Refused}
use Rattle.blorb.specs.declared.refusal.Refusal.{Refusal}
use Rattle.reader.specs.declared.Accepted.{Accepted}
use Rattle.reader.specs.declared.Resource.{Resource}
use Rattle.listing.specs.Text.{text, decimal}

-- `blorb 48 bytes 1 resources`
unfoldable pub head_line : ℕ → ℕ → List ℕ
head_line size count = text "blorb " ++ decimal size ++ text " bytes " ++ decimal count ++ text " resources\n"

-- `refused 7 at 47`
unfoldable pub refused_line : ℕ → ℕ → List ℕ
refused_line number place = text "refused " ++ decimal number ++ text " at " ++ decimal place ++ text "\n"

-- `Data 7 at 36 TEXT 3`: usage and type are printed as their four bytes, trailing space included
unfoldable pub entry_line : ℕ → ℕ → ℕ → ℕ → ℕ → List ℕ
entry_line usage number start type size =
    be32 usage ++ text " " ++ decimal number ++ text " at " ++ decimal start ++ text " " ++ be32 type ++ text " " ++ decimal size ++ text "\n"

-- an entry's line: type and length are what a lookup of its usage and number gives ("The lister prints the length of what a lookup gives", 02, P3),
-- the number after `at` is the entry's start. An accepted file's entries are all found (reader/proofs/Promises, entry_at).
abbrev pub line_by : Entry → Result Resource Refusal → List ℕ
line_by e (Ok r) = entry_line e.usage e.number e.start r.kind r.length
line_by e (Refused number place) = []

-- entries come in index order
unfoldable pub lines_of : List ℕ → List Entry → List ℕ
lines_of f [] = []
lines_of f (e ∷ es) = line_by e (lookup_of 0 f e.usage e.number) ++ lines_of f es

-- the listing of the file f that the reader answers so
abbrev pub listing_by : List ℕ → Result Accepted Refusal → List ℕ
listing_by f (Ok a) = head_line a.length a.count ++ lines_of f (index_of f)
listing_by f (Refused number place) = refused_line number place

unfoldable pub listing_of : List ℕ → List ℕ
listing_of f = listing_by f (read_of 0 f)

-- "The lister reads standard input into 65,536 bytes; longer input prints as refusal 1 at 0." f is what was read, and the input is `longer` if more
-- follows.
unfoldable pub input_reading : List ℕ → Bool → Result Accepted Refusal
input_reading f longer = cond (longer || ltb 65536 (length f)) (Refused 1 0) (read_of 0 f)

unfoldable pub input_listing : List ℕ → Bool → List ℕ
input_listing f longer = listing_by f (input_reading f longer)

-- the bytes that a buffer must have: 64 for the first line and 48 for each entry's, which is enough for every listing (proofs/Sense, listing_fits)
abbrev pub room_by : Result Accepted Refusal → ℕ
room_by (Ok a) = 64 + 48 * a.count
room_by (Refused number place) = 64

unfoldable pub room_for : List ℕ → ℕ
room_for f = room_by (read_of 0 f)

unfoldable pub input_room : List ℕ → Bool → ℕ
input_room f longer = room_by (input_reading f longer)

-- the answer to a buffer of n bytes, for a listing that asks for so much room: its length, if there is that room
unfoldable pub listed_in : ℕ → ℕ → List ℕ → Option ℕ
listed_in n room listing = cond (leb room n) (Some (length listing)) None

-- the buffer afterwards: the listing, then its own bytes; where there is no room it is as it was
abbrev pub out_by : Option ℕ → List ℕ → List ℕ → List ℕ
out_by (Some n) listing out = listing ++ drop n out
out_by None listing out = out
