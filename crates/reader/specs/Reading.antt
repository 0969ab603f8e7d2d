-- What the reader answers (01, Found resources), as functions of the profile (02, P12) and the file's bytes.
use Rattle.std.specs.Prelude.{ℕ, ◌+◌, ◌-◌, List, [], Bool, true, false, length, get_or, take, drop, ltb, Result, Ok, Option, Some, None}
use Rattle.blorb.specs.Format as format
use Rattle.blorb.specs.Format.{chunks_of, entries_of}
use Rattle.blorb.specs.Verdict.{Verdict, accept, refuse, no_chunk}
use Rattle.blorb.specs.Rules.{profile_verdict}
use Rattle.blorb.specs.Lookup.{left_out_of}
use Rattle.chunks.specs.Walk.{chunk_from}
use Rattle.blorb.specs.declared.Usage.{Usage}
use Rattle.blorb.specs.declared.Entry.{Entry}
use Rattle.blorb.specs.declared.refusal.Refusal.{Refusal}
use Rattle.blorb.specs.Refusals.{Refused}
use Rattle.blorb.specs.Usages.{usage_of}
use Rattle.index.specs.Entries.{place}
use Rattle.index.specs.Hits.{hit_in}
use Rattle.reader.specs.declared.Accepted.{Accepted}
use Rattle.reader.specs.declared.Resource.{Resource}

-- the entries of the file's index
unfoldable pub index_of : List ℕ → List format.Entry
index_of f = entries_of (get_or (chunks_of f) 0 no_chunk)

abbrev pub accepted_with : ℕ → ℕ → Result Accepted Refusal
accepted_with l n = Ok (record { length = l; count = n })

-- "For an accepted file the reader gives its length and entry count", else the verdict's number and place
abbrev pub read_by : Verdict → ℕ → ℕ → Result Accepted Refusal
read_by accept l n = accepted_with l n
read_by (refuse k p) l n = Refused k p

unfoldable pub read_of : (profile : ℕ) → List ℕ → Result Accepted Refusal
read_of profile f = read_by (profile_verdict profile f) (length f) (length (index_of f))

-- an entry with its usage as one of the four kinds; p is its place. The second clause is never met in an accepted file (Promises, entry-given).
abbrev pub given_by : Option Usage → ℕ → ℕ → ℕ → Result Entry Refusal
given_by (Some u) n x p = Ok (record { usage = u; number = n; start = x })
given_by None n x p = Refused 12 p

abbrev pub no_entry : format.Entry
no_entry = record { usage = 0; number = 0; start = 0 }

abbrev pub entry_by : Bool → format.Entry → ℕ → Result Entry Refusal
entry_by true e i = given_by (usage_of e.usage) e.number e.start (place i)
entry_by false e i = Refused 22 0

abbrev pub asked_by : Verdict → List format.Entry → ℕ → Result Entry Refusal
asked_by accept es i = entry_by (ltb i (length es)) (get_or es i no_entry) i
asked_by (refuse k p) es i = Refused k p

-- "Asked for entry i, it gives usage, number and start, or 22 if i isn't below the count, after its own refusals."
unfoldable pub asked_of : (profile : ℕ) → List ℕ → ℕ → Result Entry Refusal
asked_of profile f i = asked_by (profile_verdict profile f) (index_of f) i

abbrev pub found_with : ℕ → ℕ → ℕ → Result Resource Refusal
found_with t a m = Ok (record { kind = t; start = a; length = m })

-- what a lookup gives of the chunk c that begins at x: its type, and where the part begins and how long it is. "A lookup of type 'FORM' gives the
-- whole chunk, header included and padding not" (02, P3), of other types the data (01)
abbrev pub found_at : format.Chunk → ℕ → Result Resource Refusal
found_at c x = found_with c.type (x + left_out_of c.type) (8 + length c.body - left_out_of c.type)

abbrev pub found_by : List ℕ → Option ℕ → Result Resource Refusal
found_by f (Some x) = found_at (chunk_from f x) x
found_by f None = Refused 22 0

abbrev pub looked_by : Verdict → Result Resource Refusal → Result Resource Refusal
looked_by accept l = l
looked_by (refuse k p) l = Refused k p

-- "A lookup gives the chunk's type and the part of the caller's slice that is its data", or the whole chunk; "Lookup: reader's number, 22"
unfoldable pub lookup_of : (profile : ℕ) → List ℕ → ℕ → ℕ → Result Resource Refusal
lookup_of profile f u n = looked_by (profile_verdict profile f) (found_by f (hit_in u n (index_of f)))

-- "the part's call gives an empty part where the answer's call refuses, and otherwise exactly the part the answer names"
abbrev pub part_of : Result Resource Refusal → List ℕ → List ℕ
part_of (Ok r) f = take r.length (drop r.start f)
part_of (Refused k p) f = []

-- where that part begins in the caller's slice; the empty part of a refused call at its first byte
abbrev pub part_start : Result Resource Refusal → ℕ
part_start (Ok r) = r.start
part_start (Refused k p) = 0

-- where it lies in memory, for a slice that lies at p: a block and an offset in it
abbrev pub part_at : Result Resource Refusal → ℕ × ℕ → ℕ × ℕ
part_at l p = (p.0, part_start l + p.1)
