-- The undo journal's records (01, The undo journal).
use Rattle.std.specs.Prelude.{ℕ, suc, ◌+◌, ◌-◌, List, [], ◌∷◌, ◌++◌, Bool, true, false, cond, ◌&&◌, ◌||◌, not, length, get_or, take, drop, eqb, leb, ltb}
use Rattle.blorb.specs.Bytes.{be32, rd32}
use Rattle.blorb.specs.Format.{Ref, Chunk, chunk_of, is_start}
use Rattle.blorb.specs.Queries.{start, place_at, find, shared, ref_at, chunk_at}
use Rattle.blorb.specs.Model.{Model, base}
use Rattle.edits.specs.Edit.{Edit, add, replace, remove, link, replaced, removed_entry, entered, inserted, link_place_of, linked}

-- "Each record: kind (1 byte), usage, number, index place from 0, start, type, m (4 bytes each), m data bytes"
pub record Rec : Type 0 where
  pub kind : ℕ
  pub usage : ℕ
  pub number : ℕ
  pub place : ℕ
  pub start : ℕ
  pub type : ℕ
  pub body : List ℕ

-- what stands before the trailer
unfoldable pub rec_body : Rec → List ℕ
rec_body r =
    r.kind ∷ (be32 r.usage ++ (be32 r.number ++ (be32 r.place ++ (be32 r.start ++ (be32 r.type ++ (be32 (length r.body) ++ r.body))))))

-- "then a trailer of 4 bytes that points back: the length of what precedes it in the record, 25 + m"
unfoldable pub rec_bytes : Rec → List ℕ
rec_bytes r = rec_body r ++ be32 (25 + length r.body)

-- "3 removed with its chunk (place, start in the old file, type, data); 4 removed entry only (place, start in the old file; type, m zero)"
unfoldable pub removal : Bool → Model → ℕ → ℕ → ℕ → Rec
removal true m u n i = record { kind = 4; usage = u; number = n; place = i; start = start m (ref_at m i).chunk; type = 0; body = [] }
removal false m u n i = record {
  kind = 3;
  usage = u;
  number = n;
  place = i;
  start = start m (ref_at m i).chunk;
  type = (chunk_at m (ref_at m i).chunk).type;
  body = (chunk_at m (ref_at m i).chunk).body;
}

-- "1 added (place the old count; start, type, m zero); 2 replaced (entry's place, chunk's start, old type, old data)"; "kind 5 (place, start in the new
-- file; type and m zero)" (02, P8)
unfoldable pub rec_of : Model → Edit → Rec
rec_of m (add u n t d) = record { kind = 1; usage = u; number = n; place = length m.refs; start = 0; type = 0; body = [] }
rec_of m (replace u n t d) =
    let i = find u n m.refs in
    let k = (ref_at m i).chunk in
    record { kind = 2; usage = u; number = n; place = i; start = start m k; type = (chunk_at m k).type; body = (chunk_at m k).body }
rec_of m (remove u n) = removal (shared m (find u n m.refs)) m u n (find u n m.refs)
rec_of m (link v o u n) =
    let k = (ref_at m (find v o m.refs)).chunk in
    record { kind = 5; usage = u; number = n; place = link_place_of k m.refs; start = start (linked m k u n) k; type = 0; body = [] }

-- reading the last record of j, a journal's first U bytes: its trailer first
unfoldable pub trailer : List ℕ → ℕ
trailer j = rd32 (drop (length j - 4) j)

unfoldable pub rec_in : List ℕ → Rec
rec_in s = record {
  kind = get_or s 0 0;
  usage = rd32 (drop 1 s);
  number = rd32 (drop 5 s);
  place = rd32 (drop 9 s);
  start = rd32 (drop 13 s);
  type = rd32 (drop 17 s);
  body = drop 25 s;
}

unfoldable pub last_body : List ℕ → List ℕ
last_body j = drop (length j - (4 + trailer j)) (take (length j - 4) j)

unfoldable pub last_rec : List ℕ → Rec
last_rec j = rec_in (last_body j)

-- the fields that the kind names zero
unfoldable pub zeros : Rec → Bool
zeros r =
    (not (eqb r.kind 1) || (eqb r.start 0 && eqb r.type 0 && eqb (length r.body) 0))
    && (not (eqb r.kind 4 || eqb r.kind 5) || (eqb r.type 0 && eqb (length r.body) 0))

-- "The last record is well formed if U is at least 29, its trailer lies between 25 and U − 4, m agrees, the kind is 1 to 4 and the fields
-- named zero are zero"; "a well-formed kind is now 1 to 5" (02, P8)
unfoldable pub well_formed : List ℕ → Bool
well_formed j =
    leb 29 (length j) && leb 25 (trailer j) && leb (trailer j) (length j - 4)
    && eqb (25 + rd32 (drop 21 (last_body j))) (trailer j)
    && leb 1 (last_rec j).kind && leb (last_rec j).kind 5 && zeros (last_rec j)

-- the entry has the record's pair
abbrev pub has_pair_of : Rec → Ref → Bool
has_pair_of r e = eqb e.usage r.usage && eqb e.number r.number

-- "kind 1, the last entry has that place, usage and number, and its chunk is last in the file and unshared"
unfoldable pub fits1 : Rec → Model → Bool
fits1 r m =
    eqb (length m.refs) (suc r.place) && has_pair_of r (ref_at m r.place)
    && eqb (suc (ref_at m r.place).chunk) (length m.chunks) && not (shared m r.place)

-- "kind 2, the entry at that place has that usage, number and start, and its chunk is unshared"
unfoldable pub fits2 : Rec → Model → Bool
fits2 r m =
    ltb r.place (length m.refs) && has_pair_of r (ref_at m r.place)
    && eqb (start m (ref_at m r.place).chunk) r.start && not (shared m r.place)

-- "kind 3, place is at most the count and start − 12 is a chunk's beginning behind the index, or the file's end". Under 12 the difference is 0,
-- which is neither.
unfoldable pub fits3 : Rec → Model → Bool
fits3 r m =
    leb r.place (length m.refs)
    && (is_start (r.start - 12) (base (length m.refs)) m.chunks || eqb (r.start - 12) (start m (length m.chunks)))

-- "kind 4, the same but start − 12 must be a chunk's beginning"
unfoldable pub fits4 : Rec → Model → Bool
fits4 r m = leb r.place (length m.refs) && is_start (r.start - 12) (base (length m.refs)) m.chunks

-- "the entry at that place has that usage, number and start and shares its chunk" (02, P8)
unfoldable pub fits5 : Rec → Model → Bool
fits5 r m =
    ltb r.place (length m.refs) && has_pair_of r (ref_at m r.place)
    && eqb (start m (ref_at m r.place).chunk) r.start && shared m r.place

abbrev pub by_kind {ℓ} : {A : Type ℓ} → ℕ → A → A → A → A → A → A
by_kind k a b c d e = cond (eqb k 1) a (cond (eqb k 2) b (cond (eqb k 3) c (cond (eqb k 4) d e)))

-- the record fits this file
unfoldable pub fits : Rec → Model → Bool
fits r m = by_kind r.kind (fits1 r m) (fits2 r m) (fits3 r m) (fits4 r m) (fits5 r m)

-- what the file holds after the undo: "both go"; "type and data go back"; "entry and chunk go in there"; "the entry goes in"
unfoldable pub undo1 : Model → Model
undo1 m = record { refs = take (length m.refs - 1) m.refs; chunks = take (length m.chunks - 1) m.chunks }

abbrev pub old_chunk : Rec → Chunk
old_chunk r = chunk_of r.type r.body

abbrev pub old_place : Rec → Model → ℕ
old_place r m = place_at m (r.start - 12)

unfoldable pub undo2 : Rec → Model → Model
undo2 r m = replaced m (ref_at m r.place).chunk (old_chunk r)

unfoldable pub undo3 : Rec → Model → Model
undo3 r m = inserted m r.place (old_place r m) r.usage r.number (old_chunk r)

unfoldable pub undo4 : Rec → Model → Model
undo4 r m = entered m r.place (old_place r m) r.usage r.number

-- "undo drops it" (02, P8)
unfoldable pub undo5 : Rec → Model → Model
undo5 r m = removed_entry m r.place

unfoldable pub undone : Rec → Model → Model
undone r m = by_kind r.kind (undo1 m) (undo2 r m) (undo3 r m) (undo4 r m) (undo5 r m)
