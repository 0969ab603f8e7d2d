-- What was put in reads back: what a file holds for a pair (usage, number), as the reader's own lookup tells it, and what an edit makes of that.
use Rattle.std.specs.Prelude.{◌≡◌, ℕ, List, length, take, Result, Ok}
use Rattle.blorb.specs.Tags.{FORM}
use Rattle.reader.specs.Reading.{lookup_of, part_of}
use Rattle.reader.specs.declared.Resource.{Resource}
use Rattle.blorb.specs.declared.refusal.Refusal.{Refusal}
use Rattle.blorb.specs.Refusals.{Refused}
use Rattle.blorb.specs.All.{All}
use Rattle.blorb.specs.Bytes.{Byte}
use Rattle.blorb.specs.Rules.{rules_of}
use Rattle.edits.specs.Edit.{Edit, add, replace, remove, link}
use Rattle.edits.specs.Run.{State, Call, step}

-- what a pair has: nothing, or a type and data
pub data Content : Type 0 where
  nothing : Content
  holds : ℕ → List ℕ → Content

-- "A lookup gives the chunk's type and the part of the caller's slice that is its data" (01, Found resources), of type 'FORM' the whole chunk without
-- padding (02, P3): both, for the answer of reader::lookup and the part that reader::data gives; a refused lookup gives nothing
abbrev pub content_by : Result Resource Refusal → List ℕ → Content
content_by (Ok r) f = holds r.kind (part_of (Ok r) f)
content_by (Refused k p) f = nothing

-- what the file f holds for usage u and number n
unfoldable pub content_of : (profile : ℕ) → List ℕ → ℕ → ℕ → Content
content_of profile f u n = content_by (lookup_of profile f u n) f

-- "the editor's file is the first L bytes of a lent buffer" (01, What the shelf needs)
abbrev pub file_of : State → List ℕ
file_of s = take s.L s.buffer

-- the file after a call
abbrev pub file_after : (profile : ℕ) → State → Call → List ℕ
file_after profile s c = file_of (step (rules_of profile) s c)

-- the file f holds type t and data d for the pair: its lookup isn't refused, but finds type t and as many bytes as d has, and these bytes are d
pub record Holds (profile : ℕ) (f : List ℕ) (u n t : ℕ) (d : List ℕ) : Type 0 where
  pub start : ℕ
  pub found : lookup_of profile f u n ≡ Ok (record { kind = t; start = start; length = length d })
  pub content : content_of profile f u n ≡ holds t d

-- the data of type 'FORM' given to an edit are bytes; of other types nothing is asked
abbrev pub DataBytes : Edit → Type 0
DataBytes (add u n t d) = t ≡ FORM → All Byte d
DataBytes (replace u n t d) = t ≡ FORM → All Byte d
DataBytes (remove u n) = Unit {0}
DataBytes (link v o u n) = Unit {0}

-- the file f holds the same for both pairs, at the same place: the lookups give one type, start and length; and that is something
abbrev pub HoldsAlike : (profile : ℕ) → List ℕ → ℕ → ℕ → ℕ → ℕ → Type 0
HoldsAlike profile f u n v o = (lookup_of profile f u n ≡ lookup_of profile f v o) × (content_of profile f v o ≡ nothing → ⊥)

-- what an edit leaves for its own pair in the file f after it: the type and data that were given, exactly ("the chunk in the same
-- position takes the new type and data"), of a 'FORM' its head included ("take the whole file likewise", 02, P3), or no entry ("the entry goes";
-- "22 no such entry"), or what the original has ("a new entry on the chunk of an existing one", 02, P8)
abbrev pub OwnPair : (profile : ℕ) → Edit → List ℕ → Type 0
OwnPair profile (add u n t d) f = Holds profile f u n t d
OwnPair profile (replace u n t d) f = Holds profile f u n t d
OwnPair profile (remove u n) f = lookup_of profile f u n ≡ Refused 22 0
OwnPair profile (link v o u n) f = HoldsAlike profile f u n v o

-- two pairs that aren't the same: not both the usage and the number
abbrev pub Apart : ℕ → ℕ → ℕ → ℕ → Type 0
Apart u n v k = (u ≡ v) × (n ≡ k) → ⊥

-- the pair (v, k) isn't the edit's own
abbrev pub OtherPair : Edit → ℕ → ℕ → Type 0
OtherPair (add u n t d) v k = Apart u n v k
OtherPair (replace u n t d) v k = Apart u n v k
OtherPair (remove u n) v k = Apart u n v k
OtherPair (link w o u n) v k = Apart u n v k

-- the edit e has made the file g of the file f, as a reader of both sees it
pub record ReadsBack (profile : ℕ) (e : Edit) (f g : List ℕ) : Type 0 where
  -- its own pair has what was put in
  pub own : OwnPair profile e g
  -- "All other chunks keep their bytes and order" (01, The edits): every other pair has what it had, be it nothing
  pub others : (v k : ℕ) → OtherPair e v k → content_of profile g v k ≡ content_of profile f v k
