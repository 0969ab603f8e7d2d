-- The FORMs and faults that the chunks of an EA IFF 85 file show, in file order (02, P9).
use Rattle.std.specs.Prelude.{ℕ, zero, suc, ◌+◌, List, [], ◌∷◌, ◌++◌, Bool, true, false, length, drop, leb}
use Rattle.blorb.specs.Bytes.{rd32}
use Rattle.blorb.specs.Verdict.{Verdict, accept, refuse}
use Rattle.members.specs.declared.Kind.{Kind}
use Rattle.members.specs.declared.Kind.TheVariants.{Form, List as Lst, Cat, Prop, Plain}
use Rattle.members.specs.declared.Place.{Place}
use Rattle.members.specs.declared.Place.TheVariants.{InForm, ListHead, InGroup, InProp}
use Rattle.members.specs.Kinds.{behind}
use Rattle.members.specs.Faults.{kind_at, size_at, end_at, next_at, member_fault_of}

-- what a walk over chunks shows: a FORM (form type, start, length field, depth), or a fault
pub data Event : Type 0 where
  form : ℕ → ℕ → ℕ → ℕ → Event
  fault : ℕ → ℕ → Event

-- A chunk's own event, then those of its members: "a level more in each FORM, group or PROP". Nothing in a
-- faulty chunk is looked at; what stands behind it does not count, since the first fault decides.
-- inner p e a: the events of the members from a to e, which stand at p
abbrev pub chunk_by : Verdict → Kind → List ℕ → ℕ → ℕ → (Place → ℕ → ℕ → List Event) → List Event
chunk_by (refuse k q) kind f depth at inner = fault k q ∷ []
chunk_by accept Form f depth at inner = form (rd32 (drop (at + 8) f)) at (size_at f at) depth ∷ inner InForm (end_at f at) (at + 12)
chunk_by accept Lst f depth at inner = inner ListHead (end_at f at) (at + 12)
chunk_by accept Cat f depth at inner = inner InGroup (end_at f at) (at + 12)
chunk_by accept Prop f depth at inner = inner InProp (end_at f at) (at + 12)
chunk_by accept Plain f depth at inner = []

abbrev pub unless_end : Bool → (ℕ → List Event) → List Event
unless_end true k = []
unless_end false k = k 0

-- the events of the members from at to end, in file order; n bounds their number
unfoldable pub members_go : ℕ → List ℕ → Place → ℕ → ℕ → ℕ → List Event
members_go zero f p depth end at = []
members_go (suc n) f p depth end at =
    unless_end (leb end at)
    (λ z. chunk_by (member_fault_of f p depth end at) (kind_at f at) f depth at (λ q e a. members_go n f q (depth + 1) e a)
    ++ members_go n f (behind p (kind_at f at)) depth end (next_at f at))

unfoldable pub members : List ℕ → Place → ℕ → ℕ → ℕ → List Event
members f p depth end at = members_go (length f) f p depth end at

-- the events of one chunk and all that it holds
unfoldable pub chunk : List ℕ → Place → ℕ → ℕ → ℕ → List Event
chunk f p depth end at = chunk_by (member_fault_of f p depth end at) (kind_at f at) f depth at (λ q e a. members f q (depth + 1) e a)
