-- The walk of the code, which counts FORMs and stores those rows that a slice has room for. It stands between the code and the definitions.
use Rattle.std.specs.Prelude.{ℕ, ◌+◌, List, [], ◌∷◌, Bool, true, false, length, drop, eqb, leb, Result, Ok}
use Rattle.blorb.specs.Verdict.{Verdict, accept, refuse}
use Rattle.blorb.specs.declared.refusal.Refusal.{Refusal}
use Rattle.blorb.specs.Refusals.{Refused, answer_by}
use Rattle.members.specs.Kinds.{behind}
use Rattle.blorb.specs.Bytes.{rd32}
use Rattle.members.specs.Faults.{kind_at, size_at, end_at, next_at, member_fault_of}
use Rattle.groups.specs.Events.{Event, form, fault, members}
use Rattle.groups.specs.Files.{first_fault, events_of}
use Rattle.groups.specs.Store.{store}
use Rattle.members.specs.declared.Kind.{Kind}
use Rattle.members.specs.declared.Kind.TheVariants.{Form, List as Lst, Cat, Prop, Plain}
use Rattle.members.specs.declared.Place.{Place}
use Rattle.members.specs.declared.Place.TheVariants.{InForm, ListHead, InGroup, InProp}
use Rattle.groups.specs.declared.readers.Member.{Member}
use Rattle.groups.specs.declared.readers.Member.TheVariants.{Form as OfForm, Group as OfGroup, Passed}

-- the number of rows so far and the slice, or the fault and the slice
pub data Outcome : Type 0 where
  good : ℕ → List ℕ → Outcome
  bad : ℕ → ℕ → List ℕ → Outcome

abbrev pub outcome : Result ℕ Refusal → List ℕ → Outcome
outcome (Ok n) rows = good n rows
outcome (Refused k p) rows = bad k p rows

-- what a reader leaves: the same, where the count stands beside the slice
abbrev pub left : {A : Type 0} → Result A Refusal → ℕ → List ℕ → Outcome
left (Ok x) n rows = good n rows
left (Refused k p) n rows = bad k p rows

unfoldable pub scan : ℕ → ℕ → List ℕ → List Event → Outcome
scan base n rows [] = good n rows
scan base n rows (form t a m d ∷ es) = scan base (n + 1) (store base n rows t a m d) es
scan base n rows (fault k p ∷ es) = bad k p rows

-- the FORM at at and all that it holds, at this depth
abbrev pub form_shows : List ℕ → ℕ → ℕ → ℕ → List Event
form_shows f depth end at = form (rd32 (drop (at + 8) f)) at (size_at f at) depth ∷ members f InForm (depth + 1) end (at + 12)

abbrev pub and_scan : Outcome → (ℕ → List ℕ → Outcome) → Outcome
and_scan (good n rows) k = k n rows
and_scan (bad k p rows) c = bad k p rows

-- one member, as the code takes it apart
abbrev pub member_by : Verdict → Kind → ℕ → ℕ → Place → Verdict → Result Member Refusal
member_by (refuse k p) kind close next after inside = Refused k p
member_by accept Form close next after inside = Ok (OfForm close next after)
member_by accept Lst close next after inside = Ok (OfGroup ListHead close next after)
member_by accept Cat close next after inside = Ok (OfGroup InGroup close next after)
member_by accept Prop close next after inside = answer_by inside (Passed next after)
member_by accept Plain close next after inside = Ok (Passed next after)

unfoldable pub member_at_of : List ℕ → Place → ℕ → ℕ → ℕ → Result Member Refusal
member_at_of f p depth end at =
    member_by (member_fault_of f p depth end at) (kind_at f at) (end_at f at) (next_at f at) (behind p (kind_at f at))
    (first_fault (members f InProp (depth + 1) (end_at f at) (at + 12)))

abbrev pub pick_outcome : Bool → Outcome → Outcome → Outcome
pick_outcome true a b = a
pick_outcome false a b = b

-- the whole file
unfoldable pub scan_file_of : ℕ → List ℕ → List ℕ → Outcome
scan_file_of base rows f =
    pick_outcome (leb (length f) 16777216)
    (and_scan (scan base 0 rows (events_of f)) (λ n r. pick_outcome (eqb (next_at f 0) (length f)) (good n r) (bad 43 (next_at f 0) r)))
    (bad 1 0 rows)
