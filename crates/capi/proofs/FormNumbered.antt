-- `refusal` is 0 exactly where a call on a group file was carried out: 1, 22 and 41 to 45 are none of them 0.
use Rattle.std.specs.Prelude.{Result, Ok}
use Rattle.blorb.specs.declared.refusal.Refusal.{Refusal}
use Rattle.blorb.specs.Refusals.{Refused}
use Rattle.groups.specs.declared.part.Picked.{Picked}
use Rattle.capi.specs.TableNumbers.{build_numbers_of}
use mathlib.Core.Path.{◌≡◌, refl}
use Prim.Native.Nat.{ℕ, zero, suc, ◌+◌, ◌*◌, ◌<◌}
use mathlib.Core.List.{List, [], ◌∷◌, ◌++◌}
use mathlib.Core.Bool.{Bool, true, false}
use native.Mathlib.Omega.{arith}
use lib.ListN.{length}
use lib.Dec.{leb, ltb}
use Rattle.blorb.specs.Verdict.{Verdict, accept, refuse}
use Rattle.members.specs.declared.Kind.{Kind}
use Rattle.members.specs.declared.Kind.TheVariants.{Form, List as Lst, Cat, Prop, Plain}
use Rattle.members.specs.declared.Place.{Place}
use Rattle.members.specs.declared.Place.TheVariants.{Top, InForm, ListHead, InGroup, InProp}
use Rattle.members.specs.Kinds.{behind}
use Rattle.members.specs.Faults.{kind_at, end_at, next_at, member_fault_of}
use Rattle.groups.specs.Events.{Event, form, fault, chunk_by, unless_end, members_go, members, chunk}
use Rattle.groups.specs.Files.{first_fault, events_of, forms_of, file_fault, pick_listing, listed_by, list_of, pick_picking, picked_by, pick_of}
use Rattle.capi.specs.Numbered.{Numbered}
use Rattle.capi.specs.FormNumbers.{pick_numbers_of}
use Rattle.capi.proofs.Numbered.{positive, one, both, more}

-- events whose faults have a number from 1 on
unfoldable Told : List Event → Type 0
Told [] = Unit {0}
Told (form t a m d ∷ es) = Told es
Told (fault k p ∷ es) = (0 < k) × Told es

told_none : Told []
unfolding Told
told_none = tt

told-append : (xs ys : List Event) → Told xs → Told ys → Told (xs ++ ys)
unfolding Told
told-append [] ys x y = y
told-append (form t a m d ∷ xs) ys x y = told-append xs ys x y
told-append (fault k p ∷ xs) ys x y = (x.0, told-append xs ys x.1 y)

member : (f : List ℕ) (p : Place) (d end at : ℕ) → Numbered (member_fault_of f p d end at)
unfolding member_fault_of
member f p d end at = more _ _ _ _ (omega arith) (more _ _ _ _ (omega arith) (more _ _ _ _ (omega arith) (one _ _ _ (omega arith))))

told-chunk : (v : Verdict) (k : Kind) (f : List ℕ) (d at : ℕ) (I : Place → ℕ → ℕ → List Event) → Numbered v
    → ((q : Place) (e a : ℕ) → Told (I q e a)) → Told (chunk_by v k f d at I)
unfolding Told
told-chunk (refuse n q) k f d at I h i = (positive n q h, tt)
told-chunk accept Form f d at I h i = i InForm (end_at f at) (at + 12)
told-chunk accept Lst f d at I h i = i ListHead (end_at f at) (at + 12)
told-chunk accept Cat f d at I h i = i InGroup (end_at f at) (at + 12)
told-chunk accept Prop f d at I h i = i InProp (end_at f at) (at + 12)
told-chunk accept Plain f d at I h i = tt

told_unless : (b : Bool) (x : List Event) → Told x → Told (unless_end b (λ z. x))
told_unless true x h = told_none
told_unless false x h = h

told-members : (n : ℕ) (f : List ℕ) (p : Place) (d end at : ℕ) → Told (members_go n f p d end at)
unfolding members_go
told-members zero f p d end at = told_none
told-members (suc n) f p d end at =
    told_unless (leb end at) _
    (told-append _ _
    (told-chunk (member_fault_of f p d end at) (kind_at f at) f d at _ (member f p d end at) (λ q e a. told-members n f q (d + 1) e a))
    (told-members n f (behind p (kind_at f at)) d end (next_at f at)))

told-first : (es : List Event) → Told es → Numbered (first_fault es)
unfolding Told first_fault Numbered
told-first [] h = tt
told-first (form t a m d ∷ es) h = told-first es h
told-first (fault k p ∷ es) h = h.0

-- no refusal of a group file has the number 0
file : (f : List ℕ) → Numbered (file_fault f)
unfolding file_fault chunk members
file f =
    more _ _ _ _ (omega arith) (both _ _ (told-first (events_of f)
    (told-chunk (member_fault_of f Top 1 (length f) 0) (kind_at f 0) f 1 0 _ (member f Top 1 (length f) 0)
    (λ q e a. told-members (length f) f q (1 + 1) e a)))
    (one _ _ _ (omega arith)))

-- a list whose `refusal` is 0 has written the rows
pub zero-listed : (f : List ℕ) (room : ℕ) → (build_numbers_of (list_of f room)).refusal ≡ 0 → (n : ℕ) × (list_of f room ≡ Ok n)
unfolding list_of
zero-listed f room e = go (file_fault f) (file f) e
  where
    room_for : (b : Bool) (n : ℕ) → (build_numbers_of (pick_listing b (Ok n) (Refused 45 0))).refusal ≡ 0
        → (m : ℕ) × (pick_listing b (Ok n) (Refused 45 0) ≡ Ok m)
    room_for true n e = (n, refl)
    room_for false n e = absurd (omega (arith, e))

    go : (v : Verdict) → Numbered v → (build_numbers_of (listed_by v (length (forms_of f)) room)).refusal ≡ 0
        → (n : ℕ) × (listed_by v (length (forms_of f)) room ≡ Ok n)
    go (refuse k p) h e = absurd (omega (arith, positive k p h, e))
    go accept h e = room_for (leb (4 * length (forms_of f)) room) (length (forms_of f)) e

abbrev picked : ℕ → ℕ → Result Picked Refusal
picked a n = Ok (record { start = a; length = n })

-- a pick whose `refusal` is 0 has found the FORM
pub zero-picked : (f : List ℕ) (i : ℕ) → (pick_numbers_of (pick_of f i)).refusal ≡ 0 → (a n : ℕ) × (pick_of f i ≡ picked a n)
unfolding pick_of
zero-picked f i e = go (file_fault f) (file f) e
  where
    there : (b : Bool) (a n : ℕ) → (pick_numbers_of (pick_picking b (picked a n) (Refused 22 0))).refusal ≡ 0
        → (x y : ℕ) × (pick_picking b (picked a n) (Refused 22 0) ≡ picked x y)
    there true a n e = (a, n, refl)
    there false a n e = absurd (omega (arith, e))

    go : (v : Verdict) → Numbered v → (pick_numbers_of (picked_by v (forms_of f) i)).refusal ≡ 0 → (a n : ℕ) × (picked_by v (forms_of f) i ≡ picked a n)
    go (refuse k p) h e = absurd (omega (arith, positive k p h, e))
    go accept h e = there (ltb i (length (forms_of f))) _ _ e
