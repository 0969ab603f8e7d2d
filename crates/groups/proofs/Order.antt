-- "The first in file order decides": the events of a file stand at rising places, so the first fault among them is the one with the lowest place,
-- and the FORMs are listed by rising start.
use Prim.Native.Nat.{ℕ, zero, suc, ◌+◌, ◌≤◌, ◌<◌}
use mathlib.Core.Path.{◌≡◌, refl, sym, ◌∙◌}
use mathlib.Core.List.{List, [], ◌∷◌, ◌++◌}
use mathlib.Core.Bool.{Bool, true, false}
use native.Mathlib.Omega.{arith}
use lib.ListN.{length}
use lib.Dec.{eqb, leb}
use borrow.Author.Tests.{leb-false, le-leb}
use Rattle.blorb.proofs.Checks.{pass}
use Rattle.blorb.specs.Verdict.{Verdict, accept, refuse, ◌then◌, check}
use Rattle.members.specs.declared.Kind.{Kind}
use Rattle.members.specs.declared.Kind.TheVariants.{Form, List as Lst, Cat, Prop, Plain}
use Rattle.members.specs.declared.Place.{Place}
use Rattle.members.specs.declared.Place.TheVariants.{Top, InForm, ListHead, InGroup, InProp}
use Rattle.members.specs.Kinds.{behind}
use Rattle.members.specs.Faults.{end_at, next_at, kind_at, member_fault_of}
use Rattle.groups.specs.Events.{Event, form, fault, chunk_by, unless_end, members_go, members, chunk}
use Rattle.groups.specs.Files.{first_fault, events_of, file_fault}
use Rattle.members.proofs.FaultLaws.{good-facts}

-- where an event stands: a FORM at its start, a fault at its place
abbrev pub place_of : Event → ℕ
place_of (form t a m d) = a
place_of (fault k p) = p

-- the places rise, from lo on and below hi
unfoldable pub Rising : ℕ → ℕ → List Event → Type 0
Rising lo hi [] = Unit {0}
Rising lo hi (e ∷ es) = (lo ≤ place_of e) × (place_of e < hi) × Rising (suc (place_of e)) hi es

rising-nil : (lo hi : ℕ) → Rising lo hi []
unfolding Rising
rising-nil lo hi = tt

rising-cons : (lo hi : ℕ) (e : Event) (es : List Event) → lo ≤ place_of e → place_of e < hi → Rising (suc (place_of e)) hi es → Rising lo hi (e ∷ es)
unfolding Rising
rising-cons lo hi e es a b c = (a, b, c)

rising-wide : (lo hi l h : ℕ) (es : List Event) → l ≤ lo → hi ≤ h → Rising lo hi es → Rising l h es
unfolding Rising
rising-wide lo hi l h [] a b r = tt
rising-wide lo hi l h (e ∷ es) a b r =
    (omega (arith, r.0), omega (arith, r.1), rising-wide (suc (place_of e)) hi (suc (place_of e)) h es (omega arith) b r.2)

rising-append : (lo mid hi : ℕ) (xs ys : List Event) → lo ≤ mid → mid ≤ hi → Rising lo mid xs → Rising mid hi ys → Rising lo hi (xs ++ ys)
unfolding Rising
rising-append lo mid hi [] ys a b x y = rising-wide mid hi lo hi ys a (omega arith) y
rising-append lo mid hi (e ∷ xs) ys a b x y =
    (x.0, omega (arith, x.1), rising-append (suc (place_of e)) mid hi xs ys x.1 b x.2 y)

-- a chunk's fault is at its start
check-at : (b : Bool) (n at k q : ℕ) (v : Verdict) → (v ≡ refuse k q → q ≡ at) → check b n at then v ≡ refuse k q → q ≡ at
unfolding check ◌then◌
check-at true n at k q v h e = h e
check-at false n at k q v h e = cc

last_at : (b : Bool) (n at k q : ℕ) → check b n at ≡ refuse k q → q ≡ at
unfolding check
last_at true n at k q e = let z : ◌≡◌ {A = ℕ} 0 1 = cc in absurd (omega arith)
last_at false n at k q e = cc

fault-at : (f : List ℕ) (p : Place) (d end at k q : ℕ) → member_fault_of f p d end at ≡ refuse k q → q ≡ at
unfolding member_fault_of
fault-at f p d end at k q e = check-at _ _ at k q _ (check-at _ _ at k q _ (check-at _ _ at k q _ (last_at _ _ at k q))) e

chunk-rising : (k : Kind) (f : List ℕ) (d at hi : ℕ) (I : Place → ℕ → ℕ → List Event) → end_at f at ≤ hi
    → ((q : Place) → Rising (at + 12) (end_at f at) (I q (end_at f at) (at + 12))) → Rising at hi (chunk_by accept k f d at I)
chunk-rising Form f d at hi I h r = rising-cons at hi _ _ (omega arith) (omega arith) (rising-wide _ _ _ _ _ (omega arith) h (r InForm))
chunk-rising Lst f d at hi I h r = rising-wide (at + 12) (end_at f at) at hi _ (omega arith) h (r ListHead)
chunk-rising Cat f d at hi I h r = rising-wide (at + 12) (end_at f at) at hi _ (omega arith) h (r InGroup)
chunk-rising Prop f d at hi I h r = rising-wide (at + 12) (end_at f at) at hi _ (omega arith) h (r InProp)
chunk-rising Plain f d at hi I h r = rising-nil at hi

step-rising : (v : Verdict) (k : Kind) (f : List ℕ) (d end at : ℕ) (I : Place → ℕ → ℕ → List Event) (rest : List Event)
    → ((n q : ℕ) → v ≡ refuse n q → q ≡ at) → (v ≡ accept → next_at f at ≤ end) → at < end
    → (v ≡ accept → (q : Place) → Rising (at + 12) (end_at f at) (I q (end_at f at) (at + 12))) → Rising (next_at f at) end rest
    → Rising at end (chunk_by v k f d at I ++ rest)
step-rising (refuse n q) k f d end at I rest a g l r s =
    let e : q ≡ at = a n q refl in
    rising-cons at end (fault n q) rest (omega arith) (omega arith) (rising-wide (next_at f at) end (suc q) end rest (omega arith) (omega arith) s)
step-rising accept k f d end at I rest a g l r s =
    rising-append at (next_at f at) end (chunk_by accept k f d at I) rest (omega arith) (g refl)
    (chunk-rising k f d at (next_at f at) I (omega arith) (r refl)) s

rising_unless : (b : Bool) (lo hi : ℕ) (x : List Event) → (b ≡ false → Rising lo hi x) → Rising lo hi (unless_end b (λ z. x))
rising_unless true lo hi x h = rising-nil lo hi
rising_unless false lo hi x h = h refl

rising_go : (n : ℕ) (f : List ℕ) (p : Place) (d end at : ℕ) → Rising at end (members_go n f p d end at)
unfolding members_go
rising_go zero f p d end at = rising-nil at end
rising_go (suc n) f p d end at =
    rising_unless (leb end at) at end _ (λ b.
    step-rising (member_fault_of f p d end at) (kind_at f at) f d end at _ _ (fault-at f p d end at)
    (λ v. (good-facts f p d end at v).next) (leb-false end at b)
    (λ v q. rising_go n f q (d + 1) (end_at f at) (at + 12)) (rising_go n f (behind p (kind_at f at)) d end (next_at f at)))

top-rising : (v : Verdict) (k : Kind) (f : List ℕ) (I : Place → ℕ → ℕ → List Event) → ((n q : ℕ) → v ≡ refuse n q → q ≡ 0)
    → ((q : Place) → Rising (0 + 12) (end_at f 0) (I q (end_at f 0) (0 + 12))) → Rising 0 (suc (next_at f 0)) (chunk_by v k f 1 0 I)
top-rising (refuse n q) k f I a r = let e : q ≡ 0 = a n q refl in rising-cons 0 _ (fault n q) [] (omega arith) (omega arith) (rising-nil _ _)
top-rising accept k f I a r = chunk-rising k f 1 0 (suc (next_at f 0)) I (omega arith) r

-- the events of a file stand in file order, none of them behind the top
pub file-rising : (f : List ℕ) → Rising 0 (suc (next_at f 0)) (events_of f)
unfolding chunk members
file-rising f =
    top-rising (member_fault_of f Top 1 (length f) 0) (kind_at f 0) f _ (fault-at f Top 1 (length f) 0)
    (λ q. rising_go (length f) f q (1 + 1) (end_at f 0) (0 + 12))

-- p is not behind any fault of these
unfoldable pub Lowest : ℕ → List Event → Type 0
Lowest p [] = Unit {0}
Lowest p (form t a m d ∷ es) = Lowest p es
Lowest p (fault k q ∷ es) = (p ≤ q) × Lowest p es

above : (p lo hi : ℕ) (es : List Event) → p ≤ lo → Rising lo hi es → Lowest p es
unfolding Rising Lowest
above p lo hi [] h r = tt
above p lo hi (form t a m d ∷ es) h r = above p (suc a) hi es (omega (arith, r.0)) r.2
above p lo hi (fault k q ∷ es) h r = (omega (arith, r.0), above p (suc q) hi es (omega (arith, r.0)) r.2)

first_lowest : (k p lo hi : ℕ) (es : List Event) → Rising lo hi es → first_fault es ≡ refuse k p → Lowest p es
unfolding Rising Lowest first_fault
first_lowest k p lo hi [] r e = tt
first_lowest k p lo hi (form t a m d ∷ es) r e = first_lowest k p (suc a) hi es r.2 e
first_lowest k p lo hi (fault j q ∷ es) r e = let z : q ≡ p = cc in (omega arith, above p (suc q) hi es (omega arith) r.2)

fault_below : (k p lo hi : ℕ) (es : List Event) → Rising lo hi es → first_fault es ≡ refuse k p → p < hi
unfolding Rising first_fault
fault_below k p lo hi [] r e = let z : ◌≡◌ {A = ℕ} 0 1 = cc in absurd (omega arith)
fault_below k p lo hi (form t a m d ∷ es) r e = fault_below k p (suc a) hi es r.2 e
fault_below k p lo hi (fault j q ∷ es) r e = let z : q ≡ p = cc in omega (arith, r.1)

fine_lowest : (p : ℕ) (es : List Event) → first_fault es ≡ accept → Lowest p es
unfolding Lowest first_fault
fine_lowest p [] e = tt
fine_lowest p (form t a m d ∷ es) e = fine_lowest p es e
fine_lowest p (fault j q ∷ es) e = let z : ◌≡◌ {A = ℕ} 0 1 = cc in absurd (omega arith)

-- "the first in file order decides": a file that isn't too long is refused at the lowest place of all faults, bytes after the top included
pub lowest_decides : (f : List ℕ) (k p : ℕ) → length f ≤ 16777216 → file_fault f ≡ refuse k p → Lowest p (events_of f) × (p ≤ next_at f 0)
unfolding file_fault ◌then◌
lowest_decides f k p short e = go (first_fault (events_of f)) refl (sym (pass _ _ _ _ (le-leb (length f) 16777216 short)) ∙ e)
  where
    go : (v : Verdict) → first_fault (events_of f) ≡ v → v then check (eqb (next_at f 0) (length f)) 43 (next_at f 0) ≡ refuse k p
        → Lowest p (events_of f) × (p ≤ next_at f 0)
    go accept q h = let z : p ≡ next_at f 0 = last_at _ _ (next_at f 0) k p h in (fine_lowest p (events_of f) q, omega arith)
    go (refuse j x) q h =
        let same : refuse j x ≡ refuse k p = h in
        let w = q ∙ same in
        let below = fault_below k p 0 (suc (next_at f 0)) (events_of f) (file-rising f) w in
        (first_lowest k p 0 (suc (next_at f 0)) (events_of f) (file-rising f) w, omega arith)
