-- Laws of a whole file: what the code's walk says of the verdict, the list of FORMs and one FORM.
use Prim.Native.Nat.{ℕ, zero, suc, ◌+◌, ◌*◌, ◌/◌, ◌≤◌, ◌<◌}
use mathlib.Core.Path.{◌≡◌, refl, ◌∙◌}
use mathlib.Core.List.{List, [], ◌∷◌, ◌++◌}
use mathlib.Core.Bool.{Bool, true, false}
use native.Mathlib.Omega.{arith}
use native.Mathlib.Nat.{zero-add}
use lib.ListN.{length, get_or, drop}
use lib.Dec.{eqb, leb, ltb}
use borrow.Author.Tests.{le-leb, lt-leb, eq-eqb, ne_eqb, lt-ltb, le-ltb, ltb-true}
use Rattle.blorb.specs.Verdict.{Verdict, accept, refuse, ◌then◌, check}
use Rattle.blorb.proofs.Checks.{then_accept, check_accept}
use Rattle.std.specs.Prelude.{Result, Ok}
use Rattle.blorb.specs.declared.refusal.Refusal.{Refusal}
use Rattle.blorb.specs.Refusals.{Refused}
use Rattle.groups.specs.declared.part.Picked.{Picked}
use Rattle.members.specs.declared.Kind.{Kind}
use Rattle.members.specs.declared.Kind.TheVariants.{Form, List as Lst, Cat, Prop, Plain}
use Rattle.members.specs.declared.Place.{Place}
use Rattle.members.specs.declared.Place.TheVariants.{Top, InForm, ListHead, InGroup, InProp}
use Rattle.members.specs.Kinds.{behind}
use Rattle.members.specs.Faults.{next_at, end_at, kind_at, member_fault_of}
use Rattle.groups.specs.Events.{Event, form, fault, chunk_by, unless_end, members_go, members, chunk}
use Rattle.members.proofs.FaultLaws.{good-facts}
use Rattle.groups.specs.Files.{no_row, first_fault, forms, events_of, forms_of, file_fault, row_numbers, rows_numbers}
use Rattle.groups.specs.Files.{list_of, listed, part, pick_of, picked_by}
use Rattle.groups.specs.Scan.{Outcome, good, bad, outcome, scan, and_scan, scan_file_of, pick_outcome}
use Rattle.groups.specs.Store.{store}
use Rattle.groups.proofs.StoreLaws.{stores, stores-all, stores-pick}

-- the whole file, by the top chunk's events
module _ (f : List ℕ) (base : ℕ) (rows : List ℕ) where
  pub file-long : 16777216 < length f → bad 1 0 rows ≡ scan_file_of base rows f
  unfolding scan_file_of
  file-long h = rw (lt-leb (length f) 16777216 h)

  module _ (h : length f ≤ 16777216) where
    pub file_bad : (k p : ℕ) (r : List ℕ) → bad k p r ≡ scan base 0 rows (events_of f) → bad k p r ≡ scan_file_of base rows f
    unfolding scan_file_of
    file_bad k p r e = rw (le-leb (length f) 16777216 h, ← e)

    pub file-tail : (n : ℕ) (r : List ℕ) → good n r ≡ scan base 0 rows (events_of f) → (next_at f 0 ≡ length f → ⊥)
        → bad 43 (next_at f 0) r ≡ scan_file_of base rows f
    unfolding scan_file_of
    file-tail n r e x = rw (le-leb (length f) 16777216 h, ← e, ne_eqb (next_at f 0) (length f) x)

    pub file-good : (n : ℕ) (r : List ℕ) → good n r ≡ scan base 0 rows (events_of f) → next_at f 0 ≡ length f → good n r ≡ scan_file_of base rows f
    unfolding scan_file_of
    file-good n r e x = rw (le-leb (length f) 16777216 h, ← e, eq-eqb (next_at f 0) (length f) x)

scan_accept : (base n : ℕ) (rows : List ℕ) (es : List Event) → first_fault es ≡ accept
    → scan base n rows es ≡ good (n + length (forms es)) (stores base n rows (forms es))
unfolding scan first_fault forms stores
scan_accept base n rows [] e = let q : n + 0 ≡ n = omega arith in rw q
scan_accept base n rows (form t a m d ∷ es) e =
    let q : n + 1 + length (forms es) ≡ n + suc (length (forms es)) = omega arith in
    scan_accept base (n + 1) (store base n rows t a m d) es e ∙ rw q
scan_accept base n rows (fault k p ∷ es) e = let z : ◌≡◌ {A = ℕ} 0 1 = cc in absurd (omega arith)

scan_good : (base n k : ℕ) (rows r : List ℕ) (es : List Event) → good k r ≡ scan base n rows es → first_fault es ≡ accept
unfolding scan first_fault
scan_good base n k rows r [] e = refl
scan_good base n k rows r (form t a m d ∷ es) e = scan_good base (n + 1) k (store base n rows t a m d) r es e
scan_good base n k rows r (fault q p ∷ es) e = let z : ◌≡◌ {A = ℕ} 0 1 = cc in absurd (omega arith)

scan_bad : (base n k p : ℕ) (rows r : List ℕ) (es : List Event) → bad k p r ≡ scan base n rows es → first_fault es ≡ refuse k p
unfolding scan first_fault
scan_bad base n k p rows r [] e = let z : ◌≡◌ {A = ℕ} 0 1 = cc in absurd (omega arith)
scan_bad base n k p rows r (form t a m d ∷ es) e = scan_bad base (n + 1) k p (store base n rows t a m d) r es e
scan_bad base n k p rows r (fault q w ∷ es) e = cc

module _ (f : List ℕ) (base : ℕ) (rows : List ℕ) where
  -- an accepted file
  pub file_accept : file_fault f ≡ accept → scan_file_of base rows f ≡ good (length (forms_of f)) (stores base 0 rows (forms_of f))
  unfolding file_fault scan_file_of
  file_accept e =
      let a = then_accept _ _ e in
      let b = then_accept _ _ a.1 in
      let s = scan_accept base 0 rows (events_of f) b.0 in
      rw (check_accept _ _ _ a.0, s, check_accept _ _ _ b.1, zero-add (length (forms_of f)))

  scan-verdict : (b c : Bool) (o : Outcome) (v : Verdict) (x k p : ℕ) (r : List ℕ)
      → (bad k p r ≡ o → v ≡ refuse k p) → ((n : ℕ) (q : List ℕ) → good n q ≡ o → v ≡ accept)
      → bad k p r ≡ pick_outcome b (and_scan o (λ n q. pick_outcome c (good n q) (bad 43 x q))) (bad 1 0 rows)
      → (check b 1 0 then v then check c 43 x) ≡ refuse k p
  unfolding check ◌then◌
  scan-verdict false c o v x k p r g h e = cc
  scan-verdict true c (bad j q t) v x k p r g h e = let w : bad k p r ≡ bad j q t = e in rw (g w)
  scan-verdict true true (good n q) v x k p r g h e = let z : ◌≡◌ {A = ℕ} 0 1 = cc in absurd (omega arith)
  scan-verdict true false (good n q) v x k p r g h e = rw (h n q refl) cc

  pub file-refused : (k p : ℕ) (r : List ℕ) → bad k p r ≡ scan_file_of base rows f → file_fault f ≡ refuse k p
  unfolding file_fault scan_file_of
  file-refused k p r e =
      scan-verdict (leb (length f) 16777216) (eqb (next_at f 0) (length f)) (scan base 0 rows (events_of f)) (first_fault (events_of f)) (next_at f 0) k p r
      (λ w. scan_bad base 0 k p rows r (events_of f) w) (λ n q w. scan_good base 0 n rows q (events_of f) w) e

  scan_fine : (b c : Bool) (o : Outcome) (v : Verdict) (x k : ℕ) (r : List ℕ) → ((n : ℕ) (q : List ℕ) → good n q ≡ o → v ≡ accept)
      → good k r ≡ pick_outcome b (and_scan o (λ n q. pick_outcome c (good n q) (bad 43 x q))) (bad 1 0 rows)
      → (check b 1 0 then v then check c 43 x) ≡ accept
  unfolding check ◌then◌
  scan_fine false c o v x k r h e = let z : ◌≡◌ {A = ℕ} 0 1 = cc in absurd (omega arith)
  scan_fine true c (bad j q t) v x k r h e = let z : ◌≡◌ {A = ℕ} 0 1 = cc in absurd (omega arith)
  scan_fine true true (good n q) v x k r h e = rw (h n q refl)
  scan_fine true false (good n q) v x k r h e = let z : ◌≡◌ {A = ℕ} 0 1 = cc in absurd (omega arith)

  pub file_fine : (n : ℕ) (r : List ℕ) → good n r ≡ scan_file_of base rows f → file_fault f ≡ accept
  unfolding file_fault scan_file_of
  file_fine n r e =
      scan_fine (leb (length f) 16777216) (eqb (next_at f 0) (length f)) (scan base 0 rows (events_of f)) (first_fault (events_of f)) (next_at f 0) n r
      (λ k q w. scan_good base 0 k rows q (events_of f) w) e

  pub file_count : (n : ℕ) (r : List ℕ) → good n r ≡ scan_file_of base rows f → (n ≡ length (forms_of f)) × (r ≡ stores base 0 rows (forms_of f))
  file_count n r e = let q = e ∙ file_accept (file_fine n r e) in (cc, cc)

outcome-good : (s : Result ℕ Refusal) (l : List ℕ) (n : ℕ) (r : List ℕ) → outcome s l ≡ good n r → (s ≡ Ok n) × (l ≡ r)
outcome-good (Ok k) l n r e = let z : k ≡ n = cc in (rw z, cc)
outcome-good (Refused k p) l n r e = let z : ◌≡◌ {A = ℕ} 0 1 = cc in absurd (omega arith)

-- a walk that stores from the first row on leaves all rows
pub rows_from_first : (f rows : List ℕ) (s : Result ℕ Refusal) (l : List ℕ) → outcome s l ≡ scan_file_of 0 rows f → file_fault f ≡ accept
    → (s ≡ Ok (length (forms_of f))) × (l ≡ stores 0 0 rows (forms_of f))
rows_from_first f rows s l e fine = outcome-good s l _ _ (e ∙ file_accept f 0 rows fine)

-- all rows stored
pub all_stored : (f rows : List ℕ) → 4 * length (forms_of f) ≤ length rows
    → stores 0 0 rows (forms_of f) ≡ rows_numbers (forms_of f) ++ drop (4 * length (forms_of f)) rows
all_stored f rows h =
    let q = zero-add (length (forms_of f)) in
    stores-all 0 rows (forms_of f) (rw q h) ∙ rw q

-- the list's ways out
module _ (f rows : List ℕ) where
  pub listed-refused : (k p : ℕ) → file_fault f ≡ refuse k p → (Refused k p ≡ list_of f (length rows)) × (rows ≡ listed f rows)
  unfolding list_of listed
  listed-refused k p e = (rw e, rw e)

  module _ (e : file_fault f ≡ accept) where
    pub listed_small : length rows / 4 < length (forms_of f) → (Refused 45 0 ≡ list_of f (length rows)) × (rows ≡ listed f rows)
    unfolding list_of listed
    listed_small h =
        let l : length rows < 4 * length (forms_of f) = omega arith in
        (rw (e, lt-leb (4 * length (forms_of f)) (length rows) l), rw (e, lt-leb (4 * length (forms_of f)) (length rows) l))

    pub listed_fine : length (forms_of f) ≤ length rows / 4
        → (Ok (length (forms_of f)) ≡ list_of f (length rows)) × (stores 0 0 rows (forms_of f) ≡ listed f rows)
    unfolding list_of listed
    listed_fine h =
        let l : 4 * length (forms_of f) ≤ length rows = omega arith in
        (rw (e, le-leb (4 * length (forms_of f)) (length rows) l), all_stored f rows l ∙ rw (e, le-leb (4 * length (forms_of f)) (length rows) l))

-- a pick's ways out
module _ (f : List ℕ) (i : ℕ) where
  pub pick-refused : (k p : ℕ) → file_fault f ≡ refuse k p → Refused k p ≡ pick_of f i
  unfolding pick_of
  pick-refused k p e = rw e

  module _ (e : file_fault f ≡ accept) where
    pub pick-none : length (forms_of f) ≤ i → Refused 22 0 ≡ pick_of f i
    unfolding pick_of
    pick-none h = rw (e, le-ltb i (length (forms_of f)) h)

    pub pick-one : (rows : List ℕ) → length rows ≡ 4 → i < length (forms_of f)
        → Ok (record { start = get_or (stores i 0 rows (forms_of f)) 1 0; length = 8 + get_or (stores i 0 rows (forms_of f)) 2 0 }) ≡ pick_of f i
    unfolding pick_of
    pick-one rows l h =
        let q : 0 + i ≡ i = omega arith in
        let s = stores-pick i 0 rows (forms_of f) h l in
        let s2 : stores i 0 rows (forms_of f) ≡ row_numbers (get_or (forms_of f) i no_row) = rw q at s in
        rw (s2, e, lt-ltb i (length (forms_of f)) h)

-- every FORM lies in the file
unfoldable Inside : ℕ → List Event → Type 0
Inside l [] = Unit {0}
Inside l (form t a m d ∷ es) = (a + (8 + m) ≤ l) × Inside l es
Inside l (fault k p ∷ es) = Inside l es

inside_nil : (l : ℕ) → Inside l []
unfolding Inside
inside_nil l = tt

inside_append : (l : ℕ) (xs ys : List Event) → Inside l xs → Inside l ys → Inside l (xs ++ ys)
unfolding Inside
inside_append l [] ys x y = y
inside_append l (form t a m d ∷ xs) ys x y = (x.0, inside_append l xs ys x.1 y)
inside_append l (fault k p ∷ xs) ys x y = inside_append l xs ys x y

inside_chunk : (v : Verdict) (k : Kind) (f : List ℕ) (d at l : ℕ) (I : Place → ℕ → ℕ → List Event) → (v ≡ accept → end_at f at ≤ l)
    → (v ≡ accept → (q : Place) → Inside l (I q (end_at f at) (at + 12))) → Inside l (chunk_by v k f d at I)
unfolding Inside
inside_chunk (refuse n q) k f d at l I h i = tt
inside_chunk accept Form f d at l I h i = (omega (arith, h refl), i refl InForm)
inside_chunk accept Lst f d at l I h i = i refl ListHead
inside_chunk accept Cat f d at l I h i = i refl InGroup
inside_chunk accept Prop f d at l I h i = i refl InProp
inside_chunk accept Plain f d at l I h i = tt

inside_unless : (b : Bool) (l : ℕ) (x : List Event) → Inside l x → Inside l (unless_end b (λ z. x))
unfolding Inside
inside_unless true l x i = tt
inside_unless false l x i = i

inside_go : (n : ℕ) (f : List ℕ) (p : Place) (d end at l : ℕ) → end ≤ l → Inside l (members_go n f p d end at)
unfolding members_go
inside_go zero f p d end at l h = inside_nil l
inside_go (suc n) f p d end at l h =
    inside_unless (leb end at) l _
    (inside_append l _ _
    (inside_chunk (member_fault_of f p d end at) (kind_at f at) f d at l _
    (λ v. let g = good-facts f p d end at v in omega (arith, g.body))
    (λ v q. let g = good-facts f p d end at v in inside_go n f q (d + 1) (end_at f at) (at + 12) l (omega (arith, g.body))))
    (inside_go n f (behind p (kind_at f at)) d end (next_at f at) l h))

inside_file : (f : List ℕ) → Inside (length f) (events_of f)
unfolding chunk members
inside_file f =
    inside_chunk (member_fault_of f Top 1 (length f) 0) (kind_at f 0) f 1 0 (length f) _
    (λ v. (good-facts f Top 1 (length f) 0 v).body)
    (λ v q. inside_go (length f) f q (1 + 1) (end_at f 0) (0 + 12) (length f) (good-facts f Top 1 (length f) 0 v).body)

row_inside : (l j : ℕ) (es : List Event) → Inside l es → j < length (forms es)
    → (get_or (forms es) j no_row).start + (8 + (get_or (forms es) j no_row).size) ≤ l
unfolding forms Inside
row_inside l j [] i h = absurd (omega arith)
row_inside l zero (form t a m d ∷ es) i h = i.0
row_inside l (suc j) (form t a m d ∷ es) i h = row_inside l j es i.1 (omega arith)
row_inside l j (fault k p ∷ es) i h = row_inside l j es i h

pub pick_in : (f : List ℕ) (i : ℕ) (k : Picked) → pick_of f i ≡ Ok k → k.start + k.length ≤ length f
unfolding pick_of
pick_in f i k e = by (file_fault f) (ltb i (length (forms_of f))) refl e
  where
    by : (v : Verdict) (b : Bool) → ltb i (length (forms_of f)) ≡ b
        → picked_by v (forms_of f) i ≡ Ok k → k.start + k.length ≤ length f
    by (refuse n p) b q w = let z : ◌≡◌ {A = ℕ} 0 1 = cc in absurd (omega arith)
    by accept false q w = let w2 = rw q at w in let z : ◌≡◌ {A = ℕ} 0 1 = cc in absurd (omega arith)
    by accept true q w =
        let w2 = rw q at w in
        let x : part (get_or (forms_of f) i no_row) ≡ k = cc in
        rw (← x) (row_inside (length f) i (events_of f) (inside_file f) (ltb-true i (length (forms_of f)) q))
