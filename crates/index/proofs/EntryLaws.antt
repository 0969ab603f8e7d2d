-- Laws of the entries: one entry's refusals, in their order; the loop over the entries, whose turn is the verdict on one entry, its pair and its order; and
-- why a pair above the greatest number so far of its usage is new.
use mathlib.Core.Path.{◌≡◌, refl, sym, ap, ◌∙◌}
use Prim.Native.Nat.{ℕ, zero, suc, ◌+◌, ◌-◌, ◌≤◌, ◌<◌}
use mathlib.Core.List.{List, [], ◌∷◌, ◌++◌}
use mathlib.Core.Logic.{◌⊎◌, inl, inr}
use mathlib.Core.Bool.{Bool, true, false, ◌&&◌, ◌||◌, not, or-true}
use native.Mathlib.Omega.{arith}
use native.Mathlib.Numerals.{add-one}
use native.Mathlib.Nat.{not-suc-le-zero}
use lib.ListN.{length, get_or, take, drop, set}
use lib.Seq.{get_or-set_same, get_or-set_other, drop-drop}
use lib.Dec.{eqb, leb}
use borrow.Author.Tests.{eqb-true, le-leb, lt-leb}
use Rattle.blorb.proofs.UsageLaws.{or-false, or_assoc, known_is, known_not, allows_plain, allows_else, allows_also}
use Rattle.blorb.specs.Bytes.{rd32}
use Rattle.blorb.specs.Format.{Ref, ref_of, chunk_in, entry_from, entries_in, is_start, place_of, chunk_of}
use Rattle.blorb.specs.Verdict.{Verdict, accept, refuse, ◌then◌, check, no_chunk, known_usage_of, pair_in, ref_fault, entries_fault, last_place}
use Rattle.blorb.proofs.Places.{start_of-zero, start_of-place_of, lower-start}
use Rattle.blorb.proofs.VerdictLaws.{last_snoc}
use Rattle.blorb.specs.Rules.{plain_allows_of, adrift_allows_of, allows}
use Rattle.chunks.specs.Walk.{chunk_from, chunks_from, walk_from}
use Rattle.blorb.proofs.Checks.{pass, stop, holds_last, fails_last, accepts, refuses, then_accept, check_accept}
use Rattle.chunks.proofs.StartLaws.{begun}
use Rattle.blorb.specs.declared.Usage.{Usage}
use Rattle.blorb.specs.declared.Usage.TheVariants.{Exec}
use Rattle.std.specs.Prelude.{Ok, Some, None}
use Rattle.blorb.specs.Refusals.{Refused}
use Rattle.blorb.proofs.RefusalLaws.{same_refusal}
use Rattle.blorb.specs.Usages.{code_of, usage_of}
use Rattle.blorb.proofs.NumberLaws.{same?}
use Rattle.index.specs.Entries.{usage_at, number_at, start_at, place, typed_at, entry_fault, unstarted_fault, judged_by}
use Rattle.index.specs.Entries.{earlier, Before, same_pair, Topped, slot_of, Below, entries_from}

-- rule 5 of the chunk at x, by its type and its data
pub chunk-at : (f : List ℕ) (x from to t : ℕ) → from ≡ x + 8 → to ≡ from + rd32 (drop (x + 4) f) → t ≡ rd32 (drop x f)
    → chunk_of t (take (to - from) (drop from f)) ≡ chunk_from f x
unfolding chunk_in
chunk-at f x from to t e1 e2 e3 =
    let n : to - from ≡ rd32 (drop (x + 4) f) = omega arith in
    rw (n, e1, e3, drop-drop 4 x f, drop-drop 8 x f) refl

-- rule 5 by its parts, as the code has told them: the plain types, or those that the profile allows besides
module _ (profile : ℕ) (f : List ℕ) (u x : ℕ) where
  pub typed_plain : (a : Bool) → a ≡ plain_allows_of u (chunk_from f x) → a ≡ true → typed_at profile f u x ≡ true
  typed_plain a e h = sym (allows_plain profile u (chunk_from f x) (sym e ∙ h))

  module _ (t : ℕ) (et : t ≡ rd32 (drop x f)) (b : Bool) (e : b ≡ eqb profile 1 && adrift_allows_of u t) where
    more : b ≡ eqb profile 1 && adrift_allows_of u (chunk_from f x).type
    unfolding chunk_in
    more = e ∙ rw et refl

    pub typed_else : (a : Bool) → a ≡ plain_allows_of u (chunk_from f x) → a ≡ false → b ≡ typed_at profile f u x
    typed_else a ea h = allows_else profile u (chunk_from f x) b (sym ea ∙ h) more

    pub typed_also : b ≡ true → typed_at profile f u x ≡ true
    typed_also h = allows_also profile u (chunk_from f x) (sym more ∙ h)

-- the fields of an entry
number-at : (f : List ℕ) (p : ℕ) → (entry_from (drop p f)).number ≡ number_at f p
unfolding entry_from
number-at f p = ap rd32 (drop-drop 4 p f)

start-at : (f : List ℕ) (p : ℕ) → (entry_from (drop p f)).start ≡ start_at f p
unfolding entry_from
start-at f p = ap rd32 (drop-drop 8 p f)

-- one entry of the list
pub ref_at_lem : (f : List ℕ) (base p : ℕ) → Ref
ref_at_lem f base p = record { usage = usage_at f p; number = number_at f p; chunk = place_of (start_at f p) base (chunks_from f base) }

pub ref_of-at : (f : List ℕ) (base p : ℕ) → ref_of base (chunks_from f base) (entry_from (drop p f)) ≡ ref_at_lem f base p
unfolding ref_of ref_at_lem entry_from
ref_of-at f base p = λ i. record { usage = usage_at f p; number = number-at f p i; chunk = place_of (start-at f p i) base (chunks_from f base) }

shape : (b12 b13 b14 t14 b15 b16 : Bool) (p : ℕ) (v : Verdict) → (b13 ≡ true → b14 ≡ t14)
    → check b12 12 p then (check b13 13 (p + 8) then ((check b14 14 p then (check b15 15 (p + 4) then check b16 16 p)) then v))
    ≡ (check b12 12 p then (check b13 13 (p + 8) then (check t14 14 p then check b15 15 (p + 4)))) then (check b16 16 p then v)
unfolding check ◌then◌
shape false b13 b14 t14 b15 b16 p v h = refl
shape true false b14 t14 b15 b16 p v h = refl
shape true true b14 false b15 b16 p v h = rw (h refl)
shape true true b14 true false b16 p v h = rw (h refl)
shape true true b14 true true b16 p v h = rw (h refl)

-- the verdict on entry j, its pair and its order, and v behind them
abbrev turn_of : (profile : ℕ) (f : List ℕ) (base j : ℕ) → Verdict → Verdict
turn_of profile f base j v =
    entry_fault profile f base (place j)
    then (check (not (pair_in (usage_at f (place j)) (number_at f (place j)) (earlier f base j))) 16 (place j)
    then (check (leb (last_place (earlier f base j)) (place_of (start_at f (place j)) base (chunks_from f base))) 27 (place j + 8) then v))

module _ (profile : ℕ) (f : List ℕ) (base : ℕ) (w : walk_from f base ≡ accept) where
  entries_on : (j n : ℕ) → entries_from profile f base j (suc n) ≡ turn_of profile f base j (entries_from profile f base (suc j) n)
  unfolding entries_from entries_fault entries_in ref_fault entry_fault earlier ref_at_lem entry_from
  entries_on j n =
      let q : place j + 12 ≡ place (suc j) = omega arith in
      let h : is_start (start_at f (place j)) base (chunks_from f base) ≡ true
      → allows profile (usage_at f (place j)) (get_or (chunks_from f base) (place_of (start_at f (place j)) base (chunks_from f base)) no_chunk) ≡ typed_at profile f
      (usage_at f (place j)) (start_at f (place j))
      = λ e. ap (allows profile (usage_at f (place j))) (begun f (start_at f (place j)) base w e).chunk in
      rw (ref_of-at f base (place j), drop-drop 8 (place j) f, drop-drop 12 (place j) f, q)
      (shape (known_usage_of (usage_at f (place j))) (is_start (start_at f (place j)) base (chunks_from f base)) _ (typed_at profile f (usage_at f (place j))
      (start_at f (place j)))
      (not (eqb (usage_at f (place j)) (code_of Exec)) || eqb (number_at f (place j)) 0)
      (not (pair_in (usage_at f (place j)) (number_at f (place j)) (earlier f base j))) (place j) _ h)

  pub entries_end : (j : ℕ) → entries_from profile f base j 0 ≡ accept
  unfolding entries_from entries_fault entries_in
  entries_end j = refl

-- the pairs before an entry
pub pair_snoc : (u n : ℕ) (l : List Ref) (r : Ref) → pair_in u n (l ++ (r ∷ [])) ≡ pair_in u n l || (eqb r.usage u && eqb r.number n)
unfolding pair_in
pair_snoc u n [] r = or-false (eqb r.usage u && eqb r.number n)
pair_snoc u n (x ∷ l) r = rw (pair_snoc u n l r) (sym (or_assoc (eqb x.usage u && eqb x.number n) (pair_in u n l) (eqb r.usage u && eqb r.number n)))

module _ (f : List ℕ) (base : ℕ) where
  pair-suc : (u n i : ℕ) → pair_in u n (earlier f base (suc i)) ≡ pair_in u n (earlier f base i) || (eqb (usage_at f (place i)) u && eqb (number_at f (place i)) n)
  unfolding earlier ref_at_lem
  pair-suc u n i = rw (ref_of-at f base (place i)) (pair_snoc u n (earlier f base i) (ref_at_lem f base (place i)))

  pub pair-none : (j : ℕ) → pair_in (usage_at f (place j)) (number_at f (place j)) (earlier f base 0) ≡ false
  unfolding earlier pair_in
  pair-none j = refl

  pub pair_more : (i j : ℕ) → pair_in (usage_at f (place j)) (number_at f (place j)) (earlier f base i) ≡ false → same_pair f i j ≡ false
      → pair_in (usage_at f (place j)) (number_at f (place j)) (earlier f base (i + 1)) ≡ false
  pair_more i j h e = rw add-one (pair-suc (usage_at f (place j)) (number_at f (place j)) i ∙ rw (h, e))

  pub pair_hit : (i j m : ℕ) → i < m → same_pair f i j ≡ true → pair_in (usage_at f (place j)) (number_at f (place j)) (earlier f base m) ≡ true
  pair_hit i j zero h e = absurd (not-suc-le-zero h)
  pair_hit i j (suc m) h e = pair-suc (usage_at f (place j)) (number_at f (place j)) m ∙ go (same? i m) (pair_hit i j m)
    where
      go : (i ≡ m) ⊎ (i ≡ m → ⊥) → (i < m → same_pair f i j ≡ true → pair_in (usage_at f (place j)) (number_at f (place j)) (earlier f base m) ≡ true)
          → pair_in (usage_at f (place j)) (number_at f (place j)) (earlier f base m) || same_pair f m j ≡ true
      go (inl q) ih = let s : same_pair f m j ≡ true = ap (λ (k : ℕ). same_pair f k j) (sym q) ∙ e in
          rw s (or-true (pair_in (usage_at f (place j)) (number_at f (place j)) (earlier f base m)))
      go (inr n) ih = rw (ih (omega arith) e)

-- an entry's start, or its fault
pub judged-at : (v : Verdict) (x y : ℕ) → judged_by v x ≡ Ok y → (v ≡ accept) × (x ≡ y)
judged-at accept x y e = (refl, cc)
judged-at (refuse k p) x y e = let z : ◌≡◌ {A = ℕ} 0 1 = cc in absurd (omega arith)

pub judged-fault : (v : Verdict) (x k p : ℕ) → judged_by v x ≡ Refused k p → v ≡ refuse k p
judged-fault accept x k p e = let z : ◌≡◌ {A = ℕ} 0 1 = cc in absurd (omega arith)
judged-fault (refuse a b) x k p e = let q = same_refusal e in rw (q.0, q.1)

module _ (profile : ℕ) (f : List ℕ) (base p : ℕ) where
  judged : (v : Verdict) → entry_fault profile f base p ≡ v → judged_by v (start_at f p) ≡ judged_by (entry_fault profile f base p) (start_at f p)
  judged v e = ap (λ (u : Verdict). judged_by u (start_at f p)) (sym e)

-- the verdict on one entry, by the numbers that the code has read
module _ (profile : ℕ) (f : List ℕ) (base p u x : ℕ) (eu : u ≡ usage_at f p) where
  pub by_12 : usage_of u ≡ None → Refused 12 p ≡ judged_by (entry_fault profile f base p) (start_at f p)
  unfolding entry_fault
  by_12 e = judged profile f base p (refuse 12 p) (stop _ _ _ _ (known_not _ (rw eu at e)))

  module _ (k : Usage) (e : usage_of u ≡ Some k) (ex : x ≡ start_at f p) where
    known : (known_usage_of (usage_at f p) ≡ true) × (usage_at f p ≡ code_of k)
    known = known_is _ k (rw eu at e)

    typed : (v : Bool) → typed_at profile f (code_of k) x ≡ v → typed_at profile f (usage_at f p) (start_at f p) ≡ v
    typed v h = (λ i. typed_at profile f (known.1 i) (sym ex i)) ∙ h

    module _ (b : is_start x base (chunks_from f base) ≡ true) where
      pub by_14 : typed_at profile f (code_of k) x ≡ false → Refused 14 p ≡ judged_by (entry_fault profile f base p) (start_at f p)
      unfolding entry_fault
      by_14 h = judged profile f base p (refuse 14 p) (pass _ _ _ _ known.0 ∙ pass _ _ _ _ (rw ex at b) ∙ stop _ _ _ _ (typed false h))

      module _ (t : typed_at profile f (code_of k) x ≡ true) (n : ℕ) (en : n ≡ number_at f p) where
        -- only 15 is left
        last_is : entry_fault profile f base p ≡ check (not (eqb u (code_of Exec)) || eqb n 0) 15 (p + 4)
        unfolding entry_fault
        last_is = rw (eu, en) (pass _ _ _ _ known.0 ∙ pass _ _ _ _ (rw ex at b) ∙ pass _ _ _ _ (typed true t))

        pub by_15 : not (eqb u (code_of Exec)) || eqb n 0 ≡ false → Refused 15 (p + 4) ≡ judged_by (entry_fault profile f base p) (start_at f p)
        by_15 h = judged profile f base p (refuse 15 (p + 4)) (last_is ∙ fails_last _ _ _ h)

        pub by_good : not (eqb u (code_of Exec)) || eqb n 0 ≡ true → Ok x ≡ judged_by (entry_fault profile f base p) (start_at f p)
        by_good h = ap Ok ex ∙ judged profile f base p accept (last_is ∙ holds_last _ _ _ h)

-- an entry where no chunk begins at its start
module _ (f : List ℕ) (p u : ℕ) (eu : u ≡ usage_at f p) where
  pub unstarted_12 : usage_of u ≡ None → Refused 12 p ≡ judged_by (unstarted_fault f p) 0
  unfolding unstarted_fault
  unstarted_12 e = ap (λ (v : Verdict). judged_by v 0) (sym (stop _ _ _ _ (known_not _ (rw eu at e))))

  pub unstarted_13 : (k : Usage) → usage_of u ≡ Some k → Refused 13 (p + 8) ≡ judged_by (unstarted_fault f p) 0
  unfolding unstarted_fault
  unstarted_13 k e = ap (λ (v : Verdict). judged_by v 0) (sym (pass _ _ _ _ (known_is _ k (rw eu at e)).0))

pub unstarted : (profile : ℕ) (f : List ℕ) (base p : ℕ) → is_start (start_at f p) base (chunks_from f base) ≡ false
    → judged_by (unstarted_fault f p) 0 ≡ judged_by (entry_fault profile f base p) (start_at f p)
unfolding unstarted_fault entry_fault
unstarted profile f base p h = go (known_usage_of (usage_at f p)) refl
  where
    go : (b : Bool) → known_usage_of (usage_at f p) ≡ b → judged_by (unstarted_fault f p) 0 ≡ judged_by (entry_fault profile f base p) (start_at f p)
    go true k = ap (λ (v : Verdict). judged_by v 0) (pass _ _ _ _ k) ∙ judged profile f base p (refuse 13 (p + 8)) (pass _ _ _ _ k ∙ stop _ _ _ _ h)
    go false k = ap (λ (v : Verdict). judged_by v 0) (stop _ _ _ _ k) ∙ judged profile f base p (refuse 12 p) (stop _ _ _ _ k)

-- what a good entry tells of its start
pub entry-start : (profile : ℕ) (f : List ℕ) (base p : ℕ) → entry_fault profile f base p ≡ accept → is_start (start_at f p) base (chunks_from f base) ≡ true
unfolding entry_fault
entry-start profile f base p h = check_accept _ _ _ (then_accept _ _ (then_accept _ _ h).1).0

-- the loop over the entries
module _ (profile : ℕ) (f : List ℕ) (base count j : ℕ) (w : walk_from f base ≡ accept) (h : j < count) where
  left : count - j ≡ suc (count - (j + 1))
  left = omega arith

  turn : entries_from profile f base j (count - j) ≡ turn_of profile f base j (entries_from profile f base (suc j) (count - (j + 1)))
  turn = ap (λ (n : ℕ). entries_from profile f base j n) left ∙ entries_on profile f base w j (count - (j + 1))

  pub entry_stop : (k p : ℕ) → entry_fault profile f base (place j) ≡ refuse k p → refuse k p ≡ entries_from profile f base j (count - j)
  entry_stop k p e = sym (turn ∙ refuses _ _ _ _ e)

  module _ (g : entry_fault profile f base (place j) ≡ accept) where
    pub pair_stop : pair_in (usage_at f (place j)) (number_at f (place j)) (earlier f base j) ≡ true → refuse 16 (place j) ≡ entries_from profile f
        base j (count - j)
    pair_stop e = sym (turn ∙ accepts _ _ g ∙ stop _ _ _ _ (rw e))

    module _ (e : pair_in (usage_at f (place j)) (number_at f (place j)) (earlier f base j) ≡ false) (x y : ℕ) (b : Before f base j x)
        (ey : start_at f (place j) ≡ y) where
      at_place : ℕ
      at_place = place_of (start_at f (place j)) base (chunks_from f base)

      -- the starts are in the order of their places
      order_is : leb (last_place (earlier f base j)) at_place ≡ leb x y
      unfolding at_place
      order_is =
          let s = start_of-place_of (start_at f (place j)) base (chunks_from f base) (entry-start profile f base (place j) g) in
          sym (lower-start base (chunks_from f base) (last_place (earlier f base j)) at_place b.inside (omega (arith, s.1)))
          ∙ (λ i. leb (b.starts i) ((s.0 ∙ ey) i))

      pub order_stop : y < x → refuse 27 (place j + 8) ≡ entries_from profile f base j (count - j)
      unfolding at_place
      order_stop l = sym (turn ∙ accepts _ _ g ∙ pass _ _ _ _ (rw e) ∙ stop _ _ _ _ (order_is ∙ lt-leb x y l))

      pub entries_next : x ≤ y → entries_from profile f base (j + 1) (count - (j + 1)) ≡ entries_from profile f base j (count - j)
      unfolding at_place
      entries_next l =
          ap (λ (k : ℕ). entries_from profile f base k (count - (j + 1))) (add-one j)
          ∙ (sym (turn ∙ accepts _ _ g ∙ pass _ _ _ _ (rw e) ∙ pass _ _ _ _ (order_is ∙ le-leb x y l)))

    pub before-next : (y : ℕ) → start_at f (place j) ≡ y → Before f base (j + 1) y
    unfolding earlier ref_at_lem
    before-next y ey =
        let s = start_of-place_of (start_at f (place j)) base (chunks_from f base) (entry-start profile f base (place j) g) in
        let e : last_place (earlier f base (suc j)) ≡ place_of (start_at f (place j)) base (chunks_from f base)
        = rw (ref_of-at f base (place j)) (last_snoc (earlier f base j) (ref_at_lem f base (place j))) in
        rw (add-one j) (record { starts = rw e (s.0 ∙ ey); inside = rw e (omega (arith, s.1)) })

pub before-none : (f : List ℕ) (base : ℕ) → Before f base 0 base
unfolding earlier last_place
before-none f base = record { starts = start_of-zero base (chunks_from f base); inside = omega arith }

-- an entry that is not below the top of its usage repeats no pair
differ : (a b : Bool) (u n v m : ℕ) → eqb u v ≡ a → eqb n m ≡ b → (u ≡ v → n < m) → a && b ≡ false
differ true true u n v m x y h = let p : n < m = h (eqb-true _ _ x) in let q : n ≡ m = eqb-true _ _ y in absurd (omega arith)
differ true false u n v m x y h = refl
differ false b u n v m x y h = refl

module _ (f : List ℕ) (base j top : ℕ) (t : Topped f j top) (h : top ≤ number_at f (place j)) where
  pub fresh : (m : ℕ) → m ≤ j → pair_in (usage_at f (place j)) (number_at f (place j)) (earlier f base m) ≡ false
  fresh zero l = pair-none f base j
  fresh (suc m) l =
      pair-suc f base (usage_at f (place j)) (number_at f (place j)) m
      ∙ rw (fresh m (omega arith))
      (differ _ _ (usage_at f (place m)) (number_at f (place m)) (usage_at f (place j)) (number_at f (place j)) refl refl (λ e. let p =
      t m (omega arith) e in omega arith))

-- the tops
pub topped : (f tops : List ℕ) (j k : ℕ) → Below f tops j → k ≡ slot_of (usage_at f (place j)) → Topped f j (get_or tops k 0)
topped f tops j k b q i h e = rw (q, ← e) (b i h)

pub below_next : (f tops : List ℕ) (j k r : ℕ) → Below f tops j → k ≡ slot_of (usage_at f (place j)) → k < length tops → number_at f (place j) < r
    → get_or tops k 0 ≤ r
    → Below f (set tops k r) (j + 1)
below_next f tops j k r b q l hn ht i h = go (same? (slot_of (usage_at f (place i))) k) (same? i j)
  where
    x : ℕ
    x = slot_of (usage_at f (place i))

    go : (x ≡ k) ⊎ (x ≡ k → ⊥) → (i ≡ j) ⊎ (i ≡ j → ⊥) → number_at f (place i) < get_or (set tops k r) x 0
    go (inl e) (inl p) = rw (e, get_or-set_same tops k r 0 l, p) hn
    go (inl e) (inr p) =
        let w : number_at f (place i) < get_or tops k 0 = rw (← e) (b i (omega arith)) in
        rw (e, get_or-set_same tops k r 0 l) (omega arith)
    go (inr e) (inl p) = absurd (e (ap (λ (z : ℕ). slot_of (usage_at f (place z))) p ∙ sym q))
    go (inr e) (inr p) = rw (get_or-set_other tops k x r 0 e) (b i (omega arith))

-- tops that are above the number of entry j already
pub below_same : (f tops : List ℕ) (j k : ℕ) → Below f tops j → k ≡ slot_of (usage_at f (place j)) → number_at f (place j) < get_or tops k 0 → Below f tops (j + 1)
below_same f tops j k b q l i h = go (same? i j)
  where
    go : (i ≡ j) ⊎ (i ≡ j → ⊥) → number_at f (place i) < get_or tops (slot_of (usage_at f (place i))) 0
    go (inl p) = rw (p, ← q) l
    go (inr p) = b i (omega arith)
