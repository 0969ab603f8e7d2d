-- Another entry has the start of entry i exactly if one beside it has: once 27 is ruled out no start is lower than the one before it, so entries of one
-- start stand together.
use mathlib.Core.Path.{◌≡◌, refl, sym, ◌∙◌}
use Prim.Native.Nat.{ℕ, zero, suc, ◌+◌, ◌-◌, ◌≤◌, ◌<◌}
use mathlib.Core.List.{List, [], ◌∷◌, ◌++◌}
use mathlib.Core.Logic.{◌⊎◌, inl, inr, ⊎_elim}
use mathlib.Core.Bool.{Bool, true, false, ◌&&◌, ◌||◌, not, or-true}
use native.Mathlib.Omega.{arith}
use native.Mathlib.Nat.{not-suc-le-zero, le_of_suc-le-suc}
use lib.ListN.{length, get_or, drop}
use lib.Dec.{eqb, leb}
use borrow.Author.Tests.{eq-eqb, ne_eqb, eqb-true, eqb-false, leb-true}
use Rattle.blorb.specs.Format.{Chunk, Entry, Ref, ref_of, entries_in}
use Rattle.blorb.specs.Verdict.{Rules, accept, entries_fault, last_place}
use Rattle.blorb.proofs.Accept.{starts_ok}
use Rattle.blorb.proofs.Checks.{then_accept, check_accept}
use Rattle.blorb.proofs.EntryList.{length-entries_in}
use Rattle.blorb.proofs.NumberLaws.{same?, below?}
use Rattle.blorb.proofs.Places.{start_order}
use Rattle.blorb.proofs.VerdictLaws.{last_snoc}
use Rattle.chunks.specs.Walk.{chunks_from}
use Rattle.index.specs.Entries.{start_at, place, start_again_of}
use Rattle.reader.specs.Passed.{Passed}
use Rattle.reader.proofs.PartLaws.{start_of_lem}

-- entries that 12 to 16 and 27 let pass: no start is lower than the one before it
module _ (R : Rules) (at : ℕ) (cs : List Chunk) (none : Entry) where
  order_here : (earlier : List Ref) (p : ℕ) (e : Entry) (es : List Entry) → entries_fault R at cs earlier p (e ∷ es) ≡ accept
      → (leb (last_place earlier) (ref_of at cs e).chunk ≡ true) × (entries_fault R at cs (earlier ++ (ref_of at cs e ∷ [])) (p + 12) es ≡ accept)
  unfolding entries_fault
  order_here earlier p e es h =
      let q = then_accept _ _ (then_accept _ _ (then_accept _ _ (then_accept _ _ h).1).1).1 in
      (check_accept _ _ _ q.0, q.1)

  next_start : (earlier : List Ref) (p : ℕ) (es : List Entry) (k : ℕ) → entries_fault R at cs earlier p es ≡ accept → suc k < length es
      → (get_or es k none).start ≤ (get_or es (suc k) none).start
  next_start earlier p [] k h l = absurd (not-suc-le-zero l)
  next_start earlier p (d ∷ []) k h l = absurd (omega arith)
  next_start earlier p (d ∷ (e ∷ es)) zero h l =
      let s = starts_ok R at cs earlier p (d ∷ (e ∷ es)) h in
      let o = (order_here (earlier ++ (ref_of at cs d ∷ [])) (p + 12) e es (order_here earlier p d (e ∷ es) h).1).0 in
      leb-true _ _ (sym (start_order at cs d e s.0 s.1.0) ∙ (rw (last_snoc earlier (ref_of at cs d)) at o))
  next_start earlier p (d ∷ (e ∷ es)) (suc k) h l =
      next_start (earlier ++ (ref_of at cs d ∷ [])) (p + 12) (e ∷ es) k (order_here earlier p d (e ∷ es) h).1 (le_of_suc-le-suc l)

-- numbers none of which is below the one before it
climbs : (number : ℕ → ℕ) (n : ℕ) → ((k : ℕ) → suc k < n → number k ≤ number (suc k)) → (k m : ℕ) → k ≤ m → m < n → number k ≤ number m
climbs number n up k zero h l = let q : k ≡ 0 = omega arith in rw q (omega arith)
climbs number n up k (suc m) h l = go (same? k (suc m)) (climbs number n up k m)
  where
    go : (k ≡ suc m) ⊎ (k ≡ suc m → ⊥) → (k ≤ m → m < n → number k ≤ number m) → number k ≤ number (suc m)
    go (inl q) below = rw q (omega arith)
    go (inr q) below = omega (arith, below (omega arith) (omega arith), up m l)

-- another entry has the start, or none has
again-there : (x i j k : ℕ) (es : List Entry) (none : Entry) → k < length es → (j + k ≡ i → ⊥) → (get_or es k none).start ≡ x → start_again_of x i j es ≡ true
unfolding start_again_of
again-there x i j k [] none l n e = absurd (not-suc-le-zero l)
again-there x i j zero (a ∷ es) none l n e = rw (ne_eqb j i (λ q. n (omega arith)), eq-eqb a.start x e)
again-there x i j (suc k) (a ∷ es) none l n e =
    rw (again-there x i (suc j) k es none (le_of_suc-le-suc l) (λ q. n (omega arith)) e) (or-true (not (eqb j i) && eqb a.start x))

again-none : (x i j : ℕ) (es : List Entry) (none : Entry) → ((k : ℕ) → k < length es → (j + k ≡ i → ⊥) → (get_or es k none).start ≡ x → ⊥)
    → start_again_of x i j es ≡ false
unfolding start_again_of
again-none x i j [] none h = refl
again-none x i j (a ∷ es) none h =
    rw (again-none x i (suc j) es none (λ k l n. h (suc k) (omega arith) (λ q. n (omega arith)))) (go (eqb j i) refl)
  where
    go : (t : Bool) → eqb j i ≡ t → (not t && eqb a.start x) || false ≡ false
    go true e = refl
    go false e = rw (ne_eqb a.start x (h 0 (omega arith) (λ q. eqb-false j i e (omega arith))))

-- so the starts of a passed file's entries never fall
starts_rise : (f : List ℕ) (count : ℕ) → Passed f count → (k m : ℕ) → k ≤ m → m < count → start_at f (place k) ≤ start_at f (place m)
starts_rise f count g =
    climbs (λ k. start_at f (place k)) count
    (λ k l. rw (← start_of_lem f count k g (omega arith), ← start_of_lem f count (suc k) g l)
    (next_start g.judged.rules (place count) (chunks_from f (place count)) _ [] 24 (entries_in count (drop 24 f)) k g.judged.entries
    (rw (length-entries_in count (drop 24 f)) l)))

-- entry i of a passed file, whose start is x; y is a start that the code has read
module _ (f : List ℕ) (count i x : ℕ) (g : Passed f count) (h : i < count) (ex : x ≡ start_at f (place i)) where
  pub beside_hit : (k y : ℕ) → k < count → (k ≡ i → ⊥) → y ≡ start_at f (place k) → y ≡ x → true ≡ start_again_of x i 0 (entries_in count (drop 24 f))
  beside_hit k y l n ey e =
      sym (again-there x i 0 k (entries_in count (drop 24 f)) _ (rw (length-entries_in count (drop 24 f)) l) (λ q. n (omega arith))
      (start_of_lem f count k g l ∙ sym ey ∙ e))

  module _ (next : i + 1 < count → start_at f (place (i + 1)) ≡ x → ⊥) where
    -- an entry before i has at most the start of the last before it, one behind i at least that of the next
    pub beside_none : (0 < i → start_at f (place (i - 1)) ≡ x → ⊥) → false ≡ start_again_of x i 0 (entries_in count (drop 24 f))
    beside_none last =
        sym (again-none x i 0 (entries_in count (drop 24 f)) _ (λ k l n e.
        let c : k < count = rw (length-entries_in count (drop 24 f)) at l in
        let s : start_at f (place k) ≡ x = sym (start_of_lem f count k g c) ∙ e in
        ⊎_elim
        (λ b. last (omega arith) (omega (arith, up k (i - 1) (omega arith) (omega arith), up (i - 1) i (omega arith) h)))
        (λ b. next (omega arith) (omega (arith, up (i + 1) k (omega arith) c, up i (i + 1) (omega arith) (omega arith))))
        (below? k i)))
      where
        up : (k m : ℕ) → k ≤ m → m < count → start_at f (place k) ≤ start_at f (place m)
        up = starts_rise f count g

    pub beside_last : (y : ℕ) → (i ≡ 0 → ⊥) → y ≡ start_at f (place (i - 1)) → eqb y x ≡ start_again_of x i 0 (entries_in count (drop 24 f))
    beside_last y n ey = go (eqb y x) refl
      where
        go : (t : Bool) → eqb y x ≡ t → t ≡ start_again_of x i 0 (entries_in count (drop 24 f))
        go true e = beside_hit (i - 1) y (omega arith) (λ q. n (omega arith)) ey (eqb-true y x e)
        go false e = beside_none (λ l q. eqb-false y x e (ey ∙ q))
