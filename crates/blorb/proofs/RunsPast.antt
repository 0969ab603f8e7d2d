-- 28 and 29 beside 6 (02, P1): what was 6 is now one of 6, 28 and 29 at the same chunk, and nothing else has changed.
-- A chunk's padded size is no less than its header and data, so the three tests together fail exactly where 01's two did (`broken_when`,
-- `broken_only`), and the test for 7 is the same. So both walks stop at the same chunk (`same-chunk`), and a file is judged as before but
-- that some 6 are 28 or 29 (`past-verdict`). Under a profile's rules nothing but the walk refuses with 6, 28 or 29: so 01's 6 holds of a file exactly
-- when one of the three does, at the same chunk (`file_broken_when`, `file_broken_only`).
use mathlib.Core.Path.{◌≡◌, refl, sym, ap, subst, ◌∙◌}
use Prim.Native.Nat.{ℕ, zero, suc, ◌+◌, ◌≤◌, ◌%◌}
use mathlib.Core.List.{List, [], ◌∷◌}
use mathlib.Core.Bool.{Bool, true, false, ◌||◌, not, cond}
use mathlib.Core.Logic.{◌⊎◌, inl, inr}
use native.Mathlib.Omega.{arith}
use lib.ListN.{length, drop, length-drop}
use lib.Dec.{leb}
use borrow.Author.Tests.{le-leb, leb-true}
use Rattle.blorb.specs.Bytes.{rd32}
use Rattle.blorb.specs.Format.{sized, chunks_of}
use Rattle.blorb.specs.Verdict.{Verdict, accept, refuse, ◌then◌, check, head_fault, chunk_fault, walk_fault, Rules, layout_fault, verdict}
use Rattle.blorb.specs.Rules.{rules_of}
use Rattle.blorb.specs.RunsPast.{
  runs_past,
  past_fault,
  BrokenOff,
  Faulty,
  none,
  first,
  unless_faulty,
  first_faulty,
  fault_of,
  StartsAt,
  BrokenAt,
  past_verdict,
}
use Rattle.blorb.proofs.Checks.{then_accept, check_accept, stop, refuses}
use Rattle.blorb.proofs.Never.{Never, never_itself, other, both, Elsewhere, head_never, layout_never}

abbrev number_of : Verdict → ℕ
number_of accept = 0
number_of (refuse k p) = k

other_number : (k j p q : ℕ) → refuse k p ≡ refuse j q → k ≡ j
other_number k j p q e = ap number_of e

accepted : (k p : ℕ) → accept ≡ refuse k p → 0 ≡ k
accepted k p e = ap number_of e

never : {A : Type 0} → false ≡ true → A
never {A} e = absurd (omega (arith, accepted 1 0 (ap (λ (b : Bool). cond b (refuse 1 0) accept) e)))

-- the tests of a chunk: its header, its data, its padding byte are there; that byte is zero
module _ (at end pad : ℕ) where
  abbrev today : Bool → Bool → Bool → Bool → Verdict
  today h d p z = check h 6 at then check d 28 (at + 4) then check p 29 end then check z 7 pad

  abbrev past : Bool → Bool → Bool → Verdict
  past h p z = check (not (not h || not p)) 6 at then check z 7 pad

  abbrev One : Verdict → Type 0
  One v = (v ≡ refuse 6 at) ⊎ ((v ≡ refuse 28 (at + 4)) ⊎ (v ≡ refuse 29 end))

  one_when : (h d p z : Bool) → (p ≡ true → d ≡ true) → (not h || not p) ≡ true → One (today h d p z)
  unfolding check ◌then◌
  one_when false d p z i r = inl refl
  one_when true false p z i r = inr (inl refl)
  one_when true true false z i r = inr (inr refl)
  one_when true true true z i r = never r

  seven_other : (z : Bool) → One (check z 7 pad) → ⊥
  unfolding check
  seven_other true (inl e) = absurd (omega (arith, accepted 6 at e))
  seven_other true (inr (inl e)) = absurd (omega (arith, accepted 28 (at + 4) e))
  seven_other true (inr (inr e)) = absurd (omega (arith, accepted 29 end e))
  seven_other false (inl e) = absurd (omega (arith, other_number 7 6 pad at e))
  seven_other false (inr (inl e)) = absurd (omega (arith, other_number 7 28 pad (at + 4) e))
  seven_other false (inr (inr e)) = absurd (omega (arith, other_number 7 29 pad end e))

  one_only : (h d p z : Bool) → (p ≡ true → d ≡ true) → One (today h d p z) → (not h || not p) ≡ true
  unfolding check ◌then◌
  one_only false d p z i o = refl
  one_only true d false z i o = refl
  one_only true false true z i o = i refl
  one_only true true true z i o = absurd (seven_other z o)

  -- either both say the same, or it was 6
  alike : (h d p z : Bool) → (p ≡ true → d ≡ true)
      → (past h p z ≡ today h d p z) ⊎ ((past h p z ≡ refuse 6 at) × ((today h d p z ≡ refuse 28 (at + 4)) ⊎ (today h d p z ≡ refuse 29 end)))
  unfolding check ◌then◌
  alike false d p z i = inl refl
  alike true true true z i = inl refl
  alike true false false z i = inr (refl, inl refl)
  alike true true false z i = inr (refl, inr refl)
  alike true false true z i = never (i refl)

  stops_alike : (h d p z : Bool) → (p ≡ true → d ≡ true) → (here rest : Faulty)
      → unless_faulty (past h p z) here rest ≡ unless_faulty (today h d p z) here rest
  unfolding check ◌then◌
  stops_alike false d p z i here rest = refl
  stops_alike true true true z i here rest = refl
  stops_alike true false false z i here rest = refl
  stops_alike true true false z i here rest = refl
  stops_alike true false true z i here rest = never (i refl)

-- padding that is there comes behind data that is there
data-there : (m l : ℕ) → leb (sized m) l ≡ true → leb (8 + m) l ≡ true
unfolding sized
data-there m l h = le-leb (8 + m) l (omega (arith, leb-true (8 + (m + m % 2)) l h))

-- 01's 6 holds of a chunk exactly when one of 6, 28 and 29 does
pub broken_when : (at : ℕ) (s : List ℕ) → runs_past s ≡ true → BrokenOff at s (chunk_fault at s)
unfolding runs_past chunk_fault
broken_when at s r = one_when at (at + length s) _ (leb 8 (length s)) _ (leb (sized (rd32 (drop 4 s))) (length s)) _ (data-there (rd32 (drop 4 s)) (length s)) r

pub broken_only : (at : ℕ) (s : List ℕ) → BrokenOff at s (chunk_fault at s) → runs_past s ≡ true
unfolding runs_past chunk_fault
broken_only at s b = one_only at (at + length s) _ (leb 8 (length s)) _ (leb (sized (rd32 (drop 4 s))) (length s)) _ (data-there (rd32 (drop 4 s)) (length s)) b

-- the chunk is judged as before, or it was 6 and is 28 or 29
chunk_alike : (at : ℕ) (s : List ℕ) → (past_fault at s ≡ chunk_fault at s)
    ⊎ ((past_fault at s ≡ refuse 6 at) × ((chunk_fault at s ≡ refuse 28 (at + 4)) ⊎ (chunk_fault at s ≡ refuse 29 (at + length s))))
unfolding runs_past past_fault chunk_fault
chunk_alike at s = alike at (at + length s) _ (leb 8 (length s)) _ (leb (sized (rd32 (drop 4 s))) (length s)) _ (data-there (rd32 (drop 4 s)) (length s))

-- the first faulty chunk of 01's walk is that of today's
pub same-chunk : (k at : ℕ) (s : List ℕ) → first_faulty past_fault k at s ≡ first_faulty chunk_fault k at s
unfolding first_faulty runs_past past_fault chunk_fault
same-chunk zero at s = refl
same-chunk (suc k) at [] = refl
same-chunk (suc k) at (b ∷ s) =
    let m : ℕ = rd32 (drop 4 (b ∷ s)) in
    let n : ℕ = length (b ∷ s) in
    rw (same-chunk k (at + sized m) (drop (sized m) (b ∷ s)))
    (stops_alike at (at + n) _ (leb 8 n) (leb (8 + m) n) (leb (sized m) n) _ (data-there m n) (first at (b ∷ s)) _)

-- today's walk tells what is wrong with the first faulty chunk
fault_on : (fault : ℕ → List ℕ → Verdict) (at : ℕ) (s : List ℕ) (v w : Verdict) (r : Faulty) → v ≡ fault at s → w ≡ fault_of fault r
    → (v then w) ≡ fault_of fault (unless_faulty v (first at s) r)
unfolding ◌then◌ fault_of
fault_on fault at s accept w r e h = h
fault_on fault at s (refuse k p) w r e h = e

pub walk_tells : (k at : ℕ) (s : List ℕ) → walk_fault k at s ≡ fault_of chunk_fault (first_faulty chunk_fault k at s)
unfolding walk_fault first_faulty fault_of
walk_tells zero at s = refl
walk_tells (suc k) at [] = refl
walk_tells (suc k) at (b ∷ s) = fault_on chunk_fault at (b ∷ s) _ _ _ refl (walk_tells k _ _)

-- a faulty chunk of a walk reaches to the end of what is walked over: the chunks before it lie in it
whole : (at : ℕ) (s : List ℕ) → chunk_fault at s ≡ accept → sized (rd32 (drop 4 s)) ≤ length s
unfolding chunk_fault
whole at s ok = leb-true _ _ (check_accept _ _ _ (then_accept _ _ (then_accept _ _ (then_accept _ _ ok).1).1).0)

-- what stands from the faulty chunk on, and its offset, make the same end
abbrev Ends : ℕ → Faulty → Type 0
Ends end none = Unit {0}
Ends end (first at s) = at + length s ≡ end

ends_on : (at : ℕ) (s : List ℕ) (n : ℕ) (rest : Faulty) (v : Verdict) → (v ≡ accept → n ≤ length s) → Ends (at + n + length (drop n s)) rest
    → Ends (at + length s) (unless_faulty v (first at s) rest)
ends_on at s n rest (refuse k p) l h = refl
ends_on at s n rest accept l h =
    let e : at + n + length (drop n s) ≡ at + length s = rw (length-drop n s) (omega (arith, l refl)) in
    rw e at h

ends : (k at : ℕ) (s : List ℕ) → Ends (at + length s) (first_faulty chunk_fault k at s)
unfolding first_faulty
ends zero at s = tt
ends (suc k) at [] = tt
ends (suc k) at (b ∷ s) =
    let n : ℕ = sized (rd32 (drop 4 (b ∷ s))) in
    ends_on at (b ∷ s) n _ (chunk_fault at (b ∷ s)) (whole at (b ∷ s)) (ends k (at + n) (drop n (b ∷ s)))

-- both verdicts of a file, by what is wrong with its head, with its first faulty chunk and with its layout
joined : (head layout : Verdict) (end : ℕ) (x : Faulty) → (head ≡ accept → Ends end x)
    → (head then (fault_of past_fault x then layout) ≡ head then (fault_of chunk_fault x then layout))
    ⊎ ((p : ℕ) × ((head then (fault_of past_fault x then layout) ≡ refuse 6 p)
    × ((head then (fault_of chunk_fault x then layout) ≡ refuse 28 (p + 4)) ⊎ (head then (fault_of chunk_fault x then layout) ≡ refuse 29 end))))
unfolding ◌then◌ fault_of
joined (refuse k p) layout end x e = inl refl
joined accept layout end none e = inl refl
joined accept layout end (first at s) e = go (chunk_alike at s)
  where
    go : (past_fault at s ≡ chunk_fault at s)
        ⊎ ((past_fault at s ≡ refuse 6 at) × ((chunk_fault at s ≡ refuse 28 (at + 4)) ⊎ (chunk_fault at s ≡ refuse 29 (at + length s))))
        → (past_fault at s then layout ≡ chunk_fault at s then layout)
        ⊎ ((p : ℕ) × ((past_fault at s then layout ≡ refuse 6 p)
        × ((chunk_fault at s then layout ≡ refuse 28 (p + 4)) ⊎ (chunk_fault at s then layout ≡ refuse 29 end))))
    go (inl q) = inl (ap (λ (v : Verdict). v then layout) q)
    go (inr (q, inl r)) = inr (at, (refuses _ _ 6 at q, inl (refuses _ _ 28 (at + 4) r)))
    go (inr (q, inr r)) = inr (at, (refuses _ _ 6 at q, inr (refuses _ _ 29 end (r ∙ ap (refuse 29) (e refl)))))

head-length : (f : List ℕ) → head_fault f ≡ accept → 12 ≤ length f
unfolding head_fault
head-length f ok = leb-true _ _ (check_accept _ _ _ (then_accept _ _ (then_accept _ _ ok).1).0)

reaches : (f : List ℕ) → head_fault f ≡ accept → Ends (length f) (first_faulty chunk_fault (length f) 12 (drop 12 f))
reaches f ok =
    let l : 12 + length (drop 12 f) ≡ length f = rw (length-drop 12 f) (omega (arith, head-length f ok)) in
    rw l at (ends (length f) 12 (drop 12 f))

-- Every file is judged as with 01's 6, or 01 has 6 at the start p of a chunk where it is now 28 at p + 4, the length field, or 29 at the file's end.
pub past-verdict : (R : Rules) (f : List ℕ) → (past_verdict R f ≡ verdict R f)
    ⊎ ((p : ℕ) × ((past_verdict R f ≡ refuse 6 p) × ((verdict R f ≡ refuse 28 (p + 4)) ⊎ (verdict R f ≡ refuse 29 (length f)))))
unfolding past_verdict verdict
past-verdict R f =
    rw (same-chunk (length f) 12 (drop 12 f), walk_tells (length f) 12 (drop 12 f))
    (joined (head_fault f) (layout_fault R (chunks_of f)) (length f) (first_faulty chunk_fault (length f) 12 (drop 12 f)) (reaches f))

-- The same of 01's 6 alone, under a profile's rules. A chunk that runs past is 6 by 01, any other is not;
past_six : (at : ℕ) (s : List ℕ) → runs_past s ≡ true → past_fault at s ≡ refuse 6 at
unfolding past_fault
past_six at s r = stop _ _ _ _ (ap not r)

past_other : (at : ℕ) (s : List ℕ) → runs_past s ≡ false → Never 6 (past_fault at s)
unfolding past_fault
past_other at s r = both 6 _ _ (rw r (unfold check in tt)) (other _ 6 7 _ refl)

-- neither the head nor the layout has one of the three
abbrev Apart : Verdict → Type 0
Apart v = Never 6 v × Never 28 v × Never 29 v

apart_not : (v : Verdict) (p end : ℕ) → Apart v → One p end 0 v → ⊥
apart_not v p end n (inl e) = never_itself 6 p v n.0 e
apart_not v p end n (inr (inl e)) = never_itself 28 (p + 4) v n.1 e
apart_not v p end n (inr (inr e)) = never_itself 29 end v n.2 e

module _ (w : Verdict) (p a end : ℕ) (q : a ≡ end) where
  carried : (v : Verdict) → One p a 0 v → One p end 0 (v then w)
  carried v (inl e) = inl (refuses v w 6 p e)
  carried v (inr (inl e)) = inr (inl (refuses v w 28 (p + 4) e))
  carried v (inr (inr e)) = inr (inr (refuses v w 29 end (e ∙ ap (refuse 29) q)))

  carried_back : (v : Verdict) → Apart w → One p end 0 (v then w) → One p a 0 v
  unfolding ◌then◌
  carried_back accept n o = absurd (apart_not w p end n o)
  carried_back (refuse k r) n (inl e) = inl e
  carried_back (refuse k r) n (inr (inl e)) = inr (inl e)
  carried_back (refuse k r) n (inr (inr e)) = inr (inr (e ∙ ap (refuse 29) (sym q)))

-- so the three are of the first faulty chunk
six_told : (head layout : Verdict) (end p : ℕ) (x : Faulty) → (head ≡ accept → Ends end x) → Never 6 head → Never 6 layout
    → head then (fault_of past_fault x then layout) ≡ refuse 6 p → StartsAt p x × One p end 0 (head then (fault_of chunk_fault x then layout))
unfolding ◌then◌ fault_of
six_told (refuse k q) layout end p x e nh nl h = absurd (never_itself 6 p (refuse k q) nh h)
six_told accept layout end p none e nh nl h = absurd (never_itself 6 p layout nl h)
six_told accept layout end p (first at s) e nh nl h = go (runs_past s) refl
  where
    go : (b : Bool) → runs_past s ≡ b → (at ≡ p) × One p end 0 (chunk_fault at s then layout)
    go false r = absurd (never_itself 6 p (past_fault at s then layout) (both 6 (past_fault at s) layout (past_other at s r) nl) h)
    go true r =
        let t : refuse 6 at ≡ refuse 6 p = sym (refuses _ layout 6 at (past_six at s r)) ∙ h in
        let q : at ≡ p = cc in
        let told = carried layout at (at + length s) end (e refl) (chunk_fault at s) (broken_when at s r) in
        (q, subst (λ (n : ℕ). One n end 0 (chunk_fault at s then layout)) q told)

six_back : (head layout : Verdict) (end p : ℕ) (x : Faulty) → (head ≡ accept → Ends end x) → Apart head → Apart layout → StartsAt p x
    → One p end 0 (head then (fault_of chunk_fault x then layout)) → head then (fault_of past_fault x then layout) ≡ refuse 6 p
unfolding ◌then◌ fault_of
six_back (refuse k q) layout end p x e nh nl at o = absurd (apart_not (refuse k q) p end nh o)
six_back accept layout end p none e nh nl at o = absurd at
six_back accept layout end p (first at s) e nh nl q o =
    let b = carried_back layout at _ end (e refl) (chunk_fault at s) nl (subst (λ (n : ℕ). One n end 0 (chunk_fault at s then layout)) (sym q) o) in
    refuses _ layout 6 p (past_six at s (broken_only at s b) ∙ ap (refuse 6) q)

-- 01's 6 holds of a file exactly when one of 6, 28 and 29 does, at the same chunk
module _ (profile : ℕ) (f : List ℕ) where
  abbrev layout : Verdict
  layout = layout_fault (rules_of profile) (chunks_of f)

  e6 : Elsewhere 6
  e6 = (refl, refl, refl, refl, refl, refl, refl, refl, refl, refl)

  e28 : Elsewhere 28
  e28 = (refl, refl, refl, refl, refl, refl, refl, refl, refl, refl)

  e29 : Elsewhere 29
  e29 = (refl, refl, refl, refl, refl, refl, refl, refl, refl, refl)

  head_apart : Apart (head_fault f)
  head_apart = (head_never 6 e6 refl refl refl refl f, head_never 28 e28 refl refl refl refl f, head_never 29 e29 refl refl refl refl f)

  layout_apart : Apart layout
  layout_apart = (
    layout_never 6 e6 refl refl refl refl profile (chunks_of f),
    layout_never 28 e28 refl refl refl refl profile (chunks_of f),
    layout_never 29 e29 refl refl refl refl profile (chunks_of f),
  )

  pub file_broken_when : (p : ℕ) → past_verdict (rules_of profile) f ≡ refuse 6 p → BrokenAt f p (verdict (rules_of profile) f)
  unfolding past_verdict verdict
  file_broken_when p h =
      rw (walk_tells (length f) 12 (drop 12 f))
      (six_told (head_fault f) layout (length f) p _ (reaches f) head_apart.0 layout_apart.0 (rw (same-chunk (length f) 12 (drop 12 f)) at h))

  pub file_broken_only : (p : ℕ) → BrokenAt f p (verdict (rules_of profile) f) → past_verdict (rules_of profile) f ≡ refuse 6 p
  unfolding past_verdict verdict
  file_broken_only p b =
      rw (same-chunk (length f) 12 (drop 12 f))
      (six_back (head_fault f) layout (length f) p _ (reaches f) head_apart layout_apart b.0 (rw (walk_tells (length f) 12 (drop 12 f)) at b.1))
