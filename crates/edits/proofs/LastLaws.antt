-- Where the last record of a journal's first U bytes stands, and its fields as numbers at offsets of the whole journal.
use mathlib.Core.Path.{◌≡◌, refl, sym, ap, ◌∙◌}
use Prim.Native.Nat.{ℕ, zero, suc, ◌+◌, ◌-◌, ◌≤◌, ◌<◌}
use mathlib.Core.List.{List, [], ◌∷◌}
use mathlib.Core.Bool.{Bool, true, false, cond, ◌&&◌, ◌||◌, not, and-true}
use native.Mathlib.Omega.{arith}
use native.Mathlib.Nat.{add-zero}
use lib.ListN.{length, get_or, take, drop, length-drop}
use lib.Seq.{take-nil, length-take-le, take-take, drop-drop, get_or-take, get_or-drop}
use lib.Dec.{eqb, leb}
use borrow.Author.Tests.{ne_eqb, le-leb, lt-leb, leb-true}
use Rattle.blorb.specs.Bytes.{rd32}
use Rattle.blorb.proofs.ByteLaws.{rd32-at}
use Rattle.blorb.proofs.Checks.{and_both}
use Rattle.edits.specs.Journal.{Rec, trailer, rec_in, last_body, last_rec, zeros, well_formed}
use Rattle.edits.specs.KindRule.{kind_rule}

-- a part of a first part
pub drop-take : (n k : ℕ) (l : List ℕ) → drop n (take k l) ≡ take (k - n) (drop n l)
drop-take zero k l = ap (λ (z : ℕ). take z l) e
  where
    e : k ≡ k - 0
    e = omega arith
drop-take (suc n) zero l = ap (λ (z : ℕ). take z (drop (suc n) l)) e
  where
    e : 0 ≡ 0 - suc n
    e = omega arith
drop-take (suc n) (suc k) [] = sym (take-nil (suc k - suc n))
drop-take (suc n) (suc k) (x ∷ l) = drop-take n k l ∙ ap (λ (z : ℕ). take z (drop n l)) e
  where
    e : k - n ≡ suc k - suc n
    e = omega arith

-- a number that lies in the first k bytes
pub rd32-part : (at k : ℕ) (l : List ℕ) → at + 4 ≤ k → rd32 (drop at (take k l)) ≡ rd32 (drop at l)
rd32-part at k l h =
    rd32-at (take k l) at
    ∙ rw (
      get_or-take k l at 0 (omega arith),
      get_or-take k l (at + 1) 0 (omega arith),
      get_or-take k l (at + 2) 0 (omega arith),
      get_or-take k l (at + 3) 0
          (omega arith),
    )
    (sym (rd32-at l at))

pub kind_rule_lem : (r : Rec) → (leb 1 r.kind && leb r.kind 5 && zeros r) ≡ kind_rule r.kind r.start r.type (length r.body)
unfolding zeros
kind_rule_lem r = go r.kind (eqb r.start 0) (eqb r.type 0) (eqb (length r.body) 0)
  where
    both : (a b c : Bool) → (a && b && c) && true ≡ a && (b && c)
    both true b c = and-true (b && c)
    both false b c = refl

    go : (k : ℕ) (a b c : Bool)
        → (leb 1 k && leb k 5 && ((not (eqb k 1) || (a && b && c)) && (not (eqb k 4 || eqb k 5) || (b && c)))) ≡ cond (eqb k 1) (a && (b && c))
        (cond (eqb k 4 || eqb k 5) (b && c) (eqb k 2 || eqb k 3))
    go zero a b c = refl
    go (suc zero) a b c = both a b c
    go (suc (suc zero)) a b c = refl
    go (suc (suc (suc zero))) a b c = refl
    go (suc (suc (suc (suc zero)))) a b c = refl
    go (suc (suc (suc (suc (suc zero))))) a b c = refl
    go (suc (suc (suc (suc (suc (suc k)))))) a b c =
        let n : ℕ = suc (suc (suc (suc (suc (suc k))))) in
        rw (
          le-leb 1 n (omega arith),
          lt-leb n 5 (omega arith),
          ne_eqb n 1 (λ e. omega arith),
          ne_eqb n 2 (λ e. omega arith),
          ne_eqb n 3 (λ e. omega arith),
          ne_eqb n 4 (λ e. omega arith),
          ne_eqb n 5 (λ e. omega arith),
        )

module _ (l : List ℕ) (u : ℕ) (inside : u ≤ length l) where
  part_length : length (take u l) ≡ u
  part_length = length-take-le u l inside

  pub trailer-part : 4 ≤ u → trailer (take u l) ≡ rd32 (drop (u - 4) l)
  unfolding trailer
  trailer-part h = rw part_length (rd32-part (u - 4) u l (omega arith))

  -- the ways in which it isn't well formed, in the order of 01
  pub short_part : u < 29 → well_formed (take u l) ≡ false
  unfolding well_formed
  short_part h = rw (lt-leb 29 (length (take u l)) (omega (arith, part_length)))

  pub low_trailer : 29 ≤ u → rd32 (drop (u - 4) l) < 25 → well_formed (take u l) ≡ false
  unfolding well_formed
  low_trailer long h = rw (part_length, le-leb 29 u long, trailer-part (omega arith), lt-leb 25 (rd32 (drop (u - 4) l)) h)

  pub high_trailer : 29 ≤ u → u - 4 < rd32 (drop (u - 4) l) → well_formed (take u l) ≡ false
  unfolding well_formed
  high_trailer long h = rw (
    part_length,
    le-leb 29 u long,
    trailer-part (omega arith),
    le-leb 25 (rd32 (drop (u - 4) l)) (omega arith),
    lt-leb
        (rd32 (drop (u - 4) l)) (u - 4) h,
  )

  -- t: the trailer, between 25 and U - 4
  module _ (t : ℕ) (is : t ≡ rd32 (drop (u - 4) l)) (low : 25 ≤ t) (high : t ≤ u - 4) where
    body-part : last_body (take u l) ≡ drop (u - 4 - t) (take (u - 4) l)
    unfolding last_body
    body-part =
        let e : u - (4 + trailer (take u l)) ≡ u - 4 - t = omega (arith, trailer-part (omega arith)) in
        rw (part_length, take-take (u - 4) u l (omega arith), e)

    -- a number of the record, k bytes from its beginning
    number-part : (k : ℕ) → k ≤ 21 → rd32 (drop k (last_body (take u l))) ≡ rd32 (drop (u - 4 - t + k) l)
    number-part k h = rw (body-part, drop-drop k (u - 4 - t) (take (u - 4) l)) (rd32-part (u - 4 - t + k) (u - 4) l (omega arith))

    -- its data
    data-part : (last_rec (take u l)).body ≡ take (t - 25) (drop (u - 4 - (t - 25)) l)
    unfolding last_rec rec_in
    data-part =
        let e : u - 4 - t + 25 ≡ u - 4 - (t - 25) = omega arith in
        let g : u - 4 - (u - 4 - (t - 25)) ≡ t - 25 = omega arith in
        rw (body-part, drop-drop 25 (u - 4 - t) (take (u - 4) l), e, drop-take (u - 4 - (t - 25)) (u - 4) l, g)

    data-length : length (last_rec (take u l)).body ≡ t - 25
    data-length = rw data-part (length-take-le (t - 25) (drop (u - 4 - (t - 25)) l) (simp length-drop (omega arith)))

    kind_part : (last_rec (take u l)).kind ≡ get_or l (u - 4 - t) 0
    unfolding last_rec rec_in
    kind_part =
        rw (body-part, get_or-drop (u - 4 - t) (take (u - 4) l) 0 0, get_or-take (u - 4) l (u - 4 - t + 0) 0 (omega arith), add-zero (u - 4 - t))

    fields : (k : ℕ) (p : Rec → ℕ) → ((s : List ℕ) → p (rec_in s) ≡ rd32 (drop k s)) → k ≤ 21 → p (last_rec (take u l)) ≡ rd32 (drop (u - 4 - t + k) l)
    unfolding last_rec
    fields k p f h = f (last_body (take u l)) ∙ number-part k h

    -- all its numbers
    pub numbers-part : ((last_rec (take u l)).kind ≡ get_or l (u - 4 - t) 0)
        × ((last_rec (take u l)).usage ≡ rd32 (drop (u - 4 - t + 1) l)) × ((last_rec (take u l)).number ≡ rd32 (drop (u - 4 - t + 5) l))
        × ((last_rec (take u l)).place ≡ rd32 (drop (u - 4 - t + 9) l)) × ((last_rec (take u l)).start ≡ rd32 (drop (u - 4 - t + 13) l))
        × ((last_rec (take u l)).type ≡ rd32 (drop (u - 4 - t + 17) l)) × (length (last_rec (take u l)).body ≡ t - 25)
    unfolding rec_in
    numbers-part = (
      kind_part,
      fields 1 (λ r. r.usage) (λ s. refl) (omega arith),
      fields 5 (λ r. r.number) (λ s. refl) (omega arith),
      fields 9 (λ r. r.place) (λ s. refl) (omega arith),
      fields 13 (λ r. r.start) (λ s. refl) (omega arith),
      fields 17 (λ r. r.type) (λ s. refl) (omega arith),
      data-length,
    )

    -- what is left of its being well formed
    pub formed_part : well_formed (take u l) ≡ (eqb (25 + rd32 (drop (u - 4 - t + 21) l)) t
        && kind_rule (get_or l (u - 4 - t) 0) (rd32 (drop (u - 4 - t + 13) l)) (rd32 (drop (u - 4 - t + 17) l)) (t - 25))
    unfolding well_formed
    formed_part =
        let n = numbers-part in
        let e : trailer (take u l) ≡ t = trailer-part (omega arith) ∙ sym is in
        let k : (leb 1 (last_rec (take u l)).kind && leb (last_rec (take u l)).kind 5 && zeros (last_rec (take u l))) ≡ kind_rule (get_or l (u - 4 - t) 0)
        (rd32 (drop (u - 4 - t + 13) l)) (rd32 (drop (u - 4 - t + 17) l)) (t - 25)
        = kind_rule_lem (last_rec (take u l)) ∙ (λ i. kind_rule (n.0 i) (n.4 i) (n.5 i) (n.6 i)) in
        rw (part_length, le-leb 29 u (omega arith), e, le-leb 25 t low, le-leb t (u - 4) high, number-part 21 (omega arith))
        (turn (eqb (25 + rd32 (drop (u - 4 - t + 21) l)) t) (leb 1 (last_rec (take u l)).kind) (leb (last_rec (take u l)).kind 5) (zeros (last_rec (take u l)))
        ∙ ap (λ (b : Bool). eqb (25 + rd32 (drop (u - 4 - t + 21) l)) t && b) k)
      where
        turn : (a b c d : Bool) → a && b && c && d ≡ a && (b && c && d)
        turn true b c d = refl
        turn false b c d = refl

-- what a well-formed last record tells: where its data lie, and that U less its length is U - (29 + m)
pub record WellFormed (l : List ℕ) (u : ℕ) : Type 0 where
  pub room : 29 + length (last_rec (take u l)).body ≤ u
  pub lies : (last_rec (take u l)).body ≡ take (length (last_rec (take u l)).body) (drop (u - 4 - length (last_rec (take u l)).body) l)
  pub kind_low : 1 ≤ (last_rec (take u l)).kind
  pub kind_high : (last_rec (take u l)).kind ≤ 5
  pub zeros_ok : zeros (last_rec (take u l)) ≡ true

seven : (a b c d e f g : Bool) → a && b && c && d && e && f && g ≡ true
    → (a ≡ true) × (b ≡ true) × (c ≡ true) × (d ≡ true) × (e ≡ true) × (f ≡ true) × (g ≡ true)
seven a b c d e f g h =
    let p6 = and_both (a && b && c && d && e && f) g h in
    let p5 = and_both (a && b && c && d && e) f p6.0 in
    let p4 = and_both (a && b && c && d) e p5.0 in
    let p3 = and_both (a && b && c) d p4.0 in
    let p2 = and_both (a && b) c p3.0 in
    let p1 = and_both a b p2.0 in
    (p1.0, p1.1, p2.1, p3.1, p4.1, p5.1, p6.1)

pub well_formed_part : (l : List ℕ) (u : ℕ) → u ≤ length l → well_formed (take u l) ≡ true → WellFormed l u
unfolding well_formed
well_formed_part l u inside h =
    let j : List ℕ = take u l in
    let t : ℕ = trailer (take u l) in
    let p = seven (leb 29 (length j)) (leb 25 t) (leb t (length j - 4)) (eqb (25 + rd32 (drop 21 (last_body j))) t) (leb 1 (last_rec j).kind)
    (leb (last_rec j).kind 5) (zeros (last_rec j)) h in
    let len : length (take u l) ≡ u = length-take-le u l inside in
    let long : 29 ≤ u = omega (arith, leb-true 29 (length j) p.0) in
    let is : trailer (take u l) ≡ rd32 (drop (u - 4) l) = trailer-part l u inside (omega arith) in
    let low : 25 ≤ trailer (take u l) = leb-true 25 t p.1 in
    let high : trailer (take u l) ≤ u - 4 = omega (arith, leb-true t (length j - 4) p.2) in
    let m : length (last_rec (take u l)).body ≡ trailer (take u l) - 25 = data-length l u inside t is low high in
    record {
      room = omega arith;
      lies = data-part l u inside t is low high ∙ (λ i. take (sym m i) (drop (u - 4 - sym m i) l));
      kind_low = leb-true 1 (last_rec j).kind p.4;
      kind_high = leb-true (last_rec j).kind 5 p.5;
      zeros_ok = p.6;
    }
