-- The entries of data that they fill: where each stands, that it lies in the data, and what it holds.
use mathlib.Core.Path.{◌≡◌, refl, sym, ap, subst, ◌∙◌}
use Prim.Native.Nat.{ℕ, zero, suc, ◌+◌, ◌-◌, ◌≤◌, ◌<◌}
use mathlib.Core.List.{List, [], ◌∷◌, ◌++◌}
use mathlib.Core.Bool.{Bool, true, false, ◌&&◌, ◌||◌}
use native.Mathlib.Omega.{arith}
use native.Mathlib.Nat.{not-suc-le-zero}
use lib.ListN.{length, get_or, drop, length-drop}
use lib.Seq.{length-take-le}
use lib.Dec.{eqb, leb}
use borrow.Author.Tests.{le-leb, lt-leb, leb-true}
use Rattle.blorb.specs.Bytes.{rd32}
use Rattle.blorb.proofs.Checks.{and_both, or_swap}
use Rattle.rdes.specs.Rdes.{Desc, desc, usage_at, number_at, size_at, text_at, next_at, offset_of, fills_from, fills, descs_from, pair_among}

-- an entry's header and its text lie in the data
pub record Room (d : List ℕ) (at : ℕ) : Type 0 where
  pub header : at + 12 ≤ length d
  pub text : next_at d at ≤ length d

pub filled : (d : List ℕ) (n at : ℕ) → fills_from d (suc n) at ≡ true → Room d at × (fills_from d n (next_at d at) ≡ true)
unfolding fills_from
filled d n at e =
    let p = and_both (leb (at + 12) (length d)) _ e in
    let q = and_both (leb (next_at d at) (length d)) (fills_from d n (next_at d at)) p.1 in
    (record { header = leb-true _ _ p.0; text = leb-true _ _ q.0 }, q.1)

pub entry-room : (d : List ℕ) (n i at : ℕ) → i < n → fills_from d n at ≡ true → Room d (offset_of d i at)
unfolding offset_of
entry-room d zero i at h e = absurd (not-suc-le-zero h)
entry-room d (suc n) zero at h e = (filled d n at e).0
entry-room d (suc n) (suc i) at h e = entry-room d n i (next_at d at) (omega arith) (filled d n at e).1

pub room_at : (d : List ℕ) (n i at x : ℕ) → i < n → fills_from d n at ≡ true → x ≡ offset_of d i at → Room d x
room_at d n i at x h e s = subst (Room d) (sym s) (entry-room d n i at h e)

pub offset-none : (d : List ℕ) (at : ℕ) → offset_of d 0 at ≡ at
unfolding offset_of
offset-none d at = refl

pub offset-next : (d : List ℕ) (i at : ℕ) → next_at d (offset_of d i at) ≡ offset_of d (suc i) at
unfolding offset_of
offset-next d zero at = refl
offset-next d (suc i) at = offset-next d i (next_at d at)

pub offset_on : (d : List ℕ) (i at x y : ℕ) → x ≡ offset_of d i at → y ≡ next_at d x → y ≡ offset_of d (i + 1) at
offset_on d i at x y ex ey = let s : i + 1 ≡ suc i = omega arith in ey ∙ ap (next_at d) ex ∙ offset-next d i at ∙ ap (λ (j : ℕ). offset_of d j at) (sym s)

pub descs_length : (d : List ℕ) (n at : ℕ) → length (descs_from d n at) ≡ n
unfolding descs_from
descs_length d zero at = refl
descs_length d (suc n) at = ap suc (descs_length d n (next_at d at))

-- entry i of these
pub entry_of_lem : (d : List ℕ) (n i at : ℕ) (e : Desc) → i < n
    → get_or (descs_from d n at) i e ≡ desc (usage_at d (offset_of d i at)) (number_at d (offset_of d i at)) (text_at d (offset_of d i at))
unfolding descs_from offset_of
entry_of_lem d zero i at e h = absurd (not-suc-le-zero h)
entry_of_lem d (suc n) zero at e h = refl
entry_of_lem d (suc n) (suc i) at e h = entry_of_lem d n i (next_at d at) e (omega arith)

pub text-length : (d : List ℕ) (at : ℕ) → next_at d at ≤ length d → length (text_at d at) ≡ size_at d at
text-length d at h =
    let n : length (drop (at + 12) d) ≡ length d - (at + 12) = length-drop (at + 12) d in
    length-take-le (size_at d at) (drop (at + 12) d) (omega arith)

-- 37
module _ (d : List ℕ) (count i at : ℕ) (h : i < count) where
  fills-is : fills_from d (count - i) at ≡ (leb (at + 12) (length d) && (leb (next_at d at) (length d) && fills_from d (count - (i + 1)) (next_at d at)))
  unfolding fills_from
  fills-is = let e : count - i ≡ suc (count - (i + 1)) = omega arith in rw e

  pub fills_short : at ≤ length d → length d - at < 12 → false ≡ fills_from d (count - i) at
  fills_short l k = let n : length d < at + 12 = omega arith in sym (fills-is ∙ rw (lt-leb (at + 12) (length d) n))

  module _ (l : at + 12 ≤ length d) (m : ℕ) (em : m ≡ size_at d at) where
    pub fills_cut : length d - at - 12 < m → false ≡ fills_from d (count - i) at
    fills_cut k =
        let n : length d < next_at d at = omega arith in
        sym (fills-is ∙ rw (le-leb (at + 12) (length d) l, lt-leb (next_at d at) (length d) n))

    pub fills-next : m ≤ length d - at - 12 → fills_from d (count - (i + 1)) (at + 12 + m) ≡ fills_from d (count - i) at
    fills-next k =
        let n : next_at d at ≤ length d = omega arith in
        sym (fills-is ∙ rw (le-leb (at + 12) (length d) l, le-leb (next_at d at) (length d) n, em))

pub fills_end : (d : List ℕ) (count i at : ℕ) → count ≤ i → eqb at (length d) ≡ fills_from d (count - i) at
unfolding fills_from
fills_end d count i at h = let e : count - i ≡ 0 = omega arith in rw e

pub fills-start : (d : List ℕ) (count at : ℕ) → fills_from d (count - 0) at ≡ fills_from d count at
fills-start d count at = let e : count - 0 ≡ count = omega arith in rw e

pub fills-none : (d : List ℕ) → length d < 4 → false ≡ fills d
unfolding fills
fills-none d h = rw (lt-leb 4 (length d) h)

pub fills_some : (d : List ℕ) (count : ℕ) (b : Bool) → 4 ≤ length d → count ≡ rd32 d → b ≡ fills_from d count 4 → b ≡ fills d
unfolding fills
fills_some d count b h e q = q ∙ rw (le-leb 4 (length d) h, e)

pub fills-all : (d : List ℕ) → fills d ≡ true → (4 ≤ length d) × (fills_from d (rd32 d) 4 ≡ true)
unfolding fills
fills-all d e = let p = and_both (leb 4 (length d)) (fills_from d (rd32 d) 4) e in (leb-true _ _ p.0, p.1)

-- the pairs of a list and of one entry more
pub pair_snoc : (u k : ℕ) (xs : List Desc) (e : Desc) → pair_among u k (xs ++ (e ∷ [])) ≡ (eqb e.usage u && eqb e.number k) || pair_among u k xs
unfolding pair_among
pair_snoc u k [] e = refl
pair_snoc u k (x ∷ xs) e =
    rw (pair_snoc u k xs e) (or_swap (eqb x.usage u && eqb x.number k) (eqb e.usage u && eqb e.number k) (pair_among u k xs))
