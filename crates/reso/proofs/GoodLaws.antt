-- What a good 'Reso' tells of its numbers: denominators that are not zero, limits in order, 16 bits.
use mathlib.Core.Path.{◌≡◌}
use Prim.Native.Nat.{ℕ, zero, suc, ◌≤◌, ◌<◌}
use mathlib.Core.List.{List, [], ◌∷◌}
use mathlib.Core.Bool.{Bool, true, false, cond, not}
use native.Mathlib.Omega.{arith}
use lib.Dec.{eqb, leb}
use borrow.Author.Tests.{ne_eqb, leb-true}
use Rattle.blorb.proofs.Checks.{and_both}
use Rattle.ratio.specs.declared.Fraction.{Fraction}
use Rattle.ratio.specs.Small.{Small}
use Rattle.ratio.proofs.OrderLaws.{Whole, Limit, Under}
use Rattle.reso.specs.Reso.{word_at, fraction_at_of, Row, rows_of, fits, limit_good_of, ordered, row_good_of, rows_good_of}
use Rattle.reso.specs.Reso.{distinct, pictures, window_good_of, reso_good}
use Rattle.reso.specs.Reso.{row_of}
use Rattle.std.specs.Prelude.{Option, Some}

not_zero : (n : ℕ) → not (eqb n 0) ≡ true → 0 < n
not_zero zero e = cc
not_zero (suc n) e = omega arith

fit_small : (a : Fraction) → fits a ≡ true → Small a
fit_small a e =
    let q = and_both (leb a.num 65535) (leb a.den 65535) e in
    record { top = leb-true _ _ q.0; bottom = leb-true _ _ q.1 }

limit_whole : (a : Fraction) → limit_good_of a ≡ true → Limit a
limit_whole a e n = not_zero a.den (rw (ne_eqb a.num 0 n) at e)

ordered_under : (l g : Fraction) → ordered l g ≡ true → (l.num ≡ 0 → ⊥) → (g.num ≡ 0 → ⊥) → Under l g
ordered_under l g e nl ng = leb-true _ _ (rw (ne_eqb l.num 0 nl, ne_eqb g.num 0 ng) at e)

pub record RowKeeps (r : Row) : Type 0 where
  pub small : Small r.standard
  pub whole : Whole r.standard
  pub low : Limit r.least
  pub top : Limit r.greatest
  pub between : (r.least.num ≡ 0 → ⊥) → (r.greatest.num ≡ 0 → ⊥) → Under r.least r.greatest

pub row_keeps : (r : Row) → row_good_of r ≡ true → RowKeeps r
unfolding row_good_of
row_keeps r e =
    let a = and_both (fits r.standard) _ e in
    let b = and_both (fits r.least) _ a.1 in
    let c = and_both (fits r.greatest) _ b.1 in
    let k = and_both (not (eqb r.standard.den 0)) _ c.1 in
    let l = and_both (limit_good_of r.least) _ k.1 in
    let m = and_both (limit_good_of r.greatest) (ordered r.least r.greatest) l.1 in
    record {
      small = fit_small r.standard a.0;
      whole = not_zero _ k.0;
      low = limit_whole r.least l.0;
      top = limit_whole r.greatest m.0;
      between = ordered_under r.least r.greatest m.1;
    }

pub record WindowKeeps (d : List ℕ) : Type 0 where
  pub wide : word_at d 0 ≤ 65535
  pub high : word_at d 4 ≤ 65535
  pub some_wide : 0 < word_at d 0
  pub some_high : 0 < word_at d 4

pub window_keeps : (d : List ℕ) → window_good_of d ≡ true → WindowKeeps d
unfolding window_good_of
window_keeps d e =
    let a = and_both (fits (fraction_at_of d 0)) _ e in
    let b = and_both (fits (fraction_at_of d 8)) _ a.1 in
    let c = and_both (fits (fraction_at_of d 16)) _ b.1 in
    let k = and_both (not (eqb (word_at d 0) 0)) (not (eqb (word_at d 4) 0)) c.1 in
    let s = fit_small (fraction_at_of d 0) a.0 in
    record { wide = s.top; high = s.bottom; some_wide = not_zero _ k.0; some_high = not_zero _ k.1 }

-- the row of a picture is a good one
row-good : (p : ℕ) (rs : List Row) (r : Row) → rows_good_of rs ≡ true → row_of p rs ≡ Some r → row_good_of r ≡ true
unfolding rows_good_of row_of
row-good p [] r g e = cc
row-good p (x ∷ xs) r g e =
    let q = and_both (row_good_of x) (rows_good_of xs) g in
    by (eqb x.picture p) (row_of p xs) q.0 (λ k. row-good p xs r q.1 k) e
  where
    by : (b : Bool) (l : Option Row) → row_good_of x ≡ true → (l ≡ Some r → row_good_of r ≡ true) → cond b (Some x) l ≡ Some r → row_good_of r ≡ true
    by true l h k m = let n : x ≡ r = cc in rw (← n) h
    by false l h k m = k m

-- a good 'Reso', of the row of a picture
pub good_found : (d : List ℕ) (p : ℕ) (r : Row) → reso_good d ≡ true → row_of p (rows_of d) ≡ Some r → (window_good_of d ≡ true) × (row_good_of r ≡ true)
unfolding reso_good
good_found d p r e h =
    let q = and_both (window_good_of d) _ e in
    let g = and_both (rows_good_of (rows_of d)) (distinct (pictures (rows_of d))) q.1 in
    (q.0, row-good p (rows_of d) r g.0 h)
