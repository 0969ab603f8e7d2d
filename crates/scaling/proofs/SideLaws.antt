-- Each way out of the functions, and the bounds that the tests give.
use mathlib.Core.Path.{◌≡◌, sym, ap, ◌∙◌}
use Prim.Native.Nat.{ℕ, ◌+◌, ◌-◌, ◌≤◌, ◌<◌}
use mathlib.Core.List.{List}
use mathlib.Core.Bool.{true}
use native.Mathlib.Omega.{arith}
use lib.ListN.{length, take, drop}
use lib.Dec.{leb}
use borrow.Author.Tests.{leb-true}
use Rattle.std.specs.Prelude.{Option, Some, None, Ok, Err}
use Rattle.std.specs.Option.{option_map}
use Rattle.blorb.proofs.Checks.{and_both}
use Rattle.blorb.specs.Refusals.{Refused}
use Rattle.locate.specs.Located.{located_of}
use Rattle.locate.specs.declared.Located.TheVariants as located
use Rattle.ratio.specs.declared.Fraction.{Fraction}
use Rattle.ratio.specs.declared.Ratios.{Ratios}
use Rattle.ratio.specs.Ratio.{over, side_by}
use Rattle.ratio.specs.Small.{Small}
use Rattle.ratio.proofs.OrderLaws.{Whole}
use Rattle.ratio.proofs.Promises.{Sound, ratio_whole}
use Rattle.reso.specs.Reso.{word_at, fraction_at_of, Row, row_at, row_good_of, rows_of, count_of, window_good_of, reso_good, row_of}
use Rattle.reso.specs.Places.{row_place}
use Rattle.reso.proofs.RowLaws.{place-row, place-room}
use Rattle.reso.proofs.GoodLaws.{window_keeps, row_keeps, good_found}
use Rattle.scaling.specs.declared.Asking.{Asking}
use Rattle.scaling.specs.declared.Sides.{Sides}
use Rattle.scaling.specs.Scaled.{Reso, sides, sides_fit_of, row_ratio_of, row_sides, reso_scaled, unscaled, scaled_of}

pub record Fitting (a : Asking) : Type 0 where
  pub across : a.across ≤ 65535
  pub down : a.down ≤ 65535
  pub width : a.width ≤ 65535
  pub height : a.height ≤ 65535

pub fitting : (a : Asking) → sides_fit_of a ≡ true → Fitting a
unfolding sides_fit_of
fitting a e =
    let p = and_both (leb a.across 65535) _ e in
    let q = and_both (leb a.down 65535) _ p.1 in
    let r = and_both (leb a.width 65535) (leb a.height 65535) q.1 in
    record { across = leb-true _ _ p.0; down = leb-true _ _ q.0; width = leb-true _ _ r.0; height = leb-true _ _ r.1 }

-- two answers that are the same have the same sides
pub same_sides : (w h v g : ℕ) → sides w h ≡ sides v g → (w ≡ v) × (h ≡ g)
same_sides w h v g e =
    let i : ◌≡◌ {A = Sides} (record { width = w; height = h }) (record { width = v; height = g }) = cc in
    (ap (λ (s : Sides). s.width) i, ap (λ (s : Sides). s.height) i)

-- the fractions of a good row in this window
pub row-sound : (d : List ℕ) (a : Asking) (r : Row) → window_good_of d ≡ true → row_good_of r ≡ true
    → Sound (over a.across (word_at d 0)) (over a.down (word_at d 4)) r.standard r.least r.greatest
row-sound d a r g k =
    let w = window_keeps d g in
    let m = row_keeps r k in
    record { wide = w.some_wide; high = w.some_high; whole = m.whole; low = m.low; top = m.top }

pub row_whole : (d : List ℕ) (a : Asking) (r : Row) → window_good_of d ≡ true → row_good_of r ≡ true → Whole (row_ratio_of d a r)
row_whole d a r g k =
    ratio_whole (over a.across (word_at d 0)) (over a.down (word_at d 4)) r.standard r.least r.greatest (row-sound d a r g k)

-- what is read of it: w the standard window, r the ratios
pub ratio_ready : (d : List ℕ) (a : Asking) (x : ℕ) (w : Fraction) (r : Ratios) → w ≡ fraction_at_of d 0 → r.standard ≡ fraction_at_of d (x + 4)
    → window_good_of d ≡ true → row_good_of (row_at d x) ≡ true → sides_fit_of a ≡ true
    → Small (over a.across w.num) × Small (over a.down w.den) × Small r.standard
ratio_ready d a x w r ew es good row f =
    let t = fitting a f in
    let v = window_keeps d good in
    let k : Small r.standard = rw es (row_keeps (row_at d x) row).small in
    let m : w.num ≤ 65535 = rw ew v.wide in
    let n : w.den ≤ 65535 = rw ew v.high in
    (record { top = t.across; bottom = m }, record { top = t.down; bottom = n }, k)

-- the row that the search finds
module _ (d : List ℕ) (a : Asking) (h : Option ℕ) (e : h ≡ row_place a.picture d (count_of (length d)) 24) where
  row-there : option_map (row_at d) h ≡ row_of a.picture (rows_of d)
  row-there = ap (option_map (row_at d)) e ∙ place-row a.picture d (count_of (length d)) 24

  pub sides-none : h ≡ None → sides a.width a.height ≡ row_sides d a (row_of a.picture (rows_of d))
  sides-none n = let q : None ≡ row_of a.picture (rows_of d) = rw n at row-there in ap (row_sides d a) q

  module _ (x : ℕ) (n : h ≡ Some x) where
    row_here : Some (row_at d x) ≡ row_of a.picture (rows_of d)
    row_here = rw n at row-there

    pub row_room : 24 ≤ length d → x + 28 ≤ length d
    row_room l = let p = place-room a.picture d (count_of (length d)) 24 x (sym e ∙ n) in omega arith

    pub row_found : reso_good d ≡ true → (window_good_of d ≡ true) × (row_good_of (row_at d x) ≡ true)
    row_found good = good_found d a.picture (row_at d x) good (sym row_here)

    module _ (r : Fraction) (er : r ≡ row_ratio_of d a (row_at d x)) where
      pub row_den : reso_good d ≡ true → 0 < r.den
      row_den good = let f = row_found good in rw er (row_whole d a (row_at d x) f.0 f.1)

      pub sides-at : (i j : ℕ) → i ≡ side_by r a.width → j ≡ side_by r a.height → sides i j ≡ row_sides d a (row_of a.picture (rows_of d))
      sides-at i j ei ej = rw (ei, ej, er) (ap (row_sides d a) row_here)

-- by what is located
module _ (profile : ℕ) (f : List ℕ) (a : Asking) where
  pub scaled_no : (r : ℕ × ℕ) → located_of profile f Reso ≡ Err r → Err r ≡ scaled_of profile f a
  unfolding scaled_of
  scaled_no r e = rw e

  pub scaled_more : (x m y : ℕ) → located_of profile f Reso ≡ Ok (located.More x m y) → Refused 31 y ≡ scaled_of profile f a
  unfolding scaled_of
  scaled_more x m y e = rw e

  pub scaled-none : located_of profile f Reso ≡ Ok located.Nothing → unscaled a ≡ scaled_of profile f a
  unfolding scaled_of
  scaled-none e = rw e

  pub scaled-one : (x m : ℕ) → located_of profile f Reso ≡ Ok (located.One x m)
      → reso_scaled (take (x + 8 + m - (x + 8)) (drop (x + 8) f)) x a ≡ scaled_of profile f a
  unfolding scaled_of
  scaled-one x m e = let q : x + 8 + m - (x + 8) ≡ m = omega arith in rw (e, q)
