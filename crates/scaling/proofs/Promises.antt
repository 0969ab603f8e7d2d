-- What the scaled sides keep, of any file and any answer that is not a refusal: all of it follows from the definition, so from the contract of the call.
use mathlib.Core.Path.{◌≡◌, refl, sym, ap, ◌∙◌}
use Prim.Native.Nat.{ℕ, ◌≤◌, ◌<◌}
use mathlib.Core.List.{List, [], ◌∷◌}
use mathlib.Core.Logic.{◌⊎◌, inl, inr}
use mathlib.Core.Bool.{Bool, true, false, ◌&&◌, cond}
use native.Mathlib.Omega.{arith}
use native.Mathlib.Nat.{mul-le-mul_right}
use lib.ListN.{length}
use Rattle.blorb.specs.Verdict.{Verdict, accept, refuse}
use Rattle.blorb.specs.Rules.{profile_verdict}
use Rattle.blorb.specs.Model.{base, model}
use Rattle.reader.specs.Reading.{index_of, read_by, read_of}
use Rattle.std.specs.Prelude.{Option, Some, None, Result, Ok}
use Rattle.blorb.specs.declared.refusal.Refusal.{Refusal}
use Rattle.blorb.specs.Refusals.{Refused, answer_by}
use Rattle.blorb.proofs.RefusalLaws.{same_refusal}
use Rattle.locate.specs.Located.{Spot, of_type, located_in, located_of, data_at}
use Rattle.locate.specs.declared.Located.{Located}
use Rattle.locate.specs.declared.Located.TheVariants as located
use Rattle.locate.proofs.Promises.{plain_located, located_unknown}
use Rattle.ratio.specs.Ratio.{over, side_by}
use Rattle.ratio.proofs.OrderLaws.{side_mono}
use Rattle.ratio.proofs.Promises.{RoundedDown, Sound, rounded_down, ratio_grows, side-between, side-own}
use Rattle.reso.specs.Reso.{word_at, Row, row_good_of, rows_of, shaped, window_good_of, reso_good, row_of}
use Rattle.reso.proofs.GoodLaws.{row_keeps, window_keeps, good_found}
use Rattle.scaling.specs.declared.Asking.{Asking}
use Rattle.scaling.specs.declared.Sides.{Sides}
use Rattle.scaling.specs.Scaled.{Reso, sides, asking, sides_fit_of, row_ratio_of, row_sides, reso_scaled, unscaled, scaled_by, scaled_of}
use Rattle.scaling.proofs.SideLaws.{same_sides, row-sound, row_whole}

-- the file has one 'Reso', with the data d, and l is what it has of picture p: its row, or that there is none
pub record Has (profile : ℕ) (f : List ℕ) (p : ℕ) (d : List ℕ) (l : Option Row) : Type 0 where
  pub start : ℕ
  pub size : ℕ
  pub only : located_of profile f Reso ≡ Ok (located.One start size)
  pub body : data_at f start size ≡ d
  pub row : row_of p (rows_of d) ≡ l

-- an answer that is not a refusal
picks : (p q s : Bool) (v : Result Sides Refusal) (x w h : ℕ) → cond p (cond (q && s) v (Refused 33 0)) (Refused 32 x) ≡ sides w h
    → (q ≡ true) × (v ≡ sides w h)
picks true true true v x w h e = (refl, e)
picks true true false v x w h e = cc
picks true false s v x w h e = cc
picks false q s v x w h e = cc

by_data : (d : List ℕ) (x : ℕ) (a : Asking) (w h : ℕ) → reso_scaled d x a ≡ sides w h
    → (reso_good d ≡ true) × (row_sides d a (row_of a.picture (rows_of d)) ≡ sides w h)
unfolding reso_scaled
by_data d x a w h e = picks (shaped (length d)) (reso_good d) (sides_fit_of a) (row_sides d a (row_of a.picture (rows_of d))) x w h e

unscaled-own : (a : Asking) (w h : ℕ) → unscaled a ≡ sides w h → (w ≡ a.width) × (h ≡ a.height)
unfolding unscaled
unscaled-own a w h e = by (sides_fit_of a) e
  where
    by : (b : Bool) → cond b (sides a.width a.height) (Refused 33 0) ≡ sides w h → (w ≡ a.width) × (h ≡ a.height)
    by true k = let s = same_sides _ _ _ _ k in (sym s.0, sym s.1)
    by false k = cc

-- "Without .. a 'Reso' a picture keeps its size."
pub kept-without : (profile : ℕ) (f : List ℕ) (a : Asking) (w h : ℕ) → located_of profile f Reso ≡ Ok located.Nothing → scaled_of profile f a ≡ sides w h
    → (w ≡ a.width) × (h ≡ a.height)
unfolding scaled_of
kept-without profile f a w h n e = unscaled-own a w h (rw n at e)

module _ (profile : ℕ) (f : List ℕ) (a : Asking) (w h : ℕ) (d : List ℕ) (l : Option Row) (m : Has profile f a.picture d l)
    (e : scaled_of profile f a ≡ sides w h) where
  answered : (reso_good d ≡ true) × (row_sides d a l ≡ sides w h)
  unfolding scaled_of
  answered =
      let v : reso_scaled (data_at f m.start m.size) m.start a ≡ sides w h = rw m.only at e in
      let b = by_data d m.start a w h (rw m.body at v) in
      (b.0, ap (row_sides d a) (sym m.row) ∙ b.1)

-- "Without an entry .. a picture keeps its size."
pub kept_unlisted : (profile : ℕ) (f : List ℕ) (a : Asking) (w h : ℕ) (d : List ℕ) → Has profile f a.picture d None → scaled_of profile f a ≡ sides w h
    → (w ≡ a.width) × (h ≡ a.height)
kept_unlisted profile f a w h d m e =
    let s = same_sides _ _ _ _ (answered profile f a w h d None m e).1 in (sym s.0, sym s.1)

-- n lies between what the two limits of a row alone make of the side s
abbrev pub Between : Row → ℕ → ℕ → Type 0
Between r s n = (side_by r.least s ≤ n) × (n ≤ side_by r.greatest s)

-- a listed picture
module _ (profile : ℕ) (f : List ℕ) (a : Asking) (w h : ℕ) (d : List ℕ) (r : Row) (m : Has profile f a.picture d (Some r))
    (e : scaled_of profile f a ≡ sides w h) where
  widths : w ≡ side_by (row_ratio_of d a r) a.width
  widths = sym (same_sides _ _ _ _ (answered profile f a w h d (Some r) m e).1).0

  heights : h ≡ side_by (row_ratio_of d a r) a.height
  heights = sym (same_sides _ _ _ _ (answered profile f a w h d (Some r) m e).1).1

  found : (window_good_of d ≡ true) × (row_good_of r ≡ true)
  found = good_found d a.picture r (answered profile f a w h d (Some r) m e).0 m.row

  sound : Sound (over a.across (word_at d 0)) (over a.down (word_at d 4)) r.standard r.least r.greatest
  sound = row-sound d a r found.0 found.1

  -- "Each side is multiplied exactly and rounded down": once, at the end
  pub rounded_once : RoundedDown (row_ratio_of d a r) a.width w × RoundedDown (row_ratio_of d a r) a.height h
  rounded_once =
      let p = row_whole d a r found.0 found.1 in
      (rw widths (rounded_down (row_ratio_of d a r) a.width p), rw heights (rounded_down (row_ratio_of d a r) a.height p))

  -- "Where a listed picture has both limits, its sides lie between those that the two limits alone would give."
  pub between : (r.least.num ≡ 0 → ⊥) → (r.greatest.num ≡ 0 → ⊥) → Between r a.width w × Between r a.height h
  between nl ng =
      let b = side-between (over a.across (word_at d 0)) (over a.down (word_at d 4)) r.standard r.least r.greatest sound nl ng
      ((row_keeps r found.1).between nl ng) in
      (rw widths (b a.width), rw heights (b a.height))

  -- with standard ratio 1 and no limits the standard window gives the picture's own size
  pub own-size : a.across ≡ word_at d 0 → a.down ≡ word_at d 4 → r.standard.num ≡ r.standard.den → r.least.num ≡ 0 → r.greatest.num ≡ 0
      → (w ≡ a.width) × (h ≡ a.height)
  own-size ea ed es el eg = (widths ∙ of a.width, heights ∙ of a.height)
    where
      of : (n : ℕ) → side_by (row_ratio_of d a r) n ≡ n
      of n =
          let k = window_keeps d found.0 in
          rw (ea, ed, es)
          (side-own (word_at d 0) (word_at d 4) r.standard.den r.least r.greatest n k.some_wide k.some_high
          (row_keeps r found.1).whole el eg)

-- a larger window never gives a smaller side, whatever the file has of the picture
module _ (across down wider higher p width height : ℕ) (la : across ≤ wider) (ld : down ≤ higher) where
  row-larger : (d : List ℕ) (r : Row) (n : ℕ) → (window_good_of d ≡ true) × (row_good_of r ≡ true)
      → side_by (row_ratio_of d (asking across down p width height) r) n ≤ side_by (row_ratio_of d (asking wider higher p width height) r) n
  row-larger d r n k =
      let a : Asking = asking across down p width height in
      let b : Asking = asking wider higher p width height in
      let sa = row-sound d (asking across down p width height) r k.0 k.1 in
      let sb = row-sound d (asking wider higher p width height) r k.0 k.1 in
      side_mono (row_ratio_of d a r) (row_ratio_of d b r) n (row_whole d a r k.0 k.1) (row_whole d b r k.0 k.1)
      (ratio_grows (over across (word_at d 0)) (over down (word_at d 4)) r.standard r.least r.greatest sa (over wider (word_at d 0))
      (over higher (word_at d 4)) sb (mul-le-mul_right (word_at d 0) la) (mul-le-mul_right (word_at d 4) ld))

  module _ (w h v g : ℕ) where
    rows-larger : (d : List ℕ) → reso_good d ≡ true → (l : Option Row) → row_of p (rows_of d) ≡ l
        → row_sides d (asking across down p width height) l ≡ sides w h → row_sides d (asking wider higher p width height) l ≡ sides v g → (w ≤ v) × (h ≤ g)
    rows-larger d good None e x y = let s = same_sides _ _ _ _ (sym x ∙ y) in (omega (arith, s.0), omega (arith, s.1))
    rows-larger d good (Some r) e x y =
        let k = good_found d p r good e in
        let s = same_sides _ _ _ _ x in
        let t = same_sides _ _ _ _ y in
        (rw (s.0, t.0) at (row-larger d r width k), rw (s.1, t.1) at (row-larger d r height k))

    located_larger : (f : List ℕ) (l : Result Located Refusal) → scaled_by f (asking across down p width height) l ≡ sides w h
        → scaled_by f (asking wider higher p width height) l ≡ sides v g → (w ≤ v) × (h ≤ g)
    located_larger f (Ok located.Nothing) x y =
        let i = unscaled-own (asking across down p width height) w h x in
        let j = unscaled-own (asking wider higher p width height) v g y in
        (omega (arith, i.0, j.0), omega (arith, i.1, j.1))
    located_larger f (Ok (located.One s m)) x y =
        let i = by_data (data_at f s m) s (asking across down p width height) w h x in
        let j = by_data (data_at f s m) s (asking wider higher p width height) v g y in
        rows-larger (data_at f s m) i.0 (row_of p (rows_of (data_at f s m))) refl i.1 j.1
    located_larger f (Ok (located.More s m t)) x y = cc
    located_larger f (Refused k t) x y = cc

    pub larger_window : (profile : ℕ) (f : List ℕ) → scaled_of profile f (asking across down p width height) ≡ sides w h
        → scaled_of profile f (asking wider higher p width height) ≡ sides v g → (w ≤ v) × (h ≤ g)
    unfolding scaled_of
    larger_window profile f x y = located_larger f (located_of profile f Reso) x y

-- "Refusals, after the reader's own": each is the reader's, or 31, 32 or 33
module _ (f : List ℕ) (a : Asking) (k p : ℕ) where
  abbrev Own : Type 0
  Own = (31 ≤ k) × (k ≤ 33)

  without-refused : unscaled a ≡ Refused k p → Own
  unfolding unscaled
  without-refused e = go (sides_fit_of a) e
    where
      go : (b : Bool) → cond b (sides a.width a.height) (Refused 33 0) ≡ Refused k p → Own
      go true e = cc
      go false e = let z : 33 ≡ k = (same_refusal e).0 in (omega arith, omega arith)

  reso-refused : (d : List ℕ) (x : ℕ) → reso_scaled d x a ≡ Refused k p → Own
  unfolding reso_scaled
  reso-refused d x e = go (shaped (length d)) (reso_good d && sides_fit_of a) (row_of a.picture (rows_of d)) e
    where
      go : (b c : Bool) (l : Option Row) → cond b (cond c (row_sides d a l) (Refused 33 0)) (Refused 32 x) ≡ Refused k p → Own
      go true true None e = cc
      go true true (Some r) e = cc
      go true false l e = let z : 33 ≡ k = (same_refusal e).0 in (omega arith, omega arith)
      go false c l e = let z : 32 ≡ k = (same_refusal e).0 in (omega arith, omega arith)

  spots_refused : (xs : List Spot) → scaled_by f a (Ok (located_in xs)) ≡ Refused k p → Own
  spots_refused [] e = without-refused e
  spots_refused (x ∷ []) e = reso-refused (data_at f x.start x.amount) x.start e
  spots_refused (x ∷ (y ∷ ys)) e = let z : 31 ≡ k = (same_refusal e).0 in (omega arith, omega arith)

pub refused_by : (profile : ℕ) (f : List ℕ) (a : Asking) (k p : ℕ) → scaled_of profile f a ≡ Refused k p
    → (read_of profile f ≡ Refused k p) ⊎ ((31 ≤ k) × (k ≤ 33))
unfolding scaled_of located_of read_of
refused_by profile f a k p e = go (profile_verdict profile f) e
  where
    go : (v : Verdict) → scaled_by f a (answer_by v (located_in (of_type Reso (base (length (model f).refs)) (model f).chunks))) ≡ Refused k p
        → (read_by v (length f) (length (index_of f)) ≡ Refused k p) ⊎ ((31 ≤ k) × (k ≤ 33))
    go accept e = inr (spots_refused f a k p (of_type Reso (base (length (model f).refs)) (model f).chunks) e)
    go (refuse i j) e = inl cc

-- of a file accepted as plain the answer is the same under ADRIFT (02, P12)
pub plain_scaled : (f : List ℕ) → profile_verdict 0 f ≡ accept → (a : Asking) → scaled_of 1 f a ≡ scaled_of 0 f a
unfolding scaled_of
plain_scaled f h a = rw (plain_located f Reso h)

-- under an unknown profile the answer is 52, before all others (02, P12)
pub unknown_scaled : (profile : ℕ) (f : List ℕ) (a : Asking) → 1 < profile → scaled_of profile f a ≡ Refused 52 0
unfolding scaled_of
unknown_scaled profile f a h = rw (located_unknown profile f Reso h)
