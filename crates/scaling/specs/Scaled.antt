-- The sides at which a picture of a file is shown in a window (02, P4).
use Rattle.std.specs.Prelude.{ℕ, List, Bool, ◌&&◌, cond, length, leb, Option, Some, None, Result, Ok}
use Rattle.blorb.specs.declared.refusal.Refusal.{Refusal}
use Rattle.blorb.specs.Refusals.{Refused}
use Rattle.blorb.specs.Tags.{tag}
use Rattle.locate.specs.Located.{located_of, data_at}
use Rattle.locate.specs.declared.Located.{Located}
use Rattle.locate.specs.declared.Located.TheVariants as located
use Rattle.ratio.specs.declared.Fraction.{Fraction}
use Rattle.ratio.specs.Ratio.{over, ratio_by, side_by}
use Rattle.reso.specs.Reso.{Row, word_at, rows_of, shaped, reso_good, row_of}
use Rattle.scaling.specs.declared.Asking.{Asking}
use Rattle.scaling.specs.declared.Sides.{Sides}

abbrev pub Reso : ℕ
Reso = tag 82 101 115 111

-- what a call asks: "Given a window and a picture's size"
abbrev pub asking : (across down picture width height : ℕ) → Asking
asking across down picture width height = record { across = across; down = down; picture = picture; width = width; height = height }

-- "all at most 65,535"; 33: "or a caller's window or picture side too large"
unfoldable pub sides_fit_of : Asking → Bool
sides_fit_of a = leb a.across 65535 && (leb a.down 65535 && (leb a.width 65535 && leb a.height 65535))

-- the answer of these sides
abbrev pub sides : (width height : ℕ) → Result Sides Refusal
sides width height = Ok (record { width = width; height = height })

-- the ratio of a row in this window: "the factor is the smaller of window over standard window in width and height", and so on
abbrev pub row_ratio_of : List ℕ → Asking → Row → Fraction
row_ratio_of d a r = ratio_by (over a.across (word_at d 0)) (over a.down (word_at d 4)) r.standard r.least r.greatest

-- "Each side is multiplied exactly and rounded down"; "Without an entry .. a picture keeps its size."
abbrev pub row_sides : List ℕ → Asking → Option Row → Result Sides Refusal
row_sides d a (Some r) = sides (side_by (row_ratio_of d a r) a.width) (side_by (row_ratio_of d a r) a.height)
row_sides d a None = sides a.width a.height

-- by the only 'Reso', at x with the data d: 32 at "the chunk's start", 33 with no place of its own
unfoldable pub reso_scaled : List ℕ → ℕ → Asking → Result Sides Refusal
reso_scaled d x a =
    cond (shaped (length d)) (cond (reso_good d && sides_fit_of a) (row_sides d a (row_of a.picture (rows_of d))) (Refused 33 0)) (Refused 32 x)

-- "Without .. a 'Reso' a picture keeps its size."
unfoldable pub unscaled : Asking → Result Sides Refusal
unscaled a = cond (sides_fit_of a) (sides a.width a.height) (Refused 33 0)

-- "Refusals, after the reader's own, in this order: 31 a second 'Reso', place its start"
abbrev pub scaled_by : List ℕ → Asking → Result Located Refusal → Result Sides Refusal
scaled_by f a (Ok located.Nothing) = unscaled a
scaled_by f a (Ok (located.One x m)) = reso_scaled (data_at f x m) x a
scaled_by f a (Ok (located.More x m y)) = Refused 31 y
scaled_by f a (Refused k p) = Refused k p

unfoldable pub scaled_of : (profile : ℕ) → List ℕ → Asking → Result Sides Refusal
scaled_of profile f a = scaled_by f a (located_of profile f Reso)
