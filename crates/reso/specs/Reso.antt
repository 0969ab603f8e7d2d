-- The 'Reso' chunk's data (02, P4; 001, section 11.2): "24 bytes of standard, least and greatest window, each width then height, then 28 bytes an entry:
-- picture number and three fractions, standard, least and greatest ratio". d is the data.
use Rattle.std.specs.Prelude.{ℕ, zero, suc, ◌+◌, ◌-◌, ◌/◌, ◌%◌, List, [], ◌∷◌, map, length, drop, Option, Some, None}
use Rattle.std.specs.Prelude.{Bool, true, ◌&&◌, ◌||◌, not, cond, eqb, leb}
use Rattle.blorb.specs.Bytes.{rd32}
use Rattle.blorb.specs.Rules.{one_of}
use Rattle.ratio.specs.declared.Fraction.{Fraction}
use Rattle.ratio.specs.Ratio.{over, at_most, is_none}

abbrev pub word_at : List ℕ → ℕ → ℕ
word_at d at = rd32 (drop at d)

-- numerator and denominator; a window's width and height stand in the same way
abbrev pub fraction_at_of : List ℕ → ℕ → Fraction
fraction_at_of d at = over (word_at d at) (word_at d (at + 4))

pub record Row : Type 0 where
  pub picture : ℕ
  pub standard : Fraction
  pub least : Fraction
  pub greatest : Fraction

abbrev pub row_at : List ℕ → ℕ → Row
row_at d at = record { picture = word_at d at; standard = fraction_at_of d (at + 4); least = fraction_at_of d (at + 12); greatest = fraction_at_of d (at + 20) }

-- n rows from offset at on
unfoldable pub rows_from : List ℕ → ℕ → ℕ → List Row
rows_from d zero at = []
rows_from d (suc n) at = row_at d at ∷ rows_from d n (at + 28)

-- 32: "length not 24 plus a multiple of 28"
unfoldable pub shaped : ℕ → Bool
shaped m = leb 24 m && eqb ((m - 24) % 28) 0

abbrev pub count_of : ℕ → ℕ
count_of m = (m - 24) / 28

-- all rows of the chunk
abbrev pub rows_of : List ℕ → List Row
rows_of d = rows_from d (count_of (length d)) 24

-- 33: "a number over 65,535 other than a picture number"
abbrev pub fits : Fraction → Bool
fits a = leb a.num 65535 && leb a.den 65535

-- "a denominator zero .. under a limit"; "a limit with numerator zero is none"
abbrev pub limit_good_of : Fraction → Bool
limit_good_of a = is_none a || not (eqb a.den 0)

-- "least ratio over greatest ratio where both are limits"
abbrev pub ordered : Fraction → Fraction → Bool
ordered least greatest = is_none least || (is_none greatest || at_most least greatest)

-- a row by itself; "a denominator zero in the standard ratio"
unfoldable pub row_good_of : Row → Bool
row_good_of r =
    fits r.standard && (fits r.least && (fits r.greatest && (not (eqb r.standard.den 0)
    && (limit_good_of r.least && (limit_good_of r.greatest && ordered r.least r.greatest)))))

unfoldable pub rows_good_of : List Row → Bool
rows_good_of [] = true
rows_good_of (r ∷ rs) = row_good_of r && rows_good_of rs

-- "a repeated picture number": no number is among those behind it
unfoldable pub distinct : List ℕ → Bool
distinct [] = true
distinct (p ∷ ps) = not (one_of p ps) && distinct ps

abbrev pub pictures : List Row → List ℕ
pictures rs = map (λ (r : Row). r.picture) rs

-- the six numbers before the rows; "a standard width or height of zero"
unfoldable pub window_good_of : List ℕ → Bool
window_good_of d =
    fits (fraction_at_of d 0) && (fits (fraction_at_of d 8) && (fits (fraction_at_of d 16)
    && (not (eqb (word_at d 0) 0) && not (eqb (word_at d 4) 0))))

-- all of the chunk is judged, whichever picture is asked for
unfoldable pub reso_good : List ℕ → Bool
reso_good d = window_good_of d && (rows_good_of (rows_of d) && distinct (pictures (rows_of d)))

-- the row of a picture, if there is one
unfoldable pub row_of : ℕ → List Row → Option Row
row_of p [] = None
row_of p (r ∷ rs) = cond (eqb r.picture p) (Some r) (row_of p rs)
