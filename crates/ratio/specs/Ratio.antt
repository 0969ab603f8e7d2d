-- Fractions of whole numbers, compared by cross multiplication, and the ratio by which a picture is scaled (02, P4).
use Rattle.std.specs.Prelude.{ℕ, ◌*◌, ◌/◌, Bool, cond, eqb, leb}
use Rattle.ratio.specs.declared.Fraction.{Fraction}

abbrev pub over : ℕ → ℕ → Fraction
over n d = record { num = n; den = d }

-- a is at most b, where no denominator is zero
abbrev pub at_most : Fraction → Fraction → Bool
at_most a b = leb (a.num * b.den) (b.num * a.den)

unfoldable pub smaller : Fraction → Fraction → Fraction
smaller a b = cond (at_most a b) a b

unfoldable pub times : Fraction → Fraction → Fraction
times a b = over (a.num * b.num) (a.den * b.den)

-- "a limit with numerator zero is none", whatever its denominator
abbrev pub is_none : Fraction → Bool
is_none limit = eqb limit.num 0

-- "raised to the least .. ratio"
unfoldable pub raised : Fraction → Fraction → Fraction
raised least x = cond (is_none least) x (cond (at_most least x) x least)

-- "lowered to the greatest ratio"
unfoldable pub lowered : Fraction → Fraction → Fraction
lowered greatest x = cond (is_none greatest) x (cond (at_most x greatest) x greatest)

-- "the factor is the smaller of window over standard window in width and height. Times the standard ratio, it is raised to the least and lowered
-- to the greatest ratio." across, down: window over standard window in width and in height
unfoldable pub ratio_by : (across down standard least greatest : Fraction) → Fraction
ratio_by across down standard least greatest = lowered greatest (raised least (times (smaller across down) standard))

-- "Each side is multiplied exactly and rounded down"
unfoldable pub side_by : Fraction → ℕ → ℕ
side_by r side = side * r.num / r.den
