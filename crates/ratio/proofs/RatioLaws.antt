-- The steps of a picture's ratio, as the definition takes them, and that the smaller of two fractions is one of them.
use mathlib.Core.Path.{◌≡◌}
use mathlib.Core.Bool.{Bool, true, false, cond}
use Rattle.ratio.specs.declared.Fraction.{Fraction}
use Rattle.ratio.specs.Ratio.{at_most, is_none, smaller, times, raised, lowered, ratio_by}
use Rattle.ratio.specs.Small.{Small}

pub pick_either : (P : Fraction → Type 0) (b : Bool) (x y : Fraction) → P x → P y → P (cond b x y)
pick_either P true x y p q = p
pick_either P false x y p q = q

pub smaller_small : (a b r : Fraction) → Small a → Small b → r ≡ smaller a b → Small r
unfolding smaller
smaller_small a b r p q e = rw e (pick_either Small (at_most a b) a b p q)

-- the four steps, one after another: the smaller, times the standard ratio, the least one kept, and the greatest
pub ratio_chain : (across down standard least greatest s t r l : Fraction) → s ≡ smaller across down → t ≡ times s standard
    → (b : Bool) → b ≡ at_most least t → r ≡ cond (is_none least) t (cond b t least)
    → (d : Bool) → d ≡ at_most r greatest → l ≡ cond (is_none greatest) r (cond d r greatest)
    → l ≡ ratio_by across down standard least greatest
unfolding ratio_by raised lowered
ratio_chain a d st le g s t r l es et b eb er c ec el = rw (el, ec, er, eb, et, es)
