-- An entry by its pair.
use Rattle.std.specs.Prelude.{ℕ, List, [], ◌∷◌, Bool, true, false, ◌&&◌, eqb, Option, Some, None}
use Rattle.blorb.specs.Format as format

-- the start of the first entry with this usage and number
abbrev pub pick_hit : Bool → ℕ → Option ℕ → Option ℕ
pick_hit true x h = Some x
pick_hit false x h = h

unfoldable pub hit_in : ℕ → ℕ → List format.Entry → Option ℕ
hit_in u n [] = None
hit_in u n (e ∷ es) = pick_hit (eqb e.usage u && eqb e.number n) e.start (hit_in u n es)
