-- The order of the chunks (02, P5) where an entry goes into the index, told by the starts of the two entries beside it.
use Rattle.std.specs.Prelude.{ℕ, ◌-◌, Bool, ◌&&◌, ◌||◌, not, eqb, leb, ltb}

-- Entry j of n starts at `starts j`. At place i the entry in front of it, if there is one, starts below `limit`, and the entry that it goes before, if
-- there is one, starts not below x.
abbrev pub between : (ℕ → ℕ) → ℕ → ℕ → ℕ → ℕ → Bool
between starts n i limit x = leb i n && ((eqb i 0 || ltb (starts (i - 1)) limit) && (not (ltb i n) || leb x (starts i)))
