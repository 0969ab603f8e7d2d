-- Statements between the code and the definitions: where rows lie, lists of entries compared and counted.
use Rattle.std.specs.Prelude.{◌≡◌, ℕ, ◌+◌, ◌*◌, ◌≤◌, ◌<◌, Bool, true, false, ◌&&◌, ◌||◌, not, eqb}
use mathlib.Core.List.{List, [], ◌∷◌, Memᴰ}
use Rattle.blorb.specs.Format.{Entry}
use Rattle.blorb.specs.All.{All}
use Rattle.rows.specs.Order.{before, is_pair}
use Rattle.rows.specs.Halving.{row_of}

-- n rows in that layout lie in l numbers
abbrev pub Fits : ℕ → ℕ → ℕ → ℕ → Type 0
Fits l n step gap = (3 * n ≤ l) × ((i : ℕ) → i < n → i * step + 2 * gap < l)

-- the first i rows of both are the same
abbrev pub Alike : List Entry → List Entry → ℕ → Type 0
Alike xs ys i = (k : ℕ) → k < i → row_of xs k ≡ row_of ys k

-- no pair stands twice (01, rule 6)
abbrev pub Differ : Entry → Entry → Type 0
Differ e x = is_pair e.usage e.number x ≡ false

unfoldable pub NoTwice : List Entry → Type 0
NoTwice [] = Unit {0}
NoTwice (e ∷ es) = All (Differ e) es × NoTwice es

-- each of the first entries is one of the others
abbrev pub Within : List Entry → List Entry → Type 0
Within s r = (x : Entry) → Memᴰ x s → Memᴰ x r

-- how many of these stand before the pair (u, n)
abbrev pub one : Bool → ℕ
one true = 1
one false = 0

unfoldable pub rank : ℕ → ℕ → List Entry → ℕ
rank u n [] = 0
rank u n (e ∷ es) = one (before e.usage e.number u n) + rank u n es

-- how many of these do not stand behind it
unfoldable pub upto : ℕ → ℕ → List Entry → ℕ
upto u n [] = 0
upto u n (e ∷ es) = one (not (before u n e.usage e.number)) + upto u n es

-- the row (u, n, x) is one of these
unfoldable pub held : ℕ → ℕ → ℕ → List Entry → Bool
held u n x [] = false
held u n x (e ∷ es) = (is_pair u n e && eqb e.start x) || held u n x es
