-- A long table is proved a few rows at a time.
use Prim.Native.Nat.{ℕ, zero, suc}
use mathlib.Core.List.{List, [], ◌∷◌}
use lib.ListN.{take, drop}
use Rattle.blorb.specs.All.{All}

module _ {A : Type 0} (P : A → Type 0) where
  -- the first n rows, and those behind them
  pub parts : (n : ℕ) (l : List A) → All P (take n l) → All P (drop n l) → All P l
  parts zero l h k = k
  parts (suc n) [] h k = tt
  parts (suc n) (x ∷ xs) h k = (h.0, parts n xs h.1 k)
