-- Whole characters one after another, from one offset of a text to another, and where they begin. Nothing here has to be believed.
use Rattle.std.specs.Prelude.{◌≡◌, ℕ, ◌+◌, ◌≤◌, ◌<◌, List, Bool, true, false, length, get_or, drop}
use Rattle.utf8.specs.Utf8.{in_range, tail_byte, char_length}

-- from offset i on whole characters lead to offset j
pub data Runs : List ℕ → ℕ → ℕ → Type 0 where
  here : (s : List ℕ) (i : ℕ) → Runs s i i
  on : (s : List ℕ) (i j n : ℕ) → char_length (drop i s) ≡ n → (n ≡ 0 → ⊥) → Runs s (i + n) j → Runs s i j

-- the byte at i can only stand inside a character; none does behind the end
abbrev pub tail : List ℕ → ℕ → Bool
tail s i = in_range tail_byte (get_or s i 256)

-- a is the first offset from x on that can begin a character, or the end
pub record Start (s : List ℕ) (x a : ℕ) : Type 0 where
  pub from : x ≤ a
  pub inside : (k : ℕ) → x ≤ k → k < a → tail s k ≡ true
  pub begins : tail s a ≡ false

-- characters lead from `from` to at, and only the last of them passes `stop`
pub record Reached (s : List ℕ) (from stop at : ℕ) : Type 0 where
  pub inside : at ≤ length s
  pub runs : Runs s from at
  pub over : (k : ℕ) → stop ≤ k → k < at → tail s k ≡ true

-- r is where they first reach or pass `stop`, or where no character follows
pub record Until (s : List ℕ) (from stop r : ℕ) : Type 0 where
  pub reached : Reached s from stop r
  pub stuck : r < stop → char_length (drop r s) ≡ 0
