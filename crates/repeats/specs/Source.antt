-- A list as the search sees it: where its first entry stands, and of the entry at a place whether it can be read, its key, and where the next one
-- stands; and the three lists of which this is said. The search speaks of keys through these only.
use Rattle.std.specs.Prelude.{ℕ, zero, suc, ◌+◌, ◌≤◌, ◌<◌, List, length, get_or, drop}
use Rattle.blorb.specs.Bytes.{rd32}
use Rattle.repeats.specs.Keys.{pair_key_of}

pub record Source : Type 1 where
  pub base : ℕ
  -- it can be read, and what is added to its place does not wrap
  pub Reads : ℕ → Type 0
  pub key_at : ℕ → ℕ
  pub next_at : ℕ → ℕ

-- rows of `step` bytes that begin with a number
abbrev pub of_rows : List ℕ → (step base : ℕ) → Source
of_rows s step base = record {
  base = base;
  Reads = λ at. (at + 4 ≤ length s) × (at + step ≤ length s);
  key_at = λ at. rd32 (drop at s);
  next_at = λ at. at + step;
}

-- entries of two numbers, a text's length and the text
abbrev pub of_entries : List ℕ → (base : ℕ) → Source
of_entries s base = record {
  base = base;
  Reads = λ at. at + 12 ≤ length s;
  key_at = λ at. pair_key_of (rd32 (drop at s)) (rd32 (drop (at + 4) s));
  next_at = λ at. at + (12 + rd32 (drop (at + 8) s));
}

-- rows of four numbers, the first two of them the pair
abbrev pub of_numbers : List ℕ → Source
of_numbers t = record {
  base = 0;
  Reads = λ at. at + 2 ≤ length t;
  key_at = λ at. pair_key_of (get_or t at 0) (get_or t (at + 1) 0);
  next_at = λ at. at + 4;
}

-- where entry i stands
unfoldable pub spot : Source → ℕ → ℕ
spot x zero = x.base
spot x (suc i) = x.next_at (spot x i)

unfoldable pub key : Source → ℕ → ℕ
key x i = x.key_at (spot x i)

-- each of n entries can be read
unfoldable pub Inside : Source → ℕ → Type 0
Inside x n = (i : ℕ) → i < n → x.Reads (spot x i)
