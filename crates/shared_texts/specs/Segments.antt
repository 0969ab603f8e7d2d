-- A slice of texts in segments of one size, and what is remembered of each by a bit: that its characters lead into the next one. Nothing here has to be
-- believed.
use Rattle.std.specs.Prelude.{◌≡◌, ℕ, ◌+◌, ◌-◌, ◌*◌, ◌/◌, ◌%◌, ◌^◌, ◌<◌, List, Bool, true, ◌⊎◌, length, get_or, take, drop, eqb}
use Rattle.utf8.specs.Utf8.{good_length_of}
use base.Fml.{GName}
use Rattle.utf8.specs.Runs.{Runs, tail, Start}

-- the bytes from p to q are UTF-8
unfoldable pub text_between : List ℕ → ℕ → ℕ → Bool
text_between s p q = eqb (good_length_of (take (q - p) (drop p s))) (q - p)

-- characters lead from p to the first offset from x on that can begin one
pub record Leads (s : List ℕ) (p x : ℕ) : Type 0 where
  pub start : ℕ
  pub runs : Runs s p start
  pub begins : Start s x start

-- from the first such offset from x on to the first one from y on
pub record Joined (s : List ℕ) (x y : ℕ) : Type 0 where
  pub first : ℕ
  pub begins : Start s x first
  pub leads : Leads s first y

-- what leads to x leads on to y
abbrev pub LeadsOn : List ℕ → ℕ → ℕ → Type 0
LeadsOn s x y = (p : ℕ) → Leads s p x → Leads s p y

-- of a text from p to q: characters lead from p to r; r is behind q only where q lies inside a character
pub record Passed (s : List ℕ) (p q r : ℕ) : Type 0 where
  pub runs : Runs s p r
  pub cut : q < r → tail s q ≡ true

-- the bytes of a segment: there are fewer than 57,344 whole ones, and a short text is walked faster than it is looked up
abbrev pub segment_size : List ℕ → ℕ
segment_size s = length s / 57344 + 256

-- bit i of a word
abbrev pub bit_of : ℕ → ℕ → ℕ
bit_of word i = word / 2 ^ i % 2

-- a word that has one bit more
abbrev pub OneMore : ℕ → ℕ → ℕ → Type 0
OneMore word i new = (j : ℕ) → bit_of new j ≡ 1 → (j ≡ i) ⊎ (bit_of word j ≡ 1)

-- the bit of segment g
abbrev pub bit_at : List ℕ → ℕ → ℕ
bit_at known g = bit_of (get_or known (g / 64) 0) (g % 64)

-- a bit that is set is right
unfoldable pub Remembers : List ℕ → List ℕ → Type 0
Remembers s known = (g : ℕ) → bit_at known g ≡ 1 → Joined s (g * segment_size s) (g * segment_size s + segment_size s)

-- the bits of 64 segments are set
unfoldable pub AllSet : List ℕ → ℕ → Type 0
AllSet known g = (i : ℕ) → i < 64 → bit_at known (g + i) ≡ 1

-- texts, and the name of the loan of the words that remember what is known of them
pub record Lent : Type 0 where
  pub texts : List ℕ
  pub words : GName
