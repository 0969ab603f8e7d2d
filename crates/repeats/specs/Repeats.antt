-- The first entry whose key an earlier entry has (02: "a repeated picture number", "a repeated pair"). k gives the key of an entry by its number.
use Rattle.std.specs.Prelude.{ℕ, zero, suc, ◌≤◌, ◌<◌, ◌≡◌, Bool, true, false, ◌||◌, eqb, Option, Some, None}

-- one of the first n entries has the key v
unfoldable pub among : (ℕ → ℕ) → ℕ → ℕ → Bool
among k v zero = false
among k v (suc n) = eqb (k n) v || among k v n

abbrev pub pick_first : Bool → ℕ → (ℕ → Option ℕ) → ℕ → Option ℕ
pick_first true j go next = Some j
pick_first false j go next = go next

-- the first of the n entries from j on whose key an earlier entry has
unfoldable pub repeat_from : (ℕ → ℕ) → ℕ → ℕ → Option ℕ
repeat_from k zero j = None
repeat_from k (suc n) j = pick_first (among k (k j) j) j (λ next. repeat_from k n next) (suc j)

unfoldable pub first_repeat_of : (ℕ → ℕ) → ℕ → Option ℕ
first_repeat_of k n = repeat_from k n 0

-- no two of the entries a to e have one key
unfoldable pub Apart : (ℕ → ℕ) → ℕ → ℕ → Type 0
Apart k a e = (i j : ℕ) → a ≤ i → i < j → j < e → k i ≡ k j → ⊥

-- no entry below m has a key of the entries b to e
unfoldable pub Across : (ℕ → ℕ) → ℕ → ℕ → ℕ → Type 0
Across k m b e = (i j : ℕ) → i < m → b ≤ j → j < e → k i ≡ k j → ⊥

-- none of the entries b to e has the key v
unfoldable pub Without : (ℕ → ℕ) → ℕ → ℕ → ℕ → Type 0
Without k v b e = (j : ℕ) → b ≤ j → j < e → k j ≡ v → ⊥

-- no key of the first n entries is above top
unfoldable pub Below : (ℕ → ℕ) → ℕ → ℕ → Type 0
Below k top n = (i : ℕ) → i < n → k i ≤ top
