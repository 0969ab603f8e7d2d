-- The suspects of a round: keys of earlier entries whose marks are all set, as far as a list of numbers is filled with them.
use Rattle.std.specs.Prelude.{ℕ, ◌≤◌, ◌<◌, ◌≡◌, Bool, true, false, List, get_or}
use Rattle.repeats.specs.Marks.{word_of, bits_of, Covers}
use Rattle.repeats.specs.Repeats.{among, Without}

-- v is one of the first n suspects
unfoldable pub held : List ℕ → ℕ → ℕ → Bool
held xs n v = among (λ c. get_or xs c 0) v n

-- each of the entries a to e whose marks are all set is a suspect
unfoldable pub Caught : List ℕ → ℕ → List ℕ → ℕ → (ℕ → ℕ) → ℕ → ℕ → Type 0
Caught marks f xs n k a e = (i : ℕ) → a ≤ i → i < e → Covers (get_or marks (word_of f (k i)) 0) (bits_of f (k i)) → held xs n (k i) ≡ true

-- each suspect is the key of an entry below b
unfoldable pub Earlier : List ℕ → ℕ → (ℕ → ℕ) → ℕ → Type 0
Earlier xs n k b = (c : ℕ) → c < n → among k (get_or xs c 0) b ≡ true

-- none of the entries b to e has the key of a suspect
unfoldable pub Free : List ℕ → ℕ → (ℕ → ℕ) → ℕ → ℕ → Type 0
Free xs n k b e = (j : ℕ) → b ≤ j → j < e → held xs n (k j) ≡ false

-- each of the entries a to e that has the key of one from b on is a suspect
unfoldable pub RepeatsHeld : List ℕ → ℕ → (ℕ → ℕ) → ℕ → ℕ → ℕ → Type 0
RepeatsHeld xs n k b a e = (i j : ℕ) → b ≤ i → i < j → a ≤ j → j < e → k i ≡ k j → held xs n (k j) ≡ true

-- no suspect is the key of two of the entries b to e
unfoldable pub Once : List ℕ → ℕ → (ℕ → ℕ) → ℕ → ℕ → Type 0
Once xs n k b e = (i j : ℕ) → b ≤ i → i < j → j < e → k i ≡ k j → held xs n (k j) ≡ true → ⊥

-- what is marked as seen is a suspect, and the key of one of the first j entries
unfoldable pub SeenSome : List Bool → List ℕ → ℕ → (ℕ → ℕ) → ℕ → Type 0
SeenSome seen xs n k j = (c : ℕ) → get_or seen c false ≡ true → (c < n) × (among k (get_or xs c 0) j ≡ true)

-- of each of the entries b to j the first suspect with its key is marked as seen
unfoldable pub SeenAll : List Bool → List ℕ → ℕ → (ℕ → ℕ) → ℕ → ℕ → Type 0
SeenAll seen xs n k b j = (i c : ℕ) → b ≤ i → i < j → c < n → Without (λ x. get_or xs x 0) (k i) 0 c → get_or xs c 0 ≡ k i → get_or seen c false ≡ true
