-- Laws of the rows of a slice: row by row, rows that rise, and the turns of the loop that halves them.
use mathlib.Core.Path.{◌≡◌, refl, ap, ◌∙◌}
use Prim.Native.Nat.{ℕ, zero, suc, ◌+◌, ◌*◌, ◌≤◌, ◌<◌}
use mathlib.Core.List.{List, Memᴰ}
use mathlib.Core.Bool.{false}
use native.Mathlib.Omega.{arith}
use native.Mathlib.Nat.{not-suc-le-zero, le_of_suc-le-suc}
use lib.ListN.{length, get_or}
use Rattle.blorb.specs.Format.{Entry}
use Rattle.rows.specs.Rows.{listed, row_in, rows_by}
use Rattle.rows.specs.Order.{is_pair, Below, Rising}
use Rattle.rows.specs.Halving.{row_of, middle, halving, no_row}
use Rattle.std.specs.Prelude.{Ok}
use Rattle.rows.specs.declared.Spot.{Spot}
use Rattle.rows.proofs.OrderLaws.{key-before, key-same, key_differ, key_not, pair_is, pair_not}
use Rattle.rows.proofs.HalvingLaws.{Gives, gives_same, gives_after, gives_before, hit}
use Rattle.blorb.specs.All.{All}
use Rattle.rows.proofs.SortLaws.{at_mem, below_trans}

module _ {A : Type 0} where
  pub length-listed : (g : ℕ → A) (n : ℕ) → length (listed g n) ≡ n
  unfolding listed
  length-listed g zero = refl
  length-listed g (suc n) = ap suc (length-listed (λ i. g (suc i)) n)

  pub get_or-listed : (g : ℕ → A) (n i : ℕ) (d : A) → i < n → get_or (listed g n) i d ≡ g i
  unfolding listed
  get_or-listed g zero i d l = absurd (not-suc-le-zero l)
  get_or-listed g (suc n) zero d l = refl
  get_or-listed g (suc n) (suc i) d l = get_or-listed (λ j. g (suc j)) n i d (le_of_suc-le-suc l)

pub row_by : (t : List ℕ) (rows step gap i : ℕ) → i < rows → row_of (rows_by t rows step gap) i ≡ row_in t step gap i
row_by t rows step gap i l = get_or-listed (row_in t step gap) rows i no_row l

-- a turn of the halving loop, by the keys of the pairs
module _ (t : List ℕ) (rows step gap u n : ℕ) (w : Spot) (k lo hi : ℕ) (l : lo < hi) (m : hi ≤ rows) (hb : get_or t (middle lo hi * step + gap) 0 < 4294967296)
    (hn : n < 4294967296) where
  row_is : row_of (rows_by t rows step gap) (middle lo hi) ≡ row_in t step gap (middle lo hi)
  row_is = row_by t rows step gap (middle lo hi) (omega arith)

  pub turn-same : get_or t (middle lo hi * step) 0 * 4294967296 + get_or t (middle lo hi * step + gap) 0 ≡ u * 4294967296 + n → Gives (rows_by t rows step gap)
      u n w k lo hi
      → record { row = Ok (middle lo hi); probes = k + 1 } ≡ w
  turn-same e g =
      let s = key-same (get_or t (middle lo hi * step) 0) (get_or t (middle lo hi * step + gap) 0) u n hb hn e in
      gives_same (rows_by t rows step gap) u n w k lo hi l (rw row_is (pair_is u n (row_in t step gap (middle lo hi)) s.0 s.1)) g

  module _ (d : get_or t (middle lo hi * step) 0 * 4294967296 + get_or t (middle lo hi * step + gap) 0 ≡ u * 4294967296 + n → ⊥) where
    other : is_pair u n (row_of (rows_by t rows step gap) (middle lo hi)) ≡ false
    other = rw row_is (pair_not u n (row_in t step gap (middle lo hi)) (key_differ (get_or t (middle lo hi * step) 0) (get_or t (middle lo hi * step + gap) 0)
        u n hb hn d))

    pub turn_up : get_or t (middle lo hi * step) 0 * 4294967296 + get_or t (middle lo hi * step + gap) 0 < u * 4294967296 + n → Gives (rows_by t rows step gap)
        u n w k lo hi
        → Gives (rows_by t rows step gap) u n w (k + 1) (middle lo hi + 1) hi
    turn_up e g =
        gives_after (rows_by t rows step gap) u n w k lo hi l other
        (rw row_is (key-before (get_or t (middle lo hi * step) 0) (get_or t (middle lo hi * step + gap) 0) u n hb hn e)) g

    pub turn-down : u * 4294967296 + n ≤ get_or t (middle lo hi * step) 0 * 4294967296 + get_or t (middle lo hi * step + gap) 0 → Gives
        (rows_by t rows step gap) u n w k lo hi
        → Gives (rows_by t rows step gap) u n w (k + 1) lo (middle lo hi)
    turn-down e g =
        gives_before (rows_by t rows step gap) u n w k lo hi l other
        (rw row_is (key_not (get_or t (middle lo hi * step) 0) (get_or t (middle lo hi * step + gap) 0) u n hb hn e)) g

-- where the row that was found is
module _ (t : List ℕ) (rows step gap u n : ℕ) where
  pub spot_in : (i : ℕ) → (halving (rows_by t rows step gap) u n).row ≡ Ok i → i < rows
  spot_in i e = rw (length-listed (row_in t step gap) rows) at ((hit (rows_by t rows step gap) u n).there i e)

pub listed_ext : {A : Type 0} (g h : ℕ → A) (n : ℕ) → ((i : ℕ) → i < n → g i ≡ h i) → listed g n ≡ listed h n
unfolding listed
listed_ext g h zero e = refl
listed_ext g h (suc n) e = let q = listed_ext (λ i. g (suc i)) (λ i. h (suc i)) n (λ i l. e (suc i) (omega arith)) in rw (e 0 (omega arith), q)

pub row-there : (t : List ℕ) (rows step gap row : ℕ) (e : Entry) → row < rows → row_in t step gap row ≡ e → Memᴰ e (rows_by t rows step gap)
row-there t rows step gap row e l w =
    rw (row_by t rows step gap row l ∙ w) at (at_mem no_row (rows_by t rows step gap) row (rw (length-listed (row_in t step gap) rows) l))

abbrev pub Adjacent : List ℕ → ℕ → ℕ → ℕ → Type 0
Adjacent t step gap i = (k : ℕ) → suc k < i → Below (row_in t step gap k) (row_in t step gap (suc k))

chain : (x : Entry) (g : ℕ → Entry) (n : ℕ) → ((k : ℕ) → suc k < n → Below (g k) (g (suc k))) → (0 < n → Below x (g 0)) → All (Below x) (listed g n)
unfolding listed
chain x g zero h p = tt
chain x g (suc n) h p =
    let q : Below x (g 0) = p (omega arith) in
    (q, chain x (λ i. g (suc i)) n (λ k l. h (suc k) (omega arith)) (λ l. below_trans x (g 0) (g 1) q (h 0 (omega arith))))

pub adjacent_all : (g : ℕ → Entry) (n : ℕ) → ((k : ℕ) → suc k < n → Below (g k) (g (suc k))) → Rising (listed g n)
unfolding listed Rising
adjacent_all g zero h = tt
adjacent_all g (suc n) h =
    (chain (g 0) (λ i. g (suc i)) n (λ k l. h (suc k) (omega arith)) (λ l. h 0 (omega arith)), adjacent_all (λ i. g (suc i)) n (λ k l. h (suc k) (omega arith)))
