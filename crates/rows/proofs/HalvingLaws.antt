-- Laws of the search by halving: its steps, how many there are, and what it finds in rows that rise.
use mathlib.Core.Path.{◌≡◌, refl}
use Prim.Native.Nat.{ℕ, zero, suc, ◌+◌, ◌≤◌, ◌<◌}
use mathlib.Core.List.{List}
use mathlib.Core.Bool.{Bool, true, false}
use mathlib.Core.Logic.{◌⊎◌, inl, inr}
use native.Mathlib.Omega.{arith}
use lib.ListN.{length}
use lib.Dec.{ltb}
use borrow.Author.Tests.{lt-ltb, ltb-true, ltb-false}
use Rattle.blorb.specs.Format.{Entry}
use Rattle.rows.specs.Order.{before, is_pair, Rising}
use Rattle.rows.specs.Halving.{row_of, middle, onward, while_rows, halve_go, halving, two_to, no_row}
use Rattle.std.specs.Prelude.{Ok, Err}
use Rattle.rows.specs.declared.Spot.{Spot}
use Rattle.rows.proofs.OrderLaws.{Less, less-before, before_not, before_trans, pair_false, rising-at}

-- the rows from low up to high, k of them looked at, still give w
abbrev pub Gives : List Entry → ℕ → ℕ → Spot → ℕ → ℕ → ℕ → Type 0
Gives rows u n w k lo hi = (f : ℕ) × (hi ≤ lo + f) × (halve_go f rows u n k lo hi ≡ w)

module _ (rows : List Entry) (u n : ℕ) (w : Spot) (k lo hi : ℕ) where
  module _ (h : lo < hi) where
    pub gives_same : is_pair u n (row_of rows (middle lo hi)) ≡ true → Gives rows u n w k lo hi
        → record { row = Ok (middle lo hi); probes = k + 1 } ≡ w
    gives_same o (zero, b, e) = absurd (omega arith)
    gives_same o (suc f, b, e) = rw (lt-ltb lo hi h, o) at e

    module _ (o : is_pair u n (row_of rows (middle lo hi)) ≡ false) where
      pub gives_after : before (row_of rows (middle lo hi)).usage (row_of rows (middle lo hi)).number u n ≡ true → Gives rows u n w k lo hi
          → Gives rows u n w (k + 1) (middle lo hi + 1) hi
      gives_after p (zero, b, e) = absurd (omega arith)
      gives_after p (suc f, b, e) = (f, omega arith, rw (lt-ltb lo hi h, o, p) at e)

      pub gives_before : before (row_of rows (middle lo hi)).usage (row_of rows (middle lo hi)).number u n ≡ false → Gives rows u n w k lo hi
          → Gives rows u n w (k + 1) lo (middle lo hi)
      gives_before p (zero, b, e) = absurd (omega arith)
      gives_before p (suc f, b, e) = (f, omega arith, rw (lt-ltb lo hi h, o, p) at e)

-- what each of the four ways of a look keeps, the search keeps
module _ (rows : List Entry) (u n : ℕ) (I : ℕ → ℕ → ℕ → Type 0) (P : Spot → Type 0)
    (stops : (k lo hi : ℕ) → I k lo hi → hi ≤ lo → P (record { row = Err lo; probes = k }))
    (hits : (k lo hi : ℕ) → I k lo hi → lo < hi → is_pair u n (row_of rows (middle lo hi)) ≡ true → P
    (record { row = Ok (middle lo hi); probes = k + 1 }))
    (up : (k lo hi : ℕ) → I k lo hi → lo < hi → is_pair u n (row_of rows (middle lo hi)) ≡ false
    → before (row_of rows (middle lo hi)).usage (row_of rows (middle lo hi)).number u n ≡ true → I (k + 1) (middle lo hi + 1) hi)
    (down : (k lo hi : ℕ) → I k lo hi → lo < hi → is_pair u n (row_of rows (middle lo hi)) ≡ false
    → before (row_of rows (middle lo hi)).usage (row_of rows (middle lo hi)).number u n ≡ false → I (k + 1) lo (middle lo hi)) where
  look : (f : ℕ) (ih : (k lo hi : ℕ) → hi ≤ lo + f → I k lo hi → P (halve_go f rows u n k lo hi)) (k lo hi : ℕ) → hi ≤ lo + suc f → I k lo hi → lo < hi →
      (p q : Bool)
      → is_pair u n (row_of rows (middle lo hi)) ≡ p → before (row_of rows (middle lo hi)).usage (row_of rows (middle lo hi)).number u n ≡ q
      → P (onward p q k lo (middle lo hi) hi (λ l h. halve_go f rows u n (k + 1) l h))
  look f ih k lo hi b i l true q ep eq = hits k lo hi i l ep
  look f ih k lo hi b i l false true ep eq = ih (k + 1) (middle lo hi + 1) hi (omega arith) (up k lo hi i l ep eq)
  look f ih k lo hi b i l false false ep eq = ih (k + 1) lo (middle lo hi) (omega arith) (down k lo hi i l ep eq)

  ranged : (f : ℕ) (ih : (k lo hi : ℕ) → hi ≤ lo + f → I k lo hi → P (halve_go f rows u n k lo hi)) (k lo hi : ℕ) → hi ≤ lo + suc f → I k lo hi → (r : Bool)
      → ltb lo hi ≡ r
      → P (while_rows r (onward (is_pair u n (row_of rows (middle lo hi))) (before (row_of rows (middle lo hi)).usage (row_of rows (middle lo hi)).number u n)
      k lo (middle lo hi) hi (λ l h. halve_go f rows u n (k + 1) l h)) (record { row = Err lo; probes = k }))
  ranged f ih k lo hi b i true e = look f ih k lo hi b i (ltb-true lo hi e) _ _ refl refl
  ranged f ih k lo hi b i false e = stops k lo hi i (ltb-false lo hi e)

  halve_keeps : (f k lo hi : ℕ) → hi ≤ lo + f → I k lo hi → P (halve_go f rows u n k lo hi)
  halve_keeps zero k lo hi b i = stops k lo hi i (omega arith)
  halve_keeps (suc f) k lo hi b i = ranged f (halve_keeps f) k lo hi b i (ltb lo hi) refl

  pub halving_keeps : I 0 0 (length rows) → P (halving rows u n)
  unfolding halving
  halving_keeps i = halve_keeps (length rows) 0 0 (length rows) (omega arith) i

-- ---- the steps: "at most 13 for 4,096 rows and 0 for none"

-- k rows looked at, and at most m in all where fewer than 2 to the rest are left
abbrev Few : ℕ → ℕ → ℕ → ℕ → Type 0
Few m k lo hi = (b : ℕ) × (k + b ≤ m) × (hi < lo + two_to b)

few_hit : (m k lo hi : ℕ) → Few m k lo hi → lo < hi → k + 1 ≤ m
few_hit m k lo hi (zero, p, q) l = absurd (omega arith)
few_hit m k lo hi (suc b, p, q) l = omega arith

few_up : (m k lo hi : ℕ) → Few m k lo hi → lo < hi → Few m (k + 1) (middle lo hi + 1) hi
few_up m k lo hi (zero, p, q) l = absurd (omega arith)
few_up m k lo hi (suc b, p, q) l = (b, omega arith, omega arith)

few_down : (m k lo hi : ℕ) → Few m k lo hi → lo < hi → Few m (k + 1) lo (middle lo hi)
few_down m k lo hi (zero, p, q) l = absurd (omega arith)
few_down m k lo hi (suc b, p, q) l = (b, omega arith, omega arith)

pub probes_few : (rows : List Entry) (u n m : ℕ) → length rows < two_to m → (halving rows u n).probes ≤ m
probes_few rows u n m l =
    halving_keeps rows u n (Few m) (λ (s : Spot). s.probes ≤ m)
    (λ k lo hi i h. omega (arith, i.1)) (λ k lo hi i h e. few_hit m k lo hi i h)
    (λ k lo hi i h e p. few_up m k lo hi i h) (λ k lo hi i h e p. few_down m k lo hi i h)
    (m, omega arith, omega arith)

-- ---- what is found

-- in any rows: a row that is found is a row, and has the pair
pub record Hit (rows : List Entry) (u n : ℕ) (s : Spot) : Type 0 where
  pub there : (i : ℕ) → s.row ≡ Ok i → i < length rows
  pub pair : (i : ℕ) → s.row ≡ Ok i → is_pair u n (row_of rows i) ≡ true
  pub within : (i : ℕ) → s.row ≡ Err i → i ≤ length rows

pub hit : (rows : List Entry) (u n : ℕ) → Hit rows u n (halving rows u n)
hit rows u n =
    halving_keeps rows u n (λ k lo hi. (lo ≤ hi) × (hi ≤ length rows)) (Hit rows u n)
    (λ k lo hi i h. record { there = λ x e. cc; pair = λ x e. cc; within = λ x e. let p : lo ≡ x = cc in omega arith })
    (λ k lo hi i h e. record {
      there = λ x q. let p : middle lo hi ≡ x = cc in omega arith;
      pair = λ x q. let p : middle lo hi ≡ x = cc in rw p at e;
      within = λ x q. cc;
    })
    (λ k lo hi i h e p. omega arith) (λ k lo hi i h e p. omega arith)
    (omega arith)

-- in rows that rise: where none is found, the rows before the spot are before the pair, the others behind it
abbrev Before : List Entry → ℕ → ℕ → ℕ → Type 0
Before rows u n x = (i : ℕ) → i < x → i < length rows → before (row_of rows i).usage (row_of rows i).number u n ≡ true

abbrev Behind : List Entry → ℕ → ℕ → ℕ → Type 0
Behind rows u n x = (i : ℕ) → x ≤ i → i < length rows → before u n (row_of rows i).usage (row_of rows i).number ≡ true

pub record Missed (rows : List Entry) (u n : ℕ) (s : Spot) : Type 0 where
  pub front : (x : ℕ) → s.row ≡ Err x → Before rows u n x
  pub back : (x : ℕ) → s.row ≡ Err x → Behind rows u n x

module _ (rows : List Entry) (u n : ℕ) (r : Rising rows) where
  front_more : (mid : ℕ) → mid < length rows → before (row_of rows mid).usage (row_of rows mid).number u n ≡ true → Before rows u n (mid + 1)
  front_more mid m p i l h = go (ltb i mid) refl
    where
      go : (b : Bool) → ltb i mid ≡ b → before (row_of rows i).usage (row_of rows i).number u n ≡ true
      go true e = before_trans _ _ _ _ u n (rising-at rows no_row i mid r (ltb-true _ _ e) m) p
      go false e = let q : i ≡ mid = omega (arith, ltb-false i mid e) in rw q p

  back_more : (mid : ℕ) → mid < length rows → is_pair u n (row_of rows mid) ≡ false → before (row_of rows mid).usage (row_of rows mid).number u n ≡ false
      → Behind rows u n mid
  back_more mid m o p i l h = go (ltb mid i) refl
    where
      at_mid : before u n (row_of rows mid).usage (row_of rows mid).number ≡ true
      at_mid = less-before _ _ _ _ (side (before_not _ _ u n p))
        where
          side : Less u n (row_of rows mid).usage (row_of rows mid).number ⊎ (((row_of rows mid).usage ≡ u) × ((row_of rows mid).number ≡ n)) → Less u n
              (row_of rows mid).usage (row_of rows mid).number
          side (inl x) = x
          side (inr x) = absurd (pair_false u n (row_of rows mid) o x)

      go : (b : Bool) → ltb mid i ≡ b → before u n (row_of rows i).usage (row_of rows i).number ≡ true
      go true e = before_trans u n _ _ _ _ at_mid (rising-at rows no_row mid i r (ltb-true _ _ e) h)
      go false e = let q : i ≡ mid = omega (arith, ltb-false mid i e) in rw q at_mid

  pub missed : Missed rows u n (halving rows u n)
  missed =
      halving_keeps rows u n (λ k lo hi. (lo ≤ hi) × (hi ≤ length rows) × Before rows u n lo × Behind rows u n hi) (Missed rows u n)
      (λ k lo hi i h.
      let q : hi ≡ lo = omega arith in
      record { front = λ x e. let p : lo ≡ x = cc in rw p at i.2; back = λ x e. let p : lo ≡ x = cc in rw (q, p) at i.3 })
      (λ k lo hi i h e. record { front = λ x q. cc; back = λ x q. cc })
      (λ k lo hi i h e p. (omega arith, i.1, front_more (middle lo hi) (omega arith) p, i.3))
      (λ k lo hi i h e p. (omega arith, omega arith, i.2, back_more (middle lo hi) (omega arith) e p))
      (omega arith, omega arith, λ i l h. absurd (omega arith), λ i l h. absurd (omega arith))
