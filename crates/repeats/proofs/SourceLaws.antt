-- Where the entries of a list stand, what their keys are, and the three lists as the keys of the public contracts.
use Prim.Native.Nat.{ℕ, zero, suc, ◌+◌, ◌*◌, ◌≤◌, ◌<◌}
use mathlib.Core.Path.{◌≡◌, refl, ap, ◌∙◌}
use mathlib.Core.List.{List}
use native.Mathlib.Omega.{arith}
use native.Mathlib.Numerals.{add-one}
use native.Mathlib.Nat.{mul-le-mul}
use lib.ListN.{length, get_or, drop}
use Rattle.blorb.specs.Bytes.{rd32}
use Rattle.repeats.specs.Keys.{pair_key_of, row_key_of, entry_at, EntriesInside, entry_key_of, list_key}
use Rattle.repeats.specs.Repeats.{first_repeat_of}
use Rattle.repeats.specs.Source.{Source, of_rows, of_entries, of_numbers, spot, key, Inside}

module _ (x : Source) where
  pub spot-start : x.base ≡ spot x 0
  unfolding spot
  spot-start = refl

  pub spot-next : (i at : ℕ) → at ≡ spot x i → x.next_at at ≡ spot x (i + 1)
  unfolding spot
  spot-next i at e = rw (add-one, e)

  pub inside_at : (n i : ℕ) → Inside x n → i < n → x.Reads (spot x i)
  unfolding Inside
  inside_at n i h l = h i l

  pub inside_to : (n e : ℕ) → Inside x n → e ≤ n → Inside x e
  unfolding Inside
  inside_to n e h l i m = h i (omega arith)

  pub key-is : (i at r : ℕ) → at ≡ spot x i → r ≡ x.key_at at → r ≡ key x i
  unfolding key
  key-is i at r e q = q ∙ ap x.key_at e

-- the same where the list is known by another name
pub reads_in : {A : Type 0} (f : A → Source) (l m : A) (n i j : ℕ) → l ≡ m → j ≡ i → Inside (f m) n → i < n → (f l).Reads (spot (f l) j)
reads_in f l m n i j e q h b = rw (e, q) (inside_at (f m) n i h b)

pub inside_in : {A : Type 0} (f : A → Source) (l m : A) (n e : ℕ) → l ≡ m → Inside (f m) n → e ≤ n → Inside (f l) e
inside_in f l m n e q h b = rw q (inside_to (f m) n e h b)

-- keys that are the same one by one have the same first repeat
same_keys : (k l : ℕ → ℕ) (n : ℕ) → ((i : ℕ) → k i ≡ l i) → first_repeat_of k n ≡ first_repeat_of l n
same_keys k l n e = ap (λ (z : ℕ → ℕ). first_repeat_of z n) (λ j i. e i j)

-- rows
module _ (s : List ℕ) (step base : ℕ) where
  row-spot : (i : ℕ) → spot (of_rows s step base) i ≡ base + step * i
  unfolding spot
  row-spot zero = omega arith
  row-spot (suc i) = rw (row-spot i) (omega arith)

  pub rows_inside : (n : ℕ) → 4 ≤ step → base + step * n ≤ length s → Inside (of_rows s step base) n
  unfolding Inside
  rows_inside n h l i m =
      let e = row-spot i in
      let g : step * suc i ≤ step * n = mul-le-mul {n₁ = step} {m₁ = suc i} {n₂ = step} {m₂ = n} (omega arith) m in
      let q : step * suc i ≡ step * i + step = omega arith in
      (omega (arith, e, g, q), omega (arith, e, g, q))

  pub rows_answer : (n : ℕ) → first_repeat_of (key (of_rows s step base)) n ≡ first_repeat_of (row_key_of s step base) n
  unfolding key row_key_of
  rows_answer n = same_keys _ _ n (λ i. ap (λ (z : ℕ). rd32 (drop z s)) (row-spot i))

-- entries with texts
module _ (s : List ℕ) (base : ℕ) where
  entry-spot : (i : ℕ) → spot (of_entries s base) i ≡ entry_at s base i
  unfolding spot entry_at
  entry-spot zero = refl
  entry-spot (suc i) = ap (λ (z : ℕ). z + (12 + rd32 (drop (z + 8) s))) (entry-spot i)

  pub entries_inside : (n : ℕ) → EntriesInside s base n → Inside (of_entries s base) n
  unfolding Inside
  entries_inside n h i l = rw (entry-spot i) (h i l)

  pub entries_answer : (n : ℕ) → first_repeat_of (key (of_entries s base)) n ≡ first_repeat_of (entry_key_of s base) n
  unfolding key entry_key_of
  entries_answer n = same_keys _ _ n (λ i. ap (λ (z : ℕ). pair_key_of (rd32 (drop z s)) (rd32 (drop (z + 4) s))) (entry-spot i))

-- rows of four numbers
module _ (t : List ℕ) where
  list-spot : (i : ℕ) → spot (of_numbers t) i ≡ 4 * i
  unfolding spot
  list-spot zero = refl
  list-spot (suc i) = rw (list-spot i) (omega arith)

  pub list_inside : (n : ℕ) → 4 * n ≤ length t → Inside (of_numbers t) n
  unfolding Inside
  list_inside n h i l = omega (arith, list-spot i)

  pub list_answer : (n : ℕ) → first_repeat_of (key (of_numbers t)) n ≡ first_repeat_of (list_key t) n
  unfolding key list_key
  list_answer n = same_keys _ _ n (λ i. ap (λ (z : ℕ). pair_key_of (get_or t z 0) (get_or t (z + 1) 0)) (list-spot i))
