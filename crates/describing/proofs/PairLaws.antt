-- A repeated pair is a repeated key: the pair (u, k) is the number u * 2^32 + k, and numbers of 32 bits can be read off it.
use mathlib.Core.Path.{◌≡◌, refl, sym, ap, ◌∙◌}
use Prim.Native.Nat.{ℕ, zero, suc, ◌+◌, ◌*◌, ◌≤◌, ◌<◌}
use mathlib.Core.List.{List, [], ◌∷◌, ◌++◌}
use mathlib.Core.Bool.{false}
use native.Mathlib.Omega.{arith}
use lib.ListN.{get_or}
use Rattle.blorb.proofs.NumberLaws.{key-eqb}
use Rattle.rdes.specs.Rdes.{Desc, pair_among}
use Rattle.rdes.proofs.EntryLaws.{pair_snoc}
use Rattle.repeats.specs.Keys.{list_key}
use Rattle.repeats.specs.Repeats.{among, first_repeat_of, Apart}
use Rattle.repeats.proofs.Answers.{among_none, answer_at, answer_nothing}
use Rattle.std.specs.Prelude.{Option, Some, None}
use Rattle.describing.specs.List.{usage_of, number_of, row_at, rows_from}
use Rattle.blorb.specs.Verdict.{accept, refuse}
use Rattle.describing.specs.Writing.{repeated, rows_fault}
use Rattle.describing.specs.Judging.{FirstBad, repeated_by, repeat_fault}
use Rattle.describing.proofs.JudgeLaws.{judged_38, judged_39, judged-good}

-- the rows up to one, and that one
pub rows_snoc : (rows texts : List ℕ) (n i : ℕ) → rows_from rows texts (suc n) i ≡ rows_from rows texts n i ++ (row_at rows texts (i + n) ∷ [])
unfolding rows_from
rows_snoc rows texts zero i = let e : i + 0 ≡ i = omega arith in rw e
rows_snoc rows texts (suc n) i =
    let e : i + 1 + n ≡ i + suc n = omega arith in
    ap (λ (l : List Desc). row_at rows texts i ∷ l) (rows_snoc rows texts n (i + 1)
    ∙ ap (λ (k : ℕ). rows_from rows texts n (i + 1) ++ (row_at rows texts k ∷ [])) e)

module _ (rows texts : List ℕ) (b : (i : ℕ) → get_or rows i 0 < 4294967296) where
  among-is : (i n : ℕ) → among (list_key rows) (list_key rows i) n ≡ pair_among (usage_of rows i) (number_of rows i) (rows_from rows texts n 0)
  unfolding among list_key
  among-is i zero = unfold rows_from pair_among in refl
  among-is i (suc n) =
      let z : 0 + n ≡ n = omega arith in
      rw (
        rows_snoc rows texts n 0,
        pair_snoc (usage_of rows i) (number_of rows i) (rows_from rows texts n 0) (row_at rows texts (0 + n)),
        z,
        key-eqb (usage_of rows n) (number_of rows n) (usage_of rows i) (number_of rows i) (b (4 * n + 1)) (b (4 * i + 1)),
        ← among-is i n,
      )

  pub key-repeats : (i : ℕ) → among (list_key rows) (list_key rows i) i ≡ repeated rows texts i
  unfolding repeated
  key-repeats i = among-is i i

-- where no two of the first n keys are the same, none of these is among those before it
apart_none : (k : ℕ → ℕ) (n : ℕ) → Apart k 0 n → (i : ℕ) → i < n → among k (k i) i ≡ false
unfolding Apart
apart_none k n d i l = among_none k (k i) i (λ j m e. d j i (omega arith) m l e)

-- the verdict on the rows from the answer of the search among the first m; where it finds nothing, the bad row has to be one of these
module _ (rows texts : List ℕ) (b : (i : ℕ) → get_or rows i 0 < 4294967296) (n t : ℕ) (bad : FirstBad rows texts n t) where
  fresh : (m : ℕ) → Apart (list_key rows) 0 m → (i : ℕ) → i < m → repeated rows texts i ≡ false
  fresh m d i l = sym (key-repeats rows texts b i) ∙ apart_none (list_key rows) m d i l

  pub found_38 : (m j : ℕ) → first_repeat_of (list_key rows) m ≡ Some j → m ≤ n → m ≤ t + 1 → refuse 38 j ≡ rows_fault rows texts n 0
  found_38 m j e h l =
      let f = answer_at (list_key rows) m j e in
      judged_38 rows texts n t bad j (omega (arith, f.0)) (omega (arith, f.0)) (fresh j f.2) (sym (key-repeats rows texts b j) ∙ f.1)

  pub again_38 : (m k p : ℕ) → refuse k p ≡ repeat_fault rows m → m ≤ n → m ≤ t + 1 → refuse k p ≡ rows_fault rows texts n 0
  again_38 m k p q h l = go (first_repeat_of (list_key rows) m) refl q
    where
      go : (r : Option ℕ) → first_repeat_of (list_key rows) m ≡ r → refuse k p ≡ repeated_by r → refuse k p ≡ rows_fault rows texts n 0
      go (Some j) f e = e ∙ found_38 m j f h l
      go None f e = let z : ◌≡◌ {A = ℕ} 0 1 = cc in absurd (omega arith)

  pub found_39 : (m : ℕ) → accept ≡ repeat_fault rows m → t < n → t < m → refuse 39 t ≡ rows_fault rows texts n 0
  found_39 m q h l = go (first_repeat_of (list_key rows) m) refl q
    where
      go : (r : Option ℕ) → first_repeat_of (list_key rows) m ≡ r → accept ≡ repeated_by r → refuse 39 t ≡ rows_fault rows texts n 0
      go (Some j) f e = let z : ◌≡◌ {A = ℕ} 0 1 = cc in absurd (omega arith)
      go None f e = judged_39 rows texts n t bad h (λ i k. fresh m (answer_nothing (list_key rows) m f) i (omega arith))

  pub found-all : n ≤ t → repeat_fault rows n ≡ rows_fault rows texts n 0
  found-all h = go (first_repeat_of (list_key rows) n) refl
    where
      go : (r : Option ℕ) → first_repeat_of (list_key rows) n ≡ r → repeated_by r ≡ rows_fault rows texts n 0
      go (Some j) f = found_38 n j f (omega arith) (omega arith)
      go None f = judged-good rows texts n t bad h (fresh n (answer_nothing (list_key rows) n f))
