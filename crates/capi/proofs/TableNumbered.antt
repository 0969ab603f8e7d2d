-- `refusal` is 0 exactly where a call of the finding table was carried out: 34, 35, 22 and the reader's numbers are none of them 0.
use Rattle.std.specs.Prelude.{Result, Ok, Err}
use Rattle.blorb.specs.declared.refusal.Refusal.{Refusal}
use Rattle.blorb.specs.Refusals.{Refused}
use Rattle.reader.specs.declared.Accepted.{Accepted}
use mathlib.Core.Path.{◌≡◌, refl, ap, ◌∙◌}
use Prim.Native.Nat.{ℕ, ◌*◌}
use mathlib.Core.List.{List}
use mathlib.Core.Bool.{Bool, true, false, ◌&&◌}
use native.Mathlib.Omega.{arith}
use lib.ListN.{length}
use lib.Dec.{eqb, leb}
use Rattle.blorb.specs.Format.{Entry}
use Rattle.reader.specs.Reading.{read_of}
use Rattle.reader.proofs.Promises.{accepted_when}
use Rattle.rows.specs.Halving.{row_of, halving}
use Rattle.table.specs.Answers.{table_of, room_for, build_by, build_of, turn_of, agree, accept_if, check_by, check_of, found_by, search_of}
use Rattle.capi.specs.Numbers.{read_numbers}
use Rattle.capi.specs.TableNumbers.{build_numbers_of, check_numbers_of, found_numbers, search_numbers_of}
use Rattle.capi.proofs.Numbered.{zero_reads}

-- the reader's refusals are not 0
pub not_zero : (profile : ℕ) (f : List ℕ) (k p : ℕ) → read_of profile f ≡ Refused k p → k ≡ 0 → ⊥
not_zero profile f k p r e =
    let a = accepted_when profile f (zero_reads profile f (ap (λ (x : Result Accepted Refusal). (read_numbers x).refusal) r ∙ e)) in
    let z : ◌≡◌ {A = ℕ} 0 1 = cc in
    omega arith

room : (b : Bool) (n : ℕ) → (build_numbers_of (room_for b n)).refusal ≡ 0 → (m : ℕ) × (room_for b n ≡ Ok m)
room true n e = (n, refl)
room false n e = absurd (omega (arith, e))

-- a build whose `refusal` is 0 has written the rows
pub zero_built : (profile : ℕ) (f : List ℕ) (size : ℕ) → (build_numbers_of (build_of profile f size)).refusal ≡ 0 → (n : ℕ) × (build_of profile f size ≡ Ok n)
unfolding build_of
zero_built profile f size e = go (read_of profile f) refl e
  where
    go : (r : Result Accepted Refusal) → read_of profile f ≡ r → (build_numbers_of (build_by r size)).refusal ≡ 0 → (n : ℕ) × (build_by r size ≡ Ok n)
    go (Ok a) t e = room (leb (3 * a.count) size) a.count e
    go (Refused k p) t e = absurd (not_zero profile f k p t e)

-- and so has a turn into the other form
pub zero-turned : (rows : List Entry) (size : ℕ) → (build_numbers_of (turn_of rows size)).refusal ≡ 0 → (n : ℕ) × (turn_of rows size ≡ Ok n)
unfolding turn_of
zero-turned rows size e = room (leb (3 * length rows) size) (length rows) e

-- a check whose `refusal` is 0 has accepted the table
pub zero_checked : (profile : ℕ) (f : List ℕ) (rows : List Entry) (size : ℕ) → (check_numbers_of (check_of profile f rows size)).refusal ≡ 0
    → check_of profile f rows size ≡ Ok tt
unfolding check_of
zero_checked profile f rows size e = go (read_of profile f) refl e
  where
    same : (b : Bool) (p : ℕ) → (check_numbers_of (accept_if b p)).refusal ≡ 0 → accept_if b p ≡ Ok tt
    same true p e = refl
    same false p e = absurd (omega (arith, e))

    go : (r : Result Accepted Refusal) → read_of profile f ≡ r → (check_numbers_of (check_by r rows size (table_of f))).refusal ≡ 0 → check_by r rows size (table_of f) ≡ Ok tt
    go (Ok a) t e =
        same (eqb size (3 * length (table_of f)) && eqb (agree rows (table_of f)) (length (table_of f))) (agree rows (table_of f)) e
    go (Refused k p) t e = absurd (not_zero profile f k p t e)

-- a search whose `refusal` is 0 has found a row
pub zero_searched : (rows : List Entry) (u n : ℕ) → (search_numbers_of (search_of rows u n)).refusal ≡ 0 → (x : ℕ) × ((search_of rows u n).found ≡ Ok x)
unfolding search_of
zero_searched rows u n e = go (halving rows u n).row e
  where
    go : (r : Result ℕ ℕ) → (found_numbers (found_by r rows) (halving rows u n).probes).refusal ≡ 0 → (x : ℕ) × (found_by r rows ≡ Ok x)
    go (Ok i) e = ((row_of rows i).start, refl)
    go (Err i) e = absurd (omega (arith, e))
