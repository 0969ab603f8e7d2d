-- Laws of the answers: one for each way out of the public functions.
use mathlib.Core.Path.{◌≡◌, refl, ap, sym, ◌∙◌}
use Prim.Native.Nat.{ℕ, ◌+◌, ◌*◌, ◌/◌, ◌≤◌, ◌<◌, min}
use mathlib.Core.List.{List, ◌++◌}
use mathlib.Core.Bool.{Bool, true, false, ◌&&◌}
use native.Mathlib.Omega.{arith}
use lib.ListN.{length, get_or, drop}
use Rattle.blorb.specs.Format.{Entry, entries_in}
use Rattle.rows.specs.Rows.{row_in, rows_by, flat}
use Rattle.rows.specs.Bridging.{NoTwice, Within, rank, held, Alike}
use Rattle.rows.specs.Order.{sorted, Rising}
use Rattle.rows.specs.Halving.{row_of, halving}
use Rattle.table.specs.Answers.{search_of, table_of, room_for, build_of, turn_of, written, agree, accept_if, check_of}
use Rattle.rows.specs.declared.Spot.{Spot}
use Rattle.rows.proofs.OrderLaws.{more}
use lib.Dec.{eqb, leb}
use borrow.Author.Tests.{le-leb, leb-true, eq-eqb}
use Rattle.reader.specs.Reading.{read_of, accepted_with}
use Rattle.blorb.specs.Refusals.{Refused}
use Rattle.std.specs.Prelude.{Ok, Err}
use Rattle.blorb.proofs.EntryList.{length-entries_in}
use Rattle.rows.proofs.SortLaws.{sorted_perm, perm_length, all_there}
use Rattle.rows.proofs.RowLaws.{length-listed, row_by, spot_in}
use Rattle.table.proofs.CheckLaws.{ranked-row, ranked_not, agree-first, agree-all, agree_self}
use Rattle.rows.proofs.FlatLaws.{length-flat}
use Rattle.table.proofs.FileLaws.{indexed}

-- ---- the search

module _ (t : List ℕ) (rows step gap u n : ℕ) where
  pub spot_found : (s : Spot) → s ≡ halving (rows_by t rows step gap) u n → (i : ℕ) → s.row ≡ Ok i
      → record { found = Ok (get_or t (i * step + 2 * gap) 0); probes = s.probes } ≡ search_of (rows_by t rows step gap) u n
  unfolding search_of
  spot_found s e i f =
      let g : (halving (rows_by t rows step gap) u n).row ≡ Ok i = rw e at f in
      rw (e, g, row_by t rows step gap i (spot_in t rows step gap u n i g))

  pub spot_missing : (s : Spot) → s ≡ halving (rows_by t rows step gap) u n → (i : ℕ) → s.row ≡ Err i
      → record { found = Refused 22 0; probes = s.probes } ≡ search_of (rows_by t rows step gap) u n
  unfolding search_of
  spot_missing s e i f = let g : (halving (rows_by t rows step gap) u n).row ≡ Err i = rw e at f in rw (e, g)

-- ---- the check

pub quick-rows : (f t : List ℕ) (count rows step gap : ℕ) → rows ≡ length t / 3 → length t ≡ 3 * count → NoTwice (entries_in count (drop 24 f)) →
    Rising (rows_by t rows step gap)
    → Within (entries_in count (drop 24 f)) (rows_by t rows step gap) → rows_by t rows step gap ≡ sorted (entries_in count (drop 24 f))
quick-rows f t count rows step gap a b once r w =
    all_there (rows_by t rows step gap) (entries_in count (drop 24 f)) once r
    (omega (arith, length-listed (row_in t step gap) rows, length-entries_in count (drop 24 f))) w

length-sorted : (f : List ℕ) (count : ℕ) → length (sorted (entries_in count (drop 24 f))) ≡ count
length-sorted f count = perm_length (sorted_perm (entries_in count (drop 24 f))) ∙ length-entries_in count (drop 24 f)

module _ (f t : List ℕ) (count rows step gap i : ℕ) (once : NoTwice (entries_in count (drop 24 f)))
    (a : Alike (rows_by t rows step gap) (sorted (entries_in count (drop 24 f))) i) where
  module _ (lr : i < rows) (lc : i < count) (b : Bool)
      (e : b ≡ eqb (rank (get_or t (i * step) 0) (get_or t (i * step + gap) 0) (entries_in count (drop 24 f))) i
      && held (get_or t (i * step) 0) (get_or t (i * step + gap) 0) (get_or t (i * step + 2 * gap) 0) (entries_in count (drop 24 f))) where
    row-i : row_of (rows_by t rows step gap) i ≡ row_in t step gap i
    row-i = row_by t rows step gap i lr

    pub differ_stop : b ≡ false → i ≡ agree (rows_by t rows step gap) (sorted (entries_in count (drop 24 f)))
    differ_stop n =
        agree-first (rows_by t rows step gap) (sorted (entries_in count (drop 24 f))) i (omega (arith, length-listed (row_in t step gap) rows))
        (omega (arith, length-sorted f count)) a
        (λ q. ranked_not (entries_in count (drop 24 f)) once (get_or t (i * step) 0) (get_or t (i * step + gap) 0) (get_or t (i * step + 2 * gap) 0) i (sym e ∙ n)
        (omega (arith, length-entries_in count (drop 24 f))) (sym q ∙ row-i))

    pub differ_next : b ≡ true → Alike (rows_by t rows step gap) (sorted (entries_in count (drop 24 f))) (i + 1)
    differ_next y =
        more (λ (k : ℕ). row_of (rows_by t rows step gap) k ≡ row_of (sorted (entries_in count (drop 24 f))) k) i a
        (row-i ∙ sym (ranked-row (entries_in count (drop 24 f)) once (get_or t (i * step) 0) (get_or t (i * step + gap) 0) (get_or t (i * step + 2 * gap) 0) i
        (sym e ∙ y)))

  pub differ_end : (most : ℕ) → most ≡ min rows count → i ≡ most → most ≡ agree (rows_by t rows step gap) (sorted (entries_in count (drop 24 f)))
  differ_end most m q =
      let p : i ≡ min (length (rows_by t rows step gap)) (length (sorted (entries_in count (drop 24 f))))
      = rw (length-listed (row_in t step gap) rows, length-sorted f count) (q ∙ m) in
      sym q ∙ agree-all (rows_by t rows step gap) (sorted (entries_in count (drop 24 f))) i p a

pub check-refused : (profile : ℕ) (f : List ℕ) (k p : ℕ) (rows : List Entry) (size : ℕ) → read_of profile f ≡ Refused k p → Refused k p ≡ check_of
    profile f rows size
unfolding check_of
check-refused profile f k p rows size e = rw e

module _ (profile : ℕ) (f : List ℕ) (l count : ℕ) (e : read_of profile f ≡ accepted_with l count) where
  pub table_is : table_of f ≡ sorted (entries_in count (drop 24 f))
  unfolding table_of
  table_is = ap sorted (indexed profile f l count e).index

  pub table_count : length (table_of f) ≡ count
  table_count = ap length table_is ∙ length-sorted f count

  pub check_last : (rows : List Entry) (size p : ℕ) → p ≡ agree rows (sorted (entries_in count (drop 24 f))) → accept_if
      (eqb size (3 * count) && eqb p count) p ≡ check_of profile f rows size
  unfolding check_of
  check_last rows size p w = rw (e, table_is, length-sorted f count, ← w)

  pub check_yes : (rows : List Entry) (size p : ℕ) → p ≡ agree rows (sorted (entries_in count (drop 24 f))) → eqb size (3 * count) && eqb p count ≡ true
      → Ok tt ≡ check_of profile f rows size
  check_yes rows size p w y = rw y at (check_last rows size p w)

  pub check_no : (rows : List Entry) (size p : ℕ) → p ≡ agree rows (sorted (entries_in count (drop 24 f))) → eqb size (3 * count) && eqb p count ≡ false
      → Refused 35 p ≡ check_of profile f rows size
  check_no rows size p w y = rw y at (check_last rows size p w)

  pub check-quick : (rows : List Entry) (size : ℕ) → size ≡ 3 * count → rows ≡ sorted (entries_in count (drop 24 f)) → Ok tt ≡ check_of
      profile f rows size
  check-quick rows size s w =
      let a : agree rows (sorted (entries_in count (drop 24 f))) ≡ count = rw w (agree_self (sorted (entries_in count (drop 24 f))) ∙ length-sorted f count) in
      check_yes rows size (agree rows (sorted (entries_in count (drop 24 f)))) refl (rw (a, eq-eqb size (3 * count) s, eq-eqb count count refl))

-- ---- the room that there is

room_by : (b : Bool) (n m : ℕ) → room_for b n ≡ Ok m → (m ≡ n) × (b ≡ true)
room_by true n m e = (cc, refl)
room_by false n m e = cc

pub room_given : (n size m : ℕ) → room_for (leb (3 * n) size) n ≡ Ok m → (m ≡ n) × (3 * n ≤ size)
room_given n size m e = let q = room_by _ n m e in (q.0, leb-true _ _ q.1)

-- ---- building

pub build-refused : (profile : ℕ) (f : List ℕ) (k p size : ℕ) → read_of profile f ≡ Refused k p → Refused k p ≡ build_of profile f size
unfolding build_of
build-refused profile f k p size e = rw e

module _ (profile : ℕ) (f : List ℕ) (l count size : ℕ) (e : read_of profile f ≡ accepted_with l count) where
  pub build-rows : 3 * count ≤ size → Ok count ≡ build_of profile f size
  unfolding build_of
  build-rows h = rw (e, le-leb (3 * count) size h)

  pub build-numbers : (t d : List ℕ) → d ≡ flat (sorted (entries_in count (drop 24 f))) ++ drop (3 * count) t → d ≡ written (Ok count)
      (flat (table_of f)) t
  build-numbers t d h =
      let q : length (flat (table_of f)) ≡ 3 * count = length-flat (table_of f) ∙ ap (λ (k : ℕ). 3 * k) (table_count profile f l count e) in
      rw (q, table_is profile f l count e) h

-- ---- turning n rows into numbers of the other form

module _ (rows : List Entry) (n size : ℕ) (e : length rows ≡ n) where
  pub turn-rows : 3 * n ≤ size → Ok n ≡ turn_of rows size
  unfolding turn_of
  turn-rows h = rw (e, le-leb (3 * n) size h)

pub turn-numbers : (front t d : List ℕ) (n : ℕ) → length front ≡ 3 * n → d ≡ front ++ drop (3 * n) t → d ≡ written (Ok n) front t
turn-numbers front t d n l h = rw l h
