-- What the table promises: laws over the definitions that the public contracts cite.
use mathlib.Core.Path.{◌≡◌, refl, ap, sym, ◌∙◌}
use Prim.Native.Nat.{ℕ, ◌+◌, ◌*◌, ◌-◌, ◌/◌, ◌≤◌, ◌<◌}
use mathlib.Core.List.Permᴰ
use mathlib.Core.List.{List, [], ◌∷◌, ◌++◌, Memᴰ}
use mathlib.Core.Bool.{Bool, true, false, ◌&&◌}
use mathlib.Core.Logic.{◌⊎◌, inl, inr, ⊎_elim}
use native.Mathlib.Omega.{arith}
use lib.ListN.{length, get_or, take, drop}
use lib.Dec.{eqb, ltb, leb}
use borrow.Author.Tests.{ltb-true, ltb-false, eqb-true}
use Rattle.blorb.specs.Format.{Entry}
use Rattle.blorb.specs.Lookup.{left_out_of}
use Rattle.rows.specs.Order.{is_pair, sorted}
use Rattle.rows.specs.Halving.{row_of, halving, no_row, two_to}
use Rattle.table.specs.Answers.{search_of, table_of, room_for, build_by, build_of, written, agree, accept_if, check_by, check_of, start_from}
use Rattle.table.specs.TableOf.{SameEntries, TableOf}
use Rattle.rows.proofs.OrderLaws.{before-less, less_irreflexive, pair_true, pair_not, same-entry}
use lib.Seq.{take_at}
use Rattle.blorb.specs.Verdict.{accept}
use Rattle.blorb.specs.Rules.{profile_verdict}
use Rattle.blorb.proofs.Checks.{and_both}
use Rattle.reader.specs.Reading.{index_of, read_of, accepted_with, lookup_of}
use Rattle.index.specs.Hits.{hit_in}
use Rattle.chunks.specs.Walk.{chunk_from}
use Rattle.reader.specs.declared.Accepted.{Accepted}
use Rattle.blorb.specs.declared.refusal.Refusal.{Refusal}
use Rattle.blorb.specs.Refusals.{Refused}
use Rattle.std.specs.Prelude.{Result, Ok, Err, None}
use Rattle.reader.proofs.Promises.{accepted_when, lookup_found, plain_answers, unknown_answers}
use Rattle.rows.specs.Rows.{rows_of, flat}
use Rattle.rows.specs.Bridging.{NoTwice}
use Rattle.rows.proofs.HalvingLaws.{probes_few, hit, Missed, missed}
use Rattle.rows.proofs.SortLaws.{sorted_perm, sorted-rising, perm_mem, perm_length, mem_at, at_mem, rising_equal}
use Rattle.table.proofs.CheckLaws.{agree-same-rows}
use Rattle.rows.proofs.FlatLaws.{length-flat, length-rows_of, flat-rows_of, rows_of-flat}
use Rattle.table.proofs.FileLaws.{indexed}
use Rattle.table.proofs.AnswerLaws.{table_is, table_count, check-quick}

-- ---- "It reports the number of rows looked at": how many they are at most, in any slice, checked or not

-- among fewer than 2 to the m rows at most m are looked at
pub probes_log : (t : List ℕ) (u n m : ℕ) → length t / 3 < two_to m → (search_of (rows_of t) u n).probes ≤ m
unfolding search_of
probes_log t u n m l = probes_few (rows_of t) u n m (omega (arith, length-rows_of t))

-- "at most 13 for 4,096 rows"
pub probes_13 : (t : List ℕ) (u n : ℕ) → length t / 3 ≤ 4096 → (search_of (rows_of t) u n).probes ≤ 13
probes_13 t u n l = probes_log t u n 13 (omega arith)

-- "and 0 for none"
pub probes_none : (t : List ℕ) (u n : ℕ) → length t < 3 → (search_of (rows_of t) u n).probes ≡ 0
probes_none t u n l = omega (arith, probes_log t u n 0 (omega arith))

-- the index of an accepted file has no pair twice
pub pairs_once : (profile : ℕ) (f : List ℕ) → profile_verdict profile f ≡ accept → NoTwice (index_of f)
pairs_once profile f h = let i = indexed profile f _ _ (accepted_when profile f h) in rw i.index i.once

-- ---- a table is accepted exactly when it holds the file's entries, each once, in order, and nothing more

yes : (b : Bool) (p : ℕ) → accept_if b p ≡ Ok tt → b ≡ true
yes true p h = refl
yes false p h = cc

accepted_by : (profile : ℕ) (r : Result Accepted Refusal) (f : List ℕ) (rows : List Entry) (size : ℕ) → read_of profile f ≡ r
    → check_by r rows size (table_of f) ≡ Ok tt
    → (l : ℕ) × (n : ℕ) × (read_of profile f ≡ accepted_with l n) × (eqb size (3 * length (table_of f)) && eqb (agree rows (table_of f)) (length (table_of f)) ≡ true)
accepted_by profile (Ok a) f rows size e h = (a.length, a.count, e, yes _ _ h)
accepted_by profile (Refused k p) f rows size e h = cc

-- sorting changes no entry
sorted-same : (es : List Entry) → SameEntries (sorted es) es
sorted-same es = (λ x k. perm_mem (sorted_perm es) k, λ x k. perm_mem (Permᴰ.symm (sorted_perm es)) k)

module _ (profile : ℕ) (f : List ℕ) (rows : List Entry) (size : ℕ) (hl : length rows ≡ size / 3) where
  pub accepted-rows : check_of profile f rows size ≡ Ok tt → (profile_verdict profile f ≡ accept) × (rows ≡ table_of f) × (size ≡ 3 * length rows)
  unfolding check_of
  accepted-rows h =
      let a = accepted_by profile (read_of profile f) f rows size refl h in
      let b = and_both _ _ a.3 in
      let s : size ≡ 3 * length (table_of f) = eqb-true _ _ b.0 in
      let l : length rows ≡ length (table_of f) = omega arith in
      ((indexed profile f a.0 a.1 a.2).verdict, agree-same-rows rows (table_of f) l (eqb-true _ _ b.1), s ∙ ap (λ (k : ℕ). 3 * k) (sym l))

  pub accepted-is-table : check_of profile f rows size ≡ Ok tt → TableOf profile f rows size
  unfolding table_of
  accepted-is-table h =
      let a = accepted-rows h in
      record {
        accepts = a.0;
        entries = rw a.1 (sorted-same (index_of f));
        rises = rw a.1 (sorted-rising (index_of f) (pairs_once profile f a.0));
        whole = a.2;
      }

  pub table-is-accepted : TableOf profile f rows size → check_of profile f rows size ≡ Ok tt
  table-is-accepted t =
      let e = accepted_when profile f t.accepts in
      let i = indexed profile f _ _ e in
      let s = sorted-same (index_of f) in
      let w : rows ≡ sorted (index_of f) =
      rising_equal rows (sorted (index_of f)) t.rises (sorted-rising (index_of f) (pairs_once profile f t.accepts)) (λ x k. s.1 x (t.entries.0 x k))
      (λ x k. t.entries.1 x (s.0 x k)) in
      let n : length rows ≡ length (index_of f) = ap length w ∙ perm_length (sorted_perm (index_of f)) in
      sym (check-quick profile f _ _ e rows size (t.whole ∙ ap (λ (k : ℕ). 3 * k) (n ∙ i.many)) (w ∙ ap sorted i.index))

-- in P2's form: every number of it is the built table's
pub accepted-numbers : (profile : ℕ) (f t : List ℕ) → check_of profile f (rows_of t) (length t) ≡ Ok tt → t ≡ flat (table_of f)
accepted-numbers profile f t h = let a = accepted-rows profile f (rows_of t) (length t) (length-rows_of t) h in sym (flat-rows_of t (length (rows_of t)) a.2)
    ∙ ap flat a.1

-- what is built is accepted: the part of the slice that the rows take
built_by : (profile : ℕ) (r : Result Accepted Refusal) (f : List ℕ) (size n : ℕ) → read_of profile f ≡ r → build_by r size ≡ Ok n
    → (l : ℕ) × (read_of profile f ≡ accepted_with l n)
built_by profile (Ok a) f size n e h = go (leb (3 * a.count) size) h
  where
    go : (b : Bool) → room_for b a.count ≡ Ok n → (k : ℕ) × (read_of profile f ≡ accepted_with k n)
    go true w = let q : a.count ≡ n = cc in (a.length, e ∙ rw q)
    go false w = cc
built_by profile (Refused k p) f size n e h = cc

pub build-accepted : (profile : ℕ) (f t : List ℕ) (n : ℕ) → build_of profile f (length t) ≡ Ok n
    → check_of profile f (rows_of (take (3 * n) (written (Ok n) (flat (table_of f)) t)))
    (length (take (3 * n) (written (Ok n) (flat (table_of f)) t))) ≡ Ok tt
unfolding build_of
build-accepted profile f t n b =
    let r = built_by profile (read_of profile f) f (length t) n refl b in
    let c = table_count profile f r.0 n r.1 in
    let q : take (3 * n) (flat (table_of f) ++ drop (length (flat (table_of f))) t) ≡ flat (table_of f) =
    take_at (flat (table_of f)) (drop (length (flat (table_of f))) t) (3 * n) (length-flat (table_of f) ∙ ap (λ (k : ℕ). 3 * k) c) in
    rw (q, rows_of-flat (table_of f), length-flat (table_of f))
    (sym (check-quick profile f r.0 n r.1 (table_of f) (3 * length (table_of f)) (ap (λ (k : ℕ). 3 * k) c) (table_is profile f r.0 n r.1)))

-- ---- a stale table is caught

-- the check of an accepted file accepts, or refuses with 35 at the first differing row
module _ (profile : ℕ) (g : List ℕ) (rows : List Entry) (size : ℕ) (h : profile_verdict profile g ≡ accept) where
  check_either : (check_of profile g rows size ≡ Ok tt) ⊎ (check_of profile g rows size ≡ Refused 35 (agree rows (table_of g)))
  unfolding check_of
  check_either = rw (accepted_when profile g h) (go (eqb size (3 * length (table_of g)) && eqb (agree rows (table_of g)) (length (table_of g))))
    where
      go : (b : Bool) → (accept_if b (agree rows (table_of g)) ≡ Ok tt) ⊎
          (accept_if b (agree rows (table_of g)) ≡ Refused 35 (agree rows (table_of g)))
      go true = inl refl
      go false = inr refl

-- f and g are accepted under one profile, and t is a good table of f: it is one of g exactly when both have the same entries
module _ (profile : ℕ) (f g t : List ℕ) (hg : profile_verdict profile g ≡ accept) (good : check_of profile f (rows_of t) (length t) ≡ Ok tt) where
  table-f : TableOf profile f (rows_of t) (length t)
  table-f = accepted-is-table profile f (rows_of t) (length t) (length-rows_of t) good

  pub same-accepted : SameEntries (index_of f) (index_of g) → check_of profile g (rows_of t) (length t) ≡ Ok tt
  same-accepted s =
      table-is-accepted profile g (rows_of t) (length t) (length-rows_of t)
      (record {
        accepts = hg;
        entries = (λ x k. s.0 x (table-f.entries.0 x k), λ x k. table-f.entries.1 x (s.1 x k));
        rises = table-f.rises;
        whole = table-f.whole;
      })

  pub accepted-same : check_of profile g (rows_of t) (length t) ≡ Ok tt → SameEntries (index_of f) (index_of g)
  accepted-same a =
      let u = accepted-is-table profile g (rows_of t) (length t) (length-rows_of t) a in
      (λ x k. u.entries.0 x (table-f.entries.1 x k), λ x k. table-f.entries.0 x (u.entries.1 x k))

  -- else it is refused with 35, at the first row in which the two tables differ
  pub stale_refused : (SameEntries (index_of f) (index_of g) → ⊥) → check_of profile g (rows_of t) (length t) ≡ Refused 35 (agree (table_of f) (table_of g))
  stale_refused d =
      let r : rows_of t ≡ table_of f = (accepted-rows profile f (rows_of t) (length t) (length-rows_of t) good).1 in
      ⊎_elim (λ a. absurd (d (accepted-same a))) (λ e. e ∙ ap (λ (rows : List Entry). Refused 35 (agree rows (table_of g))) r)
      (check_either profile g (rows_of t) (length t) hg)

-- ---- a search in an accepted table gives the start of the chunk that the lookup finds, or both answer 22

no_hit : (u n : ℕ) (es : List Entry) → ((x : Entry) → Memᴰ x es → is_pair u n x ≡ false) → hit_in u n es ≡ None
unfolding hit_in
no_hit u n [] h = refl
no_hit u n (e ∷ es) h = rw (h e (Memᴰ.head refl)) (no_hit u n es (λ x k. h x (Memᴰ.tail k)))

module _ (profile : ℕ) (f : List ℕ) (u n : ℕ) (h : profile_verdict profile f ≡ accept) where
  search-there : (i : ℕ) → (halving (table_of f) u n).row ≡ Ok i → Ok (row_of (table_of f) i).start ≡ start_from (lookup_of profile f u n)
  unfolding table_of
  search-there i g =
      let r : Entry = row_of (table_of f) i in
      let a = hit (table_of f) u n in
      let p = pair_true u n r (a.pair i g) in
      let m = mem_at no_row (index_of f) (perm_mem (sorted_perm (index_of f)) (at_mem no_row (table_of f) i (a.there i g))) in
      let e : get_or (index_of f) m.0 no_row ≡ record { usage = u; number = n; start = r.start } = m.2 ∙ same-entry _ _ p.0 p.1 refl in
      let k = (lookup_found profile f u n m.0 r.start h m.1 e).0 in
      let t : ℕ = left_out_of (chunk_from f r.start).type in
      let s : r.start + t - t ≡ r.start = omega arith in
      rw k (ap Ok (sym s))

  search_nowhere : (x : ℕ) → (halving (table_of f) u n).row ≡ Err x → Refused 22 0 ≡ start_from (lookup_of profile f u n)
  unfolding table_of lookup_of
  search_nowhere x g =
      let m = missed (table_of f) u n (sorted-rising (index_of f) (pairs_once profile f h)) in
      let none : (y : Entry) → Memᴰ y (index_of f) → is_pair u n y ≡ false = λ y k.
      (let i = mem_at no_row (table_of f) (perm_mem (Permᴰ.symm (sorted_perm (index_of f))) k) in
      pair_not u n y
      (λ s.
      let same : ((row_of (table_of f) i.0).usage ≡ u) × ((row_of (table_of f) i.0).number ≡ n) =
      (ap (λ (z : Entry). z.usage) i.2 ∙ s.0, ap (λ (z : Entry). z.number) i.2 ∙ s.1) in
      apart i.0 i.1 same (ltb i.0 x) refl m))
      in
      let w : hit_in u n (index_of f) ≡ None = no_hit u n (index_of f) none in
      rw (h, w)
    where
      apart : (i : ℕ) → i < length (table_of f) → ((row_of (table_of f) i).usage ≡ u) × ((row_of (table_of f) i).number ≡ n) → (b : Bool)
          → ltb i x ≡ b → Missed (table_of f) u n (halving (table_of f) u n) → ⊥
      apart i l s true e m =
          less_irreflexive u n (before-less u n u n (rw (s.0, s.1) at (m.front x g i (ltb-true _ _ e) l)))
      apart i l s false e m =
          less_irreflexive u n (before-less u n u n (rw (s.0, s.1) at (m.back x g i (ltb-false _ _ e) l)))

  search-table : (search_of (table_of f) u n).found ≡ start_from (lookup_of profile f u n)
  unfolding search_of
  search-table = go (halving (table_of f) u n).row refl
    where
      go : (r : Result ℕ ℕ) → (halving (table_of f) u n).row ≡ r → (search_of (table_of f) u n).found ≡ start_from (lookup_of profile f u n)
      go (Ok i) e = rw e (search-there i e)
      go (Err x) e = rw e (search_nowhere x e)

pub accepted-search : (profile : ℕ) (f : List ℕ) (rows : List Entry) (size u n : ℕ) → length rows ≡ size / 3 → check_of profile f rows size ≡ Ok tt
    → (search_of rows u n).found ≡ start_from (lookup_of profile f u n)
accepted-search profile f rows size u n hl h = let a = accepted-rows profile f rows size hl h in rw a.1 (search-table profile f u n a.0)

pub table-search : (profile : ℕ) (f t : List ℕ) (u n : ℕ) → check_of profile f (rows_of t) (length t) ≡ Ok tt → (search_of (rows_of t) u
    n).found ≡ start_from (lookup_of profile f u n)
table-search profile f t u n h = accepted-search profile f (rows_of t) (length t) u n (length-rows_of t) h

-- ---- under another profile

-- of a file accepted as plain, building and checking answer the same under ADRIFT (02, P12)
pub plain_tables : (f : List ℕ) → profile_verdict 0 f ≡ accept
    → ((size : ℕ) → build_of 1 f size ≡ build_of 0 f size) × ((rows : List Entry) (size : ℕ) → check_of 1 f rows size ≡ check_of 0 f rows size)
unfolding build_of check_of
plain_tables f h = let r = (plain_answers f h).0 in (λ size. rw r, λ rows size. rw r)

-- of an unknown profile both answer 52, before all others, and building leaves the slice as it was
pub unknown_tables : (profile : ℕ) (f : List ℕ) → 1 < profile
    → ((size : ℕ) → build_of profile f size ≡ Refused 52 0) × ((rows : List Entry) (size : ℕ) → check_of profile f rows size ≡ Refused 52 0)
    × ((t : List ℕ) → written (build_of profile f (length t)) (flat (table_of f)) t ≡ t)
unfolding build_of check_of
unknown_tables profile f h = let r = (unknown_answers profile f h).0 in ((λ size. rw r), (λ rows size. rw r), λ t. rw r)
