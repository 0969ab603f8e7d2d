-- The chunk's bytes. Each loop goes by the rows that are left, so what is written so far and what is still to come are one list all the time, and no
-- law on a list's last element is needed.
use mathlib.Core.Path.{◌≡◌, refl, sym, ap, ◌∙◌}
use Prim.Native.Nat.{ℕ, zero, suc, ◌+◌, ◌-◌, ◌%◌, ◌≤◌, ◌<◌}
use mathlib.Core.List.{List, ◌∷◌, ◌++◌, append_assoc}
use native.Mathlib.Omega.{arith}
use lib.ListN.{length, take, drop, length-append, length-take, length-drop, length-replicate, replicate}
use borrow.Author.Tests.{le-leb, lt-leb}
use Rattle.blorb.specs.Bytes.{be32}
use Rattle.blorb.specs.Format.{chunk_bytes, chunk_of}
use Rattle.blorb.proofs.ByteLaws.{length-be32}
use Rattle.edits.specs.Run.{noted}
use Rattle.std.proofs.lemmas.List.{nil_from_length}
use Rattle.edits.proofs.Noted.{noted-none, noted-next}
use Rattle.rdes.specs.Rdes.{RDes, Desc, desc, entries_bytes, body_of}
use Rattle.describing.specs.Bridging.{entry_bytes}
use Rattle.describing.specs.List.{place_of, length_of, row_at, rows_from, row_text}
use Rattle.describing.specs.Bridging.{Within, entries_size, capped}

-- the size
pub capped_fits : (m : ℕ) → m ≤ 16777216 → capped m ≡ m
unfolding capped
capped_fits m h = rw (le-leb m 16777216 h)

pub same_capped : {m s : ℕ} → m ≡ s → m ≤ 16777216 → m ≡ capped s
same_capped {m} {s} e h = let l : s ≤ 16777216 = omega arith in e ∙ sym (capped_fits s l)

pub capped-over : (m : ℕ) → 16777216 < m → capped m ≡ 16777217
unfolding capped
capped-over m h = rw (lt-leb m 16777216 h)

module _ (rows : List ℕ) (n i : ℕ) where
  size_end : n ≤ i → entries_size rows (n - i) i ≡ 0
  unfolding entries_size
  size_end h = let e : n - i ≡ 0 = omega arith in rw e

  pub size-next : i < n → entries_size rows (n - i) i ≡ 12 + length_of rows i + entries_size rows (n - (i + 1)) (i + 1)
  unfolding entries_size
  size-next h = let e : n - i ≡ suc (n - (i + 1)) = omega arith in rw e

  module _ (size : ℕ) (inv : size + entries_size rows (n - i) i ≡ 4 + entries_size rows n 0) where
    pub size-over : i < n → 16777216 < size + (12 + length_of rows i) → 16777216 < 4 + entries_size rows n 0
    size-over h l = let e = size-next h in omega arith

    pub size-turn : i < n → size + (12 + length_of rows i) + entries_size rows (n - (i + 1)) (i + 1) ≡ 4 + entries_size rows n 0
    size-turn h = let e = size-next h in omega arith

    pub size-done : n ≤ i → size ≡ 4 + entries_size rows n 0
    size-done h = let e = size_end h in omega arith

pub size-start : (rows : List ℕ) (n : ℕ) → entries_size rows (n - 0) 0 ≡ entries_size rows n 0
size-start rows n = let e : n - 0 ≡ n = omega arith in rw e

-- one entry
pub entry-written : (b : List ℕ) (at u k : ℕ) (t : List ℕ) → at + (12 + length t) ≤ length b
    → noted (noted b at (be32 u ++ (be32 k ++ be32 (length t)))) (at + 12) t ≡ noted b at (entry_bytes (desc u k t))
unfolding entry_bytes
entry-written b at u k t h =
    noted-next b at (at + 12) (be32 u ++ (be32 k ++ be32 (length t))) t (simp (length-append, length-be32)) (omega arith)
    ∙ ap (noted b at) (simp append_assoc)

-- and one whose text has no bytes, which is not copied
pub entry_textless : (b : List ℕ) (at u k : ℕ) (t : List ℕ) → length t ≡ 0 → at + (12 + length t) ≤ length b
    → noted b at (be32 u ++ (be32 k ++ be32 (length t))) ≡ noted b at (entry_bytes (desc u k t))
entry_textless b at u k t z h =
    let words : List ℕ = noted b at (be32 u ++ (be32 k ++ be32 (length t))) in
    sym (noted-none words (at + 12)) ∙ ap (noted words (at + 12)) (sym (nil_from_length t z)) ∙ entry-written b at u k t h

-- the entries
pub length-rows : (rows texts : List ℕ) (n i : ℕ) → length (rows_from rows texts n i) ≡ n
unfolding rows_from
length-rows rows texts zero i = refl
length-rows rows texts (suc n) i = ap suc (length-rows rows texts n (i + 1))

entries-cons : (e : Desc) (es : List Desc) → entries_bytes (e ∷ es) ≡ entry_bytes e ++ entries_bytes es
unfolding entries_bytes entry_bytes
entries-cons e es = simp append_assoc

length-entry : (e : Desc) → length (entry_bytes e) ≡ 12 + length e.text
unfolding entry_bytes
length-entry e = simp (length-append, length-be32) (omega arith)

module _ (rows texts : List ℕ) (n : ℕ) (w : Within rows texts n) where
  pub text-length : (i : ℕ) → i < n → length (row_text rows texts i) ≡ length_of rows i
  unfolding Within
  text-length i h = let g = w i h in simp (length-take, length-drop) (omega arith)

  row-length : (i : ℕ) → i < n → length (entry_bytes (row_at rows texts i)) ≡ 12 + length_of rows i
  row-length i h = length-entry (row_at rows texts i) ∙ ap (λ (k : ℕ). 12 + k) (text-length i h)

  pub entries-length : (k i : ℕ) → i + k ≤ n → length (entries_bytes (rows_from rows texts k i)) ≡ entries_size rows k i
  unfolding rows_from entries_size
  entries-length zero i h = unfold entries_bytes in refl
  entries-length (suc k) i h =
      let a = row-length i (omega arith) in
      let b = entries-length k (i + 1) (omega arith) in
      rw (entries-cons (row_at rows texts i) (rows_from rows texts k (i + 1)), length-append) (omega arith)

  module _ (b : List ℕ) (at i : ℕ) where
    pub entry-turn : i < n → at + entries_size rows (n - i) i ≤ length b
        → noted (noted b at (entry_bytes (row_at rows texts i))) (at + (12 + length_of rows i)) (entries_bytes (rows_from rows texts (n - (i + 1)) (i + 1)))
        ≡ noted b at (entries_bytes (rows_from rows texts (n - i) i))
    unfolding rows_from
    entry-turn h l =
        let e : n - i ≡ suc (n - (i + 1)) = omega arith in
        let s = size-next rows n i h in
        let a = row-length i h in
        let r = entries-length (n - (i + 1)) (i + 1) (omega arith) in
        noted-next b at (at + (12 + length_of rows i)) (entry_bytes (row_at rows texts i))
        (entries_bytes (rows_from rows texts (n - (i + 1)) (i + 1))) (omega arith) (omega arith)
        ∙ rw (e, entries-cons (row_at rows texts i) (rows_from rows texts (n - (i + 1)) (i + 1)))

  pub list_written : (b : List ℕ) (m : ℕ) → m ≡ 4 + entries_size rows n 0 → 8 + (m + m % 2) ≤ length b
      → noted (noted (noted b 0 (be32 RDes ++ (be32 m ++ be32 n))) 12 (entries_bytes (rows_from rows texts n 0))) (8 + m) (replicate (m % 2) 0)
      ≡ noted b 0 (chunk_bytes (chunk_of RDes (body_of (rows_from rows texts n 0))))
  unfolding chunk_bytes body_of
  list_written b m q h =
      let es : List ℕ = entries_bytes (rows_from rows texts n 0) in
      let l : length (entries_bytes (rows_from rows texts n 0)) ≡ entries_size rows n 0 = entries-length n 0 (omega arith) in
      let k : length (be32 n ++ entries_bytes (rows_from rows texts n 0)) ≡ m = simp (length-append, length-be32) (omega arith) in
      rw (
        noted-next b 0 12 (be32 RDes ++ (be32 m ++ be32 n)) (entries_bytes (rows_from rows texts n 0)) (simp (length-append, length-be32)) (omega arith),
        noted-next b 0 (8 + m) ((be32 RDes ++ (be32 m ++ be32 n)) ++ entries_bytes (rows_from rows texts n 0)) (replicate (m % 2) 0)
            (simp (length-append, length-be32) (omega arith))
            (simp length-replicate (omega arith)),
        length-rows rows texts n 0,
        k,
      )
      (ap (noted b 0) (simp append_assoc))

pub entries-done : (b : List ℕ) (at : ℕ) (rows texts : List ℕ) (n i : ℕ) → n ≤ i → noted b at (entries_bytes (rows_from rows texts (n - i) i)) ≡ b
unfolding rows_from entries_bytes
entries-done b at rows texts n i h = let e : n - i ≡ 0 = omega arith in rw e (noted-none b at)

pub entries-start : (b : List ℕ) (rows texts : List ℕ) (n : ℕ)
    → noted b 12 (entries_bytes (rows_from rows texts (n - 0) 0)) ≡ noted b 12 (entries_bytes (rows_from rows texts n 0))
entries-start b rows texts n = let e : n - 0 ≡ n = omega arith in rw e

-- a part of a slice, by its two ends
pub part-is : (p n : ℕ) (s : List ℕ) → take (p + n - p) (drop p s) ≡ take n (drop p s)
part-is p n s = let e : p + n - p ≡ n = omega arith in rw e

pub row_fits : (rows texts : List ℕ) (n i at z : ℕ) → Within rows texts n → i < n → at + entries_size rows (n - i) i ≤ z
    → (place_of rows i + length_of rows i ≤ length texts) × (at + (12 + length_of rows i) ≤ z)
unfolding Within
row_fits rows texts n i at z w h l = let e = size-next rows n i h in (w i h, omega arith)

pub rest-fits : (rows : List ℕ) (n i at z : ℕ) → i < n → at + entries_size rows (n - i) i ≤ z
    → at + (12 + length_of rows i) + entries_size rows (n - (i + 1)) (i + 1) ≤ z
rest-fits rows n i at z h l = let e = size-next rows n i h in omega arith
