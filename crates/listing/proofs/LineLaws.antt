-- Whole lines from their pieces, and the room that they take.
use mathlib.Core.Path.{◌≡◌, sym}
use Prim.Native.Nat.{ℕ, ◌+◌, ◌-◌, ◌^◌, ◌≤◌, ◌<◌}
use mathlib.Core.List.{List, ◌++◌, append_assoc}
use native.Mathlib.Omega.{arith}
use lib.ListN.{length, take, drop, length-drop}
use Rattle.blorb.specs.Bytes.{be32, rd32, Byte}
use Rattle.blorb.specs.All.{All}
use Rattle.blorb.specs.Lookup.{left_out_of}
use Rattle.blorb.proofs.AllLaws.{all_drop}
use Rattle.blorb.proofs.Accept.{again}
use Rattle.index.specs.Entries.{usage_at, number_at, start_at}
use Rattle.listing.specs.Text.{text, decimal}
use Rattle.listing.specs.Listing.{head_line, refused_line, entry_line}
use Rattle.listing.specs.InPlace.{Wrote, fields_at, given_size, chunk_text, line_at}
use Rattle.listing.proofs.TextLaws.{decimal_20, decimal_10, decimal-size}
use Rattle.listing.proofs.WriteLaws.{more, more_two}

-- four bytes of the file are those of the number that they hold
pub tag_is : (f : List ℕ) (from to : ℕ) → All Byte f → to ≡ from + 4 → to ≤ length f → take (to - from) (drop from f) ≡ be32 (rd32 (drop from f))
tag_is f from to bytes e h =
    let n : to - from ≡ 4 = omega arith in
    rw n (sym (again (drop from f) (all_drop Byte from f bytes) (simp length-drop (omega arith))))

module _ (out : List ℕ) (at a b e : ℕ) (o1 o2 o3 : List ℕ) where
  pub head_line_lem : (size count : ℕ) → Wrote out at (text "blorb " ++ decimal size) a o1 → Wrote o1 a (text " bytes " ++ decimal count) b o2
      → Wrote o2 b (text " resources\n") e o3
      → Wrote out at (head_line size count) e o3 × (e ≤ at + 64)
  unfolding head_line
  head_line_lem size count w1 w2 w3 =
      let v = more_two out at (text "blorb " ++ decimal size) a o1 w1 (text " bytes ") (decimal count) b o2 w2 in (
        more out at (text "blorb " ++ decimal size ++ text " bytes " ++ decimal count) b o2 v (text " resources\n") e o3 w3,
        omega (arith, w1.0, w2.0, w3.0, decimal_20 size, decimal_20 count),
      )

  pub refused_line_lem : (number place : ℕ) → Wrote out at (text "refused " ++ decimal number) a o1 → Wrote o1 a (text " at " ++ decimal place) b o2
      → Wrote o2 b (text "\n") e o3
      → Wrote out at (refused_line number place) e o3 × (e ≤ at + 64)
  unfolding refused_line
  refused_line_lem number place w1 w2 w3 =
      let v = more_two out at (text "refused " ++ decimal number) a o1 w1 (text " at ") (decimal place) b o2 w2 in (
        more out at (text "refused " ++ decimal number ++ text " at " ++ decimal place) b o2 v (text "\n") e o3 w3,
        omega (arith, w1.0, w2.0, w3.0, decimal_20 number, decimal_20 place),
      )

-- an entry's fields, by the numbers that the code has read
module _ (f : List ℕ) (p n x : ℕ) (en : (n ≡ number_at f p) × (n < 2 ^ 32)) (ex : (x ≡ start_at f p) × (x < 2 ^ 32)) (out : List ℕ) (at a b e : ℕ)
    (o1 o2 o3 : List ℕ) where
  pub fields_text : Wrote out at (be32 (usage_at f p)) a o1 × (a ≡ at + 4) → Wrote o1 a (text " " ++ decimal n) b o2 → Wrote o2 b (text " at " ++ decimal x) e o3
      → Wrote out at (fields_at f p) e o3 × (e ≤ at + 29)
  unfolding fields_at
  fields_text w1 w2 w3 =
      let v2 = more_two out at (be32 (usage_at f p)) a o1 w1.0 (text " ") (decimal n) b o2 w2 in
      let v3 = more_two out at (be32 (usage_at f p) ++ text " " ++ decimal n) b o2 v2 (text " at ") (decimal x) e o3 w3 in
      (rw (← en.0, ← ex.0) v3, omega (arith, w1.1, w2.0, w3.0, decimal_10 n en.1, decimal_10 x ex.1))

-- its chunk's type and the length of what a lookup gives of it
module _ (f : List ℕ) (x m k : ℕ) (em : (m ≡ rd32 (drop (x + 4) f)) × (m < 2 ^ 32)) (ek : k ≡ left_out_of (rd32 (drop x f)))
    (out : List ℕ) (at a b d e : ℕ) (o1 o2 o3 o4 : List ℕ) where
  pub chunk-text : Wrote out at (text " ") a o1 → Wrote o1 a (be32 (rd32 (drop x f))) b o2 × (b ≡ a + 4)
      → Wrote o2 b (text " " ++ decimal (8 + m - k)) d o3 → Wrote o3 d (text "\n") e o4
      → Wrote out at (chunk_text f x) e o4 × (e ≤ at + 17)
  unfolding chunk_text
  chunk-text w1 w2 w3 w4 =
      let t : List ℕ = be32 (rd32 (drop x f)) in
      let v2 = more out at (text " ") a o1 w1 t b o2 w2.0 in
      let v3 = more_two out at (text " " ++ t) b o2 v2 (text " ") (decimal (8 + m - k)) d o3 w3 in
      let v4 = more out at (text " " ++ t ++ text " " ++ decimal (8 + m - k)) d o3 v3 (text "\n") e o4 w4 in
      (rw (← em.0, ← ek) v4, omega (arith, w1.0, w2.1, w3.0, w4.0, decimal-size m k em.1))

pub entry-text : (f out mid after : List ℕ) (p x at to end : ℕ) → x ≡ start_at f p → Wrote out at (fields_at f p) to mid × (to ≤ at + 29)
    → Wrote mid to (chunk_text f x) end after × (end ≤ to + 17)
    → Wrote out at (line_at f p) end after × (end ≤ at + 48)
unfolding line_at
entry-text f out mid after p x at to end ex w v = (
  rw (← ex) (more out at (fields_at f p) to mid w.0 (chunk_text f x) end after v.0),
  omega
      (arith, w.1, v.1),
)

-- the line is the definition's
pub line_is : (f : List ℕ) (p : ℕ) → line_at f p ≡ entry_line (usage_at f p) (number_at f p) (start_at f p) (rd32 (drop (start_at f p) f)) (given_size f (start_at f p))
unfolding line_at fields_at chunk_text entry_line
line_is f p = simp append_assoc
