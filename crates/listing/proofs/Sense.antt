-- What the listing's definitions come to: decimal numbers mean what they print, every listing fits its room, and longer input is refused.
use mathlib.Core.Path.{◌≡◌, refl, ap, ◌∙◌}
use Prim.Native.Nat.{ℕ, zero, suc, ◌+◌, ◌*◌, ◌-◌, ◌/◌, ◌%◌, ◌^◌, ◌≤◌, ◌<◌}
use mathlib.Core.List.{List, [], ◌∷◌, ◌++◌}
use mathlib.Core.Bool.{Bool, true, false, cond, ◌||◌}
use native.Mathlib.Omega.{arith}
use native.Mathlib.Numerals.{add-one}
use lib.ListN.{length, get_or, take, drop, length-append}
use lib.Seq.{take_all}
use lib.Dec.{ltb}
use borrow.Author.Tests.{lt-ltb, ltb-false}
use Rattle.blorb.specs.Bytes.{rd32, Byte}
use Rattle.blorb.specs.All.{All}
use Rattle.blorb.specs.Lookup.{left_out_of}
use Rattle.blorb.proofs.AllLaws.{all_drop}
use Rattle.blorb.proofs.ByteLaws.{length-be32}
use Rattle.blorb.proofs.Accept.{rd32_small}
use Rattle.index.specs.Entries.{start_at, place}
use Rattle.std.specs.Prelude.{Result, Ok}
use Rattle.blorb.specs.Refusals.{Refused}
use Rattle.blorb.specs.declared.refusal.Refusal.{Refusal}
use Rattle.reader.specs.Reading.{accepted_with, index_of, read_of}
use Rattle.reader.specs.declared.Accepted.{Accepted}
use Rattle.reader.proofs.Promises.{accepted_is, counted}
use Rattle.listing.specs.Text.{text, digit, last_digit, digits_of, decimal}
use Rattle.listing.specs.Listing.{
  head_line,
  refused_line,
  lines_of,
  listing_by,
  listing_of,
  input_reading,
  input_listing,
  room_by,
  room_for,
  input_room,
}
use Rattle.listing.specs.InPlace.{fields_at, chunk_text, line_at}
use Rattle.listing.proofs.TextLaws.{tenth, decimal_20, decimal_10, decimal-size}
use Rattle.listing.proofs.ListLaws.{lines_on}

-- the number that digits print, behind the number that those before them do
abbrev pub value_from : ℕ → List ℕ → ℕ
value_from n [] = n
value_from n (d ∷ ds) = value_from (n * 10 + (d - 48)) ds

value_snoc : (n : ℕ) (ds : List ℕ) (d : ℕ) → value_from n (ds ++ (d ∷ [])) ≡ value_from n ds * 10 + (d - 48)
value_snoc n [] d = refl
value_snoc n (x ∷ ds) d = value_snoc (n * 10 + (x - 48)) ds d

value : (k n : ℕ) → n < 10 ^ suc k → value_from 0 (digits_of (suc k) n) ≡ n
value zero n h = let l : n < 10 = omega arith in rw (lt-ltb n 10 l) (omega arith)
value (suc k) n h = go (ltb n 10) refl (value k (n / 10) (tenth (suc k) n h))
  where
    go : (b : Bool) → ltb n 10 ≡ b → value_from 0 (digits_of (suc k) (n / 10)) ≡ n / 10 → value_from 0 (last_digit b n (λ m. digits_of (suc k) m)) ≡ n
    go true e ih = omega arith
    go false e ih = value_snoc 0 (digits_of (suc k) (n / 10)) (digit (n % 10)) ∙ rw ih (omega arith)

pub decimal-value : (n : ℕ) → n < 2 ^ 64 → value_from 0 (decimal n) ≡ n
unfolding decimal
decimal-value n h = value 19 n (omega arith)

-- no leading zero
first-append : (l r : List ℕ) → 0 < length l → get_or (l ++ r) 0 0 ≡ get_or l 0 0
first-append [] r h = absurd (omega arith)
first-append (x ∷ l) r h = refl

some_digit : (k n : ℕ) → 0 < length (digits_of (suc k) n)
some_digit k n = go (ltb n 10)
  where
    go : (b : Bool) → 0 < length (last_digit b n (λ m. digits_of k m))
    go true = omega arith
    go false = simp length-append (omega arith)

first : (k n : ℕ) → 0 < n → n < 10 ^ suc k → 48 < get_or (digits_of (suc k) n) 0 0
first zero n z h = let l : n < 10 = omega arith in rw (lt-ltb n 10 l) (omega arith)
first (suc k) n z h = go (ltb n 10) refl (λ p. first k (n / 10) p (tenth (suc k) n h))
  where
    go : (b : Bool) → ltb n 10 ≡ b → (0 < n / 10 → 48 < get_or (digits_of (suc k) (n / 10)) 0 0) → 48 < get_or (last_digit b n (λ m. digits_of (suc k) m)) 0 0
    go true e ih = omega arith
    go false e ih =
        let l : 10 ≤ n = ltb-false n 10 e in
        rw (first-append (digits_of (suc k) (n / 10)) (digit (n % 10) ∷ []) (some_digit k (n / 10))) (ih (omega arith))

pub decimal-first : (n : ℕ) → 0 < n → n < 2 ^ 64 → 48 < get_or (decimal n) 0 0
unfolding decimal
decimal-first n z h = first 19 n z (omega arith)

-- "longer input prints as refusal 1 at 0"
pub refused-longer : (f : List ℕ) → input_listing f true ≡ text "refused 1 at 0\n"
unfolding input_listing input_reading refused_line decimal
refused-longer f = refl

pub refused_over : (f : List ℕ) (longer : Bool) → 65536 < length f → input_listing f longer ≡ text "refused 1 at 0\n"
unfolding input_listing input_reading refused_line decimal
refused_over f true l = refl
refused_over f false l = rw (lt-ltb 65536 (length f) l)

-- every listing fits the room that is asked for it
head-room : (size count : ℕ) → length (head_line size count) ≤ 64
unfolding head_line
head-room size count = simp length-append (omega (arith, decimal_20 size, decimal_20 count))

refused-room : (number place : ℕ) → length (refused_line number place) ≤ 64
unfolding refused_line
refused-room number place = simp length-append (omega (arith, decimal_20 number, decimal_20 place))

module _ (f : List ℕ) (bytes : All Byte f) where
  small : (p : ℕ) → rd32 (drop p f) < 2 ^ 32
  small p = rd32_small (drop p f) (all_drop Byte p f bytes)

  digits : (p : ℕ) → length (decimal (rd32 (drop p f))) ≤ 10
  digits p = decimal_10 (rd32 (drop p f)) (small p)

  line_room : (p : ℕ) → length (line_at f p) ≤ 48
  unfolding line_at fields_at chunk_text
  line_room p =
      simp (length-append, length-be32)
      (omega
      (arith, digits (p + 4), digits (p + 8), decimal-size (rd32 (drop (start_at f p + 4) f)) (left_out_of (rd32 (drop (start_at f p) f))) (small (start_at f p + 4))))

  lines_room : (l count : ℕ) → read_of 0 f ≡ accepted_with l count → (i : ℕ) → i ≤ count → length (lines_of f (take i (index_of f))) ≤ 48 * i
  unfolding lines_of
  lines_room l count e zero h = omega arith
  lines_room l count e (suc i) h =
      let on : length (lines_of f (take (i + 1) (index_of f))) ≡ length (lines_of f (take i (index_of f))) + length (line_at f (place i))
      = ap length (lines_on f l count e i (omega arith)) ∙ length-append (lines_of f (take i (index_of f))) (line_at f (place i)) in
      rw (← add-one i) (omega (arith, on, line_room (place i), lines_room l count e i (omega arith)))

  listing_go : (v : Result Accepted Refusal) → read_of 0 f ≡ v → length (listing_by f v) ≤ room_by v
  listing_go (Ok a) e =
      let l = a.length in
      let n = a.count in
      let whole : take n (index_of f) ≡ index_of f = take_all n (index_of f) (omega (arith, counted 0 f l n e)) in
      let lines : length (lines_of f (index_of f)) ≤ 48 * n = rw whole at (lines_room l n e n (omega arith)) in
      simp length-append (omega (arith, head-room l n, lines))
  listing_go (Refused k p) e = refused-room k p

  pub listing_fits : length (listing_of f) ≤ room_for f
  unfolding listing_of room_for
  listing_fits = listing_go (read_of 0 f) refl

  picked_fits : (over : Bool) → length (listing_by f (cond over (Refused 1 0) (read_of 0 f))) ≤ room_by (cond over (Refused 1 0) (read_of 0 f))
  picked_fits true = refused-room 1 0
  picked_fits false = listing_go (read_of 0 f) refl

  pub input-fits : (longer : Bool) → length (input_listing f longer) ≤ input_room f longer
  unfolding input_listing input_room input_reading
  input-fits longer = picked_fits (longer || ltb 65536 (length f))

-- the most room that an input asks for: 4,096 entries
input_go : (f : List ℕ) (v : Result Accepted Refusal) → read_of 0 f ≡ v → room_by v ≤ 196672
input_go f (Ok a) e = omega (arith, (accepted_is 0 f a.length a.count e).4)
input_go f (Refused k p) e = omega arith

picked-room : (f : List ℕ) (over : Bool) → room_by (cond over (Refused 1 0) (read_of 0 f)) ≤ 196672
picked-room f true = omega arith
picked-room f false = input_go f (read_of 0 f) refl

pub input-room : (f : List ℕ) (longer : Bool) → input_room f longer ≤ 196672
unfolding input_room input_reading
input-room f longer = picked-room f (longer || ltb 65536 (length f))
