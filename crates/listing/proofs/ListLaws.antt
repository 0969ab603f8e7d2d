-- The lines of all entries, and the listing in a buffer.
use mathlib.Core.Path.{◌≡◌, refl, sym, ap, ◌∙◌}
use Prim.Native.Nat.{ℕ, ◌+◌, ◌≤◌, ◌<◌}
use mathlib.Core.List.{List, [], ◌∷◌, ◌++◌, append_assoc, append-nil}
use mathlib.Core.Bool.{Bool, true, false}
use native.Mathlib.Omega.{arith}
use native.Mathlib.Numerals.{add-one}
use lib.ListN.{length, get_or, take, drop}
use lib.Seq.{take-suc, take_all}
use borrow.Author.Tests.{le-leb, lt-leb, lt-ltb, le-ltb}
use Rattle.blorb.specs.Format.{Entry}
use Rattle.index.specs.Entries.{place}
use Rattle.std.specs.Prelude.{Result, Option, Some, None}
use Rattle.blorb.specs.Refusals.{Refused}
use Rattle.blorb.specs.declared.refusal.Refusal.{Refusal}
use Rattle.reader.specs.Reading.{accepted_with, index_of, read_of, no_entry, lookup_of}
use Rattle.reader.specs.declared.Accepted.{Accepted}
use Rattle.reader.proofs.Promises.{accepted_is, counted, entry_at}
use Rattle.listing.specs.Listing.{line_by, lines_of, listing_by, listing_of, input_reading, input_listing, room_by, room_for, input_room, listed_in, out_by}
use Rattle.listing.specs.InPlace.{Wrote, line_at}
use Rattle.listing.proofs.WriteLaws.{more, from_start}
use Rattle.listing.proofs.LineLaws.{line_is}

lines_snoc : (f : List ℕ) (es : List Entry) (e : Entry) → lines_of f (es ++ (e ∷ [])) ≡ lines_of f es ++ line_by e (lookup_of 0 f e.usage e.number)
unfolding lines_of
lines_snoc f [] e = append-nil (line_by e (lookup_of 0 f e.usage e.number))
lines_snoc f (x ∷ es) e = ap (λ (l : List ℕ). line_by x (lookup_of 0 f x.usage x.number) ++ l) (lines_snoc f es e)
    ∙ sym (append_assoc (line_by x (lookup_of 0 f x.usage x.number)) (lines_of f es) (line_by e (lookup_of 0 f e.usage e.number)))

module _ (f : List ℕ) (l count : ℕ) (e : read_of 0 f ≡ accepted_with l count) where
  -- the line of entry i, read in place
  line_of : (i : ℕ) → i < count → line_by (get_or (index_of f) i no_entry) (lookup_of 0 f (get_or (index_of f) i no_entry).usage (get_or (index_of f) i no_entry).number)
      ≡ line_at f (place i)
  line_of i h = let a = entry_at 0 f l count i e h in rw (a.listed, a.found) (sym (line_is f (place i)))

  pub lines_on : (i : ℕ) → i < count → lines_of f (take (i + 1) (index_of f)) ≡ lines_of f (take i (index_of f)) ++ line_at f (place i)
  lines_on i b =
      let h : i < length (index_of f) = rw (counted 0 f l count e) b in
      rw (add-one i, take-suc (index_of f) i no_entry h) (lines_snoc f (take i (index_of f)) (get_or (index_of f) i no_entry)
      ∙ ap (λ (t : List ℕ). lines_of f (take i (index_of f)) ++ t) (line_of i b))

  pub lines_turn : (out mid after : List ℕ) (at i to end : ℕ) → i < count → Wrote out at (lines_of f (take i (index_of f))) to mid
      → Wrote mid to (line_at f (place i)) end after
      → Wrote out at (lines_of f (take (i + 1) (index_of f))) end after
  lines_turn out mid after at i to end b w v = rw (lines_on i b) (more out at (lines_of f (take i (index_of f))) to mid w (line_at f (place i)) end after v)

  pub lines_whole : (out after : List ℕ) (at i to : ℕ) → count ≤ i → Wrote out at (lines_of f (take i (index_of f))) to after
      → Wrote out at (lines_of f (index_of f)) to after
  lines_whole out after at i to b w = let h : length (index_of f) ≤ i = rw (counted 0 f l count e) b in rw (take_all i (index_of f) h) at w

pub lines_none : (f out : List ℕ) (at : ℕ) → Wrote out at (lines_of f (take 0 (index_of f))) at out
unfolding lines_of
lines_none f out at = (omega arith, refl)

pub size_known : (f : List ℕ) (l n : ℕ) → read_of 0 f ≡ accepted_with l n → read_of 0 f ≡ accepted_with (length f) n
size_known f l n e = e ∙ ap (λ (k : ℕ). accepted_with k n) (accepted_is 0 f l n e).0

-- the answers
module _ (out : List ℕ) (room : ℕ) (t : List ℕ) where
  pub no_room : length out < room → (None ≡ listed_in (length out) room t) × (out ≡ out_by None t out)
  unfolding listed_in
  no_room h = (rw (lt-leb room (length out) h), refl)

  -- `after` is what the page leaves, and the buffer ends as that
  pub written : (to : ℕ) (after last : List ℕ) → last ≡ after → room ≤ length out → to ≤ room → Wrote out 0 t to after
      → (Some to ≡ listed_in (length out) room t) × (last ≡ out_by (Some to) t out)
  unfolding listed_in
  written to after last e h l w =
      let s = from_start out t to after (omega (arith, w.0)) w in
      (rw (le-leb room (length out) h) (ap Some s.0), e ∙ s.1 ∙ ap (λ (k : ℕ). t ++ drop k out) (sym s.0))

-- by the reader's answer
module _ (f out after : List ℕ) (r : Option ℕ) (v : Result Accepted Refusal) where
  abbrev pub Lists : Type 0
  Lists = (r ≡ listed_in (length out) (room_by v) (listing_by f v)) × (after ≡ out_by r (listing_by f v) out)

  pub list_by : read_of 0 f ≡ v → Lists → (r ≡ listed_in (length out) (room_for f) (listing_of f)) × (after ≡ out_by r (listing_of f) out)
  unfolding room_for listing_of
  list_by e h = rw e h

module _ (f out after : List ℕ) (r : Option ℕ) where
  pub input-long : (longer : Bool) → longer ≡ true → Lists f out after r (Refused 1 0)
      → (r ≡ listed_in (length out) (input_room f longer) (input_listing f longer)) × (after ≡ out_by r (input_listing f longer) out)
  unfolding input_room input_listing input_reading
  input-long longer e h = rw e h

  pub input-over : (longer : Bool) → longer ≡ false → 65536 < length f → Lists f out after r (Refused 1 0)
      → (r ≡ listed_in (length out) (input_room f longer) (input_listing f longer)) × (after ≡ out_by r (input_listing f longer) out)
  unfolding input_room input_listing input_reading
  input-over longer e l h = rw (e, lt-ltb 65536 (length f) l) h

  pub input_whole : (longer : Bool) → longer ≡ false → length f ≤ 65536 → (r ≡ listed_in (length out) (room_for f) (listing_of f))
      × (after ≡ out_by r (listing_of f) out)
      → (r ≡ listed_in (length out) (input_room f longer) (input_listing f longer)) × (after ≡ out_by r (input_listing f longer) out)
  unfolding input_room input_listing input_reading room_for listing_of
  input_whole longer e l h = rw (e, le-ltb 65536 (length f) l) h
