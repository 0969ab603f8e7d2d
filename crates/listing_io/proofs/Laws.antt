-- A buffer of 196,672 bytes has room for every listing.
use mathlib.Core.Path.{◌≡◌, sym, ap, ◌∙◌}
use Prim.Native.Nat.{ℕ, ◌+◌, ◌≤◌}
use mathlib.Core.List.{List, ◌++◌}
use mathlib.Core.Bool.{Bool}
use native.Mathlib.Omega.{arith}
use lib.ListN.{length, drop, length-append}
use borrow.Author.Tests.{le-leb}
use Rattle.std.specs.Prelude.{Option, Some}
use Rattle.listing.specs.Listing.{input_listing, input_room, listed_in, out_by}
use Rattle.listing.proofs.Sense.{input-room}

module _ (f : List ℕ) (longer : Bool) (out : List ℕ) (r : Option ℕ) (wide : 196672 ≤ length out) (answer : r ≡ listed_in (length out) (input_room f longer)
    (input_listing f longer)) where
  pub all_of_it : r ≡ Some (length (input_listing f longer))
  unfolding listed_in
  all_of_it = let h : input_room f longer ≤ length out = omega (arith, input-room f longer) in answer ∙ rw (le-leb (input_room f longer) (length out) h)

  pub whole : (n : ℕ) (after : List ℕ) → r ≡ Some n → length after ≡ length out → after ≡ out_by r (input_listing f longer) out
      → (n ≡ length (input_listing f longer)) × (after ≡ input_listing f longer ++ drop n out) × (n ≤ length after)
  whole n after e l bytes =
      let q : Some n ≡ Some (length (input_listing f longer)) = sym e ∙ all_of_it in
      let k : n ≡ length (input_listing f longer) = cc in
      let b : after ≡ input_listing f longer ++ drop n out = bytes ∙ ap (λ (x : Option ℕ). out_by x (input_listing f longer) out) e in
      let m : length after ≡ length (input_listing f longer) + length (drop n out) = ap length b ∙ length-append (input_listing f longer) (drop n out) in
      (k, b, omega arith)
