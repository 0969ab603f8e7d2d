-- When two accepted files have the same entries: never where one has more of them, and where the starts of one are those of the other moved, exactly
-- when none has moved, since no pair stands twice.
use mathlib.Core.Path.{◌≡◌, refl, ap, sym, ◌∙◌}
use Prim.Native.Nat.{ℕ, ◌+◌, ◌-◌, ◌<◌}
use mathlib.Core.List.Permᴰ
use mathlib.Core.List.{List, [], ◌∷◌, map, Memᴰ}
use mathlib.Core.Bool.{Bool, true, false, cond}
use mathlib.Core.Logic.{⊎_elim}
use native.Mathlib.Omega.{arith}
use lib.ListN.{length}
use lib.Dec.{ltb}
use borrow.Author.Tests.{lt-ltb, ltb-true}
use Rattle.blorb.specs.Format.{Entry}
use Rattle.rows.specs.Order.{sorted}
use Rattle.rows.specs.Bridging.{NoTwice}
use Rattle.rows.proofs.SortLaws.{sorted_perm, sorted-rising, perm_mem, perm_length, rising_equal, one_entry}
use Rattle.table.specs.TableOf.{SameEntries}
use Rattle.edits.specs.Starts.{moved, behind}

-- the same entries are as many
pub same_count : (a b : List Entry) → NoTwice a → NoTwice b → SameEntries a b → length a ≡ length b
same_count a b ha hb s =
    let e : sorted a ≡ sorted b =
    rising_equal (sorted a) (sorted b) (sorted-rising a ha) (sorted-rising b hb)
    (λ x k. perm_mem (Permᴰ.symm (sorted_perm b)) (s.0 x (perm_mem (sorted_perm a) k)))
    (λ x k. perm_mem (Permᴰ.symm (sorted_perm a)) (s.1 x (perm_mem (sorted_perm b) k))) in
    sym (perm_length (sorted_perm a)) ∙ ap length e ∙ perm_length (sorted_perm b)

pub same_refl : (a : List Entry) → SameEntries a a
same_refl a = (λ x k. k, λ x k. k)

module _ (f : Entry → Entry) where
  mem_map : (x : Entry) (l : List Entry) → Memᴰ x l → Memᴰ (f x) (map f l)
  mem_map x [] k = absurd (mathlib.Core.List.Memᴰ.not-nil k)
  mem_map x (y ∷ l) k = ⊎_elim (λ q. mathlib.Core.List.Memᴰ.head (ap f q)) (λ q. mathlib.Core.List.Memᴰ.tail (mem_map x l q)) (mathlib.Core.List.Memᴰ.cases_cons k)

  map_fixed : (l : List Entry) → ((x : Entry) → Memᴰ x l → f x ≡ x) → map f l ≡ l
  map_fixed [] h = refl
  map_fixed (y ∷ l) h = let q = map_fixed l (λ x k. h x (mathlib.Core.List.Memᴰ.tail k)) in rw (h y (mathlib.Core.List.Memᴰ.head refl), q)

-- entries whose starts behind s have moved from a chunk of a bytes to one of b
module _ (es : List Entry) (s a b : ℕ) where
  stays : b ≡ a → (x : Entry) → moved (behind s a b) x ≡ x
  stays e x = λ i. record { usage = x.usage; number = x.number; start = go (ltb s x.start) i }
    where
      go : (t : Bool) → cond t (x.start + b - a) x.start ≡ x.start
      go true = omega arith
      go false = refl

  fixed : ((x : Entry) → Memᴰ x es → s < x.start → b ≡ a) → (x : Entry) → Memᴰ x es → moved (behind s a b) x ≡ x
  fixed h x k = go (ltb s x.start) refl
    where
      go : (t : Bool) → ltb s x.start ≡ t → moved (behind s a b) x ≡ x
      go true e = stays (h x k (ltb-true s x.start e)) x
      go false e = λ i. record { usage = x.usage; number = x.number; start = ap (λ (t : Bool). cond t (x.start + b - a) x.start) e i }

  pub unmoved_same : ((x : Entry) → Memᴰ x es → s < x.start → b ≡ a) → SameEntries es (map (moved (behind s a b)) es)
  unmoved_same h = let q = map_fixed (moved (behind s a b)) es (fixed h) in rw q (same_refl es)

  pub same_unmoved : NoTwice es → SameEntries es (map (moved (behind s a b)) es) → (x : Entry) → Memᴰ x es → s < x.start → b ≡ a
  same_unmoved once same x k l =
      let y : Entry = moved (behind s a b) x in
      let there : Memᴰ y es = same.1 y (mem_map (moved (behind s a b)) x es k) in
      let e : y ≡ x = one_entry es once y x there k refl refl in
      let w : behind s a b x.start ≡ x.start = ap (λ (z : Entry). z.start) e in
      let v : x.start + b - a ≡ x.start = rw (lt-ltb s x.start l) at w in
      omega arith
