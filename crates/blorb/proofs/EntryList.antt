-- The entries of an index: how many they are, and which one stands where. Each takes the next twelve bytes.
use mathlib.Core.Path.{◌≡◌, refl, ap, ◌∙◌}
use Prim.Native.Nat.{ℕ, zero, suc, ◌+◌, ◌*◌, ◌<◌}
use mathlib.Core.List.{List}
use native.Mathlib.Omega.{arith}
use native.Mathlib.Nat.{le_of_suc-le-suc, not-suc-le-zero}
use lib.ListN.{length, get_or, drop}
use lib.Seq.{drop-drop}
use Rattle.blorb.specs.Format.{Entry, entry_from, entries_in}

pub length-entries_in : (n : ℕ) (s : List ℕ) → length (entries_in n s) ≡ n
unfolding entries_in
length-entries_in zero s = refl
length-entries_in (suc n) s = ap suc (length-entries_in n (drop 12 s))

-- entry i of the list
pub entry-get_or : (f : List ℕ) (n i p : ℕ) (d : Entry) → i < n → get_or (entries_in n (drop p f)) i d ≡ entry_from (drop (p + 12 * i) f)
unfolding entries_in
entry-get_or f zero i p d h = absurd (not-suc-le-zero h)
entry-get_or f (suc n) zero p d h = let q : p ≡ p + 12 * 0 = omega arith in ap (λ (k : ℕ). entry_from (drop k f)) q
entry-get_or f (suc n) (suc i) p d h =
    let q : p + 12 + 12 * i ≡ p + 12 * suc i = omega arith in
    ap (λ (s : List ℕ). get_or (entries_in n s) i d) (drop-drop 12 p f) ∙ entry-get_or f n i (p + 12) d (le_of_suc-le-suc h) ∙ ap (λ (k : ℕ). entry_from (drop k f)) q
