-- The good beginning of a text, one character on, and its end.
use mathlib.Core.Path.{◌≡◌, refl, sym, ap, ◌∙◌}
use Prim.Native.Nat.{ℕ, zero, suc, ◌+◌, ◌-◌, ◌≤◌, ◌<◌}
use mathlib.Core.List.{List, [], ◌∷◌}
use mathlib.Core.Bool.{Bool, true, false, cond}
use native.Mathlib.Omega.{arith}
use native.Mathlib.Nat.{not-suc-le-zero}
use lib.ListN.{length, get_or, drop, length-drop}
use lib.Seq.{drop-drop}
use Rattle.blorb.proofs.Checks.{and_both}
use Rattle.utf8.specs.Utf8.{Range, in_range, forms, begins, form_length, char_length, on_char, good_in, good_length_of}
use Rattle.utf8.specs.Leads.{good_from}

-- a character lies in the text
begins-long : (f : List Range) (s : List ℕ) → begins f s ≡ true → length f ≤ length s
unfolding begins
begins-long [] s e = omega arith
begins-long (r ∷ rs) [] e = let z : ◌≡◌ {A = ℕ} 0 1 = cc in absurd (omega arith)
begins-long (r ∷ rs) (b ∷ s) e = let q : length rs ≤ length s = begins-long rs s (and_both (in_range r b) (begins rs s) e).1 in omega arith

form_long : (fs : List (List Range)) (s : List ℕ) → form_length fs s ≤ length s
unfolding form_length
form_long [] s = omega arith
form_long (f ∷ fs) s = go (begins f s) refl (form_long fs s)
  where
    go : (b : Bool) → begins f s ≡ b → form_length fs s ≤ length s → cond b (length f) (form_length fs s) ≤ length s
    go true e ih = begins-long f s e
    go false e ih = ih

pub char_long : (s : List ℕ) → char_length s ≤ length s
unfolding char_length
char_long s = form_long forms s

no_char : (n : ℕ) (f : ℕ → ℕ) → n ≡ 0 → on_char n f ≡ 0
no_char n f e = rw e

-- how many characters are looked for does not matter, if they are enough
pub good-same : (k j : ℕ) (s : List ℕ) → length s ≤ k → length s ≤ j → good_in k s ≡ good_in j s
unfolding good_in
good-same zero zero s h g = refl
good-same zero (suc j) s h g = sym (no_char (char_length s) (λ n. n + good_in j (drop n s)) (omega (arith, char_long s)))
good-same (suc k) zero s h g = no_char (char_length s) (λ n. n + good_in k (drop n s)) (omega (arith, char_long s))
good-same (suc k) (suc j) s h g = go (char_length s) (char_long s) (λ t a b. good-same k j t a b)
  where
    go : (n : ℕ) → n ≤ length s → ((t : List ℕ) → length t ≤ k → length t ≤ j → good_in k t ≡ good_in j t)
        → on_char n (λ (m : ℕ). m + good_in k (drop m s)) ≡ on_char n (λ (m : ℕ). m + good_in j (drop m s))
    go zero l ih = refl
    go (suc n) l ih =
        let d : length (drop (suc n) s) ≡ length s - suc n = length-drop (suc n) s in
        ap (λ (x : ℕ). suc n + x) (ih (drop (suc n) s) (omega arith) (omega arith))

pub good_on : (s : List ℕ) (at : ℕ) → good_from s at ≡ on_char (char_length (drop at s)) (λ (n : ℕ). n + good_from s (at + n))
unfolding good_from good_in
good_on s at =
    let l : length (drop at s) ≤ length s = rw (length-drop at s) (omega arith) in
    good-same (length s) (suc (length s)) (drop at s) l (omega arith) ∙ go (char_length (drop at s))
  where
    go : (n : ℕ) → on_char n (λ (m : ℕ). m + good_in (length s) (drop m (drop at s))) ≡ on_char n (λ (m : ℕ). m + good_in (length s) (drop (at + m) s))
    go zero = refl
    go (suc n) = rw (drop-drop (suc n) at s)

module _ (s : List ℕ) (at n : ℕ) (e : n ≡ char_length (drop at s)) where
  pub good-next : (n ≡ 0 → ⊥) → at + n + good_from s (at + n) ≡ at + good_from s at
  good-next z = rw (good_on s at, ← e) (go n z)
    where
      go : (m : ℕ) → (m ≡ 0 → ⊥) → at + m + good_from s (at + m) ≡ at + on_char m (λ (k : ℕ). k + good_from s (at + k))
      go zero y = absurd (y refl)
      go (suc m) y = omega arith

  pub good_stop : n ≡ 0 → at ≡ at + good_from s at
  good_stop z =
      let q : char_length (drop at s) ≡ 0 = sym e ∙ z in
      rw (good_on s at, q) (omega arith)

  pub char_inside : at ≤ length s → at + n ≤ length s
  char_inside h = omega (arith, char_long (drop at s), length-drop at s)

pub good_start : (s : List ℕ) → 0 + good_from s 0 ≡ good_length_of s
unfolding good_from good_length_of
good_start s = let e : good_from s 0 ≡ good_length_of s = refl in omega arith

pub same_byte : (s : List ℕ) (i a b : ℕ) → i < length s → get_or s i a ≡ get_or s i b
same_byte [] i a b h = absurd (not-suc-le-zero h)
same_byte (x ∷ s) zero a b h = refl
same_byte (x ∷ s) (suc i) a b h = same_byte s i a b (omega arith)
