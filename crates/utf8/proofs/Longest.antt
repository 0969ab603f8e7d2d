-- The length that the definition computes is that of the longest beginning that is UTF-8: this beginning is UTF-8, and none that is UTF-8 is longer.
use mathlib.Core.Path.{◌≡◌, refl, sym, ap, subst, ◌∙◌}
use Prim.Native.Nat.{ℕ, zero, suc, ◌+◌, ◌-◌, ◌≤◌}
use mathlib.Core.List.{List, [], ◌∷◌, ◌++◌, append_assoc, append-nil}
use mathlib.Core.Bool.{Bool, true, false, cond}
use native.Mathlib.Omega.{arith}
use native.Mathlib.Nat.{not-suc-le-zero}
use lib.ListN.{length, get_or, take, drop, length-append, length-drop}
use lib.Seq.{drop_at, take-length, length-take-le}
use Rattle.utf8.specs.Utf8.{range, in_range, char_length, Utf8, none, char, on_char, good_in, good_length_of}
use Rattle.utf8.specs.Leads.{by_tests, two_bytes_of, three_bytes, four_bytes_of}
use Rattle.utf8.proofs.FormLaws.{char_any}
use Rattle.utf8.proofs.GoodLaws.{char_long, good-same}

-- what the four tests tell of their result
abbrev picks : Bool → Bool → Bool → Bool → ℕ
picks o w t f = cond o 1 (cond w 2 (cond t 3 (cond f 4 0)))

picks_1 : (o w t f : Bool) → picks o w t f ≡ 1 → o ≡ true
picks_1 true w t f e = refl
picks_1 false true t f e = absurd (omega arith)
picks_1 false false true f e = absurd (omega arith)
picks_1 false false false true e = absurd (omega arith)
picks_1 false false false false e = absurd (omega arith)

picks_2 : (o w t f : Bool) → picks o w t f ≡ 2 → (o ≡ false) × (w ≡ true)
picks_2 true w t f e = absurd (omega arith)
picks_2 false true t f e = (refl, refl)
picks_2 false false true f e = absurd (omega arith)
picks_2 false false false true e = absurd (omega arith)
picks_2 false false false false e = absurd (omega arith)

picks_3 : (o w t f : Bool) → picks o w t f ≡ 3 → (o ≡ false) × (w ≡ false) × (t ≡ true)
picks_3 true w t f e = absurd (omega arith)
picks_3 false true t f e = absurd (omega arith)
picks_3 false false true f e = (refl, refl, refl)
picks_3 false false false true e = absurd (omega arith)
picks_3 false false false false e = absurd (omega arith)

picks_most : (o w t f : Bool) → picks o w t f ≤ 4
picks_most true w t f = omega arith
picks_most false true t f = omega arith
picks_most false false true f = omega arith
picks_most false false false true = omega arith
picks_most false false false false = omega arith

char_most : (s : List ℕ) → char_length s ≤ 4
char_most s = rw (char_any s) (most (get_or s 0 256) (get_or s 1 256) (get_or s 2 256) (get_or s 3 256))
  where
    most : (a b c d : ℕ) → by_tests a b c d ≤ 4
    most a b c d = picks_most (in_range (range 0 127) a) (two_bytes_of a b) (three_bytes a b c) (four_bytes_of a b c d)

-- fewer bytes decide where fewer are used
module _ (a b c d x y z : ℕ) where
  use_1 : by_tests a b c d ≡ 1 → by_tests a x y z ≡ 1
  use_1 e = rw (picks_1 (in_range (range 0 127) a) (two_bytes_of a b) (three_bytes a b c) (four_bytes_of a b c d) e)

  use_2 : by_tests a b c d ≡ 2 → by_tests a b y z ≡ 2
  use_2 e = let q = picks_2 (in_range (range 0 127) a) (two_bytes_of a b) (three_bytes a b c) (four_bytes_of a b c d) e in rw (q.0, q.1)

  use_3 : by_tests a b c d ≡ 3 → by_tests a b c z ≡ 3
  use_3 e = let q = picks_3 (in_range (range 0 127) a) (two_bytes_of a b) (three_bytes a b c) (four_bytes_of a b c d) e in rw (q.0, q.1, q.2)

-- a whole character stays one, whatever follows it
pub char_append : (c t : List ℕ) → char_length c ≡ length c → (length c ≡ 0 → ⊥) → char_length (c ++ t) ≡ length c
char_append [] t e n = absurd (n refl)
char_append (a ∷ []) t e n = char_any (a ∷ t) ∙ use_1 a 256 256 256 (get_or t 0 256) (get_or t 1 256) (get_or t 2 256) (sym (char_any (a ∷ [])) ∙ e)
char_append (a ∷ (b ∷ [])) t e n = char_any (a ∷ (b ∷ t)) ∙ use_2 a b 256 256 0 (get_or t 0 256) (get_or t 1 256) (sym (char_any (a ∷ (b ∷ []))) ∙ e)
char_append (a ∷ (b ∷ (c ∷ []))) t e n = char_any (a ∷ (b ∷ (c ∷ t))) ∙ use_3 a b c 256 0 0 (get_or t 0 256) (sym (char_any (a ∷ (b ∷ (c ∷ [])))) ∙ e)
char_append (a ∷ (b ∷ (c ∷ (d ∷ [])))) t e n =
    char_any (a ∷ (b ∷ (c ∷ (d ∷ t)))) ∙ sym (char_any (a ∷ (b ∷ (c ∷ (d ∷ []))))) ∙ e
char_append (a ∷ (b ∷ (c ∷ (d ∷ (x ∷ s))))) t e n = absurd (omega (arith, char_most (a ∷ (b ∷ (c ∷ (d ∷ (x ∷ s)))))))

-- and is one by itself
pub char_take : (s : List ℕ) (m : ℕ) → char_length s ≡ m → char_length (take m s) ≡ m
char_take s zero e = char_any [] ∙ refl
char_take [] (suc m) e = absurd (omega (arith, char_long []))
char_take (a ∷ s) (suc zero) e = char_any (a ∷ []) ∙ use_1 a (get_or s 0 256) (get_or s 1 256) (get_or s 2 256) 256 256 256 (sym (char_any (a ∷ s)) ∙ e)
char_take (a ∷ []) (suc (suc m)) e = absurd (omega (arith, char_long (a ∷ [])))
char_take (a ∷ (b ∷ s)) (suc (suc zero)) e =
    char_any (a ∷ (b ∷ [])) ∙ use_2 a b (get_or s 0 256) (get_or s 1 256) 0 256 256 (sym (char_any (a ∷ (b ∷ s))) ∙ e)
char_take (a ∷ (b ∷ [])) (suc (suc (suc m))) e = absurd (omega (arith, char_long (a ∷ (b ∷ []))))
char_take (a ∷ (b ∷ (c ∷ s))) (suc (suc (suc zero))) e =
    char_any (a ∷ (b ∷ (c ∷ []))) ∙ use_3 a b c (get_or s 0 256) 0 0 256 (sym (char_any (a ∷ (b ∷ (c ∷ s)))) ∙ e)
char_take (a ∷ (b ∷ (c ∷ []))) (suc (suc (suc (suc m)))) e = absurd (omega (arith, char_long (a ∷ (b ∷ (c ∷ [])))))
char_take (a ∷ (b ∷ (c ∷ (d ∷ s)))) (suc (suc (suc (suc zero)))) e =
    char_any (a ∷ (b ∷ (c ∷ (d ∷ [])))) ∙ sym (char_any (a ∷ (b ∷ (c ∷ (d ∷ s))))) ∙ e
char_take (a ∷ (b ∷ (c ∷ (d ∷ s)))) (suc (suc (suc (suc (suc m))))) e = absurd (omega (arith, char_most (a ∷ (b ∷ (c ∷ (d ∷ s))))))

-- one character on
good-step : (s : List ℕ) → good_length_of s ≡ on_char (char_length s) (λ (n : ℕ). n + good_length_of (drop n s))
unfolding good_length_of good_in
good-step s = good-same (length s) (suc (length s)) s (omega arith) (omega arith) ∙ go (char_length s) (char_long s)
  where
    go : (n : ℕ) → n ≤ length s → on_char n (λ (m : ℕ). m + good_in (length s) (drop m s))
        ≡ on_char n (λ (m : ℕ). m + good_in (length (drop m s)) (drop m s))
    go zero l = refl
    go (suc n) l =
        let d : length (drop (suc n) s) ≡ length s - suc n = length-drop (suc n) s in
        ap (λ (x : ℕ). suc n + x) (good-same (length s) (length (drop (suc n) s)) (drop (suc n) s) (omega arith) (omega arith))

pub take-both : (m g : ℕ) (s : List ℕ) → m ≤ length s → take (m + g) s ≡ take m s ++ take g (drop m s)
take-both zero g s h = let z : 0 + g ≡ g = omega arith in rw z
take-both (suc m) g [] h = absurd (not-suc-le-zero h)
take-both (suc m) g (a ∷ s) h = let z : suc m + g ≡ suc (m + g) = omega arith in rw z (ap (λ (l : List ℕ). a ∷ l) (take-both m g s (omega arith)))

-- the first n bytes are UTF-8
abbrev Good : List ℕ → ℕ → Type 0
Good s n = Utf8 (take n s) × (n ≤ length s)

good_utf8 : (k : ℕ) (s : List ℕ) → length s ≤ k → Good s (good_length_of s)
good_utf8 zero s h =
    let l = char_long s in
    let z : char_length s ≡ 0 = omega arith in
    let e : good_length_of s ≡ 0 = good-step s ∙ ap (λ (m : ℕ). on_char m (λ (n : ℕ). n + good_length_of (drop n s))) z in
    subst (Good s) (sym e) (none, omega arith)
good_utf8 (suc k) s h = subst (Good s) (sym (good-step s)) (go (char_length s) refl (char_long s) (λ t l. good_utf8 k t l))
  where
    go : (m : ℕ) → char_length s ≡ m → m ≤ length s → ((t : List ℕ) → length t ≤ k → Good t (good_length_of t))
        → Good s (on_char m (λ (n : ℕ). n + good_length_of (drop n s)))
    go zero e l ih = (none, omega arith)
    go (suc m) e l ih =
        let d : length (drop (suc m) s) ≡ length s - suc m = length-drop (suc m) s in
        let q = ih (drop (suc m) s) (omega arith) in
        let g : ℕ = good_length_of (drop (suc m) s) in
        let n : length (take (suc m) s) ≡ suc m = length-take-le (suc m) s l in
        let one : char_length (take (suc m) s) ≡ length (take (suc m) s) = char_take s (suc m) e ∙ sym n in
        let some : length (take (suc m) s) ≡ 0 → ⊥ = λ z. omega arith in
        (subst Utf8 (sym (take-both (suc m) g s l)) (char (take (suc m) s) (take g (drop (suc m) s)) one some q.0), omega (arith, q.1))

-- every beginning that is UTF-8 is no longer
good_more : {p : List ℕ} → Utf8 p → (t : List ℕ) → length p ≤ good_length_of (p ++ t)
good_more none t = omega arith
good_more (char c s e n u) t =
    let q : char_length (c ++ (s ++ t)) ≡ length c = char_append c (s ++ t) e n in
    let r : length s ≤ good_length_of (s ++ t) = good_more u t in
    let d : drop (length c) (c ++ (s ++ t)) ≡ s ++ t = drop_at c (s ++ t) (length c) refl in
    rw (append_assoc c s t, good-step (c ++ (s ++ t)), q, length-append c s) (go (length c) n d r)
  where
    go : (m : ℕ) → (m ≡ 0 → ⊥) → drop m (c ++ (s ++ t)) ≡ s ++ t → length s ≤ good_length_of (s ++ t)
        → m + length s ≤ on_char m (λ (n : ℕ). n + good_length_of (drop n (c ++ (s ++ t))))
    go zero z d r = absurd (z refl)
    go (suc m) z d r = rw d (omega arith)

-- "its longest good beginning"
pub longest : (s : List ℕ)
    → Utf8 (take (good_length_of s) s) × (good_length_of s ≤ length s) × ((p t : List ℕ) → s ≡ p ++ t → Utf8 p → length p ≤ good_length_of s)
longest s = let q = good_utf8 (length s) s (omega arith) in (q.0, q.1, λ p t e u. rw e (good_more u t))

-- a text is UTF-8 exactly if that is all of it
pub whole : (s : List ℕ) → (good_length_of s ≡ length s → Utf8 s) × (Utf8 s → good_length_of s ≡ length s)
whole s = (
  λ e. subst Utf8 (ap (λ (n : ℕ). take n s) e ∙ take-length s) (longest s).0,
  λ u. let a = (longest s).2 s [] (sym (append-nil s)) u in let b = (longest s).1 in omega arith,
)
