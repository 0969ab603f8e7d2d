-- The table of byte sequences as tests of the bytes one after another, and then by the first byte, as the code asks. A byte behind the text's end
-- counts as 256, which no range has, so that one law covers every length.
use mathlib.Core.Path.{◌≡◌, refl, sym, ap, subst, ◌∙◌}
use Prim.Native.Nat.{ℕ, ◌+◌, ◌≤◌, ◌<◌}
use mathlib.Core.List.{List, [], ◌∷◌}
use mathlib.Core.Bool.{Bool, true, false, ◌&&◌, ◌||◌, cond, and-true, and-false}
use native.Mathlib.Omega.{arith}
use mathlib.Core.Logic.{◌⊎◌, inl, inr}
use lib.ListN.{get_or, drop}
use lib.Seq.{get_or-drop}
use lib.Dec.{leb, ltb}
use borrow.Author.Tests.{le-leb, lt-leb, lt-ltb, le-ltb, ne_eqb}
use Rattle.blorb.proofs.UsageLaws.{or-false}
use Rattle.blorb.proofs.NumberLaws.{below?}
use Rattle.utf8.specs.Utf8.{range, in_range, tail_byte, forms, begins, form_length, char_length}
use Rattle.utf8.specs.Runs.{tail}
use Rattle.utf8.specs.Leads.{by_lead, by_tests, two_bytes_of, low_second_of, high_second_of}

-- tests with one result are one test
same_3 : (p q r s : Bool) (n x : ℕ) → cond p n (cond q n (cond r n (cond s n x))) ≡ cond (p || (q || (r || s))) n x
same_3 true q r s n x = refl
same_3 false true r s n x = refl
same_3 false false true s n x = refl
same_3 false false false true n x = refl
same_3 false false false false n x = refl

same_4 : (p q r : Bool) (n x : ℕ) → cond p n (cond q n (cond r n x)) ≡ cond (p || (q || r)) n x
same_4 true q r n x = refl
same_4 false true r n x = refl
same_4 false false true n x = refl
same_4 false false false n x = refl

three_of : (o w p q r s : Bool) (x : ℕ)
    → cond o 1 (cond w 2 (cond p 3 (cond q 3 (cond r 3 (cond s 3 x))))) ≡ cond o 1 (cond w 2 (cond (p || (q || (r || s))) 3 x))
three_of o w p q r s x = ap (λ (k : ℕ). cond o 1 (cond w 2 k)) (same_3 p q r s 3 x)

four_of : (o w p q r s t u v : Bool)
    → ◌≡◌ {A = ℕ} (cond o 1 (cond w 2 (cond p 3 (cond q 3 (cond r 3 (cond s 3 (cond t 4 (cond u 4 (cond v 4 0)))))))))
    (cond o 1 (cond w 2 (cond (p || (q || (r || s))) 3 (cond (t || (u || v)) 4 0))))
four_of o w p q r s t u v =
    three_of o w p q r s (cond t 4 (cond u 4 (cond v 4 0)))
    ∙ ap (λ (k : ℕ). cond o 1 (cond w 2 (cond (p || (q || (r || s))) 3 k))) (same_4 t u v 4 0)

-- the table, by the first four bytes
pub char_any : (s : List ℕ) → char_length s ≡ by_tests (get_or s 0 256) (get_or s 1 256) (get_or s 2 256) (get_or s 3 256)
unfolding char_length form_length forms begins
char_any [] = refl
char_any (a ∷ []) = simp (and-true, and-false)
char_any (a ∷ (b ∷ [])) = simp (and-true, and-false)
char_any (a ∷ (b ∷ (c ∷ []))) = simp (and-true, and-false)
    (three_of (in_range (range 0 127) a) (two_bytes_of a b)
    (in_range (range 224 224) a && (in_range (range 160 191) b && in_range tail_byte c))
    (in_range (range 225 236) a && (in_range tail_byte b && in_range tail_byte c))
    (in_range (range 237 237) a && (in_range (range 128 159) b && in_range tail_byte c))
    (in_range (range 238 239) a && (in_range tail_byte b && in_range tail_byte c)) 0)
char_any (a ∷ (b ∷ (c ∷ (d ∷ s)))) = simp and-true
    (four_of (in_range (range 0 127) a) (two_bytes_of a b)
    (in_range (range 224 224) a && (in_range (range 160 191) b && in_range tail_byte c))
    (in_range (range 225 236) a && (in_range tail_byte b && in_range tail_byte c))
    (in_range (range 237 237) a && (in_range (range 128 159) b && in_range tail_byte c))
    (in_range (range 238 239) a && (in_range tail_byte b && in_range tail_byte c))
    (in_range (range 240 240) a && (in_range (range 144 191) b && (in_range tail_byte c && in_range tail_byte d)))
    (in_range (range 241 243) a && (in_range tail_byte b && (in_range tail_byte c && in_range tail_byte d)))
    (in_range (range 244 244) a && (in_range (range 128 143) b && (in_range tail_byte c && in_range tail_byte d))))

char_at : (s : List ℕ) (at : ℕ)
    → char_length (drop at s) ≡ by_tests (get_or s at 256) (get_or s (at + 1) 256) (get_or s (at + 2) 256) (get_or s (at + 3) 256)
char_at s at =
    let z : at + 0 ≡ at = omega arith in
    char_any (drop at s) ∙ rw (get_or-drop at s 0 256, get_or-drop at s 1 256, get_or-drop at s 2 256, get_or-drop at s 3 256, z)

-- a byte below, in and above a range
pub below : (l h a : ℕ) → a < l → in_range (range l h) a ≡ false
below l h a x = rw (lt-leb l a x)

pub inside : (l h a : ℕ) → l ≤ a → a ≤ h → in_range (range l h) a ≡ true
inside l h a x y = rw (le-leb l a x, le-leb a h y)

pub above : (l h a : ℕ) → h < a → in_range (range l h) a ≡ false
above l h a x = rw (lt-leb a h x) (and-false (leb l a))

-- tests one after another are one test
twice : (p q : Bool) (n : ℕ) → cond (p && q) n 0 ≡ cond p (cond q n 0) 0
twice true q n = refl
twice false q n = refl

thrice : (p q r : Bool) (n : ℕ) → cond (p && (q && r)) n 0 ≡ cond p (cond q (cond r n 0) 0) 0
thrice true q r n = twice q r n
thrice false q r n = refl

-- by the first byte: no character begins with it, it is one, or it begins one of several bytes
module _ (a b c d : ℕ) where
  lead_one : a ≤ 127 → by_tests a b c d ≡ 1
  lead_one h = rw (inside 0 127 a (omega arith) h)

  lead_few : 127 < a → a < 194 → by_tests a b c d ≡ 0
  lead_few g h = rw (
    above 0 127 a g,
    below 194 223 a (omega arith),
    below 224 224 a (omega arith),
    below 225 236 a (omega arith),
    below 237 237 a (omega arith),
    below 238 239 a (omega arith),
    below 240 240 a (omega arith),
    below 241 243 a (omega arith),
    below 244 244 a (omega arith),
  )

  lead_many : 244 < a → by_tests a b c d ≡ 0
  lead_many h = rw (
    above 0 127 a (omega arith),
    above 194 223 a (omega arith),
    above 224 224 a (omega arith),
    above 225 236 a (omega arith),
    above 237 237 a (omega arith),
    above 238 239 a (omega arith),
    above 240 240 a (omega arith),
    above 241 243 a (omega arith),
    above 244 244 a (omega arith),
  )

  lead_two : 194 ≤ a → a ≤ 223 → by_tests a b c d ≡ by_lead a b c d
  lead_two g h = rw (
    above 0 127 a (omega arith),
    inside 194 223 a g h,
    below 224 224 a (omega arith),
    below 225 236 a (omega arith),
    below 237 237 a (omega arith),
    below 238 239 a (omega arith),
    below 240 240 a (omega arith),
    below 241 243 a (omega arith),
    below 244 244 a (omega arith),
    lt-ltb a 224 (omega arith),
  ) refl

  lead_three : 225 ≤ a → a ≤ 236 → by_tests a b c d ≡ by_lead a b c d
  lead_three g h = rw (
    above 0 127 a (omega arith),
    above 194 223 a (omega arith),
    above 224 224 a (omega arith),
    inside 225 236 a g h,
    below 237 237 a (omega arith),
    below 238 239 a (omega arith),
    below 240 240 a (omega arith),
    below 241 243 a (omega arith),
    below 244 244 a (omega arith),
    ne_eqb a 224 (λ e. omega arith),
    ne_eqb a 240 (λ e. omega arith),
    ne_eqb a 237 (λ e. omega arith),
    ne_eqb a 244 (λ e. omega arith),
    le-ltb a 224 (omega arith),
    lt-ltb a 240 (omega arith),
    or-false (in_range tail_byte b && in_range tail_byte c),
  ) (twice (in_range tail_byte b) (in_range tail_byte c) 3)

  lead_late : 238 ≤ a → a ≤ 239 → by_tests a b c d ≡ by_lead a b c d
  lead_late g h = rw (
    above 0 127 a (omega arith),
    above 194 223 a (omega arith),
    above 224 224 a (omega arith),
    above 225 236 a (omega arith),
    above 237 237 a (omega arith),
    inside 238 239 a g h,
    below 240 240 a (omega arith),
    below 241 243 a (omega arith),
    below 244 244 a (omega arith),
    ne_eqb a 224 (λ e. omega arith),
    ne_eqb a 240 (λ e. omega arith),
    ne_eqb a 237 (λ e. omega arith),
    ne_eqb a 244 (λ e. omega arith),
    le-ltb a 224 (omega arith),
    lt-ltb a 240 (omega arith),
  ) (twice (in_range tail_byte b) (in_range tail_byte c) 3)

  lead_four : 241 ≤ a → a ≤ 243 → by_tests a b c d ≡ by_lead a b c d
  lead_four g h = rw (
    above 0 127 a (omega arith),
    above 194 223 a (omega arith),
    above 224 224 a (omega arith),
    above 225 236 a (omega arith),
    above 237 237 a (omega arith),
    above 238 239 a (omega arith),
    above 240 240 a (omega arith),
    inside 241 243 a g h,
    below 244 244 a (omega arith),
    ne_eqb a 224 (λ e. omega arith),
    ne_eqb a 240 (λ e. omega arith),
    ne_eqb a 237 (λ e. omega arith),
    ne_eqb a 244 (λ e. omega arith),
    le-ltb a 224 (omega arith),
    le-ltb a 240 (omega arith),
    or-false (in_range tail_byte b && (in_range tail_byte c && in_range tail_byte d)),
  ) (thrice (in_range tail_byte b) (in_range tail_byte c) (in_range tail_byte d) 4)

-- the four first bytes that narrow the second
lead_224 : (b c d : ℕ) → by_tests 224 b c d ≡ by_lead 224 b c d
lead_224 b c d = rw (or-false (in_range (range 160 191) b && in_range tail_byte c)) (twice (in_range (range 160 191) b) (in_range tail_byte c) 3)

lead_237 : (b c d : ℕ) → by_tests 237 b c d ≡ by_lead 237 b c d
lead_237 b c d = rw (or-false (in_range (range 128 159) b && in_range tail_byte c)) (twice (in_range (range 128 159) b) (in_range tail_byte c) 3)

lead_240 : (b c d : ℕ) → by_tests 240 b c d ≡ by_lead 240 b c d
lead_240 b c d = rw (or-false (in_range (range 144 191) b && (in_range tail_byte c && in_range tail_byte d)))
    (thrice (in_range (range 144 191) b) (in_range tail_byte c) (in_range tail_byte d) 4)

lead_244 : (b c d : ℕ) → by_tests 244 b c d ≡ by_lead 244 b c d
lead_244 b c d = thrice (in_range (range 128 143) b) (in_range tail_byte c) (in_range tail_byte d) 4

lead_any : (a b c d : ℕ) → 194 ≤ a → a ≤ 244 → by_tests a b c d ≡ by_lead a b c d
lead_any a b c d g h = from_two (below? a 224)
  where
    from_four : (a < 244) ⊎ (244 ≤ a) → 241 ≤ a → by_tests a b c d ≡ by_lead a b c d
    from_four (inl l) m = lead_four a b c d m (omega arith)
    from_four (inr l) m = let e : 244 ≡ a = omega arith in subst (λ (x : ℕ). by_tests x b c d ≡ by_lead x b c d) e (lead_244 b c d)

    from_240 : (a < 241) ⊎ (241 ≤ a) → 240 ≤ a → by_tests a b c d ≡ by_lead a b c d
    from_240 (inl l) m = let e : 240 ≡ a = omega arith in subst (λ (x : ℕ). by_tests x b c d ≡ by_lead x b c d) e (lead_240 b c d)
    from_240 (inr l) m = from_four (below? a 244) l

    from_late : (a < 240) ⊎ (240 ≤ a) → 238 ≤ a → by_tests a b c d ≡ by_lead a b c d
    from_late (inl l) m = lead_late a b c d m (omega arith)
    from_late (inr l) m = from_240 (below? a 241) l

    from_237 : (a < 238) ⊎ (238 ≤ a) → 237 ≤ a → by_tests a b c d ≡ by_lead a b c d
    from_237 (inl l) m = let e : 237 ≡ a = omega arith in subst (λ (x : ℕ). by_tests x b c d ≡ by_lead x b c d) e (lead_237 b c d)
    from_237 (inr l) m = from_late (below? a 240) l

    from_three : (a < 237) ⊎ (237 ≤ a) → 225 ≤ a → by_tests a b c d ≡ by_lead a b c d
    from_three (inl l) m = lead_three a b c d m (omega arith)
    from_three (inr l) m = from_237 (below? a 238) l

    from_224 : (a < 225) ⊎ (225 ≤ a) → 224 ≤ a → by_tests a b c d ≡ by_lead a b c d
    from_224 (inl l) m = let e : 224 ≡ a = omega arith in subst (λ (x : ℕ). by_tests x b c d ≡ by_lead x b c d) e (lead_224 b c d)
    from_224 (inr l) m = from_three (below? a 237) l

    from_two : (a < 224) ⊎ (224 ≤ a) → by_tests a b c d ≡ by_lead a b c d
    from_two (inl l) = lead_two a b c d g (omega arith)
    from_two (inr l) = from_224 (below? a 225) l

-- the characters of a text: of one byte, none by its first byte, and by the first byte and those behind it
module _ (s : List ℕ) (at a : ℕ) (ea : a ≡ get_or s at 256) where
  pub one_char : a < 128 → 1 ≡ char_length (drop at s)
  one_char h =
      sym (char_at s at ∙ rw (← ea) (lead_one a (get_or s (at + 1) 256) (get_or s (at + 2) 256) (get_or s (at + 3) 256) (omega arith)))

  pub few : 127 < a → a < 194 → 0 ≡ char_length (drop at s)
  few g h = sym (char_at s at ∙ rw (← ea) (lead_few a (get_or s (at + 1) 256) (get_or s (at + 2) 256) (get_or s (at + 3) 256) g h))

  pub many : 244 < a → 0 ≡ char_length (drop at s)
  many h = sym (char_at s at ∙ rw (← ea) (lead_many a (get_or s (at + 1) 256) (get_or s (at + 2) 256) (get_or s (at + 3) 256) h))

  pub by_lead_lem : 194 ≤ a → a ≤ 244 → char_length (drop at s) ≡ by_lead a (get_or s (at + 1) 256) (get_or s (at + 2) 256) (get_or s (at + 3) 256)
  by_lead_lem g h = char_at s at ∙ rw (← ea) (lead_any a (get_or s (at + 1) 256) (get_or s (at + 2) 256) (get_or s (at + 3) 256) g h)

  pub by_two : 194 ≤ a → a < 224 → char_length (drop at s) ≡ cond (tail s (at + 1)) 2 0
  by_two g h = by_lead_lem g (omega arith) ∙ rw (lt-ltb a 224 h)

  pub by_long : 223 < a → a ≤ 244
      → char_length (drop at s)
      ≡ cond (in_range (range (low_second_of a) (high_second_of a)) (get_or s (at + 1) 256))
      (cond (tail s (at + 2)) (cond (ltb a 240) 3 (cond (tail s (at + 3)) 4 0)) 0) 0
  by_long g h = by_lead_lem (omega arith) h ∙ rw (le-ltb a 224 (omega arith))
