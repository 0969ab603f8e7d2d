-- Characters one after another: two runs from one offset are one run, a byte that begins a character lies on every run over it, and the bytes between
-- two offsets are UTF-8 exactly if characters lead from the one to the other.
use mathlib.Core.Path.{◌≡◌, refl, sym, ap, subst, ◌∙◌}
use Prim.Native.Nat.{ℕ, zero, suc, ◌+◌, ◌-◌, ◌≤◌, ◌<◌}
use mathlib.Core.List.{List, [], ◌∷◌, ◌++◌, append_assoc}
use mathlib.Core.Bool.{Bool, true, false, cond}
use mathlib.Core.Logic.{◌⊎◌, ⊎_elim, inl, inr}
use native.Mathlib.Omega.{arith}
use native.Mathlib.Nat.{not-suc-le-zero, eq-or-lt_of_le}
use lib.ListN.{length, take, drop, length-append, length-drop, take-append-drop}
use lib.Seq.{drop_at, drop-drop, length-take-le, get_or-drop}
use lib.Dec.{eqb, leb}
use borrow.Author.Tests.{leb-true, eq-eqb, ne_eqb}
use Rattle.blorb.proofs.Checks.{and_both}
use Rattle.utf8.specs.Utf8.{Range, in_range, tail_byte, forms, begins, form_length, char_length, Utf8, none, char, good_length_of}
use Rattle.utf8.specs.Leads.{good_from}
use Rattle.utf8.specs.Runs.{Runs, here, on, tail, Reached, Until}
use Rattle.blorb.proofs.NumberLaws.{below?}
use Rattle.utf8.proofs.FormLaws.{inside, above, below}
use Rattle.utf8.proofs.GoodLaws.{good-next, good_stop, good_start, char_long, char_inside}
use Rattle.utf8.proofs.Longest.{char_append, char_take, take-both, whole}

-- the rows of the table: a first byte that is no tail, and tails behind it
abbrev Tails : List Range → Type 0
Tails [] = 0 ≤ 0
Tails (r ∷ rs) = (128 ≤ r.low) × (r.high ≤ 191) × Tails rs

abbrev Proper : List Range → Type 0
Proper [] = 0 ≤ 0
Proper (r ∷ rs) = ((r.high < 128) ⊎ (191 < r.low)) × Tails rs

abbrev AllProper : List (List Range) → Type 0
AllProper [] = 0 ≤ 0
AllProper (f ∷ fs) = Proper f × AllProper fs

all_proper : AllProper forms
unfolding forms
all_proper =
    let two : (128 ≤ 128) × (191 ≤ 191) × (0 ≤ 0) = (omega arith, omega arith, omega arith) in
    let three : (128 ≤ 128) × (191 ≤ 191) × ((128 ≤ 128) × (191 ≤ 191) × (0 ≤ 0)) = (omega arith, omega arith, two) in (
      (inl (omega arith), omega arith),
      (
        (inr (omega arith), two),
        (
          (inr (omega arith), (omega arith, omega arith, two)),
          (
            (inr (omega arith), three),
            (
              (inr (omega arith), (omega arith, omega arith, two)),
              (
                (inr (omega arith), three),
                (
                  (inr (omega arith), (omega arith, omega arith, three)),
                  (
                    (inr (omega arith), (omega arith, omega arith, three)),
                    (
                      (inr (omega arith), (omega arith, omega arith, three)),
                      omega arith,
                    ),
                  ),
                ),
              ),
            ),
          ),
        ),
      ),
    )

lead_known : (r : Range) (b : ℕ) → (r.high < 128) ⊎ (191 < r.low) → in_range r b ≡ true → in_range tail_byte b ≡ false
lead_known r b p e =
    let q = and_both (leb r.low b) (leb b r.high) e in
    ⊎_elim
    (λ (h : r.high < 128). below 128 191 b (omega (arith, leb-true b r.high q.1)))
    (λ (h : 191 < r.low). above 128 191 b (omega (arith, leb-true r.low b q.0)))
    p

tail_known : (r : Range) (b : ℕ) → 128 ≤ r.low → r.high ≤ 191 → in_range r b ≡ true → in_range tail_byte b ≡ true
tail_known r b l h e =
    let q = and_both (leb r.low b) (leb b r.high) e in
    inside 128 191 b (omega (arith, leb-true r.low b q.0)) (omega (arith, leb-true b r.high q.1))

tails_at : (rs : List Range) (s : List ℕ) → Tails rs → begins rs s ≡ true → (d : ℕ) → d < length rs → tail s d ≡ true
unfolding begins
tails_at [] s t e d h = absurd (not-suc-le-zero h)
tails_at (r ∷ rs) [] t e d h = let z : ◌≡◌ {A = ℕ} 0 1 = cc in absurd (omega arith)
tails_at (r ∷ rs) (b ∷ s) t e zero h = tail_known r b t.0 t.1 (and_both (in_range r b) (begins rs s) e).0
tails_at (r ∷ rs) (b ∷ s) t e (suc d) h = tails_at rs s t.2 (and_both (in_range r b) (begins rs s) e).1 d (omega arith)

-- the first n bytes of s: no tail, and then tails
abbrev Shape : List ℕ → ℕ → Type 0
Shape s n = (tail s 0 ≡ false) × ((d : ℕ) → 0 < d → d < n → tail s d ≡ true)

form_shape : (f : List Range) (s : List ℕ) → Proper f → begins f s ≡ true → (length f ≡ 0 → ⊥) → Shape s (length f)
unfolding begins
form_shape [] s p e n = absurd (n refl)
form_shape (r ∷ rs) [] p e n = let z : ◌≡◌ {A = ℕ} 0 1 = cc in absurd (omega arith)
form_shape (r ∷ rs) (b ∷ s) p e n = (lead_known r b p.0 q.0, behind)
  where
    q : (in_range r b ≡ true) × (begins rs s ≡ true)
    q = and_both (in_range r b) (begins rs s) e

    behind : (d : ℕ) → 0 < d → d < length (r ∷ rs) → tail (b ∷ s) d ≡ true
    behind zero g h = absurd (not-suc-le-zero g)
    behind (suc d) g h = tails_at rs s p.1 q.1 d (omega arith)

forms-shape : (fs : List (List Range)) (s : List ℕ) → AllProper fs → (form_length fs s ≡ 0 → ⊥) → Shape s (form_length fs s)
unfolding form_length
forms-shape [] s p n = absurd (n refl)
forms-shape (f ∷ fs) s p n = go (begins f s) refl (λ m. forms-shape fs s p.1 m) n
  where
    go : (b : Bool) → begins f s ≡ b → ((form_length fs s ≡ 0 → ⊥) → Shape s (form_length fs s))
        → (cond b (length f) (form_length fs s) ≡ 0 → ⊥) → Shape s (cond b (length f) (form_length fs s))
    go true e ih m = form_shape f s p.0 e m
    go false e ih m = ih m

-- a character at an offset: its first byte is no tail, those behind it are
char_shape : (s : List ℕ) → (char_length s ≡ 0 → ⊥) → Shape s (char_length s)
unfolding char_length
char_shape s n = forms-shape forms s all_proper n

module _ (s : List ℕ) (at n : ℕ) (e : n ≡ char_length (drop at s)) (z : n ≡ 0 → ⊥) where
  pub char_begins : tail s at ≡ false
  char_begins =
      let o : at + 0 ≡ at = omega arith in
      let q = (char_shape (drop at s) (λ y. z (e ∙ y))).0 in
      rw (get_or-drop at s 0 256, o) at q

  pub char_tails : (k : ℕ) → at < k → k < at + n → tail s k ≡ true
  char_tails k g h =
      let o : at + (k - at) ≡ k = omega arith in
      let q = (char_shape (drop at s) (λ y. z (e ∙ y))).1 (k - at) (omega arith) (omega arith) in
      rw (get_or-drop at s (k - at) 256, o) at q

-- runs
pub runs_le : {s : List ℕ} {i j : ℕ} → Runs s i j → i ≤ j
runs_le (here s i) = omega arith
runs_le (on s i j n e z r) = let l : i + n ≤ j = runs_le r in omega arith

pub runs_join : {s : List ℕ} {i j k : ℕ} → Runs s i j → Runs s j k → Runs s i k
runs_join (here s i) t = t
runs_join (on s i j n e z r) t = on s i _ n e z (runs_join r t)

-- one character more
pub runs_more : {s : List ℕ} {i j : ℕ} (n : ℕ) → Runs s i j → n ≡ char_length (drop j s) → (n ≡ 0 → ⊥) → Runs s i (j + n)
runs_more {s} {i} {j} n r e z = runs_join r (on s j (j + n) n (sym e) z (here s (j + n)))

-- of two runs from one offset the longer goes on from the end of the shorter
pub runs_rest : {s : List ℕ} {i j k : ℕ} → Runs s i j → Runs s i k → j ≤ k → Runs s j k
runs_rest (here s i) t h = t
runs_rest (on s i j n e z r) (here _ _) h = let l : i + n ≤ j = runs_le r in absurd (z (omega arith))
runs_rest (on s i j n e z r) (on _ _ k m f y t) h = runs_rest r (subst (λ (x : ℕ). Runs s (i + x) k) (sym f ∙ e) t) h

pub runs_char : {s : List ℕ} {i j : ℕ} → Runs s i j → i < j → char_length (drop i s) ≡ 0 → ⊥
runs_char (here s i) h e = omega arith
runs_char (on s i j n e z r) h q = z (sym e ∙ q)

runs_begin : {s : List ℕ} {i j : ℕ} → Runs s i j → i < j → tail s i ≡ false
runs_begin (here s i) h = absurd (omega arith)
runs_begin (on s i j n e z r) h = char_begins s i n (sym e) z

-- the walk of good_until: where it begins, one character on, and its ends
module _ (s : List ℕ) (from stop : ℕ) where
  pub reached_first : from ≤ stop → stop ≤ length s → Reached s from stop from
  reached_first l h = record { inside = omega arith; runs = here s from; over = λ k g m. absurd (omega arith) }

  module _ (at : ℕ) (w : Reached s from stop at) where
    pub reached_next : at < stop → (n : ℕ) → n ≡ char_length (drop at s) → (n ≡ 0 → ⊥) → Reached s from stop (at + n)
    reached_next h n e z = record {
      inside = char_inside s at n e w.inside;
      runs = runs_more n w.runs e z;
      over = λ k g m. char_tails s at n e z k (omega arith) m;
    }

    pub until_stuck : 0 ≡ char_length (drop at s) → Until s from stop at
    until_stuck e = record { reached = w; stuck = λ h. sym e }

    pub until_there : stop ≤ at → Until s from stop at
    until_there h = record { reached = w; stuck = λ g. absurd (omega arith) }

-- the good beginning is that of the text behind the run, and the run
runs_good : {s : List ℕ} {i j : ℕ} → Runs s i j → i + good_from s i ≡ j + good_from s j
runs_good (here s i) = refl
runs_good (on s i j n e z r) = sym (good-next s i n (sym e) z) ∙ runs_good r

pub until_length : (s : List ℕ) (r : ℕ) → Until s 0 (length s) r → r ≡ good_length_of s
until_length s r u = good_stop s r 0 (sym (none-there (eq-or-lt_of_le u.reached.inside))) refl ∙ sym (runs_good u.reached.runs) ∙ good_start s
  where
    none-there : (r ≡ length s) ⊎ (r < length s) → char_length (drop r s) ≡ 0
    none-there (inl q) = let l = char_long (drop r s) in let d = length-drop r s in omega arith
    none-there (inr h) = u.stuck h

-- a run is UTF-8
runs_utf8 : {s : List ℕ} {p q : ℕ} → Runs s p q → Utf8 (take (q - p) (drop p s))
runs_utf8 (here s p) = let z : p - p ≡ 0 = omega arith in rw z none
runs_utf8 (on s p q n e z r) =
    let l : p + n ≤ q = runs_le r in
    let m : q - p ≡ n + (q - (p + n)) = omega arith in
    let c = char_long (drop p s) in
    let w : n ≤ length (drop p s) = omega arith in
    let b = take-both n (q - (p + n)) (drop p s) w in
    let k : length (take n (drop p s)) ≡ n = length-take-le n (drop p s) w in
    let one : char_length (take n (drop p s)) ≡ length (take n (drop p s)) = char_take (drop p s) n e ∙ sym k in
    rw (m, b, drop-drop n p s) (char (take n (drop p s)) (take (q - (p + n)) (drop (p + n) s)) one (λ y. z (sym k ∙ y)) (runs_utf8 r))

-- and what is UTF-8 is a run
utf8_runs : {t : List ℕ} → Utf8 t → (s u : List ℕ) (p : ℕ) → drop p s ≡ t ++ u → Runs s p (p + length t)
utf8_runs none s u p d = let z : p + 0 ≡ p = omega arith in rw z (here s p)
utf8_runs (char c t e n v) s u p d =
    let split : drop p s ≡ c ++ (t ++ u) = d ∙ append_assoc c t u in
    let long : char_length (drop p s) ≡ length c = rw split (char_append c (t ++ u) e n) in
    let rest : drop (p + length c) s ≡ t ++ u
    = sym (drop-drop (length c) p s) ∙ ap (drop (length c)) split ∙ drop_at c (t ++ u) (length c) refl in
    let q : p + length (c ++ t) ≡ p + length c + length t = rw (length-append c t) (omega arith) in
    rw q (on s p (p + length c + length t) (length c) long n (utf8_runs v s u (p + length c) rest))

pub not_both : {b : Bool} → b ≡ true → b ≡ false → ⊥
not_both p q = let z : ◌≡◌ {A = ℕ} 0 1 = cc in omega arith

-- the bytes from p to q are a text
abbrev Text : List ℕ → ℕ → ℕ → Type 0
Text s p q = good_length_of (take (q - p) (drop p s)) ≡ q - p

module _ (s : List ℕ) (p q : ℕ) (l : p ≤ q) (h : q ≤ length s) where
  part_length : length (take (q - p) (drop p s)) ≡ q - p
  part_length = length-take-le (q - p) (drop p s) (omega (arith, length-drop p s))

  run-text : Runs s p q → Text s p q
  run-text r = (whole (take (q - p) (drop p s))).1 (runs_utf8 r) ∙ part_length

  text-run : Text s p q → Runs s p q
  text-run e =
      let u = (whole (take (q - p) (drop p s))).0 (e ∙ sym part_length) in
      let r = utf8_runs u s (drop (q - p) (drop p s)) p (sym (take-append-drop (q - p) (drop p s))) in
      let k : p + length (take (q - p) (drop p s)) ≡ q = omega (arith, part_length) in
      subst (λ (x : ℕ). Runs s p x) k r

  text_yes : Runs s p q → true ≡ eqb (good_length_of (take (q - p) (drop p s))) (q - p)
  text_yes r = sym (eq-eqb _ _ (run-text r))

  text_no : (Runs s p q → ⊥) → false ≡ eqb (good_length_of (take (q - p) (drop p s))) (q - p)
  text_no n = sym (ne_eqb _ _ (λ e. n (text-run e)))

  -- characters lead from p to b, and from there on as far as r
  module _ (b : ℕ) (first : Runs s p b) where
    pub text-told : (r : ℕ) → Until s b q r → eqb r q ≡ eqb (good_length_of (take (q - p) (drop p s))) (q - p)
    text-told r u = go (below? r q)
      where
        all : Runs s p r
        all = runs_join first u.reached.runs

        go : (r < q) ⊎ (q ≤ r) → eqb r q ≡ eqb (good_length_of (take (q - p) (drop p s))) (q - p)
        go (inl g) = ne_eqb r q (λ e. omega arith) ∙ text_no (λ t. runs_char (runs_rest all t (omega arith)) g (u.stuck g))
        go (inr g) =
            ⊎_elim
            (λ (e : q ≡ r). eq-eqb r q (sym e) ∙ text_yes (subst (λ (x : ℕ). Runs s p x) (sym e) all))
            (λ (m : q < r). ne_eqb r q (λ e. omega arith)
            ∙ text_no (λ t. not_both (u.reached.over q (omega arith) m) (runs_begin (runs_rest t all (omega arith)) m)))
            (eq-or-lt_of_le g)

    -- q lies inside a character
    pub text_cut : q < b → tail s q ≡ true → false ≡ eqb (good_length_of (take (q - p) (drop p s))) (q - p)
    text_cut m t = text_no (λ r. not_both t (runs_begin (runs_rest r first (omega arith)) m))
