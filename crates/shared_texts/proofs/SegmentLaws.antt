-- What segments tell of the texts over them: there is one first offset from a border on that can begin a character, so what leads to a segment and what
-- leads on from it meet.
use mathlib.Core.Path.{◌≡◌, refl, sym, ap, subst, ◌∙◌}
use Prim.Native.Nat.{ℕ, zero, suc, ◌+◌, ◌-◌, ◌*◌, ◌/◌, ◌%◌, ◌^◌, ◌≤◌, ◌<◌}
use mathlib.Core.List.{List}
use mathlib.Core.Bool.{true, false}
use mathlib.Core.Logic.{◌⊎◌, ⊎_elim, inl, inr}
use native.Mathlib.Omega.{arith}
use native.Mathlib.Nat.{eq-or-lt_of_le, mul-le-mul_left, mul-le-mul_right, suc-mul, add-mul, div-add-mod', mod-lt, zero-div}
use lib.ListN.{length, get_or, set, replicate, get_or-replicate, get_or-eq_default}
use lib.Seq.{get_or-set_same, get_or-set_other}
use lib.Dec.{eqb}
use Rattle.utf8.specs.Utf8.{in_range, tail_byte}
use Rattle.utf8.specs.Runs.{Runs, here, tail, Start, Until}
use Rattle.blorb.proofs.NumberLaws.{below?}
use Rattle.utf8.proofs.RunLaws.{runs_join, text-told, text_cut, not_both}
use Rattle.shared_texts.specs.Segments.{text_between, Leads, Joined, Passed, segment_size, bit_of, OneMore, bit_at, Remembers, AllSet}
use Rattle.shared_texts.proofs.BitLaws.{all_bits}

abbrev pub zeros : ℕ → List ℕ
zeros n = replicate n 0

module _ (s : List ℕ) where
  -- only bytes of the slice are tails
  pub tail_inside : (a : ℕ) → tail s a ≡ true → a < length s
  tail_inside a e =
      ⊎_elim
      (λ (h : a < length s). h)
      (λ (h : length s ≤ a). absurd (not_both e (ap (in_range tail_byte) (get_or-eq_default s 256 {n = a} h))))
      (below? a (length s))

  start-same : {y a b : ℕ} → Start s y a → Start s y b → a ≡ b
  start-same {y} {a} {b} u v =
      ⊎_elim
      (λ (h : a < b). absurd (not_both (v.inside a u.from h) u.begins))
      (λ (h : b ≤ a). ⊎_elim (λ (q : b ≡ a). sym q) (λ (q : b < a). absurd (not_both (u.inside b v.from q) v.begins)) (eq-or-lt_of_le h))
      (below? a b)

  pub leads-told : (from stop end : ℕ) → Until s from stop end → stop ≤ end → tail s end ≡ false → Leads s from stop
  leads-told from stop end u h t =
      record { start = end; runs = u.reached.runs; begins = record { from = h; inside = u.reached.over; begins = t } }

  pub leads-start : (p x b : ℕ) → Leads s p x → Start s x b → Runs s p b
  leads-start p x b l w = subst (λ (z : ℕ). Runs s p z) (start-same l.begins w) l.runs

  pub leads_join : (p x y : ℕ) → Leads s p x → Joined s x y → Leads s p y
  leads_join p x y l j =
      record { start = j.leads.start; runs = runs_join (leads-start p x j.first l j.begins) j.leads.runs; begins = j.leads.begins }

  -- the text from p to q, where characters lead from p to b
  pub passed_none : (p q : ℕ) → p ≤ q → Passed s p q p
  passed_none p q l = record { runs = here s p; cut = λ h. absurd (omega arith) }

  pub passed_to : (p q x b : ℕ) → x ≤ q → Leads s p x → Start s x b → Passed s p q b
  passed_to p q x b l w v = record { runs = leads-start p x b w v; cut = λ h. v.inside q l h }

  module _ (p q : ℕ) (l : p ≤ q) (h : q ≤ length s) (b : ℕ) (w : Passed s p q b) where
    pub text_from : (r : ℕ) → Until s b q r → eqb r q ≡ text_between s p q
    unfolding text_between
    text_from r u = text-told s p q l h b w.runs r u

    pub text_short : q < b → false ≡ text_between s p q
    unfolding text_between
    text_short m = text_cut s p q l h b w.runs m (w.cut m)

  -- whole segments are fewer than 57,344
  pub segments_few : (g x : ℕ) → x ≡ g * segment_size s → x + segment_size s ≤ length s → g < 57344
  segments_few g x e h =
      ⊎_elim
      (λ (k : g < 57344). k)
      (λ (k : 57344 ≤ g). let m : 57344 * segment_size s ≤ g * segment_size s = mul-le-mul_right (segment_size s) k in absurd (omega arith))
      (below? g 57344)

  pub next_border : (g x size : ℕ) → x ≡ g * size → x + size ≡ (g + 1) * size
  next_border g x size e = rw (add-mul g 1 size, e) (omega arith)

  pub border_64 : (g x size : ℕ) → x ≡ g * size → x + 64 * size ≡ (g + 64) * size
  border_64 g x size e = rw (add-mul g 64 size, e)

  -- the first border behind p
  pub border_behind : (p size : ℕ) → 0 < size
      → (p % size < size) × (p % size ≤ p) × (p / size ≤ p) × (p - p % size + size ≡ (p / size + 1) * size)
  border_behind p size h =
      let e : p / size * size + p % size ≡ p = div-add-mod' p size in
      let l : p % size < size = mod-lt p h in
      let m : p / size * 1 ≤ p / size * size = mul-le-mul_left (p / size) h in
      (l, omega arith, omega arith, rw (add-mul (p / size) 1 size) (omega arith))

  -- what is remembered
  pub remembers_none : Remembers s (zeros 896)
  unfolding Remembers
  remembers_none g e = absurd (omega (arith, none-set))
    where
      none-set : bit_at (zeros 896) g ≡ 0
      none-set =
          let w : get_or (zeros 896) (g / 64) 0 ≡ 0
          = ⊎_elim
          (λ (h : g / 64 < 896). get_or-replicate 896 (g / 64) 0 0 h)
          (λ (h : 896 ≤ g / 64). get_or-eq_default (zeros 896) 0 {n = g / 64} h)
          (below? (g / 64) 896) in
          rw (w, zero-div (2 ^ (g % 64)))

  module _ (known : List ℕ) (m : Remembers s known) where
    pub remembers_more : (g new : ℕ) → g / 64 < length known → OneMore (get_or known (g / 64) 0) (g % 64) new
        → Joined s (g * segment_size s) (g * segment_size s + segment_size s)
        → Remembers s (set known (g / 64) new)
    unfolding Remembers
    remembers_more g new w o j h e = go (below? (h / 64) (g / 64)) (below? (g / 64) (h / 64))
      where
        other : (h / 64 ≡ g / 64 → ⊥) → Joined s (h * segment_size s) (h * segment_size s + segment_size s)
        other n = m h (sym (ap (λ (x : ℕ). bit_of x (h % 64)) (get_or-set_other known (g / 64) (h / 64) new 0 n)) ∙ e)

        same : h / 64 ≡ g / 64 → Joined s (h * segment_size s) (h * segment_size s + segment_size s)
        same q =
            let n : bit_of new (h % 64) ≡ 1
            = ap (λ (x : ℕ). bit_of x (h % 64)) (sym (ap (λ (z : ℕ). get_or (set known (g / 64) new) z 0) q ∙ get_or-set_same known (g / 64) new 0 w)) ∙ e in
            ⊎_elim
            (λ (k : h % 64 ≡ g % 64). let y : g ≡ h = omega (arith, div-add-mod' g 64, div-add-mod' h 64) in
            subst (λ (z : ℕ). Joined s (z * segment_size s) (z * segment_size s + segment_size s)) y j)
            (λ (k : bit_of (get_or known (g / 64) 0) (h % 64) ≡ 1). m h (ap (λ (z : ℕ). bit_of (get_or known z 0) (h % 64)) q ∙ k))
            (o (h % 64) n)

        go : (h / 64 < g / 64) ⊎ (g / 64 ≤ h / 64) → (g / 64 < h / 64) ⊎ (h / 64 ≤ g / 64)
            → Joined s (h * segment_size s) (h * segment_size s + segment_size s)
        go (inl a) b = other (λ q. omega arith)
        go (inr a) (inl b) = other (λ q. omega arith)
        go (inr a) (inr b) = same (omega arith)

    pub set-joins : (g x : ℕ) → x ≡ g * segment_size s → bit_at known g ≡ 1 → Joined s x (x + segment_size s)
    unfolding Remembers
    set-joins g x e b = subst (λ (z : ℕ). Joined s z (z + segment_size s)) (sym e) (m g b)

    -- over segments that are all remembered
    over-set : (p g n : ℕ) → n ≤ 64 → AllSet known g → Leads s p (g * segment_size s) → Leads s p ((g + n) * segment_size s)
    unfolding AllSet
    over-set p g zero h a l = let z : g + 0 ≡ g = omega arith in rw z l
    over-set p g (suc n) h a l =
        let w = over-set p g n (omega arith) a l in
        let e : (g + suc n) * segment_size s ≡ (g + n) * segment_size s + segment_size s
        = ap (λ (x : ℕ). x * segment_size s) (omega arith) ∙ suc-mul (g + n) (segment_size s) in
        rw e (leads_join p _ _ w (set-joins (g + n) _ refl (a n (omega arith))))

    pub over_word : (p g x : ℕ) → x ≡ g * segment_size s → AllSet known g → Leads s p x → Leads s p (x + 64 * segment_size s)
    over_word p g x e a l = rw (border_64 g x (segment_size s) e) (over-set p g 64 (omega arith) a (subst (Leads s p) e l))

    pub word_joined : (g x : ℕ) → x ≡ g * segment_size s → AllSet known g → Joined s x (x + 64 * segment_size s)
    unfolding AllSet
    word_joined g x e a =
        let z : g + 0 ≡ g = omega arith in
        let bit : bit_at known (g + 0) ≡ 1 = a 0 (omega arith) in
        let one = set-joins g x e (subst (λ (y : ℕ). bit_at known y ≡ 1) z bit) in
        let here_ : Leads s one.first x = record { start = one.first; runs = here s one.first; begins = one.begins } in
        record { first = one.first; begins = one.begins; leads = over_word one.first g x e a here_ }

-- the greatest word
pub full_word : (known : List ℕ) (g : ℕ) → g % 64 ≡ 0 → get_or known (g / 64) 0 ≡ 18446744073709551615 → AllSet known g
unfolding AllSet
full_word known g z e i h =
    let q : (g + i) / 64 ≡ g / 64 = omega arith in
    let r : (g + i) % 64 ≡ i = omega arith in
    rw (q, r, e) (all_bits i h)
