-- What the walks over the entries answer: the text of a pair, and the first bad text.
use mathlib.Core.Path.{◌≡◌, sym, ap, subst, ◌∙◌}
use Prim.Native.Nat.{ℕ, suc, ◌+◌, ◌-◌, ◌≤◌, ◌<◌}
use mathlib.Core.List.{List, []}
use mathlib.Core.Bool.{Bool, true, false, ◌&&◌}
use mathlib.Core.Logic.{◌⊎◌, inl, inr}
use native.Mathlib.Omega.{arith}
use native.Mathlib.Nat.{eq-or-lt_of_le}
use lib.ListN.{length, take, drop}
use lib.Dec.{eqb}
use borrow.Author.Tests.{eq-eqb, ne_eqb}
use Rattle.blorb.specs.Bytes.{rd32}
use Rattle.blorb.specs.Verdict.{Verdict, refuse}
use Rattle.blorb.proofs.Checks.{pass, stop}
use Rattle.utf8.specs.Utf8.{good_length_of}
use Rattle.utf8.proofs.Longest.{longest}
use Rattle.rdes.specs.Rdes.{usage_at, number_at, size_at, text_at, next_at, offset_of, fills_from, fills, good_text, descs_of, entries_fault, chunk_fault}
use Rattle.rdes.proofs.EntryLaws.{Room, room_at, text-length, fills-all}
use Rattle.std.specs.Prelude.{Some, None, cond}
use Rattle.descriptions.specs.Texts.{told_with, tell_from_of}
use Rattle.descriptions.specs.Placed.{Placed, Filled}
use Rattle.descriptions.specs.Faults.{GoodTo, BadAt}
use Rattle.descriptions.specs.declared.entries.BadText.{BadText}

-- the search for a pair
module _ (u k : ℕ) (d : List ℕ) (base n : ℕ) where
  pub tell-start : (at : ℕ) → tell_from_of u k d base (n - 0) at ≡ tell_from_of u k d base n at
  tell-start at = let e : n - 0 ≡ n = omega arith in rw e

  pub tell_end : (i at : ℕ) → n ≤ i → None ≡ tell_from_of u k d base (n - i) at
  unfolding tell_from_of
  tell_end i at h = let e : n - i ≡ 0 = omega arith in rw e

  module _ (i at : ℕ) (h : i < n) (b : Bool) (eb : b ≡ (eqb (usage_at d at) u && eqb (number_at d at) k)) where
    tell-is : tell_from_of u k d base (n - i) at ≡ cond b (Some (told_with (base + at + 12) (size_at d at))) (tell_from_of u k d base (n - (i + 1)) (next_at d at))
    unfolding tell_from_of
    tell-is = let e : n - i ≡ suc (n - (i + 1)) = omega arith in rw (e, eb)

    pub tell_hit : b ≡ true → (m : ℕ) → m ≡ size_at d at → Some (told_with (base + at + 12) m) ≡ tell_from_of u k d base (n - i) at
    tell_hit t m e = rw e (sym (tell-is ∙ rw t))

    pub tell-next : b ≡ false → (x : ℕ) → x ≡ next_at d at → tell_from_of u k d base (n - (i + 1)) x ≡ tell_from_of u k d base (n - i) at
    tell-next t x e = rw e (sym (tell-is ∙ rw t))

-- the text of the entry at at as the code cuts it out, of which g bytes are good
module _ (d : List ℕ) (at n : ℕ) (e : n ≡ next_at d at) where
  abbrev pub cut : List ℕ
  cut = take (n - (at + 12)) (drop (at + 12) d)

  cut_is : cut ≡ text_at d at
  cut_is = let q : n - (at + 12) ≡ size_at d at = omega arith in rw q

  module _ (g : ℕ) (eg : g ≡ good_length_of cut) where
    pub good-is : g ≡ good_length_of (text_at d at)
    good-is = eg ∙ ap good_length_of cut_is

    pub text_bad : (g ≡ length cut → ⊥) → good_text (text_at d at) ≡ false
    text_bad m = ne_eqb _ _ (λ q. m (good-is ∙ q ∙ ap length (sym cut_is)))

    pub text-good : g ≡ length cut → good_text (text_at d at) ≡ true
    text-good q = eq-eqb _ _ (sym good-is ∙ q ∙ ap length cut_is)

pub good_none : (d : List ℕ) → GoodTo d 0
good_none d i h = absurd (omega arith)

pub good_more : (d : List ℕ) (i at : ℕ) → at ≡ offset_of d i 4 → good_text (text_at d at) ≡ true → GoodTo d i → GoodTo d (i + 1)
good_more d i at e g f j h = go (eq-or-lt_of_le h)
  where
    go : (suc j ≡ i + 1) ⊎ (suc j < i + 1) → good_text (text_at d (offset_of d j 4)) ≡ true
    go (inl q) = let s : i ≡ j = omega arith in subst (λ (n : ℕ). good_text (text_at d (offset_of d n 4)) ≡ true) s (rw (← e) g)
    go (inr q) = f j (omega arith)

-- the good beginning of the first bad text lies in the data
pub bad_within : (d : List ℕ) (count : ℕ) (t : BadText) → fills_from d count 4 ≡ true → BadAt d count t → t.at + 12 + t.good ≤ length d
bad_within d count t e b =
    let r : Room d t.at = room_at d count t.entry 4 t.at b.inside e b.place in
    omega (arith, (longest (text_at d t.at)).1, b.measured, text-length d t.at r.text, r.text)

-- what is known of entries, of their value
pub seen : (d : List ℕ) (x n : ℕ) (p : Placed) → record { bytes = d; start = x } ≡ p → Filled d x n → Filled p.bytes p.start (rd32 p.bytes)
seen d x n p e f = let P : Placed → Type 0 = λ q. Filled q.bytes q.start (rd32 q.bytes) in subst P e (subst (Filled d x) f.counted f)

-- 37 to 39 of a chunk, by the test whether its entries fill the data
module _ (d : List ℕ) (x : ℕ) (b : Bool) (e : b ≡ fills d) where
  pub chunk_unfilled : b ≡ false → refuse 37 x ≡ chunk_fault d x
  unfolding chunk_fault
  chunk_unfilled n = sym (stop _ _ _ _ (sym e ∙ n))

  module _ (full : b ≡ true) where
    pub chunk_full : (4 ≤ length d) × (fills_from d (rd32 d) 4 ≡ true)
    chunk_full = fills-all d (sym e ∙ full)

    pub chunk_filled : (v : Verdict) → v ≡ entries_fault [] (x + 8 + 4) (descs_of d) → v ≡ chunk_fault d x
    unfolding chunk_fault
    chunk_filled v q =
        let s : x + 8 + 4 ≡ x + 12 = omega arith in
        q ∙ rw s (sym (pass _ _ _ _ (sym e ∙ full)))
