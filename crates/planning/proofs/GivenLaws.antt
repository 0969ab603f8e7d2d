-- The data given to add and replace: whether it is whole, test by test, and the data as the chunk holds it.
use mathlib.Core.Path.{◌≡◌, sym, ◌∙◌}
use Prim.Native.Nat.{ℕ, ◌+◌, ◌-◌, ◌≤◌, ◌<◌}
use mathlib.Core.List.{List, []}
use mathlib.Core.Bool.{true, false, ◌||◌, not}
use native.Mathlib.Omega.{arith}
use lib.ListN.{length, take, drop, length-drop, drop_of_length-le}
use lib.Seq.{take_all}
use lib.Dec.{eqb}
use borrow.Author.Tests.{eq-eqb, ne_eqb, le-leb, lt-leb}
use Rattle.blorb.specs.Bytes.{rd32}
use Rattle.blorb.specs.Tags.{FORM}
use Rattle.blorb.specs.Lookup.{left_out_of}
use Rattle.edits.specs.Edit.{held, is_whole}

module _ (t : ℕ) (d : List ℕ) where
  pub whole_other : (t ≡ FORM → ⊥) → true ≡ (not (eqb t FORM) || is_whole d)
  whole_other e = rw (ne_eqb t FORM e)

  module _ (e : t ≡ FORM) where
    pub whole_short : length d < 8 → false ≡ (not (eqb t FORM) || is_whole d)
    unfolding is_whole
    whole_short h = rw (eq-eqb t FORM e, lt-leb 8 (length d) h)

    module _ (h : 8 ≤ length d) where
      pub whole_unnamed : (rd32 d ≡ FORM → ⊥) → false ≡ (not (eqb t FORM) || is_whole d)
      unfolding is_whole
      whole_unnamed n = rw (eq-eqb t FORM e, le-leb 8 (length d) h, ne_eqb (rd32 d) FORM n)

      pub whole_sized : (m : ℕ) → rd32 d ≡ FORM → m ≡ rd32 (drop 4 d) → eqb (8 + m) (length d) ≡ (not (eqb t FORM) || is_whole d)
      unfolding is_whole
      whole_sized m n em = rw (eq-eqb t FORM e, le-leb 8 (length d) h, eq-eqb (rd32 d) FORM n, em)

  pub held_none : (k : ℕ) → k ≡ left_out_of t → length d < 8 - k → [] ≡ held t d
  unfolding held
  held_none k e h = let l : length d ≤ 8 - k = omega arith in rw (← e) (sym (drop_of_length-le d l))

  pub held-part : (k : ℕ) → k ≡ left_out_of t → take (length d - (8 - k)) (drop (8 - k) d) ≡ held t d
  unfolding held
  held-part k e = take_all (length d - (8 - k)) (drop (8 - k) d) (simp length-drop (omega arith)) ∙ rw e
