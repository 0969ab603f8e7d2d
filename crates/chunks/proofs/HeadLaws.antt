-- 1 to 5 by facts on the bytes: each refusal is given where the tests before it passed and its own fails.
use mathlib.Core.Path.{◌≡◌, sym, ◌∙◌}
use Prim.Native.Nat.{ℕ, ◌+◌, ◌≤◌, ◌<◌}
use mathlib.Core.List.{List}
use lib.ListN.{length, drop}
use borrow.Author.Tests.{eq-eqb, ne_eqb, le-leb, lt-leb}
use Rattle.blorb.specs.Tags.{FORM, IFRS}
use Rattle.blorb.specs.Bytes.{rd32}
use Rattle.blorb.specs.Verdict.{accept, refuse, head_fault}
use Rattle.blorb.proofs.Checks.{pass, stop, holds_last, fails_last}

module _ (f : List ℕ) where
  pub head_1 : 16777216 < length f → refuse 1 0 ≡ head_fault f
  unfolding head_fault
  head_1 h = sym (stop _ _ _ _ (lt-leb _ _ h))

  module _ (l : length f ≤ 16777216) where
    pub head_2 : length f < 12 → refuse 2 0 ≡ head_fault f
    unfolding head_fault
    head_2 h = sym (pass _ _ _ _ (le-leb _ _ l) ∙ stop _ _ _ _ (lt-leb _ _ h))

    module _ (l2 : 12 ≤ length f) where
      pub head_3 : (rd32 f ≡ FORM → ⊥) → refuse 3 0 ≡ head_fault f
      unfolding head_fault
      head_3 h = sym (pass _ _ _ _ (le-leb _ _ l) ∙ pass _ _ _ _ (le-leb _ _ l2) ∙ stop _ _ _ _ (ne_eqb _ _ h))

      module _ (l3 : rd32 f ≡ FORM) where
        pub head_4 : (rd32 (drop 8 f) ≡ IFRS → ⊥) → refuse 4 8 ≡ head_fault f
        unfolding head_fault
        head_4 h = sym (pass _ _ _ _ (le-leb _ _ l) ∙ pass _ _ _ _ (le-leb _ _ l2) ∙ pass _ _ _ _ (eq-eqb _ _ l3) ∙ stop _ _ _ _ (ne_eqb _ _ h))

        module _ (l4 : rd32 (drop 8 f) ≡ IFRS) where
          pub head_5 : (8 + rd32 (drop 4 f) ≡ length f → ⊥) → refuse 5 4 ≡ head_fault f
          unfolding head_fault
          head_5 h =
              sym (pass _ _ _ _ (le-leb _ _ l) ∙ pass _ _ _ _ (le-leb _ _ l2) ∙ pass _ _ _ _ (eq-eqb _ _ l3) ∙ pass _ _ _ _ (eq-eqb _ _ l4)
              ∙ fails_last _ _ _ (ne_eqb _ _ h))

          pub head-good : 8 + rd32 (drop 4 f) ≡ length f → accept ≡ head_fault f
          unfolding head_fault
          head-good h =
              sym (pass _ _ _ _ (le-leb _ _ l) ∙ pass _ _ _ _ (le-leb _ _ l2) ∙ pass _ _ _ _ (eq-eqb _ _ l3) ∙ pass _ _ _ _ (eq-eqb _ _ l4)
              ∙ holds_last _ _ _ (eq-eqb _ _ h))
