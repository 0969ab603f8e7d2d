-- Numbers that a verdict never has: a verdict does not refuse with k where k is none of the numbers of its checks. Each law goes through the checks of
-- its part one by one.
use mathlib.Core.Path.{◌≡◌, refl, subst}
use Prim.Native.Nat.{ℕ, zero, suc, ◌+◌}
use mathlib.Core.List.{List, [], ◌∷◌, ◌++◌}
use mathlib.Core.Bool.{Bool, true, false, cond}
use lib.Dec.{eqb}
use borrow.Author.Tests.{eqb-false}
use Rattle.blorb.specs.Bytes.{rd32}
use Rattle.blorb.specs.Tags.{RelN, Fspc}
use Rattle.blorb.specs.Format.{Chunk, Entry, Ref, size, ref_of}
use Rattle.blorb.specs.Verdict.{
  Verdict,
  accept,
  refuse,
  ◌then◌,
  check,
  head_fault,
  chunk_fault,
  walk_fault,
  second_index,
  index_fault,
  ref_fault,
  entries_fault,
  rest_fault,
  layout_fault,
}
use Rattle.blorb.specs.Rules.{rules_of, picture, single, chunk_rule, chunk_rules, optional}
use Rattle.blorb.specs.Model.{Model}
use Rattle.blorb.proofs.VerdictLaws.{refs_fault, model_fault}

-- v is no refusal with the number k
abbrev pub Never : ℕ → Verdict → Type 0
Never k accept = Unit {0}
Never k (refuse n p) = eqb n k ≡ false

pub never_itself : (k p : ℕ) (v : Verdict) → Never k v → v ≡ refuse k p → ⊥
never_itself k p v h q = eqb-false k k (subst (λ (w : Verdict). Never k w) q h) refl

pub other : (b : Bool) (k n p : ℕ) → eqb n k ≡ false → Never k (check b n p)
unfolding check
other true k n p h = tt
other false k n p h = h

pub both : (k : ℕ) (v w : Verdict) → Never k v → Never k w → Never k (v then w)
unfolding ◌then◌
both k accept w hv hw = hw
both k (refuse n p) w hv hw = hv

pub more : (b : Bool) (k n p : ℕ) (w : Verdict) → eqb n k ≡ false → Never k w → Never k (check b n p then w)
more b k n p w h hw = both k (check b n p) w (other b k n p h) hw

either : (b : Bool) (k : ℕ) (v w : Verdict) → Never k v → Never k w → Never k (cond b v w)
either true k v w hv hw = hv
either false k v w hv hw = hw

-- k is none of the numbers that are left of a model whose entries are in order: 1, 9, 11, 12, 14 to 19
abbrev pub Elsewhere : ℕ → Type 0
Elsewhere k =
    (eqb 1 k ≡ false) × (eqb 9 k ≡ false) × (eqb 11 k ≡ false) × (eqb 12 k ≡ false) × (eqb 14 k ≡ false) × (eqb 15 k ≡ false) × (eqb 16 k ≡ false)
    × (eqb 17 k ≡ false) × (eqb 18 k ≡ false) × (eqb 19 k ≡ false)

module _ (k : ℕ) (h : Elsewhere k) where
  second : (at : ℕ) (cs : List Chunk) → Never k (second_index at cs)
  unfolding second_index
  second at [] = tt
  second at (c ∷ cs) = more _ k 9 at _ h.1 (second (at + size c) cs)

  entry : (profile : ℕ) (cs : List Chunk) (earlier : List Ref) (p : ℕ) (r : Ref) → Never k (ref_fault (rules_of profile) cs earlier p r)
  unfolding ref_fault
  entry profile cs earlier p r = more _ k 14 p _ h.4 (more _ k 15 (p + 4) _ h.5 (other _ k 16 p h.6))

  entries : (profile : ℕ) (cs : List Chunk) (earlier : List Ref) (p : ℕ) (rs : List Ref) → Never k (refs_fault (rules_of profile) cs earlier p rs)
  unfolding refs_fault
  entries profile cs earlier p [] = tt
  entries profile cs earlier p (r ∷ rs) = more _ k 12 p _ h.3 (both k _ _ (entry profile cs earlier p r) (entries profile cs (earlier ++ (r ∷ [])) (p + 12) rs))

  chunk : (rs : List Ref) (all earlier : List Chunk) (at : ℕ) (c : Chunk) → Never k (chunk_rule rs all earlier at c)
  unfolding chunk_rule single
  chunk rs all earlier at c =
      either (eqb c.type RelN) k _ _ (more _ k 17 at _ h.7 (other _ k 18 (at + 4) h.8))
      (either (eqb c.type Fspc) k _ _
      (both k _ _ (more _ k 17 at _ h.7 (other _ k 18 (at + 4) h.8)) (other (picture (rd32 c.body) all rs) k 19 (at + 8) h.9)) tt)

  chunks : (rs : List Ref) (all earlier : List Chunk) (at : ℕ) (cs : List Chunk) → Never k (chunk_rules rs all earlier at cs)
  unfolding chunk_rules
  chunks rs all earlier at [] = tt
  chunks rs all earlier at (c ∷ cs) = both k _ _ (chunk rs all earlier at c) (chunks rs all (earlier ++ (c ∷ [])) (at + size c) cs)

  -- what is judged of a model whose entries are in order
  pub model_never : (profile : ℕ) (m : Model) → Never k (model_fault (rules_of profile) m)
  unfolding model_fault optional
  model_never profile m =
      both k _ _ (second _ m.chunks)
      (more _ k 11 20 _ h.2 (both k _ _ (entries profile m.chunks [] 24 m.refs) (chunks _ _ [] _ m.chunks)))

  -- of any bytes, the numbers before the walk over the chunks: 1 to 5
  module _ (e2 : eqb 2 k ≡ false) (e3 : eqb 3 k ≡ false) (e4 : eqb 4 k ≡ false) (e5 : eqb 5 k ≡ false) where
    pub head_never : (f : List ℕ) → Never k (head_fault f)
    unfolding head_fault
    head_never f = more _ k 1 0 _ h.0 (more _ k 2 0 _ e2 (more _ k 3 0 _ e3 (more _ k 4 8 _ e4 (other _ k 5 4 e5))))

  -- those of the walk: 6, 28, 29 and 7
  module _ (e6 : eqb 6 k ≡ false) (e28 : eqb 28 k ≡ false) (e29 : eqb 29 k ≡ false) (e7 : eqb 7 k ≡ false) where
    pub walk_never : (n at : ℕ) (s : List ℕ) → Never k (walk_fault n at s)
    unfolding walk_fault chunk_fault
    walk_never zero at s = tt
    walk_never (suc n) at [] = tt
    walk_never (suc n) at (b ∷ s) =
        both k _ _ (more _ k 6 _ _ e6 (more _ k 28 _ _ e28 (more _ k 29 _ _ e29 (other _ k 7 _ e7)))) (walk_never n _ _)

  -- and those behind it: 8 to 19 and 27
  module _ (e8 : eqb 8 k ≡ false) (e10 : eqb 10 k ≡ false) (e13 : eqb 13 k ≡ false) (e27 : eqb 27 k ≡ false) where
    listed : (profile at : ℕ) (cs : List Chunk) (earlier : List Ref) (p : ℕ) (es : List Entry)
        → Never k (entries_fault (rules_of profile) at cs earlier p es)
    unfolding entries_fault
    listed profile at cs earlier p [] = tt
    listed profile at cs earlier p (e ∷ es) =
        more _ k 12 p _ h.3
        (more _ k 13 (p + 8) _ e13
        (both k _ _ (entry profile cs earlier p _) (more _ k 27 (p + 8) _ e27 (listed profile at cs (earlier ++ (ref_of at cs e ∷ [])) (p + 12) es))))

    pub layout_never : (profile : ℕ) (cs : List Chunk) → Never k (layout_fault (rules_of profile) cs)
    unfolding layout_fault rest_fault index_fault optional
    layout_never profile [] = e8
    layout_never profile (c ∷ cs) =
        more _ k 8 12 _ e8
        (both k _ _ (second _ cs)
        (both k _ _ (more _ k 10 16 _ e10 (other _ k 11 20 h.2)) (both k _ _ (listed profile _ cs [] 24 _) (chunks _ _ [] _ cs))))
