-- Where chunks begin: the search for a start, what a start tells, and a search that goes on from one. All of it by one induction over the chunks of an
-- accepted walk (good_ind).
use mathlib.Core.Path.{◌≡◌, refl, sym, ap, ◌∙◌}
use Prim.Native.Nat.{ℕ, zero, suc, ◌+◌, ◌≤◌, ◌<◌}
use mathlib.Core.List.{List, [], ◌∷◌}
use mathlib.Core.Bool.{Bool, true, false, cond, ◌||◌}
use native.Mathlib.Omega.{arith}
use lib.ListN.{length, get_or}
use lib.Dec.{eqb, ltb}
use borrow.Author.Tests.{eq-eqb, ne_eqb, eqb-true, eqb-false, ltb-true, ltb-false}
use Rattle.blorb.specs.Format.{Chunk, size, is_start, place_of}
use Rattle.blorb.specs.Verdict.{accept, no_chunk}
use Rattle.chunks.specs.Walk.{chunk_from, next_at, chunks_from, walk_from, skip_at, Reached}
use Rattle.chunks.proofs.ChunkLaws.{Whole, fine, walk-behind, chunks_end}

-- a step of the search
module _ (f : List ℕ) (x at : ℕ) (h : at < length f) (w : walk_from f at ≡ accept) where
  pub start_hit : at ≡ x → true ≡ is_start x at (chunks_from f at)
  unfolding is_start
  start_hit e = let i = fine f at h w in rw (i.chunks, eq-eqb x at (sym e))

  pub start-next : (at ≡ x → ⊥) → is_start x (skip_at f at) (chunks_from f (skip_at f at)) ≡ is_start x at (chunks_from f at)
  unfolding is_start
  start-next n = let i = fine f at h w in rw (i.chunks, i.next, ne_eqb x at (λ e. n (sym e)))

-- induction over the chunks of a file that the walk accepts
module _ (f : List ℕ) (P : ℕ → List Chunk → Type 0)
    (none : (at : ℕ) → length f ≤ at → P at [])
    (more : (at : ℕ) → at < length f → walk_from f at ≡ accept → Whole f at → P (next_at f at) (chunks_from f (next_at f at))
    → P at (chunk_from f at ∷ chunks_from f (next_at f at))) where
  upto : (k at : ℕ) → length f ≤ at + k → walk_from f at ≡ accept → P at (chunks_from f at)
  upto zero at l w = let e : length f ≤ at = omega arith in rw (chunks_end f at e) (none at e)
  upto (suc k) at l w = go (ltb at (length f)) refl (λ n m. upto k n m)
    where
      go : (b : Bool) → ltb at (length f) ≡ b → ((n : ℕ) → length f ≤ n + k → walk_from f n ≡ accept → P n (chunks_from f n))
          → P at (chunks_from f at)
      go true e ih =
          let h : at < length f = ltb-true at (length f) e in
          let i = fine f at h w in
          rw i.chunks (more at h w i (ih (next_at f at) (omega (arith, i.past)) (walk-behind f at h w)))
      go false e ih = let h : length f ≤ at = ltb-false at (length f) e in rw (chunks_end f at h) (none at h)

  pub good_ind : (at : ℕ) → walk_from f at ≡ accept → P at (chunks_from f at)
  good_ind at w = upto (length f) at (omega arith) w

-- a start's chunk
pub record Begun (f : List ℕ) (x : ℕ) (c : Chunk) : Type 0 where
  pub chunk : c ≡ chunk_from f x
  pub below : x < length f
  pub walks : walk_from f x ≡ accept

pub begun : (f : List ℕ) (x at : ℕ) → walk_from f at ≡ accept → is_start x at (chunks_from f at) ≡ true
    → Begun f x (get_or (chunks_from f at) (place_of x at (chunks_from f at)) no_chunk)
unfolding is_start place_of
begun f x at w =
    good_ind f (λ a cs. is_start x a cs ≡ true → Begun f x (get_or cs (place_of x a cs) no_chunk))
    (λ a h e. let z : ◌≡◌ {A = ℕ} 0 1 = cc in absurd (omega arith))
    (λ a h v i ih e. by_test a h v (chunks_from f (next_at f a)) (eqb x a) refl ih e)
    at w
  where
    by_test : (a : ℕ) → a < length f → walk_from f a ≡ accept → (cs : List Chunk) (b : Bool) → eqb x a ≡ b
        → (is_start x (next_at f a) cs ≡ true → Begun f x (get_or cs (place_of x (next_at f a) cs) no_chunk))
        → b || is_start x (next_at f a) cs ≡ true
        → Begun f x (get_or (chunk_from f a ∷ cs) (cond b 0 (suc (place_of x (next_at f a) cs))) no_chunk)
    by_test a h v cs true t ih e =
        let q : x ≡ a = eqb-true x a t in record { chunk = rw q refl; below = omega arith; walks = rw q v }
    by_test a h v cs false t ih e = ih e

pub start_ge : (g at : ℕ) (cs : List Chunk) → is_start g at cs ≡ true → at ≤ g
unfolding is_start
start_ge g at [] e = let z : ◌≡◌ {A = ℕ} 0 1 = cc in absurd (omega arith)
start_ge g at (c ∷ cs) e = go (eqb g at) refl e (start_ge g (at + size c) cs)
  where
    go : (b : Bool) → eqb g at ≡ b → b || is_start g (at + size c) cs ≡ true → (is_start g (at + size c) cs ≡ true → at + size c ≤ g) → at ≤ g
    go true t e ih = let q : g ≡ at = eqb-true g at t in omega arith
    go false t e ih = let q : at + size c ≤ g = ih e in omega arith

-- no chunk begins before the first one
pub before-base : (x at : ℕ) (cs : List Chunk) → x < at → false ≡ is_start x at cs
before-base x at cs h = go (is_start x at cs) refl
  where
    go : (b : Bool) → is_start x at cs ≡ b → false ≡ b
    go true e = let q : at ≤ x = start_ge x at cs e in absurd (omega arith)
    go false e = refl

-- the search may begin at any start that was found
pub resume : (f : List ℕ) (g at : ℕ) → walk_from f at ≡ accept → is_start g at (chunks_from f at) ≡ true → Reached f at g
unfolding is_start
resume f g at w =
    good_ind f (λ a cs. is_start g a cs ≡ true → (x : ℕ) → g ≤ x → is_start x a cs ≡ is_start x g (chunks_from f g))
    (λ a h e. let z : ◌≡◌ {A = ℕ} 0 1 = cc in absurd (omega arith))
    (λ a h v i ih e x l. by_test a i (eqb g a) refl ih e x l)
    at w
  where
    by_test : (a : ℕ) → Whole f a → (b : Bool) → eqb g a ≡ b
        → (is_start g (next_at f a) (chunks_from f (next_at f a)) ≡ true → (x : ℕ) → g ≤ x
        → is_start x (next_at f a) (chunks_from f (next_at f a)) ≡ is_start x g (chunks_from f g))
        → b || is_start g (next_at f a) (chunks_from f (next_at f a)) ≡ true
        → (x : ℕ) → g ≤ x → is_start x a (chunk_from f a ∷ chunks_from f (next_at f a)) ≡ is_start x g (chunks_from f g)
    by_test a i true t ih e x l =
        ap (λ (cs : List Chunk). is_start x a cs) (sym i.chunks) ∙ ap (λ (k : ℕ). is_start x k (chunks_from f k)) (sym (eqb-true g a t))
    by_test a i false t ih e x l =
        let n : next_at f a ≤ g = start_ge g (next_at f a) (chunks_from f (next_at f a)) e in
        let q : eqb x a ≡ false = ne_eqb x a (λ y. omega (arith, i.past)) in
        rw q (ih e x l)

-- a start behind the file, and the walk that has come up to a start
module _ (f : List ℕ) (x at : ℕ) (w : walk_from f at ≡ accept) where
  pub start-behind : length f ≤ x → false ≡ is_start x at (chunks_from f at)
  start-behind h = go (is_start x at (chunks_from f at)) refl
    where
      go : (b : Bool) → is_start x at (chunks_from f at) ≡ b → false ≡ b
      go true e = let q : x < length f = (begun f x at w e).below in absurd (omega arith)
      go false e = refl

  pub start_reached : x < length f → x ≤ at → eqb at x ≡ is_start x at (chunks_from f at)
  start_reached h l = go (eqb at x) refl
    where
      go : (b : Bool) → eqb at x ≡ b → b ≡ is_start x at (chunks_from f at)
      go true e = let q : at ≡ x = eqb-true at x e in start_hit f x at (omega arith) w q
      go false e = let q : at ≡ x → ⊥ = eqb-false at x e in before-base x at (chunks_from f at) (omega arith)
