-- Chunks that no rule but those of chunks and entries speaks of.
use Rattle.std.specs.Prelude.{◌≡◌, ℕ, List, [], ◌∷◌, Bool, true, ◌&&◌, ◌||◌, not, eqb, Result, IfOk}
use Rattle.blorb.specs.Tags.{RIdx, RelN, Fspc}
use Rattle.blorb.specs.Format.{Chunk}
use Rattle.blorb.specs.Refusals.{verdict_of}
use Rattle.blorb.specs.declared.refusal.Refusal.{Refusal}
use Rattle.chunks.specs.Walk.{walk_from, chunks_from}

abbrev pub ordinary_type : ℕ → Bool
ordinary_type t = not (eqb t RIdx || (eqb t RelN || eqb t Fspc))

unfoldable pub all_ordinary : List Chunk → Bool
all_ordinary [] = true
all_ordinary (c ∷ cs) = ordinary_type c.type && all_ordinary cs

-- a walk from `from` on has come to `at`; where p holds, it met ordinary chunks only
pub record Along (f : List ℕ) (from at : ℕ) (p : Bool) : Type 0 where
  pub rest : walk_from f at ≡ walk_from f from
  pub ordinary : p ≡ true → all_ordinary (chunks_from f at) ≡ all_ordinary (chunks_from f from)

-- what a walk from `from` on answers; if it says so, the chunks from `behind` on are ordinary
abbrev pub Walks : Result Bool Refusal → List ℕ → ℕ → ℕ → Type 0
Walks r f from behind = (verdict_of r ≡ walk_from f from) × IfOk r (λ ordinary. ordinary ≡ true → all_ordinary (chunks_from f behind) ≡ true)
