-- The chunks of a type in a file (02, P4 and P7): the first behind the index, with the length of its data, and the second.
use Rattle.std.specs.Prelude.{ℕ, ◌+◌, List, [], ◌∷◌, Bool, true, false, length, take, drop, eqb, Result}
use Rattle.blorb.specs.Format.{Chunk, size}
use Rattle.blorb.specs.Refusals.{answer_by}
use Rattle.blorb.specs.declared.refusal.Refusal.{Refusal}
use Rattle.blorb.specs.Rules.{profile_verdict}
use Rattle.blorb.specs.Model.{base, model}
use Rattle.locate.specs.declared.Located.{Located}
use Rattle.locate.specs.declared.Located.TheVariants.{Nothing, One, More}

-- where a chunk starts and how much data it has
pub record Spot : Type 0 where
  pub start : ℕ
  pub amount : ℕ

abbrev pub spot_at : ℕ → Chunk → Spot
spot_at at c = record { start = at; amount = length c.body }

abbrev pub pick_spot : Bool → Spot → List Spot → List Spot
pick_spot true x xs = x ∷ xs
pick_spot false x xs = xs

-- all chunks of type t among these, the first of which stands at at
unfoldable pub of_type : ℕ → ℕ → List Chunk → List Spot
of_type t at [] = []
of_type t at (c ∷ cs) = pick_spot (eqb c.type t) (spot_at at c) (of_type t (at + size c) cs)

abbrev pub located_in : List Spot → Located
located_in [] = Nothing
located_in (x ∷ []) = One x.start x.amount
located_in (x ∷ (y ∷ ys)) = More x.start x.amount y.start

-- of a file, "after the reader's own" refusals
unfoldable pub located_of : (profile : ℕ) → List ℕ → ℕ → Result Located Refusal
located_of profile f t = answer_by (profile_verdict profile f) (located_in (of_type t (base (length (model f).refs)) (model f).chunks))

-- the data of a chunk at x that has m bytes of it
abbrev pub data_at : List ℕ → ℕ → ℕ → List ℕ
data_at f x m = take m (drop (x + 8) f)
