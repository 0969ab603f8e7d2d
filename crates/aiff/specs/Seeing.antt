-- What the search for the 'COMM' chunk keeps: it stands between the code and the definitions of Common.
use Rattle.std.specs.Prelude.{ℕ, ◌+◌, ◌≤◌, ◌≡◌, List, [], ◌∷◌, cond, length, take, drop, eqb, Option, Some, None}
use Rattle.blorb.specs.Bytes.{rd32}
use Rattle.blorb.specs.Format.{Chunk}
use Rattle.blorb.specs.Verdict.{accept}
use Rattle.chunks.specs.Walk.{chunk_from, chunks_from, walk_from}
use Rattle.aiff.specs.Common.{COMM, comms, single, common_of}
use Rattle.aiff.specs.declared.common.Seen.{Seen}
use Rattle.aiff.specs.declared.common.Seen.TheVariants.{Nothing, One, Many}

abbrev pub one_more : Seen → ℕ → Seen
one_more Nothing at = One at
one_more (One x) at = Many
one_more Many at = Many

unfoldable pub seen_next_of : Seen → ℕ → ℕ → Seen
seen_next_of seen kind at = cond (eqb kind COMM) (one_more seen at) seen

-- the 'COMM' chunks' answer, by those seen and the ones behind them
abbrev pub seen_with : List ℕ → Seen → List Chunk → Option (List ℕ)
seen_with f Nothing l = single l
seen_with f (One x) l = single (chunk_from f x ∷ l)
seen_with f Many l = None

-- the one seen lies in the bytes, with all its data
pub record ChunkThere (f : List ℕ) (x : ℕ) : Type 0 where
  pub inside : x + (8 + rd32 (drop (x + 4) f)) ≤ length f
  pub bodied : length (chunk_from f x).body ≡ rd32 (drop (x + 4) f)

abbrev pub SeenIn : List ℕ → Seen → Type 0
SeenIn f Nothing = Unit {0}
SeenIn f (One x) = ChunkThere f x
SeenIn f Many = Unit {0}

-- the search has come to `at`
pub record Seeking (f : List ℕ) (at : ℕ) (seen : Seen) : Type 0 where
  pub rest : walk_from f at ≡ accept
  pub found : seen_with f seen (comms (chunks_from f at)) ≡ common_of f
  pub there : SeenIn f seen

-- and is at its end
abbrev pub Sees : List ℕ → Seen → Type 0
Sees f seen = (seen_with f seen [] ≡ common_of f) × SeenIn f seen

-- what the code's answer tells of the bytes
abbrev pub Told : List ℕ → Option ℕ → Type 0
Told f (Some x) = (common_of f ≡ Some (take 18 (drop (x + 8) f))) × (x + 26 ≤ length f)
Told f None = common_of f ≡ None
