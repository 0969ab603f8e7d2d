-- Refusals 17 to 19 from a chunk on, and the frontispiece's picture by the lookup.
use Rattle.std.specs.Prelude.{ℕ, ◌+◌, ◌≤◌, ◌≡◌, List, [], ◌∷◌, Bool, false, ◌||◌, not, cond, length, drop, eqb, Option, Some, None}
use Rattle.blorb.specs.Bytes.{rd32}
use Rattle.blorb.specs.Format.{Chunk, size, entries_in}
use Rattle.blorb.specs.Verdict.{Rules, Verdict, accept, ◌then◌, check, entries_fault}
use Rattle.blorb.specs.Tags.{Pict, Rect, RelN, Fspc}
use Rattle.chunks.specs.Walk.{chunks_from, walk_from}
use Rattle.index.specs.Entries.{place}
use Rattle.index.specs.Hits.{hit_in}

abbrev pub picture_by : List ℕ → Option ℕ → Bool
picture_by f (Some x) = not (eqb (rd32 (drop x f)) Rect)
picture_by f None = false

-- the picture n is in the index of count entries, and isn't a 'Rect'
unfoldable pub pictured : List ℕ → ℕ → ℕ → Bool
pictured f count n = picture_by f (hit_in Pict n (entries_in count (drop 24 f)))

-- 17 and 18 of an optional chunk; a tells whether one of its type stands before it, n is how much data it has to have
abbrev pub single_by : Bool → ℕ → ℕ → Chunk → Verdict
single_by a n at c = check (not a) 17 at then check (eqb (length c.body) n) 18 (at + 4)

module _ (pic : ℕ → Bool) where
  -- 17 to 19 of one chunk; a and b tell whether a 'RelN' and an 'Fspc' stand before it
  unfoldable pub one_rule : Bool → Bool → ℕ → Chunk → Verdict
  one_rule a b at c =
      cond (eqb c.type RelN) (single_by a 2 at c)
      (cond (eqb c.type Fspc) (single_by b 4 at c then check (pic (rd32 c.body)) 19 (at + 8)) accept)

  unfoldable pub rules_from : Bool → Bool → ℕ → List Chunk → Verdict
  rules_from a b at [] = accept
  rules_from a b at (c ∷ cs) = one_rule a b at c then rules_from (a || eqb c.type RelN) (b || eqb c.type Fspc) (at + size c) cs

-- of all chunks behind an index of count entries
unfoldable pub optional_fault : List ℕ → ℕ → Verdict
optional_fault f count = rules_from (pictured f count) false false (place count) (chunks_from f (place count))

-- what is known once refusals 1 to 16 and 27 to 29 are ruled out of a file with count entries
pub record EntriesPassed (f : List ℕ) (count : ℕ) : Type 0 where
  pub few : count ≤ 4096
  pub room : place count ≤ length f
  pub walks : walk_from f (place count) ≡ accept
  -- under some rules; which matters no more
  pub rules : Rules
  pub entries : entries_fault rules (place count) (chunks_from f (place count)) [] 24 (entries_in count (drop 24 f)) ≡ accept
