-- What is known along the straight way through a file, where chunks and entries are gone through side by side.
use Rattle.std.specs.Prelude.{ℕ, ◌-◌, ◌≤◌, ◌<◌, ◌≡◌, List, Bool, true, false, ◌&&◌, not, length, drop, eqb, Ok, Option, Some, None}
use Rattle.blorb.specs.Bytes.{rd32}
use Rattle.blorb.specs.Format.{is_start, chunk_of}
use Rattle.blorb.specs.Usages.{code_of}
use Rattle.blorb.specs.Rules.{allows}
use Rattle.blorb.specs.Verdict.{accept, chunk_fault, second_index, known_usage_of, pair_in}
use Rattle.blorb.specs.declared.Usage.TheVariants.{Exec}
use Rattle.chunks.specs.Walk.{chunks_from, walk_from, skip_at, Reached}
use Rattle.chunks.specs.Ordinary.{ordinary_type, all_ordinary, Along}
use Rattle.index.specs.Entries.{usage_at, number_at, start_at, place, entry_fault, entries_from, earlier, Before}
use Rattle.reader.specs.Passed.{JudgesEntries}
use Rattle.reader.specs.declared.Judged.{Judged}

-- a walk has come from `from` to `at` over good chunks, none of them an index; where p holds, over ordinary ones alone
pub record CameTo (f : List ℕ) (from at : ℕ) (p : Bool) : Type 0 where
  pub along : Along f from at p
  pub second : second_index at (chunks_from f at) ≡ second_index from (chunks_from f from)
  pub reached : Reached f from at
  pub past : from ≤ at

-- a good chunk begins at x, one of those from base on
pub record ChunkAt (f : List ℕ) (base x : ℕ) : Type 0 where
  pub inside : x < length f
  pub good : chunk_fault x (drop x f) ≡ accept
  pub begins : is_start x base (chunks_from f base) ≡ true

-- the walk stands at `at`, behind the last entry's chunk, which begins at found; before the first entry found is no number of 32 bits
pub record Stands (f : List ℕ) (base found at : ℕ) (p : Bool) : Type 0 where
  pub came : CameTo f base at p
  pub chunk : found < 4294967296 → ChunkAt f base found × (found ≤ at)

-- what stands at start reads as a good chunk, which ends at `behind`; whether a chunk begins there is not said
abbrev pub Over : Option ℕ → List ℕ → ℕ → Type 0
Over (Some behind) f start = (start < length f) × (chunk_fault start (drop start f) ≡ accept) × (behind ≡ skip_at f start)
Over None f start = Unit {0}

-- the walk has gone on to the chunk at start, and over it if its type is an ordinary one, or there is nothing to say
abbrev pub Stepped : Option (ℕ × Bool) → List ℕ → ℕ → ℕ → ℕ → ℕ → Bool → Type 0
Stepped (Some (behind, ordinary)) f base found at start q =
    (start < 4294967296 → ChunkAt f base start × (ordinary_type (rd32 (drop start f)) ≡ true → Stands f base start behind (q && ordinary)))
    × ((start ≡ found → ⊥) → at ≤ start)
Stepped None f base found at start q = Unit {0}

-- 12, 14 and 15 are ruled out, so that only 13 is left to judge
abbrev pub Suits : (profile : ℕ) → Bool → List ℕ → ℕ → Type 0
Suits profile r f p = r ≡ true → (base : ℕ) → is_start (start_at f p) base (chunks_from f base) ≡ true → entry_fault profile f base p ≡ accept

-- 12, 14 and 15 are ruled out for this usage on every chunk of this type, whatever its data and the entry's number
pub record Allowed (profile usage kind : ℕ) : Type 0 where
  pub known : known_usage_of usage ≡ true
  pub typed : (body : List ℕ) → allows profile usage (chunk_of kind body) ≡ true
  pub numbered : not (eqb usage (code_of Exec)) ≡ true

-- what the pass remembers; nothing yet where the usage is no number of 32 bits
abbrev pub Remembered : (profile usage kind : ℕ) → Type 0
Remembered profile usage kind = usage < 4294967296 → Allowed profile usage kind

abbrev pub Fitted : (profile : ℕ) → Option (ℕ × ℕ) → List ℕ → ℕ → Type 0
Fitted profile (Some (usage, kind)) f p = Suits profile true f p × Remembered profile usage kind
Fitted profile None f p = Unit {0}

-- none of the first i entries has the pair of entry j
abbrev pub FreshTo : List ℕ → (base j i : ℕ) → Type 0
FreshTo f base j i = pair_in (usage_at f (place j)) (number_at f (place j)) (earlier f base i) ≡ false

-- no earlier entry has the pair of entry j, and `above` is over its number and not under top
abbrev pub Freshly : Option ℕ → List ℕ → (j number top : ℕ) → Type 0
Freshly (Some above) f j number top = ((base : ℕ) → FreshTo f base j j) × (number < above) × (top ≤ above)
Freshly None f j number top = Unit {0}

-- of an accepted walk: what the first j of count entries leave to judge
pub record SoFar (profile : ℕ) (f : List ℕ) (base count j found at : ℕ) : Type 0 where
  pub entries : entries_from profile f base j (count - j) ≡ entries_from profile f base 0 count
  pub last : ℕ
  pub before : Before f base j last
  pub behind : last ≤ at
  pub level : found < 4294967296 → last ≤ found

-- the whole index and all chunks have been gone through
abbrev pub Alongside : (profile : ℕ) → Option Judged → List ℕ → ℕ → Type 0
Alongside profile (Some j) f count =
    (j.count ≡ count) × (walk_from f (place count) ≡ accept) × (second_index (place count) (chunks_from f (place count)) ≡ accept)
    × (j.ordinary ≡ true → all_ordinary (chunks_from f (place count)) ≡ true) × (entries_from profile f (place count) 0 count ≡ accept)
Alongside profile None f count = Unit {0}

-- refusals 1 to 16 and 27 to 29 are ruled out: 17 to 19 decide
abbrev pub Straightly : (profile : ℕ) → Option Judged → List ℕ → Type 0
Straightly profile (Some j) f = JudgesEntries profile (Ok j) f
Straightly profile None f = Unit {0}
