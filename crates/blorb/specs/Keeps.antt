-- The rules of a file (01, How a good file is laid out, and Sizes; 02, P5), each as a statement of its own: no order of checking and no places. That a
-- file is accepted exactly when it keeps them is proved in proofs/Exactly.antt.
use Rattle.std.specs.Prelude.{◌≡◌, ℕ, suc, ◌≤◌, ◌<◌, List, true, false, length, get_or, take, eqb}
use Rattle.blorb.specs.Bytes.{rd32}
use Rattle.blorb.specs.Tags.{RIdx, Exec, RelN, Fspc}
use Rattle.blorb.specs.Format.{Chunk, Ref}
use Rattle.blorb.specs.Verdict.{Rules, accept, no_chunk, known_usage_of, pair_in}
use Rattle.blorb.specs.Rules.{type_in, picture, rules_of}
use Rattle.blorb.specs.Model.{Model, base, file}
use Rattle.blorb.specs.Queries.{ref_at, chunk_at, start}
use Rattle.blorb.specs.All.{All}
use Rattle.blorb.specs.Sound.{Sound}

-- an entry by itself, cs being the chunks behind the index
pub record EntryKeeps (R : Rules) (cs : List Chunk) (r : Ref) : Type 0 where
  -- rule 4: "A usage is 'Pict', 'Snd ', 'Data' or 'Exec'"
  pub known : known_usage_of r.usage ≡ true
  -- rule 5
  pub typed : R.rule5 r.usage (get_or cs r.chunk no_chunk) ≡ true
  -- rule 6: "An Exec has number 0."
  pub exec_zero : r.usage ≡ Exec → r.number ≡ 0

-- the file f keeps the rules, m being what it holds. Rule 5 is that of R, rule 7 a statement about m.
pub record Keeps (R : Rules) (Seven : Model → Type 0) (f : List ℕ) (m : Model) : Type 0 where
  -- rules 1 to 3: the header, an index with the right lengths and count, and the chunks, which fill the file. Rule 4: "A start is the first byte
  -- of a chunk other than the index": each entry's is that of the chunk which it names in m.
  pub laid_out : file m ≡ f
  pub sound : Sound m
  -- Sizes: "A file has at most 16,777,216 bytes and its index at most 4,096 entries."
  pub short : length f ≤ 16777216
  pub few : length m.refs ≤ 4096
  -- rule 3: "The first chunk is 'RIdx' and no other chunk is."
  pub one_index : All (λ (c : Chunk). eqb c.type RIdx ≡ false) m.chunks
  pub entries_keep : All (EntryKeeps R m.chunks) m.refs
  -- rule 6: "No (usage, number) pair stands twice": that of entry i is not among the entries before it
  pub once : (i : ℕ) → i < length m.refs → pair_in (ref_at m i).usage (ref_at m i).number (take i m.refs) ≡ false
  -- rule 4, with 02's P5: "a start lower than the entry's before it is now refused; equal starts are fine"
  pub in_order : (i : ℕ) → suc i < length m.refs → start m (ref_at m i).chunk ≤ start m (ref_at m (suc i)).chunk
  pub rule_seven : Seven m

-- the file keeps the rules, rule 7 as R checks it
abbrev pub KeepsRules : Rules → List ℕ → Type 0
KeepsRules R f = (m : Model) × Keeps R (λ (k : Model). R.rule7 (base (length k.refs)) k.refs k.chunks ≡ accept) f m

-- rule 7 of a chunk, under every profile: "'RelN' (length 2) and 'Fspc' (length 4, the number of a picture) occur at most once each. The picture named
-- is in the index and isn't a 'Rect'." earlier: the chunks before it
pub record ChunkKeeps (rs : List Ref) (cs earlier : List Chunk) (c : Chunk) : Type 0 where
  pub release : c.type ≡ RelN → (type_in RelN earlier ≡ false) × (length c.body ≡ 2)
  pub front : c.type ≡ Fspc → (type_in Fspc earlier ≡ false) × (length c.body ≡ 4) × (picture (rd32 c.body) cs rs ≡ true)

-- rule 7 of a file, under every profile: `optional` in Rules.antt
abbrev pub ChunksKeep : Model → Type 0
ChunksKeep m = (i : ℕ) → i < length m.chunks → ChunkKeeps m.refs m.chunks (take i m.chunks) (chunk_at m i)

-- the file keeps 01's rules and 02's P5 with the types of the profile: no order of checking and no places in it
abbrev pub KeepsUnder : (profile : ℕ) → List ℕ → Type 0
KeepsUnder profile f = (m : Model) × Keeps (rules_of profile) ChunksKeep f m
