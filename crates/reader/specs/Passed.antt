-- A file that the reader has passed, by its offsets: what is known of it, its model, and its frontispiece.
use Rattle.std.specs.Prelude.{ℕ, ◌+◌, ◌≤◌, ◌≡◌, List, [], ◌∷◌, map, Bool, true, false, length, drop, eqb, Result, Ok, Option, Some, None}
use Rattle.blorb.specs.Bytes.{rd32}
use Rattle.blorb.specs.Format.{Chunk, size, ref_of, entries_in}
use Rattle.blorb.specs.Verdict.{accept, verdict}
use Rattle.blorb.specs.Rules.{rules_of}
use Rattle.blorb.specs.Tags.{Fspc}
use Rattle.blorb.specs.Model.{Model}
use Rattle.chunks.specs.Ordinary.{all_ordinary}
use Rattle.chunks.specs.Walk.{chunks_from}
use Rattle.index.specs.Entries.{place}
use Rattle.index.specs.Optional.{optional_fault, EntriesPassed}
use Rattle.reader.specs.Reading.{index_of, accepted_with, read_by, read_of}
use Rattle.blorb.specs.declared.refusal.Refusal.{Refusal}
use Rattle.blorb.specs.Refusals.{Refused}
use Rattle.reader.specs.declared.Accepted.{Accepted}
use Rattle.reader.specs.declared.Judged.{Judged}
use Rattle.reader.specs.declared.Frontispiece.{Frontispiece}

-- the reading under a profile that is known: the table alone, without 52
unfoldable pub read_known : (profile : ℕ) → List ℕ → Result Accepted Refusal
read_known profile f = read_by (verdict (rules_of profile) f) (length f) (length (index_of f))

-- a judgement is the reading of the file under the profile; ordinary is told only where every chunk behind the index is
abbrev pub Judges : (profile : ℕ) → Result Judged Refusal → List ℕ → Type 0
Judges profile (Ok j) f = (accepted_with (length f) j.count ≡ read_of profile f) × (j.ordinary ≡ true → all_ordinary (chunks_from f (place j.count)) ≡ true)
Judges profile (Refused k p) f = Refused k p ≡ read_of profile f

-- the same of refusals 1 to 16 and 27 to 29 under a known profile: 17 to 19 decide
abbrev pub JudgesEntries : (profile : ℕ) → Result Judged Refusal → List ℕ → Type 0
JudgesEntries profile (Ok j) f =
    EntriesPassed f j.count × (read_by (optional_fault f j.count) (length f) j.count ≡ read_known profile f)
    × (j.ordinary ≡ true → all_ordinary (chunks_from f (place j.count)) ≡ true)
JudgesEntries profile (Refused k p) f = Refused k p ≡ read_known profile f

-- what is known once refusals 1 to 19 and 27 to 29 are ruled out for a file with count entries
pub record Passed (f : List ℕ) (count : ℕ) : Type 0 where
  pub judged : EntriesPassed f count
  pub optional : optional_fault f count ≡ accept
  pub short : length f ≤ 16777216

-- the model of such a file
abbrev pub model_at : List ℕ → ℕ → Model
model_at f count = record {
  refs = map (ref_of (place count) (chunks_from f (place count))) (entries_in count (drop 24 f));
  chunks = chunks_from f (place count);
}

-- each frontispiece holds one number
abbrev pub Fronts : List Chunk → Type 0
Fronts [] = Unit {0}
Fronts (c ∷ cs) = (c.type ≡ Fspc → length c.body ≡ 4) × Fronts cs

-- the first frontispiece of the chunks that stand from at on
abbrev pub pick_front : Bool → ℕ → ℕ → Option Frontispiece → Option Frontispiece
pick_front true x n r = Some (record { start = x; number = n })
pick_front false x n r = r

unfoldable pub front_from_of : ℕ → List Chunk → Option Frontispiece
front_from_of at [] = None
front_from_of at (c ∷ cs) = pick_front (eqb c.type Fspc) at (rd32 c.body) (front_from_of (at + size c) cs)
