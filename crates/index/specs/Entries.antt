-- The entries of an index by their offsets, and refusals 12 to 16 and 27 from an entry on.
use Rattle.std.specs.Prelude.{ℕ, zero, suc, ◌+◌, ◌*◌, ◌/◌, ◌%◌, ◌≤◌, ◌<◌, ◌≡◌, List, [], ◌∷◌, ◌++◌, Bool, false, ◌&&◌, ◌||◌, not, cond, length, get_or, drop, eqb, ltb, Result, Ok, Option, Some, None}
use Rattle.blorb.specs.Bytes.{rd32}
use Rattle.blorb.specs.Usages.{code_of}
use Rattle.blorb.specs.Format.{Entry, Ref, ref_of, entry_from, entries_in, is_start}
use Rattle.blorb.specs.Verdict.{Verdict, accept, refuse, ◌then◌, check, known_usage_of, entries_fault, last_place}
use Rattle.blorb.specs.Model.{start_of}
use Rattle.blorb.specs.Rules.{allows, rules_of}
use Rattle.chunks.specs.Walk.{chunk_from, chunks_from}
use Rattle.blorb.specs.declared.Usage.TheVariants.{Exec}
use Rattle.blorb.specs.declared.refusal.Refusal.{Refusal}
use Rattle.blorb.specs.Refusals.{Refused}

-- the usage, number and start of the entry at p
abbrev pub usage_at : List ℕ → ℕ → ℕ
usage_at f p = rd32 (drop p f)

abbrev pub number_at : List ℕ → ℕ → ℕ
number_at f p = rd32 (drop (p + 4) f)

abbrev pub start_at : List ℕ → ℕ → ℕ
start_at f p = rd32 (drop (p + 8) f)

-- where entry i is
abbrev pub place : ℕ → ℕ
place i = 24 + 12 * i

-- rule 5 of the chunk at x, under the profile
abbrev pub typed_at : (profile : ℕ) → List ℕ → ℕ → ℕ → Bool
typed_at profile f u x = allows profile u (chunk_from f x)

-- 12 to 15 of the entry at p; the chunks behind the index stand from base on
unfoldable pub entry_fault : (profile : ℕ) → List ℕ → ℕ → ℕ → Verdict
entry_fault profile f base p =
    check (known_usage_of (usage_at f p)) 12 p
    then check (is_start (start_at f p) base (chunks_from f base)) 13 (p + 8)
    then check (typed_at profile f (usage_at f p) (start_at f p)) 14 p
    then check (not (eqb (usage_at f p) (code_of Exec)) || eqb (number_at f p) 0) 15 (p + 4)

-- the same where no chunk begins at its start
unfoldable pub unstarted_fault : List ℕ → ℕ → Verdict
unstarted_fault f p = check (known_usage_of (usage_at f p)) 12 p then refuse 13 (p + 8)

-- its start, or its fault
abbrev pub judged_by : Verdict → ℕ → Result ℕ Refusal
judged_by accept x = Ok x
judged_by (refuse k p) x = Refused k p

-- the first j entries
unfoldable pub earlier : List ℕ → ℕ → ℕ → List Ref
earlier f base zero = []
earlier f base (suc j) = earlier f base j ++ (ref_of base (chunks_from f base) (entry_from (drop (place j) f)) ∷ [])

-- the entry before entry j starts at x; where there is none, x is where the chunks behind the index begin
pub record Before (f : List ℕ) (base j x : ℕ) : Type 0 where
  pub starts : start_of base (chunks_from f base) (last_place (earlier f base j)) ≡ x
  pub inside : last_place (earlier f base j) ≤ length (chunks_from f base)

-- entries i and j have the same usage and number
abbrev pub same_pair : List ℕ → ℕ → ℕ → Bool
same_pair f i j = eqb (usage_at f (place i)) (usage_at f (place j)) && eqb (number_at f (place i)) (number_at f (place j))

-- 12 to 16 and 27 of n entries from entry j on
unfoldable pub entries_from : (profile : ℕ) → List ℕ → ℕ → ℕ → ℕ → Verdict
entries_from profile f base j n = entries_fault (rules_of profile) base (chunks_from f base) (earlier f base j) (place j) (entries_in n (drop (place j) f))

-- the entries before j that have its usage have numbers below top
abbrev pub Topped : List ℕ → ℕ → ℕ → Type 0
Topped f j top = (i : ℕ) → i < j → usage_at f (place i) ≡ usage_at f (place j) → number_at f (place i) < top

-- tops by usage
abbrev pub slot_of : ℕ → ℕ
slot_of u = u / 16777216 % 8

abbrev pub Below : List ℕ → List ℕ → ℕ → Type 0
Below f tops j = (i : ℕ) → i < j → number_at f (place i) < get_or tops (slot_of (usage_at f (place i))) 0

-- the place of the first entry with this usage and number; their number where there is none
unfoldable pub pair_place : ℕ → ℕ → List Entry → ℕ
pair_place u n [] = 0
pair_place u n (e ∷ es) = cond (eqb e.usage u && eqb e.number n) 0 (suc (pair_place u n es))

-- that place, where there is such an entry
abbrev pub place_in : ℕ → ℕ → List Entry → Option ℕ
place_in u n es = cond (ltb (pair_place u n es) (length es)) (Some (pair_place u n es)) None

-- an entry other than entry i has the start x; the entries stand from place j on
unfoldable pub start_again_of : ℕ → ℕ → ℕ → List Entry → Bool
start_again_of x i j [] = false
start_again_of x i j (e ∷ es) = (not (eqb j i) && eqb e.start x) || start_again_of x i (suc j) es
