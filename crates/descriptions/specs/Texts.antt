-- What is read of a file's texts (02, P7), as functions of the profile and the file's bytes. x is the start of an 'RDes', m the length of its data.
use Rattle.std.specs.Prelude.{ℕ, zero, suc, ◌+◌, List, [], Bool, true, false, ◌&&◌, cond, take, drop, eqb, ltb, Option, Some, None, Result, Ok}
use Rattle.blorb.specs.Bytes.{rd32}
use Rattle.blorb.specs.Verdict.{Verdict, accept, refuse, ◌then◌, pair_in}
use Rattle.blorb.specs.Refusals.{Refused}
use Rattle.blorb.specs.declared.refusal.Refusal.{Refusal}
use Rattle.blorb.specs.Model.{model}
use Rattle.rdes.specs.Rdes.{RDes, usage_at, number_at, size_at, next_at, offset_of, chunk_fault}
use Rattle.locate.specs.Located.{located_of, data_at}
use Rattle.locate.specs.declared.Located.{Located}
use Rattle.locate.specs.declared.Located.TheVariants as located
use Rattle.descriptions.specs.declared.Described.{Described}
use Rattle.descriptions.specs.declared.Told.{Told}

-- "36 a second 'RDes'", "at the chunk's start", "by chunk position": the first one's own faults come before it
abbrev pub located_fault : List ℕ → Result Located Refusal → Verdict
located_fault f (Ok located.Nothing) = accept
located_fault f (Ok (located.One x m)) = chunk_fault (data_at f x m) x
located_fault f (Ok (located.More x m y)) = chunk_fault (data_at f x m) x then refuse 36 y
located_fault f (Refused k p) = refuse k p

-- "Refusals, after the reader's own": 52 and the reader's, then 36 to 39
unfoldable pub rdes_verdict : (profile : ℕ) → List ℕ → Verdict
rdes_verdict profile f = located_fault f (located_of profile f RDes)

-- an answer of a file that the verdict accepts; else its refusal
abbrev pub answered_by : {A : Type 0} → Verdict → Result A Refusal → Result A Refusal
answered_by accept a = a
answered_by (refuse k p) a = Refused k p

-- "22 if there is none"
abbrev pub or_22 : {A : Type 0} → Option A → Result A Refusal
or_22 (Some a) = Ok a
or_22 None = Refused 22 0

-- an answer by the one 'RDes' of a file
abbrev pub of_one : {A : Type 0} → (ℕ → ℕ → Option A) → Result Located Refusal → Result A Refusal
of_one g (Ok (located.One x m)) = or_22 (g x m)
of_one g (Ok located.Nothing) = Refused 22 0
of_one g (Ok (located.More x m y)) = Refused 36 y
of_one g (Refused k p) = Refused k p

-- "Read it by entry from 0 (usage, number and text, 22 if there is none)": the pair of the entry at an offset, where its text stands in the file, and
-- the text's length
abbrev pub described_with : ℕ → ℕ → ℕ → ℕ → Described
described_with u k a m = record { usage = u; number = k; start = a; length = m }

abbrev pub given_at : List ℕ → ℕ → ℕ → Described
given_at d x at = described_with (usage_at d at) (number_at d at) (x + 8 + at + 12) (size_at d at)

abbrev pub get_of : List ℕ → ℕ → ℕ → Option Described
get_of d x i = cond (ltb i (rd32 d)) (Some (given_at d x (offset_of d i 4))) None

unfoldable pub described_of : (profile : ℕ) → List ℕ → ℕ → Result Described Refusal
described_of profile f i = answered_by (rdes_verdict profile f) (of_one (λ x m. get_of (data_at f x m) x i) (located_of profile f RDes))

-- "look a text up by pair": the first of n entries from at on that has it; base is where the data stand in the file
abbrev pub told_with : ℕ → ℕ → Told
told_with a m = record { start = a; length = m }

unfoldable pub tell_from_of : ℕ → ℕ → List ℕ → ℕ → ℕ → ℕ → Option Told
tell_from_of u k d base zero at = None
tell_from_of u k d base (suc n) at =
    cond (eqb (usage_at d at) u && eqb (number_at d at) k) (Some (told_with (base + at + 12) (size_at d at))) (tell_from_of u k d base n (next_at d at))

abbrev pub tell_of : ℕ → ℕ → List ℕ → ℕ → Option Told
tell_of u k d x = tell_from_of u k d (x + 8) (rd32 d) 4

-- "Entries for resources not in the index are checked, but looked up answer 22, as any pair without a text does"
unfoldable pub told_of : (profile : ℕ) → List ℕ → ℕ → ℕ → Result Told Refusal
told_of profile f u k =
    answered_by (rdes_verdict profile f)
    (cond (pair_in u k (model f).refs) (of_one (λ x m. tell_of u k (data_at f x m) x) (located_of profile f RDes)) (Refused 22 0))

-- the part of the file that an answer names, empty for a refusal; where it begins in the caller's slice, and where it lies in memory for a slice that
-- lies at p: a block and an offset in it
abbrev pub text_of : Result Described Refusal → List ℕ → List ℕ
text_of (Ok r) f = take r.length (drop r.start f)
text_of (Refused k p) f = []

abbrev pub text_start : Result Described Refusal → ℕ
text_start (Ok r) = r.start
text_start (Refused k p) = 0

abbrev pub text_place : Result Described Refusal → ℕ × ℕ → ℕ × ℕ
text_place r p = (p.0, text_start r + p.1)

abbrev pub told_text_of : Result Told Refusal → List ℕ → List ℕ
told_text_of (Ok r) f = take r.length (drop r.start f)
told_text_of (Refused k p) f = []

abbrev pub told_start : Result Told Refusal → ℕ
told_start (Ok r) = r.start
told_start (Refused k p) = 0

abbrev pub told_place : Result Told Refusal → ℕ × ℕ → ℕ × ℕ
told_place r p = (p.0, told_start r + p.1)
