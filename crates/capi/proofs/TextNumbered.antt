-- `refusal` is 0 exactly where a text was given: 22, 36 to 39 and the reader's numbers are none of them 0.
use Rattle.std.specs.Prelude.{Result, Ok, Option, Some, None}
use Rattle.blorb.specs.declared.refusal.Refusal.{Refusal}
use Rattle.blorb.specs.Refusals.{Refused, verdict_of, answer_by}
use mathlib.Core.Path.{◌≡◌, refl}
use Prim.Native.Nat.{ℕ, zero, suc, ◌+◌}
use mathlib.Core.List.{List, [], ◌∷◌, ◌++◌}
use mathlib.Core.Bool.{Bool, true, false, not, cond}
use native.Mathlib.Omega.{arith}
use lib.ListN.{length}
use Rattle.blorb.specs.Verdict.{Verdict, accept, refuse, ◌then◌, pair_in}
use Rattle.blorb.specs.Rules.{profile_verdict}
use Rattle.blorb.specs.Model.{base, model}
use Rattle.reader.specs.Reading.{read_of, read_by, index_of}
use Rattle.locate.specs.Located.{Spot, of_type, located_in, located_of, data_at}
use Rattle.locate.specs.declared.Located.{Located}
use Rattle.locate.specs.declared.Located.TheVariants as located
use Rattle.utf8.specs.Utf8.{good_length_of}
use Rattle.rdes.specs.Rdes.{RDes, Desc, pair_among, good_text, entries_fault, fills, descs_of, chunk_fault}
use Rattle.descriptions.specs.declared.Described.{Described}
use Rattle.descriptions.specs.declared.Told.{Told}
use Rattle.descriptions.specs.Texts.{located_fault, rdes_verdict, answered_by, or_22, of_one, described_of, told_of}
use Rattle.capi.specs.Numbered.{Numbered}
use Rattle.capi.specs.TextNumbers.{text_numbers, told_numbers}
use Rattle.capi.proofs.Numbered.{one, both, positive}
use Rattle.capi.proofs.TableNumbered.{not_zero}

entries-numbered : (earlier : List Desc) (p : ℕ) (es : List Desc) → Numbered (entries_fault earlier p es)
unfolding entries_fault
entries-numbered earlier p [] = unfold Numbered in tt
entries-numbered earlier p (e ∷ es) =
    both _ _ (one (not (pair_among e.usage e.number earlier)) 38 p (omega arith))
    (both _ _ (one (good_text e.text) 39 (p + 12 + good_length_of e.text) (omega arith)) (entries-numbered (earlier ++ (e ∷ [])) _ es))

chunk-numbered : (d : List ℕ) (x : ℕ) → Numbered (chunk_fault d x)
unfolding chunk_fault
chunk-numbered d x = both _ _ (one (fills d) 37 x (omega arith)) (entries-numbered [] (x + 12) (descs_of d))

rdes_numbered : (profile : ℕ) (f : List ℕ) → Numbered (rdes_verdict profile f)
unfolding rdes_verdict located_of read_of
rdes_numbered profile f = go (profile_verdict profile f) (λ k p r. not_zero profile f k p r)
  where
    spots : (xs : List Spot) → Numbered (located_fault f (Ok (located_in xs)))
    spots [] = unfold Numbered in tt
    spots (x ∷ []) = chunk-numbered (data_at f x.start x.amount) x.start
    spots (x ∷ (y ∷ ys)) = both _ _ (chunk-numbered (data_at f x.start x.amount) x.start) (unfold Numbered in omega arith)

    go : (v : Verdict) → ((k p : ℕ) → read_by v (length f) (length (index_of f)) ≡ Refused k p → k ≡ 0 → ⊥)
        → Numbered (located_fault f (answer_by v (located_in (of_type RDes (base (length (model f).refs)) (model f).chunks))))
    go accept h = spots (of_type RDes (base (length (model f).refs)) (model f).chunks)
    go (refuse zero p) h = absurd (h 0 p refl refl)
    go (refuse (suc k) p) h = unfold Numbered in omega arith

-- an answer whose verdict has a number has one too
answered-numbered : {A : Type 0} (v : Verdict) (r : Result A Refusal) → Numbered v → Numbered (verdict_of r) → Numbered (verdict_of (answered_by v r))
answered-numbered accept r n h = h
answered-numbered (refuse k p) r n h = n

or-numbered : {A : Type 0} (o : Option A) → Numbered (verdict_of (or_22 o))
unfolding Numbered
or-numbered (Some a) = tt
or-numbered None = omega arith

one-numbered : {A : Type 0} (f : List ℕ) (g : ℕ → ℕ → Option A) (l : Result Located Refusal) → Numbered (located_fault f l) → Numbered (verdict_of (of_one g l))
one-numbered f g (Ok located.Nothing) n = unfold Numbered in omega arith
one-numbered f g (Ok (located.One x m)) n = or-numbered (g x m)
one-numbered f g (Ok (located.More x m y)) n = unfold Numbered in omega arith
one-numbered f g (Refused k p) n = n

-- a text given by entry, and one told by pair
abbrev IsGiven : Result Described Refusal → Type 0
IsGiven r = (d : Described) × (r ≡ Ok d)

abbrev IsTold : Result Told Refusal → Type 0
IsTold r = (t : Told) × (r ≡ Ok t)

given-by : (r : Result Described Refusal) → Numbered (verdict_of r) → (text_numbers r).refusal ≡ 0 → IsGiven r
given-by (Ok d) n e = (d, refl)
given-by (Refused k p) n e = absurd (omega (arith, positive k p n, e))

told-by : (u k : ℕ) (r : Result Told Refusal) → Numbered (verdict_of r) → (told_numbers u k r).refusal ≡ 0 → IsTold r
told-by u k (Ok t) n e = (t, refl)
told-by u k (Refused j p) n e = absurd (omega (arith, positive j p n, e))

text-numbered : (profile : ℕ) (f : List ℕ) (i : ℕ) → Numbered (verdict_of (described_of profile f i))
unfolding described_of rdes_verdict
text-numbered profile f i =
    let n = rdes_numbered profile f in
    answered-numbered (located_fault f (located_of profile f RDes)) _ n (one-numbered f _ (located_of profile f RDes) n)

pub zero-text : (profile : ℕ) (f : List ℕ) (i : ℕ) → (text_numbers (described_of profile f i)).refusal ≡ 0 → IsGiven (described_of profile f i)
zero-text profile f i e = given-by (described_of profile f i) (text-numbered profile f i) e

listed : (b : Bool) (r : Result Told Refusal) → Numbered (verdict_of r) → Numbered (verdict_of (cond b r (Refused 22 0)))
listed true r n = n
listed false r n = unfold Numbered in omega arith

told-numbered : (profile : ℕ) (f : List ℕ) (u k : ℕ) → Numbered (verdict_of (told_of profile f u k))
unfolding told_of rdes_verdict
told-numbered profile f u k =
    let n = rdes_numbered profile f in
    answered-numbered (located_fault f (located_of profile f RDes)) _ n
    (listed (pair_in u k (model f).refs) _ (one-numbered f _ (located_of profile f RDes) n))

pub zero-told : (profile : ℕ) (f : List ℕ) (u k : ℕ) → (told_numbers u k (told_of profile f u k)).refusal ≡ 0 → IsTold (told_of profile f u k)
zero-told profile f u k e = told-by u k (told_of profile f u k) (told-numbered profile f u k) e
