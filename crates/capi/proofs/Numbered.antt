-- `refusal` is 0 exactly where a call was carried out: no refusal of the papers has the number 0.
use Rattle.std.specs.Prelude.{Option, Some, None}
use mathlib.Core.Path.{◌≡◌, refl}
use Prim.Native.Nat.{ℕ, zero, suc, ◌+◌, ◌≤◌, ◌<◌}
use mathlib.Core.List.{List, [], ◌∷◌, ◌++◌}
use mathlib.Core.Bool.{Bool, true, false, cond}
use native.Mathlib.Omega.{arith}
use lib.ListN.{length, get_or, take}
use lib.Dec.{eqb, leb, ltb}
use borrow.Author.Tests.{leb-true, ltb-true}
use Rattle.blorb.specs.Bytes.{rd32}
use Rattle.blorb.specs.Format.{Chunk, Entry, Ref, ref_of, size}
use Rattle.blorb.specs.Tags.{RelN, Fspc}
use Rattle.blorb.specs.Verdict.{
  Rules,
  Verdict,
  accept,
  refuse,
  ◌then◌,
  check,
  head_fault,
  chunk_fault,
  walk_fault,
  second_index,
  index_fault,
  ref_fault,
  entries_fault,
  rest_fault,
  layout_fault,
  verdict,
  reading,
}
use Rattle.blorb.specs.Rules.{rules_of, profile_verdict, picture, single, chunk_rule, chunk_rules, optional}
use Rattle.edits.specs.Edit.{Edit, add, replace, remove, link}
use Rattle.edits.specs.Run.{State, Call, edit, undo, hundred, whole_fault, target_fault, edited_file, edit_fault, undo_fault, fault}
use Rattle.blorb.specs.Model.{Model}
use Rattle.reader.specs.Reading.{index_of, no_entry, read_by, read_of, entry_by, asked_by, asked_of, found_by, looked_by, lookup_of}
use Rattle.index.specs.Hits.{hit_in}
use Rattle.capi.specs.Numbers.{refusal_number, read_numbers, entry_numbers, lookup_numbers, edit_numbers}
use Rattle.editor.specs.Called.{blank_answer}
use Rattle.capi.specs.Numbered.{Numbered}

none : Numbered accept
unfolding Numbered
none = tt

pub positive : (k p : ℕ) → Numbered (refuse k p) → 0 < k
unfolding Numbered
positive k p h = h

pub one : (b : Bool) (k p : ℕ) → 0 < k → Numbered (check b k p)
unfolding check Numbered
one true k p h = tt
one false k p h = h

pub both : (v w : Verdict) → Numbered v → Numbered w → Numbered (v then w)
unfolding ◌then◌ Numbered
both accept w hv hw = hw
both (refuse k p) w hv hw = hv

either : (b : Bool) (v w : Verdict) → Numbered v → Numbered w → Numbered (cond b v w)
either true v w hv hw = hv
either false v w hv hw = hw

-- a check, and what comes behind it
pub more : (b : Bool) (k p : ℕ) (v : Verdict) → 0 < k → Numbered v → Numbered (check b k p then v)
more b k p v h hv = both (check b k p) v (one b k p h) hv

head : (f : List ℕ) → Numbered (head_fault f)
unfolding head_fault
head f = more _ _ _ _ (omega arith) (more _ _ _ _ (omega arith) (more _ _ _ _ (omega arith) (more _ _ _ _ (omega arith) (one _ _ _ (omega arith)))))

chunk : (at : ℕ) (s : List ℕ) → Numbered (chunk_fault at s)
unfolding chunk_fault
chunk at s = more _ _ _ _ (omega arith) (more _ _ _ _ (omega arith) (more _ _ _ _ (omega arith) (one _ _ _ (omega arith))))

walk : (k at : ℕ) (s : List ℕ) → Numbered (walk_fault k at s)
unfolding walk_fault
walk zero at s = none
walk (suc k) at [] = none
walk (suc k) at (b ∷ s) = both _ _ (chunk at (b ∷ s)) (walk k _ _)

second : (at : ℕ) (cs : List Chunk) → Numbered (second_index at cs)
unfolding second_index
second at [] = none
second at (c ∷ cs) = more _ _ _ _ (omega arith) (second (at + size c) cs)

index : (d : List ℕ) → Numbered (index_fault d)
unfolding index_fault
index d = more _ _ _ _ (omega arith) (one _ _ _ (omega arith))

ref : (R : Rules) (cs : List Chunk) (earlier : List Ref) (p : ℕ) (r : Ref) → Numbered (ref_fault R cs earlier p r)
unfolding ref_fault
ref R cs earlier p r = more _ _ _ _ (omega arith) (more _ _ _ _ (omega arith) (one _ _ _ (omega arith)))

entries : (R : Rules) (at : ℕ) (cs : List Chunk) (earlier : List Ref) (p : ℕ) (es : List Entry) → Numbered (entries_fault R at cs earlier p es)
unfolding entries_fault
entries R at cs earlier p [] = none
entries R at cs earlier p (e ∷ es) =
    more _ _ _ _ (omega arith) (more _ _ _ _ (omega arith) (both _ _ (ref R cs earlier p (ref_of at cs e))
    (more _ _ _ _ (omega arith) (entries R at cs (earlier ++ (ref_of at cs e ∷ [])) (p + 12) es))))

only : (rs : List Ref) (all : List Chunk) (t n : ℕ) (earlier : List Chunk) (at : ℕ) (c : Chunk) → Numbered (single rs all t n earlier at c)
unfolding single
only rs all t n earlier at c = more _ _ _ _ (omega arith) (one _ _ _ (omega arith))

rule : (rs : List Ref) (all earlier : List Chunk) (at : ℕ) (c : Chunk) → Numbered (chunk_rule rs all earlier at c)
unfolding chunk_rule
rule rs all earlier at c =
    either (eqb c.type RelN) _ _ (only rs all RelN 2 earlier at c)
    (either (eqb c.type Fspc) _ _ (both (single rs all Fspc 4 earlier at c) _ (only rs all Fspc 4 earlier at c) (one (picture (rd32 c.body) all rs) 19
    (at + 8) (omega arith))) none)

rules : (rs : List Ref) (all earlier : List Chunk) (at : ℕ) (cs : List Chunk) → Numbered (chunk_rules rs all earlier at cs)
unfolding chunk_rules
rules rs all earlier at [] = none
rules rs all earlier at (c ∷ cs) = both _ _ (rule rs all earlier at c) (rules rs all (earlier ++ (c ∷ [])) (at + size c) cs)

layout : (profile : ℕ) (cs : List Chunk) → Numbered (layout_fault (rules_of profile) cs)
unfolding layout_fault rest_fault optional
layout profile [] = unfold Numbered in omega arith
layout profile (c ∷ cs) =
    more _ _ _ _ (omega arith)
    (both _ _ (second _ cs) (both _ _ (index c.body) (both _ _ (entries (rules_of profile) _ cs [] 24 _) (rules _ cs [] _ cs))))

judged : (profile : ℕ) (f : List ℕ) → Numbered (verdict (rules_of profile) f)
unfolding verdict
judged profile f = both _ _ (head f) (both _ _ (walk _ 12 _) (layout profile _))

-- what the reader answers
answer : (profile : ℕ) (f : List ℕ) → Numbered (profile_verdict profile f)
unfolding profile_verdict reading
answer profile f = more _ 52 0 _ (omega arith) (judged profile f)

raised : (v : Verdict) → Numbered (hundred v)
unfolding Numbered
raised accept = tt
raised (refuse k p) = omega arith

whole : (t : ℕ) (d : List ℕ) → Numbered (whole_fault t d)
unfolding whole_fault
whole t d = one _ _ _ (omega arith)

target : (m : Model) (e : Edit) → Numbered (target_fault m e)
unfolding target_fault
target m (add u n t d) = whole t d
target m (replace u n t d) = more _ _ _ _ (omega arith) (more _ _ _ _ (omega arith) (whole t d))
target m (remove u n) = one _ _ _ (omega arith)
target m (link v o u n) = one _ _ _ (omega arith)

called : (profile : ℕ) (s : State) (c : Call) → Numbered (fault (rules_of profile) s c)
unfolding fault edit_fault undo_fault
called profile s (edit e) =
    let f = take s.L s.buffer in
    more _ 52 0 _ (omega arith)
    (more _ 20 0 _ (omega arith)
    (both _ _ (judged profile f)
    (both _ _ (target _ e) (both _ _ (raised (verdict (rules_of profile) (edited_file f e))) (more _ 24 0 _ (omega arith) (one _ 25 0 (omega arith)))))))
called profile s undo =
    more _ 52 0 _ (omega arith)
    (more _ 20 0 _ (omega arith)
    (both _ _ (judged profile _) (more _ 26 0 _ (omega arith) (more _ 21 0 _ (omega arith) (one _ 24 0 (omega arith))))))

zero_accepts : (v : Verdict) → Numbered v → refusal_number v ≡ 0 → v ≡ accept
zero_accepts accept h e = refl
zero_accepts (refuse k p) h e = absurd (omega (arith, positive k p h, e))

-- a call that edits and whose `refusal` is 0 was carried out
pub zero-done : (profile : ℕ) (s : State) (c : Call) → refusal_number (fault (rules_of profile) s c) ≡ 0 → fault (rules_of profile) s c ≡ accept
zero-done profile s c e = zero_accepts _ (called profile s c) e

-- a file whose `refusal` is 0 is accepted
pub zero_reads : (profile : ℕ) (f : List ℕ) → (read_numbers (read_of profile f)).refusal ≡ 0 → profile_verdict profile f ≡ accept
unfolding read_of
zero_reads profile f e = go (profile_verdict profile f) (answer profile f) e
  where
    go : (v : Verdict) → Numbered v → (read_numbers (read_by v (length f) (length (index_of f)))).refusal ≡ 0 → v ≡ accept
    go accept h e = refl
    go (refuse k p) h e = absurd (omega (arith, positive k p h, e))

-- an entry whose `refusal` is 0 is one of the index of an accepted file
pub zero-entry : (profile : ℕ) (f : List ℕ) (i : ℕ) → (entry_numbers (asked_of profile f i)).refusal ≡ 0
    → (profile_verdict profile f ≡ accept) × (i < length (index_of f))
unfolding asked_of
zero-entry profile f i e = go (profile_verdict profile f) (answer profile f) e
  where
    below : (b : Bool) (x : Entry) → ltb i (length (index_of f)) ≡ b → (entry_numbers (entry_by b x i)).refusal ≡ 0 → i < length (index_of f)
    below true x t e = ltb-true i (length (index_of f)) t
    below false x t e = absurd (omega (arith, e))

    go : (v : Verdict) → Numbered v → (entry_numbers (asked_by v (index_of f) i)).refusal ≡ 0 → (v ≡ accept) × (i < length (index_of f))
    go accept h e = (refl, below (ltb i (length (index_of f))) (get_or (index_of f) i no_entry) refl e)
    go (refuse k p) h e = absurd (omega (arith, positive k p h, e))

-- a lookup whose `refusal` is 0 found an entry of an accepted file
pub zero_found : (profile : ℕ) (f : List ℕ) (u n : ℕ) → (lookup_numbers (lookup_of profile f u n)).refusal ≡ 0
    → (profile_verdict profile f ≡ accept) × ((x : ℕ) × (hit_in u n (index_of f) ≡ Some x))
unfolding lookup_of
zero_found profile f u n e = go (profile_verdict profile f) (answer profile f) e
  where
    hit : (x : Option ℕ) → hit_in u n (index_of f) ≡ x → (lookup_numbers (found_by f x)).refusal ≡ 0 → (x : ℕ) × (hit_in u n (index_of f) ≡ Some x)
    hit (Some x) t e = (x, t)
    hit None t e = absurd (omega (arith, e))

    go : (v : Verdict) → Numbered v → (lookup_numbers (looked_by v (found_by f (hit_in u n (index_of f))))).refusal ≡ 0
        → (v ≡ accept) × ((x : ℕ) × (hit_in u n (index_of f) ≡ Some x))
    go accept h e = (refl, hit (hit_in u n (index_of f)) refl e)
    go (refuse k p) h e = absurd (omega (arith, positive k p h, e))

-- a blank whose `refusal` is 0 had room
pub zero-blank : (b : List ℕ) → (edit_numbers (blank_answer (leb 24 (length b)))).refusal ≡ 0 → 24 ≤ length b
zero-blank b e = go (leb 24 (length b)) refl e
  where
    go : (t : Bool) → leb 24 (length b) ≡ t → (edit_numbers (blank_answer t)).refusal ≡ 0 → 24 ≤ length b
    go true t e = leb-true 24 (length b) t
    go false t e = absurd (omega (arith, e))
