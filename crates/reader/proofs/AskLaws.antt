-- What an accepted file's entries and lookups give.
use Rattle.std.specs.Prelude.{Ok, Some, None, Option}
use Rattle.blorb.specs.Refusals.{Refused}
use Rattle.blorb.proofs.RefusalLaws.{same_refusal}
use Rattle.reader.specs.declared.Accepted.{Accepted}
use Rattle.reader.specs.declared.Resource.{Resource}
use mathlib.Core.Path.{◌≡◌, refl, sym, ap, ◌∙◌}
use Prim.Native.Nat.{ℕ, zero, suc, ◌+◌, ◌-◌, ◌≤◌, ◌<◌}
use mathlib.Core.List.{List, [], ◌∷◌, ◌++◌}
use mathlib.Core.Bool.{true, false}
use native.Mathlib.Omega.{arith}
use native.Mathlib.Nat.{not-suc-le-zero, le_of_suc-le-suc}
use lib.ListN.{length, get_or, drop}
use lib.Seq.{drop-drop}
use borrow.Author.Tests.{lt-ltb, le-ltb}
use Rattle.blorb.specs.Bytes.{rd32}
use Rattle.blorb.specs.Format.{Entry, Ref, ref_of, chunk_in, entry_from, entries_in}
use Rattle.blorb.specs.Verdict.{Rules, Verdict, accept, refuse, entries_fault, known_usage_of, verdict}
use Rattle.blorb.specs.Rules.{rules_of, profile_verdict}
use Rattle.chunks.specs.Walk.{chunk_from, skip_at, chunks_from}
use Rattle.blorb.proofs.Checks.{then_accept, check_accept}
use Rattle.chunks.proofs.ChunkLaws.{fine}
use Rattle.blorb.proofs.UsageLaws.{known_not}
use Rattle.blorb.specs.Lookup.{left_out_of}
use Rattle.blorb.proofs.ShownLaws.{left_most}
use Rattle.index.specs.Entries.{usage_at, number_at, start_at, place, earlier}
use Rattle.blorb.specs.Usages.{usage_of}
use Rattle.blorb.specs.declared.Usage.{Usage}
use Rattle.reader.specs.Reading.{found_with, accepted_with, index_of, read_by, read_of, given_by, no_entry, asked_of, found_by, looked_by, lookup_of}
use Rattle.index.specs.Hits.{hit_in}
use Rattle.index.specs.Optional.{EntriesPassed}
use Rattle.reader.specs.Passed.{Passed, model_at}
use Rattle.blorb.specs.Model.{model}
use Rattle.blorb.proofs.Profiles.{profile_accept}
use Rattle.blorb.proofs.Accept.{accept_short}
use Rattle.blorb.proofs.EntryList.{length-entries_in, entry-get_or}
use Rattle.index.proofs.IndexLaws.{hit_begun}
use Rattle.index.proofs.OptionalLaws.{optional-is}
use Rattle.reader.proofs.ReadLaws.{whole, layout, is-judged, index_of_lem, model_of, v3, v5}

-- a file that the reader accepts, with count entries
pub record Good (profile : ℕ) (f : List ℕ) (count : ℕ) : Type 0 where
  pub verdict : profile_verdict profile f ≡ accept
  pub passed : Passed f count
  pub index : index_of f ≡ entries_in count (drop 24 f)
  pub many : length (index_of f) ≡ count
  pub model : model f ≡ model_at f count

pub good : (profile : ℕ) (f : List ℕ) → profile_verdict profile f ≡ accept → Good profile f (rd32 (drop 20 f))
good profile f h =
    let v : verdict (rules_of profile) f ≡ accept = (profile_accept profile f h).1 in
    let a1 = then_accept _ _ (sym (whole profile f) ∙ v) in
    let a2 = then_accept _ _ a1.1 in
    let a3 = then_accept _ _ (sym (layout profile f a2.0) ∙ a2.1) in
    let a4 = then_accept _ _ (sym (v3 profile f a1.0 a2.0 a3.0 (skip_at f 12) refl) ∙ v) in
    let a5 = then_accept _ _ a4.1 in
    let count : ℕ = rd32 (drop 20 f) in
    let a6 = then_accept _ _ (sym (v5 profile f a1.0 a2.0 a3.0 (skip_at f 12) refl a4.0 a5.0 count refl) ∙ v) in
    let is : index_of f ≡ entries_in count (drop 24 f) = index_of_lem f a2.0 a3.0 a5.0 count refl in
    let j : EntriesPassed f count = is-judged profile f a1.0 a2.0 a3.0 (skip_at f 12) refl a4.0 a5.0 count refl a6.0 in
    record {
      verdict = h;
      passed = record {
        judged = j;
        optional = sym (optional-is j.rules f count j.walks j.entries) ∙ a6.1;
        short =
            accept_short (rules_of profile) f v;
      };
      index = is;
      many = ap length is ∙ length-entries_in count (drop 24 f);
      model = model_of f a2.0 a3.0 a5.0 count refl;
    }

pub read_go : (v : Verdict) (l n a b : ℕ) → read_by v a b ≡ accepted_with l n → (v ≡ accept) × (a ≡ l) × (b ≡ n)
read_go accept l n a b e =
    let z : ◌≡◌ {A = Accepted} (record { length = a; count = b }) (record { length = l; count = n }) = cc in
    (refl, ap (λ (x : Accepted). x.length) z, ap (λ (x : Accepted). x.count) z)
read_go (refuse k p) l n a b e = let z : ◌≡◌ {A = ℕ} 0 1 = cc in absurd (omega arith)

read_no : (v : Verdict) (k p a b : ℕ) → read_by v a b ≡ Refused k p → v ≡ refuse k p
read_no accept k p a b e = let z : ◌≡◌ {A = ℕ} 0 1 = cc in absurd (omega arith)
read_no (refuse x y) k p a b e = let q = same_refusal e in rw (q.0, q.1)

module _ (profile : ℕ) (f : List ℕ) where
  pub accepted : (l n : ℕ) → read_of profile f ≡ accepted_with l n → Good profile f n
  unfolding read_of
  accepted l n e =
      let q = read_go (profile_verdict profile f) l n (length f) (length (index_of f)) e in
      let g = good profile f q.0 in
      let c : rd32 (drop 20 f) ≡ n = sym g.many ∙ q.2 in
      rw c at g

  pub refused : (k p : ℕ) → profile_verdict profile f ≡ refuse k p → read_of profile f ≡ Refused k p
  unfolding read_of
  refused k p e = rw e

  pub refused_as : (k p : ℕ) → read_of profile f ≡ Refused k p → profile_verdict profile f ≡ refuse k p
  unfolding read_of
  refused_as k p e = read_no (profile_verdict profile f) k p (length f) (length (index_of f)) e

module _ (profile : ℕ) (f : List ℕ) (i : ℕ) where
  pub entry_no : (k p : ℕ) → profile_verdict profile f ≡ refuse k p → Refused k p ≡ asked_of profile f i
  unfolding asked_of
  entry_no k p e = rw e

  module _ (n : ℕ) (g : Good profile f n) where
    pub entry_22 : n ≤ i → Refused 22 0 ≡ asked_of profile f i
    unfolding asked_of
    entry_22 l = rw (g.verdict, g.many, le-ltb i n l)

    pub entry-there : i < n → given_by (usage_of (usage_at f (place i))) (number_at f (place i)) (start_at f (place i)) (place i) ≡ asked_of profile f i
    unfolding asked_of entry_from
    entry-there l =
        rw (g.verdict, g.many, lt-ltb i n l, g.index, entry-get_or f n i 24 no_entry l, drop-drop 4 (place i) f, drop-drop 8 (place i) f)

module _ (profile : ℕ) (f : List ℕ) (u n : ℕ) where
  pub look_no : (k p : ℕ) → profile_verdict profile f ≡ refuse k p → Refused k p ≡ lookup_of profile f u n
  unfolding lookup_of
  look_no k p e = rw e

  module _ (count : ℕ) (g : Good profile f count) where
    pub look_on : lookup_of profile f u n ≡ found_by f (hit_in u n (entries_in count (drop 24 f)))
    unfolding lookup_of
    look_on = rw (g.verdict, g.index)

    pub look_22 : hit_in u n (entries_in count (drop 24 f)) ≡ None → Refused 22 0 ≡ lookup_of profile f u n
    look_22 e = sym (look_on ∙ rw e)

    pub look_found : (x t m k : ℕ) → hit_in u n (entries_in count (drop 24 f)) ≡ Some x → t ≡ rd32 (drop x f) → m ≡ rd32 (drop (x + 4) f) → k ≡ left_out_of t
        → found_with t (x + k) (8 + m - k) ≡ lookup_of profile f u n
    unfolding chunk_in
    look_found x t m k e et em ek =
        let b = hit_begun f count u n x g.passed.judged e in
        let l : length (chunk_from f x).body ≡ m = (fine f x b.0 b.1).bodied ∙ sym em in
        sym (look_on ∙ rw (e, l, ← et, ← ek))

-- the part that a lookup names lies in the file
part_go : (profile : ℕ) (f : List ℕ) (u n count t a m : ℕ) (g : Good profile f count) (x : Option ℕ) → hit_in u n (entries_in count (drop 24 f)) ≡ x
    → found_by f x ≡ found_with t a m → a + m ≤ length f
part_go profile f u n count t a m g (Some x) e q =
    let b = hit_begun f count u n x g.passed.judged e in
    let i = fine f x b.0 b.1 in
    let z : ◌≡◌ {A = Resource} (record {
      kind = (chunk_from f x).type;
      start = x + left_out_of (chunk_from f x).type;
      length = 8 + length (chunk_from f x).body - left_out_of (chunk_from f x).type;
    }) (record { kind = t; start = a; length = m }) = cc in
    let ea : x + left_out_of (chunk_from f x).type ≡ a = ap (λ (r : Resource). r.start) z in
    let em : 8 + length (chunk_from f x).body - left_out_of (chunk_from f x).type ≡ m = ap (λ (r : Resource). r.length) z in
    omega (arith, left_most (chunk_from f x).type, i.inside, i.next, i.bodied)
part_go profile f u n count t a m g None e q = let z : ◌≡◌ {A = ℕ} 0 1 = cc in absurd (omega arith)

look_go : (profile : ℕ) (f : List ℕ) (u n t a m : ℕ) (v : Verdict) → profile_verdict profile f ≡ v → looked_by v (found_by f (hit_in u n (index_of f))) ≡ found_with t
    a m → a + m ≤ length f
look_go profile f u n t a m accept e q =
    let g = good profile f e in
    part_go profile f u n (rd32 (drop 20 f)) t a m g (hit_in u n (entries_in (rd32 (drop 20 f)) (drop 24 f))) refl (rw g.index at q)
look_go profile f u n t a m (refuse k p) e q = let z : ◌≡◌ {A = ℕ} 0 1 = cc in absurd (omega arith)

pub part_in : (profile : ℕ) (f : List ℕ) (u n t a m : ℕ) → lookup_of profile f u n ≡ found_with t a m → a + m ≤ length f
unfolding lookup_of
part_in profile f u n t a m q = look_go profile f u n t a m (profile_verdict profile f) refl q

-- an entry by the numbers that the code has read
module _ (profile : ℕ) (f : List ℕ) (i n : ℕ) (g : Good profile f n) (l : i < n) (u : ℕ) (eu : u ≡ usage_at f (place i)) where
  pub entry_unknown : usage_of u ≡ None → Refused 12 (place i) ≡ asked_of profile f i
  entry_unknown e = rw (rw eu at e) at (entry-there profile f i n g l)

  pub entry_known : (k : Usage) (a x : ℕ) → usage_of u ≡ Some k → a ≡ number_at f (place i) → x ≡ start_at f (place i)
      → Ok (record { usage = k; number = a; start = x }) ≡ asked_of profile f i
  entry_known k a x e ea ex =
      let q : usage_of (usage_at f (place i)) ≡ Some k = rw eu at e in
      (λ j. Ok (record { usage = k; number = ea j; start = ex j })) ∙ (rw q at (entry-there profile f i n g l))

-- the entries of an accepted file have a known usage
pub known_at : (R : Rules) (f : List ℕ) (base : ℕ) (es : List Entry) (earlier : List Ref) (p i : ℕ) (d : Entry)
    → entries_fault R base (chunks_from f base) earlier p es ≡ accept → i < length es → known_usage_of (get_or es i d).usage ≡ true
unfolding entries_fault
known_at R f base [] earlier p i d h l = absurd (not-suc-le-zero l)
known_at R f base (e ∷ es) earlier p zero d h l = check_accept _ _ _ (then_accept _ _ h).0
known_at R f base (e ∷ es) earlier p (suc i) d h l =
    known_at R f base es (earlier ++ (ref_of base (chunks_from f base) e ∷ [])) (p + 12) i d
    (then_accept _ _ (then_accept _ _ (then_accept _ _ (then_accept _ _ h).1).1).1).1 (le_of_suc-le-suc l)

pub not_unknown : (u : ℕ) (k : Option Usage) → usage_of u ≡ k → known_usage_of u ≡ true → (x : Usage) × (usage_of u ≡ Some x)
not_unknown u (Some x) e h = (x, e)
not_unknown u None e h = let n : known_usage_of u ≡ false = known_not u e in let z : ◌≡◌ {A = ℕ} 0 1 = cc in absurd (omega arith)

pub given_as : (profile : ℕ) (f : List ℕ) (i : ℕ) → profile_verdict profile f ≡ accept → i < length (index_of f) → (x : Usage)
    → usage_of (get_or (index_of f) i no_entry).usage ≡ Some x
    → asked_of profile f i ≡ Ok (record { usage = x; number = (get_or (index_of f) i no_entry).number; start = (get_or (index_of f) i no_entry).start })
unfolding asked_of
given_as profile f i h l x e = rw (h, lt-ltb i (length (index_of f)) l, e)
