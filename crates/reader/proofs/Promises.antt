-- What the reader promises to whoever stands above it: laws over the definitions and the public contracts.
use Rattle.std.specs.Prelude.{Ok, Some, Result}
use Rattle.blorb.specs.Refusals.{Refused}
use Rattle.blorb.specs.declared.refusal.Refusal.{Refusal}
use Rattle.reader.specs.declared.Resource.{Resource}
use mathlib.Core.Path.{◌≡◌, refl, sym, ap, ◌∙◌}
use Prim.Native.Nat.{ℕ, ◌+◌, ◌-◌, ◌≤◌, ◌<◌}
use mathlib.Core.List.{List, [], map}
use mathlib.Core.Bool.{false}
use native.Mathlib.Omega.{arith}
use lib.ListN.{length, get_or, drop}
use lib.Seq.{drop-drop}
use borrow.Author.Tests.{le-leb, lt-leb, leb-true}
use Rattle.blorb.specs.Bytes.{rd32, Byte}
use Rattle.blorb.specs.Format.{Chunk, entry_from, entries_in}
use Rattle.blorb.specs.Verdict.{accept, refuse, head_fault, verdict, entries_fault, pair_in}
use Rattle.blorb.proofs.Checks.{pass, stop, refuses}
use Rattle.blorb.specs.Rules.{rules_of, profile_verdict}
use Rattle.blorb.specs.Model.{base, entry_of, file, model}
use Rattle.blorb.specs.Queries.{find, ref_at, start}
use Rattle.blorb.specs.Lookup.{missing, here, lookup, left_out_of, shown}
use Rattle.blorb.specs.declared.Usage.{Usage}
use Rattle.blorb.specs.All.{All}
use Rattle.blorb.specs.Sound.{Sound}
use Rattle.blorb.specs.Keeps.{KeepsUnder}
use Rattle.blorb.proofs.Accept.{accept_back, entry_of-ref_of}
use Rattle.blorb.proofs.Exactly.{under_exactly}
use Rattle.blorb.proofs.Profiles.{profile_accept, profile_known, plain_adrift}
use Rattle.blorb.proofs.ModelLaws.{entries}
use Rattle.chunks.specs.Walk.{chunk_from, chunks_from, walk_from}
use Rattle.index.specs.Entries.{usage_at, number_at, start_at, place}
use Rattle.index.specs.Optional.{EntriesPassed}
use Rattle.reader.specs.Passed.{model_at}
use Rattle.reader.specs.Reading.{found_with, accepted_with, index_of, read_of, no_entry, asked_of, found_at, lookup_of, part_of}
use Rattle.index.specs.Hits.{hit_in}
use Rattle.reader.specs.Inspecting.{inspection_of}
use Rattle.chunks.proofs.ChunkLaws.{fine}
use Rattle.chunks.proofs.StartLaws.{begun}
use Rattle.blorb.proofs.EntryList.{entry-get_or}
use Rattle.index.proofs.IndexLaws.{hit_start, hit_begun}
use Rattle.reader.proofs.AskLaws.{good, accepted, look_found, read_go, refused, refused_as, known_at, not_unknown, given_as}
use Rattle.reader.proofs.PartLaws.{refs_count, starts, unknown_profile}
use Rattle.reader.proofs.LookLaws.{part_at, either, only_hit, apart}

-- the reading of an accepted file: its length and the number of its model's entries; both within the limits
pub accepted_is : (profile : ℕ) (f : List ℕ) (l n : ℕ) → read_of profile f ≡ accepted_with l n
    → (l ≡ length f) × (n ≡ length (model f).refs) × (profile_verdict profile f ≡ accept) × (length f ≤ 16777216) × (n ≤ 4096)
unfolding read_of
accepted_is profile f l n e =
    let q = read_go (profile_verdict profile f) l n (length f) (length (index_of f)) e in
    let g = good profile f q.0 in
    let c : n ≡ rd32 (drop 20 f) = sym q.2 ∙ g.many in
    let m : length (model f).refs ≡ rd32 (drop 20 f) = rw g.model (refs_count f (rd32 (drop 20 f))) in
    (sym q.1, c ∙ sym m, q.0, g.passed.short, rw c g.passed.judged.few)

-- and it is its header, its index and its chunks, and nothing else
pub accepted-file : (profile : ℕ) (f : List ℕ) (l n : ℕ) → read_of profile f ≡ accepted_with l n → All Byte f → (file (model f) ≡ f) × Sound (model f)
accepted-file profile f l n e bytes = let q = accept_back (rules_of profile) f bytes (profile_accept profile f (accepted_is profile f l n e).2).1
    in (q.0, q.1)

-- a file that the verdict accepts is read so
pub accepted_when : (profile : ℕ) (f : List ℕ) → profile_verdict profile f ≡ accept → read_of profile f ≡ accepted_with (length f) (length (model f).refs)
unfolding read_of
accepted_when profile f h =
    let g = good profile f h in
    let m : length (index_of f) ≡ length (model f).refs = g.many ∙ sym (rw g.model (refs_count f (rd32 (drop 20 f)))) in
    rw h (ap (accepted_with (length f)) m)

-- the reader accepts a file exactly when the profile is known and the file keeps the rules under it
pub accepts_exactly : (profile : ℕ) (f : List ℕ) → All Byte f
    → ((l n : ℕ) → read_of profile f ≡ accepted_with l n → (profile ≤ 1) × KeepsUnder profile f)
    × (profile ≤ 1 → KeepsUnder profile f → read_of profile f ≡ accepted_with (length f) (length (model f).refs))
accepts_exactly profile f bytes =
    let e = under_exactly profile f bytes in (
      (λ l n r. let a = profile_accept profile f (accepted_is profile f l n r).2 in (leb-true profile 1 a.0, e.0 a.1)),
      λ h k. accepted_when profile f (profile_known profile f (le-leb _ _ h) ∙ e.1 k),
    )

-- the reader refuses exactly as the verdict does
pub refused-is : (profile : ℕ) (f : List ℕ) (k p : ℕ) → (read_of profile f ≡ Refused k p → profile_verdict profile f ≡ refuse k p)
    × (profile_verdict profile f ≡ refuse k p → read_of profile f ≡ Refused k p)
refused-is profile f k p = (λ e. refused_as profile f k p e, λ e. refused profile f k p e)

-- a file over the limit is refused with 1 at 0, whatever it holds
pub too_long : (profile : ℕ) (f : List ℕ) → profile ≤ 1 → 16777216 < length f → read_of profile f ≡ Refused 1 0
unfolding verdict head_fault
too_long profile f k h = (refused-is profile f 1 0).1 (profile_known profile f (le-leb _ _ k) ∙ refuses _ _ _ _ (stop _ _ _ _ (lt-leb _ _ h)))

-- and one of fewer than 12 bytes with 2 at 0
pub too_short : (profile : ℕ) (f : List ℕ) → profile ≤ 1 → length f < 12 → read_of profile f ≡ Refused 2 0
unfolding verdict head_fault
too_short profile f k h =
    let short : length f ≤ 16777216 = omega arith in
    (refused-is profile f 2 0).1 (profile_known profile f (le-leb _ _ k) ∙ refuses _ _ _ _ (pass _ _ _ _ (le-leb _ _ short) ∙ stop _ _ _ _ (lt-leb _ _ h)))

-- an accepted file's index has as many entries as the reading says
pub counted : (profile : ℕ) (f : List ℕ) (l n : ℕ) → read_of profile f ≡ accepted_with l n → length (index_of f) ≡ n
counted profile f l n e = (accepted profile f l n e).many

-- how an accepted file of n entries is laid out: the count says n, the entries stand one after another from 24 on, "No (usage, number) pair stands twice"
-- (01, rule 6), and good chunks follow to the file's end. They are what the file holds.
pub record Layout (f : List ℕ) (n : ℕ) : Type 0 where
  pub count : rd32 (drop 20 f) ≡ n
  pub room : place n ≤ length f
  pub index : index_of f ≡ entries_in n (drop 24 f)
  pub once : (i j : ℕ) → i < j → j < n → ((get_or (index_of f) i no_entry).usage ≡ (get_or (index_of f) j no_entry).usage)
      × ((get_or (index_of f) i no_entry).number ≡ (get_or (index_of f) j no_entry).number) → ⊥
  pub walks : walk_from f (place n) ≡ accept
  pub model : model f ≡ model_at f n

pub layout_is : (profile : ℕ) (f : List ℕ) (l n : ℕ) → read_of profile f ≡ accepted_with l n → Layout f n
unfolding read_of
layout_is profile f l n e =
    let q = read_go (profile_verdict profile f) l n (length f) (length (index_of f)) e in
    let g = accepted profile f l n e in
    let j : EntriesPassed f n = g.passed.judged in
    let es : entries_fault j.rules (place n) (chunks_from f (place n)) [] 24 (index_of f) ≡ accept = rw g.index j.entries in
    record {
      count = sym (good profile f q.0).many ∙ q.2;
      room = j.room;
      index = g.index;
      once = λ i k a b. apart j.rules f (place n) j.walks (index_of f) [] 24 i k no_entry es a (rw g.many b);
      walks = j.walks;
      model = g.model;
    }

-- entry i of an accepted file, read where it stands: it and its chunk's header lie in the file, and the lookup of its pair finds that chunk
pub record EntryAt (profile : ℕ) (f : List ℕ) (i : ℕ) : Type 0 where
  pub listed : get_or (index_of f) i no_entry ≡ record { usage = usage_at f (place i); number = number_at f (place i); start = start_at f (place i) }
  pub inside : place i + 12 ≤ length f
  pub chunk : start_at f (place i) + 8 ≤ length f
  pub found : lookup_of profile f (usage_at f (place i)) (number_at f (place i))
      ≡ found_with (rd32 (drop (start_at f (place i)) f)) (start_at f (place i) + left_out_of (rd32 (drop (start_at f (place i)) f)))
      (8 + rd32 (drop (start_at f (place i) + 4) f) - left_out_of (rd32 (drop (start_at f (place i)) f)))

fields : (f : List ℕ) (p : ℕ) → entry_from (drop p f) ≡ record { usage = usage_at f p; number = number_at f p; start = start_at f p }
unfolding entry_from
fields f p = λ i. record { usage = usage_at f p; number = rd32 (drop-drop 4 p f i); start = rd32 (drop-drop 8 p f i) }

pub entry_at : (profile : ℕ) (f : List ℕ) (l n i : ℕ) → read_of profile f ≡ accepted_with l n → i < n → EntryAt profile f i
entry_at profile f l n i e h =
    let g = accepted profile f l n e in
    let j : EntriesPassed f n = g.passed.judged in
    let u : ℕ = usage_at f (place i) in
    let k : ℕ = number_at f (place i) in
    let x : ℕ = start_at f (place i) in
    let listed : get_or (index_of f) i no_entry ≡ record { usage = u; number = k; start = x } = rw g.index (entry-get_or f n i 24 no_entry h
    ∙ fields f (place i)) in
    let es : entries_fault j.rules (place n) (chunks_from f (place n)) [] 24 (index_of f) ≡ accept = rw g.index j.entries in
    let hit : hit_in u k (index_of f) ≡ Some x = rw listed at (only_hit j.rules f (place n) j.walks (index_of f) [] 24 i no_entry es (rw g.many h)) in
    let there : hit_in u k (entries_in n (drop 24 f)) ≡ Some x = rw g.index at hit in
    let b = hit_begun f n u k x j there in
    record {
      listed = listed;
      inside = omega (arith, j.room);
      chunk = (fine f x b.0 b.1).header;
      found = sym (look_found profile f u k n g x _ _ _ there refl refl refl);
    }

-- the index's entries are the model's
pub index_is : (profile : ℕ) (f : List ℕ) → profile_verdict profile f ≡ accept → index_of f ≡ entries (model f)
unfolding base
index_is profile f h =
    let g = good profile f h in
    let count : ℕ = rd32 (drop 20 f) in
    let e : map (entry_of (place count) (chunks_from f (place count))) (model_at f count).refs ≡ entries_in count (drop 24 f)
    = entry_of-ref_of (place count) (chunks_from f (place count)) (entries_in count (drop 24 f)) (starts f count g.passed) in
    rw (g.model, refs_count f count) (g.index ∙ sym e)

-- entry i of an accepted file is given, with one of the four usages, so 12 is never the answer
pub entry-given : (profile : ℕ) (f : List ℕ) (i : ℕ) → profile_verdict profile f ≡ accept → i < length (index_of f)
    → (x : Usage) × (asked_of profile f i ≡ Ok (record { usage = x; number = (get_or (index_of f) i no_entry).number; start = (get_or (index_of f) i no_entry).start }))
entry-given profile f i h l =
    let g = good profile f h in
    let es : entries_fault g.passed.judged.rules (place (rd32 (drop 20 f))) (chunks_from f (place (rd32 (drop 20 f)))) [] 24 (index_of f) ≡ accept =
    rw g.index g.passed.judged.entries in
    let k = not_unknown (get_or (index_of f) i no_entry).usage _ refl (known_at g.passed.judged.rules f (place (rd32 (drop 20 f))) (index_of f) [] 24 i
    no_entry es l) in
    (k.0, given_as profile f i h l k.0 k.1)

-- an entry of the index with the pair (u, n) and the start x: the lookup gives the chunk at x, and the part is what is shown of that chunk
pub lookup_found : (profile : ℕ) (f : List ℕ) (u n i x : ℕ) → profile_verdict profile f ≡ accept → i < length (index_of f)
    → get_or (index_of f) i no_entry ≡ record { usage = u; number = n; start = x }
    → (lookup_of profile f u n ≡ found_at (chunk_from f x) x) × (All Byte f → part_of (lookup_of profile f u n) f ≡ shown (chunk_from f x))
unfolding lookup_of
lookup_found profile f u n i x h l e =
    let g = good profile f h in
    let count : ℕ = rd32 (drop 20 f) in
    let j : EntriesPassed f count = g.passed.judged in
    let es : entries_fault j.rules (place count) (chunks_from f (place count)) [] 24 (index_of f) ≡ accept = rw g.index j.entries in
    let a : hit_in u n (index_of f) ≡ Some x = rw e at (only_hit j.rules f (place count) j.walks (index_of f) [] 24 i no_entry es l) in
    let b = begun f x (place count) j.walks (hit_start j.rules f (place count) j.walks u n x (index_of f) [] 24 es a) in
    let found : lookup_of profile f u n ≡ found_at (chunk_from f x) x = rw (h, a) in
    (found, λ bytes. ap (λ (r : Result Resource Refusal). part_of r f) found ∙ part_at f x b.below b.walks bytes)

-- a lookup over the model finds the chunk c: the reader's lookup gives its type, where what is shown of it starts and how long that is, and the part
-- is what is shown of it
pub lookup_here : (profile : ℕ) (f : List ℕ) (u n : ℕ) → profile_verdict profile f ≡ accept → (c : Chunk) → lookup (model f) u n ≡ here c
    → (lookup_of profile f u n ≡ found_at c (start (model f) (ref_at (model f) (find u n (model f).refs)).chunk))
    × (All Byte f → part_of (lookup_of profile f u n) f ≡ shown c)
lookup_here profile f u n h c e =
    either profile f u n h
    ((lookup_of profile f u n ≡ found_at c (start (model f) (ref_at (model f) (find u n (model f).refs)).chunk)) × (All Byte f
    → part_of (lookup_of profile f u n) f ≡ shown c))
    (λ x t. let q : chunk_from f x ≡ c = cc (t.looked, e) in (rw (t.begins, ← q) t.found, λ bytes. t.part bytes ∙ ap shown q))
    (λ a. let z : ◌≡◌ {A = ℕ} 0 1 = cc (a.looked, e) in absurd (omega arith))

-- it finds nothing: the reader's lookup is refused with 22
pub lookup_nowhere : (profile : ℕ) (f : List ℕ) (u n : ℕ) → profile_verdict profile f ≡ accept → lookup (model f) u n ≡ missing → lookup_of profile f u
    n ≡ Refused 22 0
lookup_nowhere profile f u n h e =
    either profile f u n h (lookup_of profile f u n ≡ Refused 22 0)
    (λ x t. let z : ◌≡◌ {A = ℕ} 0 1 = cc (t.looked, e) in absurd (omega arith))
    (λ a. a.found)

-- the lookup is refused with 22 exactly if no entry has the pair
pub lookup_missing : (profile : ℕ) (f : List ℕ) (u n : ℕ) → profile_verdict profile f ≡ accept
    → (lookup_of profile f u n ≡ Refused 22 0 → pair_in u n (model f).refs ≡ false) × (pair_in u n (model f).refs ≡ false → lookup_of profile f u
    n ≡ Refused 22 0)
lookup_missing profile f u n h =
    either profile f u n h ((lookup_of profile f u n ≡ Refused 22 0 → pair_in u n (model f).refs ≡ false) × (pair_in u n (model f).refs ≡ false
    → lookup_of profile f u n ≡ Refused 22 0))
    (λ x t. (
      λ e. let z : ◌≡◌ {A = ℕ} 0 1 = cc (t.found, e) in absurd (omega arith),
      λ e. let z : ◌≡◌ {A = ℕ} 0 1 = cc (t.pair, e) in absurd (omega arith),
    ))
    (λ a. (λ e. a.pair, λ e. a.found))

-- "A file accepted as plain is accepted under ADRIFT, and every lookup in it answers the same" (02, P12); so do the other calls
pub plain_answers : (f : List ℕ) → profile_verdict 0 f ≡ accept
    → (read_of 1 f ≡ read_of 0 f) × ((i : ℕ) → asked_of 1 f i ≡ asked_of 0 f i)
    × ((u n : ℕ) → (lookup_of 1 f u n ≡ lookup_of 0 f u n) × (part_of (lookup_of 1 f u n) f ≡ part_of (lookup_of 0 f u n) f))
    × ((u n x : ℕ) → inspection_of (profile_verdict 1 f) (model f) u n x ≡ inspection_of (profile_verdict 0 f) (model f) u n x)
unfolding read_of lookup_of asked_of
plain_answers f h = let a = plain_adrift f h in (rw (a, h), (λ i. rw (a, h)), (λ u n. (rw (a, h), rw (a, h))), λ u n x. rw (a, h))

-- "Refusals: 52 an unknown profile, before all others" (02, P12): whatever is asked of whatever file
pub unknown_answers : (profile : ℕ) (f : List ℕ) → 1 < profile
    → (read_of profile f ≡ Refused 52 0) × ((i : ℕ) → asked_of profile f i ≡ Refused 52 0)
    × ((u n : ℕ) → (lookup_of profile f u n ≡ Refused 52 0) × (part_of (lookup_of profile f u n) f ≡ []))
    × ((u n x : ℕ) → inspection_of (profile_verdict profile f) (model f) u n x ≡ Refused 52 0)
unfolding read_of lookup_of asked_of
unknown_answers profile f h = let v = unknown_profile profile f h in (rw v, (λ i. rw v), (λ u n. (rw v, rw v)), λ u n x. rw v)
