-- What was put in reads back, what was removed is not there, and other pairs keep type and data.
use mathlib.Core.Path.{◌≡◌, refl, sym, ap, ◌∙◌}
use Prim.Native.Nat.{ℕ, zero, suc, ◌+◌, ◌<◌}
use mathlib.Core.List.{List, [], ◌∷◌, ◌++◌, map}
use mathlib.Core.Bool.{Bool, true, false, cond, ◌&&◌, ◌||◌, or-true}
use native.Mathlib.Nat.{le_of_suc-le-suc, not-suc-le-zero}
use lib.ListN.{length, get_or, take, drop, set, get_or-append}
use lib.Seq.{get_or-set_same, get_or-set_other, get_or-append_seam}
use lib.Dec.{eqb}
use borrow.Author.Tests.{eq-eqb, eqb-false}
use Rattle.blorb.specs.Format.{Ref, Chunk}
use Rattle.blorb.specs.Verdict.{Rules, accept, no_chunk, pair_in}
use Rattle.blorb.specs.Model.{Model}
use Rattle.blorb.specs.Queries.{find, no_ref, ref_at, without, uses, shared}
use Rattle.edits.specs.Edit.{with_at, lower, added, replaced, removed, removed_both, removed_entry, link_place_of, entered, linked}
use Rattle.blorb.specs.All.{All}
use Rattle.blorb.specs.Sound.{RefOk, Sound}
use Rattle.blorb.proofs.Checks.{then_accept, neither}
use Rattle.blorb.proofs.VerdictLaws.{refs_fault}
use Rattle.edits.proofs.RemoveVerdict.{same-chunk, pair-lower}
use Rattle.blorb.specs.Lookup.{missing, here, look_in, lookup}
use Rattle.blorb.proofs.FindLaws.{look_find, look_missing}
use Rattle.edits.proofs.FrontPicture.{pairs_once, pair_right}

abbrev pub same : Ref → ℕ → ℕ → Bool
same r u n = eqb r.usage u && eqb r.number n

-- ADD
look_more : (cs : List Chunk) (c : Chunk) (u n : ℕ) (rs : List Ref) (x : Ref) → All (RefOk (length cs)) rs
    → look_in (cs ++ (c ∷ [])) u n (rs ++ (x ∷ [])) ≡ cond (pair_in u n rs) (look_in cs u n rs) (look_in (cs ++ (c ∷ [])) u n (x ∷ []))
unfolding look_in pair_in
look_more cs c u n [] x ok = refl
look_more cs c u n (r ∷ rs) x ok =
    rw (get_or-append cs (c ∷ []) no_chunk r.chunk ok.0.chunk_there, look_more cs c u n rs x ok.1)
    (go (same r u n))
  where
    go : (b : Bool) → cond b (here (get_or cs r.chunk no_chunk)) (cond (pair_in u n rs) (look_in cs u n rs)
        (cond (same x u n) (here (get_or (cs ++ (c ∷ [])) x.chunk no_chunk)) missing))
        ≡ cond (b || pair_in u n rs) (cond b (here (get_or cs r.chunk no_chunk)) (look_in cs u n rs))
        (cond (same x u n) (here (get_or (cs ++ (c ∷ [])) x.chunk no_chunk)) missing)
    go true = refl
    go false = refl

pub add_reads : (m : Model) (u n : ℕ) (c : Chunk) → Sound m → pair_in u n m.refs ≡ false → lookup (added m u n c) u n ≡ here c
unfolding lookup added
add_reads m u n c s h =
    look_more m.chunks c u n m.refs (record { usage = u; number = n; chunk = length m.chunks }) s.refs_ok
    ∙ rw h (unfold look_in in rw (eq-eqb u u refl, eq-eqb n n refl, get_or-append_seam m.chunks c [] no_chunk))

pub add_keeps : (m : Model) (u n : ℕ) (c : Chunk) (u' n' : ℕ) → Sound m → (eqb u u' && eqb n n') ≡ false → lookup (added m u n c) u' n' ≡ lookup m u' n'
unfolding lookup added
add_keeps m u n c u' n' s ne =
    look_more m.chunks c u' n' m.refs x s.refs_ok
    ∙ go (pair_in u' n' m.refs) refl
  where
    x : Ref
    x = record { usage = u; number = n; chunk = length m.chunks }

    go : (b : Bool) → pair_in u' n' m.refs ≡ b → cond b (look_in m.chunks u' n' m.refs) (look_in (m.chunks ++ (c ∷ [])) u' n' (x ∷ [])) ≡ look_in
        m.chunks u' n' m.refs
    go true e = refl
    go false e = let z : look_in (m.chunks ++ (c ∷ [])) u' n' (x ∷ []) ≡ missing = (unfold look_in in rw ne) in z
        ∙ sym (look_missing m.chunks u' n' m.refs e)

-- REPLACE
pub replace_reads : (m : Model) (u n : ℕ) (c : Chunk) → find u n m.refs < length m.refs → (ref_at m (find u n m.refs)).chunk < length m.chunks
    → lookup (replaced m (ref_at m (find u n m.refs)).chunk c) u n ≡ here c
unfolding lookup replaced
replace_reads m u n c h there = look_find _ u n m.refs h ∙ ap here (get_or-set_same m.chunks (ref_at m (find u n m.refs)).chunk c no_chunk there)

-- entries on other chunks
look_off : (cs : List Chunk) (k : ℕ) (c : Chunk) (u n : ℕ) (rs : List Ref) → uses k rs ≡ false → look_in (set cs k c) u n rs ≡ look_in cs u n rs
unfolding look_in uses
look_off cs k c u n [] h = refl
look_off cs k c u n (r ∷ rs) h =
    let o = neither (eqb r.chunk k) (uses k rs) h in
    rw (get_or-set_other cs k r.chunk c no_chunk (eqb-false _ _ o.0), look_off cs k c u n rs o.1)

look_others : (cs : List Chunk) (k : ℕ) (c : Chunk) (u n i : ℕ) (rs : List Ref) → i < length rs → uses k (without i rs) ≡ false → same (get_or rs i no_ref) u
    n ≡ false
    → look_in (set cs k c) u n rs ≡ look_in cs u n rs
unfolding look_in uses without
look_others cs k c u n i [] l h ne = absurd (not-suc-le-zero l)
look_others cs k c u n zero (r ∷ rs) l h ne = rw ne (look_off cs k c u n rs h)
look_others cs k c u n (suc i) (r ∷ rs) l h ne =
    let o = neither (eqb r.chunk k) (uses k (take i rs ++ drop (suc i) rs)) h in
    rw (get_or-set_other cs k r.chunk c no_chunk (eqb-false _ _ o.0), look_others cs k c u n i rs (le_of_suc-le-suc l) o.1 ne)

pub replace_keeps : (m : Model) (i : ℕ) (c : Chunk) (u' n' : ℕ) → i < length m.refs → shared m i ≡ false → same (ref_at m i) u' n' ≡ false
    → lookup (replaced m (ref_at m i).chunk c) u' n' ≡ lookup m u' n'
unfolding lookup replaced shared
replace_keeps m i c u' n' l alone ne = look_others m.chunks (ref_at m i).chunk c u' n' i m.refs l alone ne

-- REMOVE
look_without : (cs : List Chunk) (u n i : ℕ) (rs : List Ref) → i < length rs → same (get_or rs i no_ref) u n ≡ false → look_in cs u n (without i rs) ≡ look_in cs
    u n rs
unfolding look_in without
look_without cs u n i [] l ne = absurd (not-suc-le-zero l)
look_without cs u n zero (r ∷ rs) l ne = rw ne
look_without cs u n (suc i) (r ∷ rs) l ne = rw (look_without cs u n i rs (le_of_suc-le-suc l) ne)

look_lower : (cs : List Chunk) (k u n : ℕ) (rs : List Ref) → uses k rs ≡ false → look_in (without k cs) u n (map (lower k) rs) ≡ look_in cs u n rs
unfolding look_in uses
look_lower cs k u n [] h = refl
look_lower cs k u n (r ∷ rs) h =
    let o = neither (eqb r.chunk k) (uses k rs) h in
    rw (same-chunk cs k r o.0, look_lower cs k u n rs o.1) (unfold lower in refl)

pub remove_keeps : (m : Model) (i u' n' : ℕ) → i < length m.refs → same (ref_at m i) u' n' ≡ false → lookup (removed m i) u' n' ≡ lookup m u' n'
unfolding lookup removed
remove_keeps m i u' n' l ne = go (shared m i) refl
  where
    go : (b : Bool) → shared m i ≡ b → look_in (cond b (removed_entry m i) (removed_both m i (ref_at m i).chunk)).chunks u' n'
        (cond b (removed_entry m i) (removed_both m i (ref_at m i).chunk)).refs ≡ look_in m.chunks u' n' m.refs
    go true e = (unfold removed_entry in look_without m.chunks u' n' i m.refs l ne)
    go false e = (unfold removed_both shared in look_lower m.chunks (ref_at m i).chunk u' n' (without i m.refs) e ∙ look_without m.chunks u' n' i
        m.refs l ne)

pair-at : (u n i : ℕ) (rs : List Ref) → i < length rs → same (get_or rs i no_ref) u n ≡ true → pair_in u n rs ≡ true
unfolding pair_in
pair-at u n i [] l h = absurd (not-suc-le-zero l)
pair-at u n zero (r ∷ rs) l h = rw h
pair-at u n (suc i) (r ∷ rs) l h = rw (pair-at u n i rs (le_of_suc-le-suc l) h) (or-true (same r u n))

-- the pair of a removed entry is gone
pub pair_gone : (R : Rules) (cs : List Chunk) (e : List Ref) (p : ℕ) (u n i : ℕ) (rs : List Ref) → refs_fault R cs e p rs ≡ accept → i < length rs
    → same (get_or rs i no_ref) u n ≡ true → pair_in u n (without i rs) ≡ false
unfolding refs_fault pair_in without
pair_gone R cs e p u n i [] ok l h = absurd (not-suc-le-zero l)
pair_gone R cs e p u n zero (r ∷ rs) ok l h =
    pairs_once R cs (e ++ (r ∷ [])) (p + 12) rs u n (pair_right u n e r h) (then_accept _ _ (then_accept _ _ ok).1).1
pair_gone R cs e p u n (suc i) (r ∷ rs) ok l h =
    let rest = (then_accept _ _ (then_accept _ _ ok).1).1 in
    rw (head (same r u n) refl rest) (pair_gone R cs (e ++ (r ∷ [])) (p + 12) u n i rs rest (le_of_suc-le-suc l) h)
  where
    head : (b : Bool) → same r u n ≡ b → refs_fault R cs (e ++ (r ∷ [])) (p + 12) rs ≡ accept → same r u n ≡ false
    head false x ok = x
    head true x ok =
        let a = pairs_once R cs (e ++ (r ∷ [])) (p + 12) rs u n (pair_right u n e r x) ok in
        let b = pair-at u n i rs (le_of_suc-le-suc l) h in
        x ∙ sym b ∙ a

pub remove_gone : (R : Rules) (m : Model) (i u n : ℕ) → refs_fault R m.chunks [] 24 m.refs ≡ accept → i < length m.refs → same (ref_at m i) u n ≡ true
    → lookup (removed m i) u n ≡ missing
unfolding lookup removed
remove_gone R m i u n ok l h = go (shared m i)
  where
    go : (b : Bool) → look_in (cond b (removed_entry m i) (removed_both m i (ref_at m i).chunk)).chunks u n
        (cond b (removed_entry m i) (removed_both m i (ref_at m i).chunk)).refs ≡ missing
    go true = (unfold removed_entry in look_missing m.chunks u n (without i m.refs) (pair_gone R m.chunks [] 24 u n i m.refs ok l h))
    go false = (unfold removed_both in look_missing (without (ref_at m i).chunk m.chunks) u n (map (lower (ref_at m i).chunk) (without i m.refs))
        (pair-lower (ref_at m i).chunk u n (without i m.refs) ∙ pair_gone R m.chunks [] 24 u n i m.refs ok l h))

-- LINK: an entry more on a chunk that is there
look_with : (cs : List Chunk) (u n i : ℕ) (x : Ref) (rs : List Ref) → same x u n ≡ false → look_in cs u n (with_at i x rs) ≡ look_in cs u n rs
unfolding look_in with_at
look_with cs u n zero x rs ne = rw ne
look_with cs u n (suc i) x [] ne = rw ne
look_with cs u n (suc i) x (r ∷ rs) ne = rw (look_with cs u n i x rs ne)

look_new : (cs : List Chunk) (u n i : ℕ) (x : Ref) (rs : List Ref) → same x u n ≡ true → pair_in u n rs ≡ false → look_in cs u n (with_at i x rs) ≡ here
    (get_or cs x.chunk no_chunk)
unfolding look_in with_at pair_in
look_new cs u n zero x rs e none = rw e
look_new cs u n (suc i) x [] e none = rw e
look_new cs u n (suc i) x (r ∷ rs) e none = let o = neither (same r u n) (pair_in u n rs) none in rw o.0 (look_new cs u n i x rs e o.1)

-- the new pair gives what the original (v, o) gives, and any other pair what it gave
pub link_reads : (m : Model) (v o u n : ℕ) → find v o m.refs < length m.refs → pair_in u n m.refs ≡ false
    → lookup (linked m (ref_at m (find v o m.refs)).chunk u n) u n ≡ lookup m v o
unfolding lookup linked entered
link_reads m v o u n h none =
    let k : ℕ = (ref_at m (find v o m.refs)).chunk in
    let x : Ref = record { usage = u; number = n; chunk = k } in
    look_new m.chunks u n (link_place_of k m.refs) x m.refs (rw (eq-eqb u u refl, eq-eqb n n refl)) none ∙ sym (look_find m.chunks v o m.refs h)

pub link_keeps : (m : Model) (k u n u' n' : ℕ) → (eqb u u' && eqb n n') ≡ false → lookup (linked m k u n) u' n' ≡ lookup m u' n'
unfolding lookup linked entered
link_keeps m k u n u' n' ne = look_with m.chunks u' n' (link_place_of k m.refs) (record { usage = u; number = n; chunk = k }) m.refs ne

-- the chunk of an entry by its pair, read along the index
unfoldable pub chunk_on : ℕ → ℕ → List Ref → ℕ
chunk_on u n [] = 0
chunk_on u n (r ∷ rs) = cond (same r u n) r.chunk (chunk_on u n rs)

pub on_find : (u n : ℕ) (rs : List Ref) → (get_or rs (find u n rs) no_ref).chunk ≡ chunk_on u n rs
unfolding find chunk_on
on_find u n [] = refl
on_find u n (r ∷ rs) = go (same r u n) (on_find u n rs)
  where
    go : (b : Bool) → (get_or rs (find u n rs) no_ref).chunk ≡ chunk_on u n rs
        → (get_or (r ∷ rs) (cond b 0 (suc (find u n rs))) no_ref).chunk ≡ cond b r.chunk (chunk_on u n rs)
    go true ih = refl
    go false ih = ih

pub on_with : (u n i : ℕ) (x : Ref) (rs : List Ref) → same x u n ≡ false → chunk_on u n (with_at i x rs) ≡ chunk_on u n rs
unfolding chunk_on with_at
on_with u n zero x rs h = rw h
on_with u n (suc i) x [] h = rw h
on_with u n (suc i) x (r ∷ rs) h = rw (on_with u n i x rs h)

on_new : (u n i : ℕ) (x : Ref) (rs : List Ref) → same x u n ≡ true → pair_in u n rs ≡ false → chunk_on u n (with_at i x rs) ≡ x.chunk
unfolding chunk_on with_at pair_in
on_new u n zero x rs e none = rw e
on_new u n (suc i) x [] e none = rw e
on_new u n (suc i) x (r ∷ rs) e none = let o = neither (same r u n) (pair_in u n rs) none in rw o.0 (on_new u n i x rs e o.1)

-- and from the same place: after a link to chunk k the new pair is found on chunk k, and any other pair on the chunk that it was on
pub link_on_new : (m : Model) (k u n : ℕ) → pair_in u n m.refs ≡ false → (ref_at (linked m k u n) (find u n (linked m k u n).refs)).chunk ≡ k
unfolding linked entered
link_on_new m k u n none =
    let x : Ref = record { usage = u; number = n; chunk = k } in
    on_find u n (with_at (link_place_of k m.refs) x m.refs)
    ∙ on_new u n (link_place_of k m.refs) x m.refs (rw (eq-eqb u u refl, eq-eqb n n refl)) none

pub link_on_old : (m : Model) (k u n u' n' : ℕ) → (eqb u u' && eqb n n') ≡ false
    → (ref_at (linked m k u n) (find u' n' (linked m k u n).refs)).chunk ≡ (ref_at m (find u' n' m.refs)).chunk
unfolding linked entered
link_on_old m k u n u' n' ne =
    let x : Ref = record { usage = u; number = n; chunk = k } in
    on_find u' n' (with_at (link_place_of k m.refs) x m.refs)
    ∙ on_with u' n' (link_place_of k m.refs) x m.refs ne
    ∙ sym (on_find u' n' m.refs)
