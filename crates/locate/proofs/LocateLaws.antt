-- The search goes from chunk to chunk of an accepted walk: a chunk of another type leaves the list of those of the type as it is, and the first of the
-- type begins that list.
use Rattle.std.specs.Prelude.{Ok, Some, None, is_some}
use Rattle.blorb.specs.Refusals.{Refused}
use mathlib.Core.Path.{◌≡◌, refl, sym, ap, ◌∙◌}
use Prim.Native.Nat.{ℕ, suc, ◌+◌, ◌*◌, ◌≤◌, ◌<◌}
use mathlib.Core.List.{List, [], ◌∷◌, map}
use mathlib.Core.Bool.{Bool, true, false, ◌&&◌, ◌||◌, cond}
use native.Mathlib.Omega.{arith}
use lib.ListN.{length, drop}
use lib.Dec.{eqb, ltb, leb-suc-suc}
use borrow.Author.Tests.{eq-eqb, ne_eqb, lt-ltb, le-ltb}
use Rattle.blorb.specs.Bytes.{rd32}
use Rattle.blorb.specs.Format.{Chunk, Entry, chunk_in, entries_in, ref_of}
use Rattle.blorb.specs.Verdict.{accept, pair_in}
use Rattle.blorb.specs.Rules.{profile_verdict}
use Rattle.blorb.specs.Model.{base, model}
use Rattle.chunks.specs.Walk.{chunks_from, walk_from, skip_at}
use Rattle.chunks.proofs.ChunkLaws.{fine, chunks_end}
use Rattle.index.specs.Entries.{place, pair_place}
use Rattle.reader.specs.Reading.{read_of, accepted_with}
use Rattle.reader.proofs.Promises.{layout_is, accepted_is, accepted_when, refused-is}
use Rattle.locate.specs.Located.{Spot, of_type, located_in, located_of}
use Rattle.locate.specs.Bridging.{First}
use Rattle.locate.specs.declared.Located.TheVariants.{One, More}

module _ (f : List ℕ) (t at : ℕ) where
  pub of_end : length f ≤ at → of_type t at (chunks_from f at) ≡ []
  unfolding of_type
  of_end h = rw (chunks_end f at h)

  module _ (h : at < length f) (w : walk_from f at ≡ accept) where
    pub of_other : (rd32 (drop at f) ≡ t → ⊥) → of_type t (skip_at f at) (chunks_from f (skip_at f at)) ≡ of_type t at (chunks_from f at)
    unfolding of_type chunk_in
    of_other e = let i = fine f at h w in rw (i.chunks, i.next, ne_eqb (rd32 (drop at f)) t e)

    pub of_hit : (m : ℕ) → m ≡ rd32 (drop (at + 4) f) → rd32 (drop at f) ≡ t
        → of_type t at (chunks_from f at) ≡ record { start = at; amount = m } ∷ of_type t (skip_at f at) (chunks_from f (skip_at f at))
    unfolding of_type chunk_in
    of_hit m em e = let i = fine f at h w in rw (i.chunks, i.next, eq-eqb (rd32 (drop at f)) t e, i.bodied, em)

-- the answers where a chunk of the type stands first at x
module _ (f : List ℕ) (t from x : ℕ) (a : First f t from x) (m : ℕ) (em : m ≡ rd32 (drop (x + 4) f)) (z : ℕ) (ez : z ≡ skip_at f x) where
  abbrev behind : List Spot → List Spot
  behind xs = record { start = x; amount = m } ∷ xs

  listed : of_type t from (chunks_from f from) ≡ behind (of_type t z (chunks_from f z))
  listed = sym a.same ∙ of_hit f t x a.inside a.walks m em a.type ∙ ap behind (rw ez)

  pub one_located : of_type t z (chunks_from f z) ≡ [] → One x m ≡ located_in (of_type t from (chunks_from f from))
  one_located e = sym (ap located_in (listed ∙ ap behind e))

  pub more_located : (y : ℕ) → First f t z y → More x m y ≡ located_in (of_type t from (chunks_from f from))
  more_located y b =
      sym (ap located_in (listed ∙ ap behind (sym b.same ∙ of_hit f t y b.inside b.walks (rd32 (drop (y + 4) f)) refl b.type)))

-- the whole
module _ (profile : ℕ) (f : List ℕ) (t : ℕ) where
  pub located_no : (k p : ℕ) → read_of profile f ≡ Refused k p → Refused k p ≡ located_of profile f t
  unfolding located_of
  located_no k p e = rw ((refused-is profile f k p).0 e)

  pub located_go : (l n : ℕ) → read_of profile f ≡ accepted_with l n → Ok (located_in (of_type t (24 + 12 * n) (chunks_from f (24 + 12 * n)))) ≡ located_of profile f t
  unfolding located_of base
  located_go l n e =
      let a = accepted_is profile f l n e in
      let r = layout_is profile f l n e in
      rw (a.2, ← a.1, r.model)

-- a search that is answered where a test holds
pub some-if : (b : Bool) (i : ℕ) → is_some (cond b (Some i) None) ≡ b
some-if true i = refl
some-if false i = refl

-- a pair is among the entries exactly where the search for it ends before their number
place_in : (at : ℕ) (cs : List Chunk) (u n : ℕ) (es : List Entry) → ltb (pair_place u n es) (length es) ≡ pair_in u n (map (ref_of at cs) es)
unfolding pair_place pair_in ref_of
place_in at cs u n [] = le-ltb 0 0 (omega arith)
place_in at cs u n (e ∷ es) = go (eqb e.usage u && eqb e.number n) (place_in at cs u n es)
  where
    go : (b : Bool) → ltb (pair_place u n es) (length es) ≡ pair_in u n (map (ref_of at cs) es)
        → ltb (cond b 0 (suc (pair_place u n es))) (suc (length es)) ≡ b || pair_in u n (map (ref_of at cs) es)
    go true h = lt-ltb 0 (suc (length es)) (omega arith)
    go false h = leb-suc-suc (suc (pair_place u n es)) (length es) ∙ h

module _ (profile : ℕ) (f : List ℕ) (h : profile_verdict profile f ≡ accept) where
  pub count_room : 24 ≤ length f
  count_room = omega (arith, (layout_is profile f _ _ (accepted_when profile f h)).room)

  module _ (count : ℕ) (ec : count ≡ rd32 (drop 20 f)) where
    read : read_of profile f ≡ accepted_with (length f) count
    read =
        let e = accepted_when profile f h in
        e ∙ ap (accepted_with (length f)) (sym (layout_is profile f _ _ e).count ∙ sym ec)

    pub index-room : (count ≤ 4096) × (place count ≤ length f)
    index-room = ((accepted_is profile f _ _ read).4, (layout_is profile f _ _ read).room)

    pub index-pair : (u n : ℕ) → ltb (pair_place u n (entries_in count (drop 24 f))) (length (entries_in count (drop 24 f))) ≡ pair_in u n (model f).refs
    index-pair u n =
        let es : List Entry = entries_in count (drop 24 f) in
        let p : ltb (pair_place u n es) (length es) ≡ pair_in u n (map (ref_of (place count) (chunks_from f (place count))) es)
        = place_in (place count) (chunks_from f (place count)) u n es in
        rw (layout_is profile f _ _ read).model p
