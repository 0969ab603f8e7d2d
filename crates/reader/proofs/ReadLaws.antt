-- The verdict as the reader's parts, and what its acceptance tells.
use Rattle.blorb.specs.Refusals.{Refused}
use mathlib.Core.Path.{◌≡◌, refl, sym, ap, ◌∙◌}
use Prim.Native.Nat.{ℕ, ◌≤◌, ◌<◌}
use mathlib.Core.List.{List, [], map}
use mathlib.Core.Bool.{Bool, true, false}
use lib.ListN.{length, drop}
use lib.Dec.{ltb}
use borrow.Author.Tests.{lt-ltb, ltb-true, ltb-false}
use Rattle.blorb.specs.Bytes.{rd32}
use Rattle.blorb.specs.Format.{ref_of, chunk_in, chunks_of, entries_in, entries_of}
use Rattle.blorb.specs.Verdict.{Verdict, accept, refuse, ◌then◌, entries_fault, second_index, index_fault, rest_fault, layout_fault, verdict, head_fault}
use Rattle.blorb.specs.Rules.{rules_of, optional}
use Rattle.chunks.specs.Walk.{chunk_from, next_at, skip_at, chunks_from, walk_from, first_fault}
use Rattle.blorb.proofs.Checks.{accepts, refuses, check_accept, and_both, then_assoc}
use Rattle.chunks.proofs.ChunkLaws.{fine, chunks_end, first-none}
use Rattle.index.specs.Entries.{place, entries_from, earlier}
use Rattle.reader.specs.Reading.{accepted_with, index_of, read_by}
use Rattle.blorb.specs.Model.{base, model, model_of_chunks}
use Rattle.chunks.specs.Ordinary.{all_ordinary}
use Rattle.index.specs.Optional.{optional_fault, EntriesPassed}
use Rattle.reader.specs.Passed.{read_known, model_at}
use Rattle.blorb.proofs.EntryList.{length-entries_in}
use Rattle.index.proofs.IndexLaws.{Shaped, shaped}
use Rattle.index.proofs.OptionalLaws.{optional-is}

module _ (f : List ℕ) where
  pub first-long : first_fault f ≡ accept → 12 < length f
  unfolding first_fault
  first-long h = ltb-true _ _ (and_both _ _ (check_accept _ _ _ h)).0

  chunks-is : chunks_of f ≡ chunks_from f 12
  unfolding chunks_of chunks_from
  chunks-is = refl

  -- what an index of the right shape tells, under whichever profile
  module _ (walks : walk_from f 12 ≡ accept) (first : first_fault f ≡ accept) (shape : index_fault (chunk_from f 12).body ≡ accept)
      (count : ℕ) (ec : count ≡ rd32 (drop 20 f)) where
    pub is-shaped : Shaped f count
    is-shaped = rw ec (shaped f (first-long first) walks shape)

    pub ordinary_behind : (ordinary : Bool) → (ordinary ≡ true → all_ordinary (chunks_from f (skip_at f 12)) ≡ true) → ordinary ≡ true
        → all_ordinary (chunks_from f (place count)) ≡ true
    ordinary_behind ordinary p e =
        ap (λ (x : ℕ). all_ordinary (chunks_from f x)) (sym is-shaped.base ∙ sym (fine f 12 (first-long first) walks).next) ∙ p e

    pub index_of_lem : index_of f ≡ entries_in count (drop 24 f)
    unfolding index_of
    index_of_lem = rw (chunks-is, is-shaped.chunks) is-shaped.index

    pub model_of : model f ≡ model_at f count
    unfolding model model_of_chunks base
    model_of = rw (chunks-is, is-shaped.chunks, is-shaped.index, length-entries_in count (drop 24 f))

module _ (profile : ℕ) (f : List ℕ) where
  pub whole : verdict (rules_of profile) f ≡ head_fault f then (walk_from f 12 then layout_fault (rules_of profile) (chunks_of f))
  unfolding verdict head_fault walk_from
  whole = simp then_assoc

  refused : (k p : ℕ) → verdict (rules_of profile) f ≡ refuse k p → Refused k p ≡ read_known profile f
  unfolding read_known
  refused k p e = rw e

  layout-long : walk_from f 12 ≡ accept → 12 < length f
      → layout_fault (rules_of profile) (chunks_from f 12) ≡ first_fault f then rest_fault (rules_of profile) (chunk_from f 12) (chunks_from f (next_at f 12))
  unfolding layout_fault first_fault chunk_in
  layout-long w h = rw ((fine f 12 h w).chunks, lt-ltb 12 (length f) h)

  layout_short : length f ≤ 12
      → layout_fault (rules_of profile) (chunks_from f 12) ≡ first_fault f then rest_fault (rules_of profile) (chunk_from f 12) (chunks_from f (next_at f 12))
  unfolding layout_fault
  layout_short h = rw (chunks_end f 12 h) (sym (refuses (first_fault f) _ 8 12 (sym (first-none f h))))

  pub layout : walk_from f 12 ≡ accept → layout_fault (rules_of profile) (chunks_of f) ≡ first_fault f then rest_fault (rules_of profile) (chunk_from f 12)
      (chunks_from f (next_at f 12))
  layout w = rw (chunks-is f) (go (ltb 12 (length f)) refl)
    where
      go : (b : Bool) → ltb 12 (length f) ≡ b → layout_fault (rules_of profile) (chunks_from f 12) ≡ first_fault f then rest_fault (rules_of profile)
          (chunk_from f 12) (chunks_from f (next_at f 12))
      go true e = layout-long w (ltb-true _ _ e)
      go false e = layout_short (ltb-false _ _ e)

  pub read_1 : (k p : ℕ) → head_fault f ≡ refuse k p → Refused k p ≡ read_known profile f
  read_1 k p e = refused k p (whole ∙ refuses _ _ _ _ e)

  module _ (h1 : head_fault f ≡ accept) where
    pub read_2 : (k p : ℕ) → walk_from f 12 ≡ refuse k p → Refused k p ≡ read_known profile f
    read_2 k p e = refused k p (whole ∙ accepts _ _ h1 ∙ refuses _ _ _ _ e)

    module _ (h2 : walk_from f 12 ≡ accept) where
      v2 : verdict (rules_of profile) f ≡ first_fault f then rest_fault (rules_of profile) (chunk_from f 12) (chunks_from f (next_at f 12))
      v2 = whole ∙ accepts _ _ h1 ∙ accepts _ _ h2 ∙ layout h2

      pub read_3 : (k p : ℕ) → first_fault f ≡ refuse k p → Refused k p ≡ read_known profile f
      read_3 k p e = refused k p (v2 ∙ refuses _ _ _ _ e)

      module _ (h3 : first_fault f ≡ accept) (b : ℕ) (eb : b ≡ skip_at f 12) where
        en : b ≡ next_at f 12
        en = eb ∙ (fine f 12 (first-long f h3) h2).next

        pub v3 : verdict (rules_of profile) f ≡ second_index b (chunks_from f b) then (index_fault (chunk_from f 12).body
            then (entries_fault (rules_of profile) b (chunks_from f b) [] 24 (entries_of (chunk_from f 12))
            then optional b (map (ref_of b (chunks_from f b)) (entries_of (chunk_from f 12))) (chunks_from f b)))
        unfolding rest_fault
        v3 = rw en (v2 ∙ accepts _ _ h3)

        pub read_4 : (k p : ℕ) → second_index b (chunks_from f b) ≡ refuse k p → Refused k p ≡ read_known profile f
        read_4 k p e = refused k p (v3 ∙ refuses _ _ _ _ e)

        module _ (h4 : second_index b (chunks_from f b) ≡ accept) where
          pub read_5 : (k p : ℕ) → index_fault (chunk_from f 12).body ≡ refuse k p → Refused k p ≡ read_known profile f
          read_5 k p e = refused k p (v3 ∙ accepts _ _ h4 ∙ refuses _ _ _ _ e)

          module _ (h5 : index_fault (chunk_from f 12).body ≡ accept) (count : ℕ) (ec : count ≡ rd32 (drop 20 f)) where
            sh : Shaped f count
            sh = is-shaped f h2 h3 h5 count ec

            pub v5 : verdict (rules_of profile) f ≡ entries_from profile f (place count) 0 count
                then optional (place count) (map (ref_of (place count) (chunks_from f (place count))) (entries_in count (drop 24 f))) (chunks_from f (place count))
            unfolding entries_from earlier
            v5 =
                let eb2 : b ≡ place count = en ∙ sh.base in
                let es : entries_of (chunk_from f 12) ≡ entries_in count (drop 24 f) = sh.index in
                rw (eb2, es) at (v3 ∙ accepts _ _ h4 ∙ accepts _ _ h5)

            pub read_6 : (k p : ℕ) → entries_from profile f (place count) 0 count ≡ refuse k p → Refused k p ≡ read_known profile f
            read_6 k p e = refused k p (v5 ∙ refuses _ _ _ _ e)

            module _ (h6 : entries_from profile f (place count) 0 count ≡ accept) where
              v6 : verdict (rules_of profile) f ≡ optional_fault f count
              unfolding entries_from earlier
              v6 = v5 ∙ accepts _ _ h6 ∙ optional-is (rules_of profile) f count sh.walks h6

              pub read_7 : (k p : ℕ) → optional_fault f count ≡ refuse k p → Refused k p ≡ read_known profile f
              read_7 k p e = refused k p (v6 ∙ e)

              pub is-judged : EntriesPassed f count
              unfolding entries_from earlier
              is-judged = record { few = sh.few; room = sh.room; walks = sh.walks; rules = rules_of profile; entries = h6 }

              pub read_8 : optional_fault f count ≡ accept → accepted_with (length f) count ≡ read_known profile f
              unfolding read_known
              read_8 e =
                  let n : count ≡ length (index_of f) = sym (ap length (index_of_lem f h2 h3 h5 count ec) ∙ length-entries_in count (drop 24 f)) in
                  let v : verdict (rules_of profile) f ≡ accept = v6 ∙ e in
                  rw v (ap (accepted_with (length f)) n)

              pub read-rest : read_by (optional_fault f count) (length f) count ≡ read_known profile f
              read-rest = go (optional_fault f count) refl
                where
                  go : (v : Verdict) → optional_fault f count ≡ v → read_by v (length f) count ≡ read_known profile f
                  go accept e = read_8 e
                  go (refuse k p) e = read_7 k p e
