-- The refusals of a link, without building its file.
use mathlib.Core.Path.{◌≡◌, sym, ap, ◌∙◌}
use Prim.Native.Nat.{ℕ, suc, ◌+◌, ◌*◌, ◌≤◌, ◌<◌}
use mathlib.Core.List.{List}
use mathlib.Core.Bool.{Bool, true, false, cond, ◌||◌, not}
use native.Mathlib.Omega.{arith}
use lib.ListN.{length, drop}
use lib.Dec.{eqb, leb, ltb}
use borrow.Author.Tests.{le-leb, lt-leb, lt-ltb, le-ltb}
use Rattle.blorb.specs.Format.{Chunk, chunk_in}
use Rattle.blorb.specs.Tags.{Exec}
use Rattle.blorb.specs.Verdict.{Verdict, accept, refuse, ◌then◌, check, known_usage_of, pair_in, verdict}
use Rattle.blorb.specs.Rules.{allows, rules_of}
use Rattle.blorb.specs.Model.{Model, file, model}
use Rattle.blorb.specs.Queries.{find, ref_at, chunk_at, start}
use Rattle.blorb.specs.All.{All}
use Rattle.blorb.specs.Sound.{W, Sound}
use Rattle.blorb.specs.Bytes.{rd32, Byte}
use Rattle.blorb.proofs.VerdictLaws.{model_fault, refs_in_order, verdict-file}
use Rattle.blorb.proofs.FindLaws.{pair_found}
use Rattle.edits.specs.Edit.{link_place_of, linked}
use Rattle.edits.specs.Run.{hundred}
use Rattle.edits.proofs.FaultLaws.{hundred_then, hundred-check}
use Rattle.edits.proofs.FitLaws.{linked-sound}
use Rattle.edits.proofs.EditsKeepOrder.{linked_in_order}
use Rattle.edits.proofs.LinkLaws.{linked-length}
use Rattle.edits.proofs.LinkVerdict.{linked-verdict}
use Rattle.edits.proofs.UndoJudged.{AcceptedFile, accepted-facts}
use Rattle.reader.specs.declared.Piece.{Piece}
use Rattle.undoing.proofs.ChunkAt.{chunk_in_place, chunk_inside}
use Rattle.linking.specs.Original.{Original}
use Rattle.linking.proofs.PlaceLaws.{chunk_there, starts_at}

-- the judgement of the file after a link, as the code makes it: l and k are the old file's length and count, c the original's chunk, i the new entry's place
-- and
-- o that of the entry that has the pair already
unfoldable link_judged : (profile : ℕ) → ℕ → ℕ → Chunk → ℕ → ℕ → ℕ → ℕ → Verdict
link_judged profile l k c i o u n =
    check (leb (l + 12) 16777216) 101 0
    then check (leb (k + 1) 4096) 111 20
    then check (known_usage_of u) 112 (24 + 12 * i)
    then check (allows profile u c) 114 (24 + 12 * i)
    then check (not (eqb u Exec) || eqb n 0) 115 (24 + 12 * i + 4)
    then check (not (ltb o k)) 116 (cond (ltb o i) (24 + 12 * i) (24 + 12 * suc o))

link-judged : (profile : ℕ) (m : Model) (j u n : ℕ) → Sound m → model_fault (rules_of profile) m ≡ accept → refs_in_order 0 m.refs ≡ true → j < length m.refs
    → u < W → n < W
    → hundred (verdict (rules_of profile) (file (linked m (ref_at m j).chunk u n)))
    ≡ link_judged profile (length (file m)) (length m.refs) (chunk_at m (ref_at m j).chunk) (link_place_of (ref_at m j).chunk m.refs) (find u n m.refs) u n
unfolding link_judged
link-judged profile m j u n s ok ord h hu hn =
    let k : ℕ = (ref_at m j).chunk in
    let K : ℕ = length m.refs in
    let i : ℕ = link_place_of k m.refs in
    let o : ℕ = find u n m.refs in
    let k1 : suc K ≡ K + 1 = omega arith in
    ap hundred (verdict-file (rules_of profile) (linked m k u n) (linked-sound m u n j s hu hn h) (linked_in_order m k u n ord)
    ∙ (λ z. check (leb (linked-length m k u n z) 16777216) 1 0 then linked-verdict profile m k u n ok z))
    ∙ hundreds (leb (length (file m) + 12) 16777216) (leb (suc K) 4096) (known_usage_of u) (allows profile u (chunk_at m k)) (not (eqb u Exec) || eqb n 0)
    (not (pair_in u n m.refs)) (24 + 12 * i)
    (cond (ltb o i) (24 + 12 * i) (24 + 12 * suc o))
    ∙ (λ z. check (leb (length (file m) + 12) 16777216) 101 0 then (check (leb (k1 z) 4096) 111 20 then (check (known_usage_of u) 112 (24 + 12 * i)
    then (check (allows profile u (chunk_at m k)) 114 (24 + 12 * i) then (check (not (eqb u Exec) || eqb n 0) 115 (24 + 12 * i + 4)
    then check (not (pair_found u n m.refs z)) 116 (cond (ltb o i) (24 + 12 * i) (24 + 12 * suc o)))))))
  where
    hundreds : (a c d e f g : Bool) (q r : ℕ)
        → hundred (check a 1 0 then (check c 11 20 then (check d 12 q then (check e 14 q then (check f 15 (q + 4) then check g 16 r)))))
        ≡ check a 101 0 then (check c 111 20 then (check d 112 q then (check e 114 q then (check f 115 (q + 4) then check g 116 r))))
    hundreds a c d e f g q r = simp (hundred_then, hundred-check)

-- from an accepted file, as the code has it: the entry goes in at i, and o is the place that the search for the pair gave
module _ (profile : ℕ) (f : List ℕ) (k : ℕ) (p : Piece) (i u n : ℕ) (bytes : All Byte f)
    (pre : (verdict (rules_of profile) f ≡ accept) × (Original f k p × ((i ≡ link_place_of (ref_at (model f) p.place).chunk (model f).refs) × (i ≤ k))))
    (hu : u < W) (hn : n < W) where
  abbrev H : Verdict
  H = hundred (verdict (rules_of profile) (file (linked (model f) (ref_at (model f) p.place).chunk u n)))

  abbrev there : ℕ
  there = find u n (model f).refs

  accepted-file : AcceptedFile profile f
  accepted-file = accepted-facts profile f bytes pre.0

  orig : Original f k p
  orig = pre.1.0

  small : length (file (model f)) < W
  small = omega (arith, accepted-file.short)

  -- the chunk is read in place
  pub chunk_read : chunk_in (drop p.start f) ≡ chunk_at (model f) (ref_at (model f) p.place).chunk
  chunk_read = (λ z. chunk_in (drop (starts_at f k p orig bytes z) (sym accepted-file.whole z)))
      ∙ chunk_in_place (model f) (ref_at (model f) p.place).chunk accepted-file.sound (chunk_there f k p orig bytes) small

  pub chunk_lies : p.start + (8 + rd32 (drop (p.start + 4) f)) ≤ length f
  chunk_lies =
      let t = chunk_inside (model f) (ref_at (model f) p.place).chunk accepted-file.sound (chunk_there f k p orig bytes) small in
      let e : rd32 (drop (p.start + 4) f) ≡ rd32 (drop (start (model f) (ref_at (model f) p.place).chunk + 4) (file (model f)))
      = λ z. rd32 (drop (starts_at f k p orig bytes z + 4) (sym accepted-file.whole z)) in
      omega (arith, t, e, starts_at f k p orig bytes, ap length accepted-file.whole)

  shape : H ≡ link_judged profile (length f) k (chunk_in (drop p.start f)) i (find u n (model f).refs) u n
  shape =
      let a = accepted-file in
      let c = orig.indexed.counted in
      link-judged profile (model f) p.place u n a.sound a.judged a.ordered (omega (arith, orig.there, c.entries)) hu hn
      ∙ (λ z. link_judged profile (length (a.whole z)) (sym c.entries z) (sym chunk_read z) (sym pre.1.1.0 z) (find u n (model f).refs) u n)

  pub out_101 : 16777216 < length f + 12 → refuse 101 0 ≡ H
  unfolding link_judged check ◌then◌
  out_101 h = sym (shape ∙ rw (lt-leb _ _ h))

  module _ (h1 : length f + 12 ≤ 16777216) where
    pub out_111 : 4096 < k + 1 → refuse 111 20 ≡ H
    unfolding link_judged check ◌then◌
    out_111 h = sym (shape ∙ rw (le-leb _ _ h1, lt-leb _ _ h))

    module _ (h3 : k + 1 ≤ 4096) where
      pub out_112 : known_usage_of u ≡ false → refuse 112 (24 + 12 * i) ≡ H
      unfolding link_judged check ◌then◌
      out_112 e = sym (shape ∙ rw (le-leb _ _ h1, le-leb _ _ h3, e))

      module _ (h4 : known_usage_of u ≡ true) where
        pub out_114 : allows profile u (chunk_in (drop p.start f)) ≡ false → refuse 114 (24 + 12 * i) ≡ H
        unfolding link_judged check ◌then◌
        out_114 e = sym (shape ∙ rw (le-leb _ _ h1, le-leb _ _ h3, h4, e))

        module _ (h5 : allows profile u (chunk_in (drop p.start f)) ≡ true) where
          pub out_115 : (not (eqb u Exec) || eqb n 0) ≡ false → refuse 115 (24 + 12 * i + 4) ≡ H
          unfolding link_judged check ◌then◌
          out_115 e = sym (shape ∙ rw (le-leb _ _ h1, le-leb _ _ h3, h4, h5, e))

          module _ (h6 : (not (eqb u Exec) || eqb n 0) ≡ true) (o : ℕ) (eo : o ≡ find u n (model f).refs) where
            search : H ≡ link_judged profile (length f) k (chunk_in (drop p.start f)) i o u n
            search = shape ∙ ap (λ (z : ℕ). link_judged profile (length f) k (chunk_in (drop p.start f)) i z u n) (sym eo)

            pub out_116 : o < i → refuse 116 (24 + 12 * i) ≡ H
            unfolding link_judged check ◌then◌
            out_116 h =
                let b : ltb o k ≡ true = lt-ltb o k (omega (arith, pre.1.1.1)) in
                sym (search ∙ rw (le-leb _ _ h1, le-leb _ _ h3, h4, h5, h6, b, lt-ltb o i h))

            pub out_116_old : i ≤ o → o < k → refuse 116 (24 + 12 * (o + 1)) ≡ H
            unfolding link_judged check ◌then◌
            out_116_old h l =
                let e : 24 + 12 * suc o ≡ 24 + 12 * (o + 1) = omega arith in
                sym (search ∙ rw (le-leb _ _ h1, le-leb _ _ h3, h4, h5, h6, lt-ltb o k l, le-ltb o i h) (ap (refuse 116) e))

            pub out_done : k ≤ o → accept ≡ H
            unfolding link_judged check ◌then◌
            out_done h = sym (search ∙ rw (le-leb _ _ h1, le-leb _ _ h3, h4, h5, h6, le-ltb o k h))
