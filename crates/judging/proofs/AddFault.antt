-- The refusals of an add, without building its file.
use mathlib.Core.Path.{◌≡◌, refl, sym, ap, ◌∙◌}
use Prim.Native.Nat.{ℕ, suc, ◌+◌, ◌*◌, ◌≤◌, ◌<◌, ◌%◌}
use mathlib.Core.List.{List, [], ◌∷◌, ◌++◌}
use mathlib.Core.Bool.{Bool, true, false, ◌||◌, not}
use native.Mathlib.Omega.{arith}
use lib.ListN.{length, get_or}
use lib.Seq.{get_or-append_seam}
use lib.Dec.{eqb, leb, ltb}
use borrow.Author.Tests.{eq-eqb, ne_eqb, le-leb, lt-leb}
use Rattle.blorb.specs.Format.{Ref, Chunk, total, chunk_of}
use Rattle.blorb.specs.Tags.{RIdx, Exec}
use Rattle.std.specs.Prelude.{Option, Some, None}
use Rattle.blorb.specs.Verdict.{Verdict, accept, refuse, ◌then◌, check, no_chunk, known_usage_of, ref_fault, verdict}
use Rattle.blorb.specs.Rules.{allows, optional, rules_of}
use Rattle.blorb.specs.Model.{Model, base, file, model}
use Rattle.edits.specs.Edit.{added}
use Rattle.blorb.specs.Queries.{find}
use Rattle.blorb.specs.All.{All}
use Rattle.blorb.specs.Sound.{W, Sound}
use Rattle.blorb.specs.Bytes.{Byte}
use Rattle.blorb.proofs.Checks.{then_accept, then_assoc}
use Rattle.blorb.proofs.Accept.{accept_back}
use Rattle.edits.proofs.AddVerdict.{added-verdict}
use Rattle.blorb.proofs.VerdictLaws.{model_fault, refs_in_order, verdict-file, file-judged, file-ordered}
use Rattle.edits.proofs.EditsKeepOrder.{added_in_order}
use Rattle.edits.proofs.FitLaws.{added-sound}
use Rattle.edits.proofs.Lengths.{length-added}
use Rattle.edits.specs.Run.{hundred}
use Rattle.reader.specs.declared.Piece.{Piece}
use Rattle.reader.specs.Inspecting.{target_of}
use Rattle.judging.specs.Told.{Counted}
use Rattle.judging.proofs.OpenLaws.{target_at, target-nothing}
use Rattle.edits.proofs.FaultLaws.{hundred_then, hundred-check, unlooked}
use Rattle.edits.proofs.RuleSeven.{allowed_plain, optional-added}
use Rattle.blorb.proofs.Parts.{file-length, size_of}
use Rattle.blorb.proofs.FindLaws.{pair_found}

-- the judgement of the file after an add, as the code makes it: l and k are the old file's length and count, b says that the pair is there
unfoldable add_judged : (profile : ℕ) → ℕ → ℕ → Bool → ℕ → ℕ → ℕ → List ℕ → Verdict
add_judged profile l k b u n t d =
    check (leb (l + (20 + (length d + length d % 2))) 16777216) 101 0
    then check (not (eqb t RIdx)) 109 (l + 12)
    then check (leb (k + 1) 4096) 111 20
    then check (known_usage_of u) 112 (24 + 12 * k)
    then check (allows profile u (chunk_of t d)) 114 (24 + 12 * k)
    then check (not (eqb u Exec) || eqb n 0) 115 (24 + 12 * k + 4)
    then check (not b) 116 (24 + 12 * k)

module _ (profile : ℕ) (m : Model) (u n t : ℕ) (d : List ℕ) (s : Sound m) (ok : model_fault (rules_of profile) m ≡ accept) (hu : u < W) (hn : n < W)
    (ht : t < W) where
  abbrev c : Chunk
  c = chunk_of t d

  abbrev K : ℕ
  K = length m.refs

  abbrev x : Ref
  x = record { usage = u; number = n; chunk = length m.chunks }

  seven : allows profile u c ≡ true → optional (base (suc K)) (m.refs ++ (x ∷ [])) (m.chunks ++ (c ∷ [])) ≡ accept
  unfolding model_fault
  seven h =
      let a = then_accept _ _ (then_accept _ _ (then_accept _ _ ok).1).1 in
      optional-added (base K) (base (suc K)) m.refs m.chunks x c s.refs_ok (allowed_plain profile u c h) a.1

  place9 : base (suc K) + total m.chunks ≡ length (file m) + 12
  unfolding base
  place9 = omega (arith, file-length m)

  own_type : get_or (m.chunks ++ (c ∷ [])) (length m.chunks) no_chunk ≡ c
  own_type = get_or-append_seam m.chunks c [] no_chunk

  entry-judged : ref_fault (rules_of profile) (m.chunks ++ (c ∷ [])) m.refs (24 + 12 * K) x
      ≡ check (allows profile u c) 14 (24 + 12 * K) then check (not (eqb u Exec) || eqb n 0) 15 (24 + 12 * K + 4) then check
      (not (ltb (find u n m.refs) K)) 16 (24 + 12 * K)
  unfolding ref_fault
  entry-judged = rw (own_type, pair_found u n m.refs)

  model-judged : model_fault (rules_of profile) (added m u n c)
      ≡ check (not (eqb t RIdx)) 9 (length (file m) + 12)
      then check (leb (suc K) 4096) 11 20
      then check (known_usage_of u) 12 (24 + 12 * K)
      then check (allows profile u c) 14 (24 + 12 * K)
      then check (not (eqb u Exec) || eqb n 0) 15 (24 + 12 * K + 4)
      then check (not (ltb (find u n m.refs) K)) 16 (24 + 12 * K)
  model-judged =
      let v : Verdict = check (not (eqb u Exec) || eqb n 0) 15 (24 + 12 * K + 4) then check (not (ltb (find u n m.refs) K)) 16 (24 + 12 * K) in
      let w : Verdict = optional (base (suc K)) (m.refs ++ (x ∷ [])) (m.chunks ++ (c ∷ [])) in
      let A : Verdict = check (known_usage_of u) 12 (24 + 12 * K) in
      let e : (A then ref_fault (rules_of profile) (m.chunks ++ (c ∷ [])) m.refs (24 + 12 * K) x) then w ≡ A then
      (check (allows profile u c) 14 (24 + 12 * K) then v)
      = ap (λ (z : Verdict). (A then z) then w) entry-judged ∙ then_assoc A (check (allows profile u c) 14 (24 + 12 * K) then v) w
      ∙ ap (λ (z : Verdict). A then z) (unlooked (allows profile u c) 14 (24 + 12 * K) v w seven) in
      added-verdict (rules_of profile) m u n c s ok
      ∙ (λ i. check (not (eqb t RIdx)) 9 (place9 i) then (check (leb (suc K) 4096) 11 20 then e i))

  add-judged : refs_in_order 0 m.refs ≡ true → hundred (verdict (rules_of profile) (file (added m u n c))) ≡ add_judged profile (length (file m)) K
      (ltb (find u n m.refs) K) u n t d
  unfolding add_judged
  add-judged ord =
      let k1 : suc K ≡ K + 1 = omega arith in
      let l1 : length (file (added m u n c)) ≡ length (file m) + (20 + (length d + length d % 2)) = length-added m u n c ∙ omega (arith, size_of t d) in
      let sd : Sound (added m u n c) = added-sound m u n c s hu hn (record { type_fits = ht }) in
      ap hundred (verdict-file (rules_of profile) (added m u n c) sd (added_in_order m u n c s ord) ∙
      (λ i. check (leb (l1 i) 16777216) 1 0 then model-judged i))
      ∙ hundreds (leb (length (file m) + (20 + (length d + length d % 2))) 16777216) (not (eqb t RIdx)) (leb (suc K) 4096) (known_usage_of u)
      (allows profile u c) (not (eqb u Exec) || eqb n 0) (not (ltb (find u n m.refs) K)) (length (file m) + 12) (24 + 12 * K)
      ∙ ap (λ (z : ℕ). check (leb (length (file m) + (20 + (length d + length d % 2))) 16777216) 101 0 then
      (check (not (eqb t RIdx)) 109 (length (file m) + 12) then (check (leb z 4096) 111 20
      then (check (known_usage_of u) 112 (24 + 12 * K) then (check (allows profile u c) 114 (24 + 12 * K) then (check (not (eqb u Exec) || eqb n 0) 115
      (24 + 12 * K + 4) then check (not (ltb (find u n m.refs) K)) 116 (24 + 12 * K))))))) k1
    where
      hundreds : (a b c d e f g : Bool) (p q : ℕ)
          → hundred (check a 1 0 then (check b 9 p then (check c 11 20 then (check d 12 q then (check e 14 q then (check f 15 (q + 4) then check g 16 q))))))
          ≡ check a 101 0 then (check b 109 p then (check c 111 20 then (check d 112 q then (check e 114 q then (check f 115 (q + 4) then check g 116 q)))))
      hundreds a b c d e f g p q = simp (hundred_then, hundred-check)

-- from an accepted file, as the code has it
add-fault : (profile : ℕ) (f : List ℕ) (k : ℕ) (b : Bool) (u n t : ℕ) (d : List ℕ) → All Byte f → verdict (rules_of profile) f ≡ accept → Counted f k
    → ltb (find u n (model f).refs) (length (model f).refs) ≡ b → u < W → n < W → t < W
    → hundred (verdict (rules_of profile) (file (added (model f) u n (chunk_of t d)))) ≡ add_judged profile (length f) k b u n t d
add-fault profile f k b u n t d bytes fine co eb hu hn ht =
    let g = accept_back (rules_of profile) f bytes fine in
    let old : verdict (rules_of profile) (file (model f)) ≡ accept = ap (verdict (rules_of profile)) g.0 ∙ fine in
    add-judged profile (model f) u n t d g.1 (file-judged (rules_of profile) (model f) g.1 old) hu hn ht
    (file-ordered (rules_of profile) (model f) g.1 old)
    ∙ (λ j. add_judged profile (length (g.0 j)) (sym co.entries j) (eb j) u n t d)

-- the ways out of the code
module _ (profile : ℕ) (f : List ℕ) (k : ℕ) (g : Option Piece) (u n t : ℕ) (d : List ℕ) (bytes : All Byte f)
    (pre : (verdict (rules_of profile) f ≡ accept) × (Counted f k × (g ≡ target_of (model f) u n))) (hu : u < W) (hn : n < W) (ht : t < W) where
  abbrev H : Verdict
  H = hundred (verdict (rules_of profile) (file (added (model f) u n (chunk_of t d))))

  abbrev there : Bool
  there = ltb (find u n (model f).refs) (length (model f).refs)

  shape : (b : Bool) → ltb (find u n (model f).refs) (length (model f).refs) ≡ b → H ≡ add_judged profile (length f) k b u n t d
  shape b e = add-fault profile f k b u n t d bytes pre.0 pre.1.0 e hu hn ht

  pub out_101 : 16777216 < length f + (20 + (length d + length d % 2)) → refuse 101 0 ≡ H
  unfolding add_judged check ◌then◌
  out_101 h = sym (shape there refl ∙ rw (lt-leb _ _ h))

  module _ (h1 : length f + (20 + (length d + length d % 2)) ≤ 16777216) where
    pub out_109 : t ≡ RIdx → refuse 109 (length f + 12) ≡ H
    unfolding add_judged check ◌then◌
    out_109 e = sym (shape there refl ∙ rw (le-leb _ _ h1, eq-eqb t RIdx e))

    module _ (h2 : t ≡ RIdx → ⊥) where
      pub out_111 : 4096 < k + 1 → refuse 111 20 ≡ H
      unfolding add_judged check ◌then◌
      out_111 h = sym (shape there refl ∙ rw (le-leb _ _ h1, ne_eqb t RIdx h2, lt-leb _ _ h))

      module _ (h3 : k + 1 ≤ 4096) where
        pub out_112 : known_usage_of u ≡ false → refuse 112 (24 + 12 * k) ≡ H
        unfolding add_judged check ◌then◌
        out_112 e = sym (shape there refl ∙ rw (le-leb _ _ h1, ne_eqb t RIdx h2, le-leb _ _ h3, e))

        module _ (h4 : known_usage_of u ≡ true) where
          pub out_114 : allows profile u (chunk_of t d) ≡ false → refuse 114 (24 + 12 * k) ≡ H
          unfolding add_judged check ◌then◌
          out_114 e = sym (shape there refl ∙ rw (le-leb _ _ h1, ne_eqb t RIdx h2, le-leb _ _ h3, h4, e))

          module _ (h5 : allows profile u (chunk_of t d) ≡ true) where
            pub out_115 : (not (eqb u Exec) || eqb n 0) ≡ false → refuse 115 (24 + 12 * k + 4) ≡ H
            unfolding add_judged check ◌then◌
            out_115 e = sym (shape there refl ∙ rw (le-leb _ _ h1, ne_eqb t RIdx h2, le-leb _ _ h3, h4, h5, e))

            module _ (h6 : (not (eqb u Exec) || eqb n 0) ≡ true) where
              pub out_116 : (p : Piece) → g ≡ Some p → refuse 116 (24 + 12 * k) ≡ H
              unfolding add_judged check ◌then◌
              out_116 p e = sym (shape true (target_at (model f) u n p (sym pre.1.1 ∙ e)).0
                  ∙ rw (le-leb _ _ h1, ne_eqb t RIdx h2, le-leb _ _ h3, h4, h5, h6))

              pub out_done : g ≡ None → accept ≡ H
              unfolding add_judged check ◌then◌
              out_done e = sym (shape false (target-nothing (model f) u n (sym pre.1.1 ∙ e))
                  ∙ rw (le-leb _ _ h1, ne_eqb t RIdx h2, le-leb _ _ h3, h4, h5, h6))
