-- The refusals of a replacement, without building its file: 101, 109, 114 and 119.
use mathlib.Core.Path.{◌≡◌, refl, sym, ap, ◌∙◌}
use Prim.Native.Nat.{ℕ, zero, suc, ◌+◌, ◌*◌, ◌-◌, ◌≤◌, ◌<◌, ◌%◌}
use mathlib.Core.List.{List, [], ◌∷◌}
use mathlib.Core.Bool.{Bool, true, false, cond, ◌&&◌, not}
use native.Mathlib.Omega.{arith}
use native.Mathlib.Nat.{le_of_suc-le-suc, not-suc-le-zero}
use lib.ListN.{length, get_or, take, set}
use lib.Dec.{eqb, leb}
use borrow.Author.Tests.{eq-eqb, ne_eqb, le-leb, lt-leb}
use Rattle.blorb.specs.Format.{Ref, Chunk, size, total, chunk_of}
use Rattle.blorb.specs.Tags.{RIdx, Pict, Rect, Fspc}
use Rattle.std.specs.Prelude.{Option, Some, None}
use Rattle.blorb.specs.Verdict.{Verdict, accept, refuse, ◌then◌, check, no_chunk, second_index, verdict}
use Rattle.blorb.specs.Rules.{allows, type_in, optional, rules_of}
use Rattle.blorb.specs.Model.{Model, base, start_of, file, model}
use Rattle.edits.specs.Edit.{replaced}
use Rattle.blorb.specs.Queries.{find, ref_at, chunk_at, shared, start, front_place, front_number}
use Rattle.blorb.specs.All.{All}
use Rattle.blorb.specs.Sound.{W, Sound}
use Rattle.blorb.specs.Bytes.{Byte}
use Rattle.blorb.proofs.Checks.{then_accept, check_accept, pass, then_end}
use Rattle.blorb.proofs.Accept.{accept_back}
use Rattle.edits.proofs.AddVerdict.{second-any}
use Rattle.blorb.proofs.VerdictLaws.{refs_fault, model_fault, verdict-file, file-judged, file-ordered}
use Rattle.edits.proofs.ReplaceVerdict.{refs_replaced}
use Rattle.edits.proofs.FitLaws.{replaced-sound}
use Rattle.edits.specs.Starts.{behind}
use Rattle.edits.proofs.Starts.{shifted}
use Rattle.edits.proofs.Lengths.{length-replaced}
use Rattle.blorb.proofs.ModelLaws.{size-get_or, chunk_in}
use Rattle.blorb.proofs.Parts.{file-length, size_of}
use Rattle.blorb.proofs.FindLaws.{find-pair}
use Rattle.edits.specs.Run.{hundred}
use Rattle.reader.specs.declared.Piece.{Piece}
use Rattle.reader.specs.declared.Frontispiece.{Frontispiece}
use Rattle.reader.specs.Inspecting.{front_of}
use Rattle.judging.proofs.OpenLaws.{shared-is, front-nothing, front_at}
use Rattle.judging.specs.Told.{Own}
use Rattle.edits.proofs.RuleSeven.{Plain, allowed_plain}
use Rattle.edits.proofs.JudgedLaws.{chunk_plain, Parts, model_parts}
use Rattle.judging.proofs.RemoveFault.{hundred-front}
use Rattle.edits.proofs.FaultLaws.{hundred_then, hundred-check}
use Rattle.edits.proofs.FitFacts.{size_is}
use Rattle.edits.proofs.FrontPicture.{optional-replaced}

-- a second index: only the new chunk can be one
second-set : (at at' : ℕ) (cs : List Chunk) (k : ℕ) (c : Chunk) → k < length cs → second_index at cs ≡ accept → second_index at' (set cs k c) ≡ check
    (not (eqb c.type RIdx)) 9 (start_of at' cs k)
unfolding second_index start_of total
second-set at at' [] k c h ok = absurd (not-suc-le-zero h)
second-set at at' (x ∷ cs) zero c h ok =
    let z : at' ≡ at' + 0 = omega arith in
    ap (λ (v : Verdict). check (not (eqb c.type RIdx)) 9 at' then v) (second-any (at + size x) (at' + size c) cs (then_accept _ _ ok).1) ∙ then_end _
    ∙ ap (check (not (eqb c.type RIdx)) 9) z
second-set at at' (x ∷ cs) (suc k) c h ok =
    let p = then_accept _ _ ok in
    let z : at' + size x + total (take k cs) ≡ at' + (size x + total (take k cs)) = omega arith in
    pass _ _ _ _ (check_accept _ _ _ p.0) ∙ second-set (at + size x) (at' + size x) cs k c (le_of_suc-le-suc h) p.1
    ∙ ap (check (not (eqb c.type RIdx)) 9) z

-- the frontispiece keeps its place
front-set : (cs : List Chunk) (k : ℕ) (c : Chunk) → k < length cs → Plain (get_or cs k no_chunk) → Plain c → front_place (set cs k c) ≡ front_place cs
unfolding front_place
front-set [] k c h o p = absurd (not-suc-le-zero h)
front-set (x ∷ cs) zero c h o p = rw (o.no_front, p.no_front)
front-set (x ∷ cs) (suc k) c h o p = rw (front-set cs k c (le_of_suc-le-suc h) o p)

module _ (profile : ℕ) (m : Model) (u n t : ℕ) (d : List ℕ) (s : Sound m) (ok : model_fault (rules_of profile) m ≡ accept)
    (h : find u n m.refs < length m.refs) (alone : shared m (find u n m.refs) ≡ false) where
  abbrev i : ℕ
  i = find u n m.refs

  abbrev k : ℕ
  k = (ref_at m (find u n m.refs)).chunk

  abbrev c : Chunk
  c = chunk_of t d

  abbrev cs : List Chunk
  cs = m.chunks

  abbrev rs : List Ref
  rs = m.refs

  abbrev p : ℕ
  p = 24 + 12 * find u n m.refs

  parts : Parts profile m
  parts = model_parts profile m ok

  there : (ref_at m (find u n m.refs)).chunk < length m.chunks
  there = chunk_in m i s h

  -- 119: the frontispiece's picture becomes a 'Rect'
  unfoldable pub spoilt_front : Verdict
  spoilt_front = cond (type_in Fspc m.chunks) (check (not ((eqb u Pict && eqb n (front_number m.chunks)) && eqb t Rect)) 19
      (behind (start m (ref_at m (find u n m.refs)).chunk) (size (chunk_at m (ref_at m (find u n m.refs)).chunk)) (size (chunk_of t d))
      (start m (front_place m.chunks)) + 8)) accept

  seven : allows profile u (chunk_of t d) ≡ true → optional (base (length m.refs)) m.refs (set m.chunks k (chunk_of t d)) ≡ spoilt_front
  unfolding spoilt_front shared start
  seven pl =
      let o = chunk_plain profile cs [] 24 rs i parts.entries_fine h in
      let q = allowed_plain profile u c pl in
      let place : start_of (base (length rs)) (set cs k c) (front_place (set cs k c)) ≡ behind (start_of (base (length rs)) cs k) (size (get_or cs k no_chunk))
      (size c) (start_of (base (length rs)) cs (front_place cs))
      = ap (start_of (base (length rs)) (set cs k c)) (front-set cs k c there o q) ∙ shifted (base (length rs)) cs k c (front_place cs) there in
      optional-replaced (rules_of profile) (base (length rs)) (base (length rs)) cs rs u n c parts.entries_fine parts.seven h alone there o q
      ∙ ap (λ (z : ℕ). cond (type_in Fspc cs) (check (not ((eqb u Pict && eqb n (front_number cs)) && eqb t Rect)) 19 (z + 8)) accept) place

  pub replaced-model : model_fault (rules_of profile) (replaced m k (chunk_of t d)) ≡ check (not (eqb t RIdx)) 9 (start m k) then
      (check (allows profile u (chunk_of t d)) 14 p then spoilt_front)
  unfolding model_fault replaced start shared
  replaced-model =
      let fp = find-pair u n rs h in
      let a = second-set (base (length rs)) (base (length rs)) cs k c there parts.no_second in
      let b : refs_fault (rules_of profile) (set cs k c) [] 24 rs ≡ check (allows profile u c) 14 p
      = refs_replaced (rules_of profile) cs k c there [] 24 rs i h refl alone parts.entries_fine ∙ ap (λ (z : ℕ). check (allows profile z c) 14 p) fp.0 in
      let w : Verdict = optional (base (length rs)) rs (set cs k c) in
      (λ z. a z then (check (leb (length rs) 4096) 11 20 then (b z then w)))
      ∙ ap (λ (v : Verdict). check (not (eqb t RIdx)) 9 (start_of (base (length rs)) cs k) then v) (pass _ _ _ _ (le-leb _ _ parts.few)
      ∙ looked (allows profile u c) refl w)
    where
      looked : (x : Bool) → allows profile u (chunk_of t d) ≡ x → (w : Verdict) → check x 14 p then optional (base (length m.refs)) m.refs
          (set m.chunks k (chunk_of t d)) ≡ check x 14 p then spoilt_front
      looked true e w = ap (λ (v : Verdict). check true 14 p then v) (seven e)
      looked false e w = (unfold check ◌then◌ in refl)

-- from an accepted file, as the code has it
pub replace-fault : (profile : ℕ) (f : List ℕ) (u n t : ℕ) (d : List ℕ) → All Byte f → verdict (rules_of profile) f ≡ accept → u < W → n < W → t < W
    → find u n (model f).refs < length (model f).refs → shared (model f) (find u n (model f).refs) ≡ false
    → hundred (verdict (rules_of profile) (file (replaced (model f) (ref_at (model f) (find u n (model f).refs)).chunk (chunk_of t d))))
    ≡ check (leb (length f - size (chunk_at (model f) (ref_at (model f) (find u n (model f).refs)).chunk) + size (chunk_of t d)) 16777216) 101 0
    then (check (not (eqb t RIdx)) 109 (start (model f) (ref_at (model f) (find u n (model f).refs)).chunk)
    then (check (allows profile u (chunk_of t d)) 114 (24 + 12 * find u n (model f).refs)
    then cond (type_in Fspc (model f).chunks) (check (not ((eqb u Pict && eqb n (front_number (model f).chunks)) && eqb t Rect)) 119
    (behind (start (model f) (ref_at (model f) (find u n (model f).refs)).chunk)
    (size (chunk_at (model f) (ref_at (model f) (find u n (model f).refs)).chunk)) (size (chunk_of t d)) (start (model f) (front_place (model f).chunks))
    + 8)) accept))
unfolding replaced
replace-fault profile f u n t d bytes fine hu hn ht found alone =
    let m : Model = model f in
    let k : ℕ = (ref_at m (find u n m.refs)).chunk in
    let g = accept_back (rules_of profile) f bytes fine in
    let old : verdict (rules_of profile) (file m) ≡ accept = ap (verdict (rules_of profile)) g.0 ∙ fine in
    let mf = file-judged (rules_of profile) m g.1 old in
    let ord = file-ordered (rules_of profile) m g.1 old in
    let sd : Sound (replaced m k (chunk_of t d)) = replaced-sound m k (chunk_of t d) g.1 (record { type_fits = ht }) in
    let th = there profile m u n t d g.1 mf found alone in
    let len : length (file (replaced m k (chunk_of t d))) ≡ length f - size (chunk_at m k) + size (chunk_of t d) =
    omega (arith, length-replaced m k (chunk_of t d) th, ap length g.0, size-get_or m.chunks k no_chunk th, file-length m) in
    ap hundred (verdict-file (rules_of profile) (replaced m k (chunk_of t d)) sd ord
    ∙ (λ z. check (leb (len z) 16777216) 1 0 then replaced-model profile m u n t d g.1 mf found alone z))
    ∙ spread (leb (length f - size (chunk_at m k) + size (chunk_of t d)) 16777216) (not (eqb t RIdx)) (allows profile u (chunk_of t d)) (start m k)
    (24 + 12 * find u n m.refs) (spoilt_front profile m u n t d g.1 mf found alone)
    ∙ ap (λ (v : Verdict). check (leb (length f - size (chunk_at m k) + size (chunk_of t d)) 16777216) 101 0 then (check (not (eqb t RIdx)) 109 (start m k)
    then (check (allows profile u (chunk_of t d)) 114 (24 + 12 * find u n m.refs) then v)))
    (unfold spoilt_front in hundred-front (type_in Fspc m.chunks) (not ((eqb u Pict && eqb n (front_number m.chunks)) && eqb t Rect))
    (behind (start m k) (size (chunk_at m k)) (size (chunk_of t d)) (start m (front_place m.chunks)) + 8))
  where
    spread : (a b c : Bool) (p q : ℕ) (v : Verdict) → hundred (check a 1 0 then (check b 9 p then (check c 14 q then v))) ≡ check a 101 0 then
        (check b 109 p then (check c 114 q then hundred v))
    spread a b c p q v = simp (hundred_then, hundred-check)

-- the ways out of the code
module _ (profile : ℕ) (f : List ℕ) (r : Option Frontispiece) (p : Piece) (u n t : ℕ) (d : List ℕ) (bytes : All Byte f)
    (pre : (verdict (rules_of profile) f ≡ accept) × (Own f u n p × (r ≡ front_of (model f)))) (hu : u < W) (hn : n < W) (ht : t < W) where
  o : Own f u n p
  o = pre.1.0

  abbrev a : ℕ
  a = 8 + (p.length + p.length % 2)

  abbrev H : Verdict
  H = hundred (verdict (rules_of profile) (file (replaced (model f) (ref_at (model f) (find u n (model f).refs)).chunk (chunk_of t d))))

  abbrev new : ℕ
  new = 8 + (length d + length d % 2)

  shape : (b : Bool) → type_in Fspc (model f).chunks ≡ b
      → H ≡ check (leb (length f - a + (8 + (length d + length d % 2))) 16777216) 101 0 then (check (not (eqb t RIdx)) 109 p.start then
      (check (allows profile u (chunk_of t d)) 114 (24 + 12 * p.place)
      then cond b (check (not ((eqb u Pict && eqb n (front_number (model f).chunks)) && eqb t Rect)) 119 (behind p.start a (8 + (length d + length d % 2))
      (start (model f) (front_place (model f).chunks)) + 8)) accept))
  shape b e =
      let sz : size (chunk_of t d) ≡ new = size_of t d ∙ omega arith in
      let i : ℕ = find u n (model f).refs in
      let sp : size (chunk_at (model f) (ref_at (model f) i).chunk) ≡ a = size_is (chunk_at (model f) (ref_at (model f) i).chunk)
      ∙ ap (λ (z : Piece). 8 + (z.length + z.length % 2)) (sym o.piece) in
      replace-fault profile f u n t d bytes pre.0 hu hn ht o.found (sym (shared-is (model f) i p o.piece) ∙ o.alone)
      ∙ (λ z. check (leb (length f - sp z + sz z) 16777216) 101 0 then (check (not (eqb t RIdx)) 109 (sym o.piece z).start then
      (check (allows profile u (chunk_of t d)) 114 (24 + 12 * (sym o.piece z).place)
      then cond (e z) (check (not ((eqb u Pict && eqb n (front_number (model f).chunks)) && eqb t Rect)) 119 (behind (sym o.piece z).start (sp z) (sz z)
      (start (model f) (front_place (model f).chunks)) + 8)) accept)))

  pub out_101 : 16777216 < length f - a + new → refuse 101 0 ≡ H
  unfolding check ◌then◌
  out_101 h = sym (shape (type_in Fspc (model f).chunks) refl ∙ rw (lt-leb _ _ h))

  pub out_109 : length f - a + new ≤ 16777216 → t ≡ RIdx → refuse 109 p.start ≡ H
  unfolding check ◌then◌
  out_109 h e = sym (shape (type_in Fspc (model f).chunks) refl ∙ rw (le-leb _ _ h, eq-eqb t RIdx e))

  pub out_114 : length f - a + new ≤ 16777216 → (t ≡ RIdx → ⊥) → allows profile u (chunk_of t d) ≡ false → refuse 114 (24 + 12 * p.place) ≡ H
  unfolding check ◌then◌
  out_114 h e q = sym (shape (type_in Fspc (model f).chunks) refl ∙ rw (le-leb _ _ h, ne_eqb t RIdx e, q))

  module _ (h : length f - a + (8 + (length d + length d % 2)) ≤ 16777216) (e : t ≡ RIdx → ⊥) (pl : allows profile u (chunk_of t d) ≡ true) where
    pub out_nothing : r ≡ None → accept ≡ H
    unfolding check ◌then◌
    out_nothing q = sym (shape false (front-nothing (model f) (sym pre.1.1 ∙ q)) ∙ rw (le-leb _ _ h, ne_eqb t RIdx e, pl))

    module _ (fr : Frontispiece) (is : r ≡ Some fr) where
      there-is : H ≡ check (not ((eqb u Pict && eqb n fr.number) && eqb t Rect)) 119 (behind p.start a (8 + (length d + length d % 2)) fr.start + 8)
      there-is =
          let w = front_at (model f) fr (sym pre.1.1 ∙ is) in
          let g : check (leb (length f - a + (8 + (length d + length d % 2))) 16777216) 101 0 then (check (not (eqb t RIdx)) 109 p.start then
          (check (allows profile u (chunk_of t d)) 114 (24 + 12 * p.place)
          then check (not ((eqb u Pict && eqb n fr.number) && eqb t Rect)) 119 (behind p.start a (8 + (length d + length d % 2)) fr.start + 8)))
          ≡ check (not ((eqb u Pict && eqb n fr.number) && eqb t Rect)) 119 (behind p.start a (8 + (length d + length d % 2)) fr.start + 8)
          = pass _ _ _ _ (le-leb _ _ h) ∙ pass _ _ _ _ (ap not (ne_eqb t RIdx e)) ∙ pass _ _ _ _ pl in
          shape true w.0
          ∙ (λ z. check (leb (length f - a + (8 + (length d + length d % 2))) 16777216) 101 0 then (check (not (eqb t RIdx)) 109 p.start then
          (check (allows profile u (chunk_of t d)) 114 (24 + 12 * p.place)
          then check (not ((eqb u Pict && eqb n (sym w.2 z)) && eqb t Rect)) 119 (behind p.start a (8 + (length d + length d % 2)) (sym w.1 z) + 8))))
          ∙ g

      pub out_119 : ((eqb u Pict && eqb n fr.number) && eqb t Rect) ≡ true → refuse 119 (behind p.start a (8 + (length d + length d % 2)) fr.start + 8) ≡ H
      unfolding check
      out_119 x = sym (there-is ∙ rw x)

      pub out_kept : ((eqb u Pict && eqb n fr.number) && eqb t Rect) ≡ false → accept ≡ H
      unfolding check
      out_kept x = sym (there-is ∙ rw x)
