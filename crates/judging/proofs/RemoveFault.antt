-- The refusals of a removal, without building its file: only rule 7's 19 can hold.
use mathlib.Core.Path.{◌≡◌, refl, sym, ap, ◌∙◌}
use Prim.Native.Nat.{ℕ, zero, suc, ◌+◌, ◌*◌, ◌-◌, ◌≤◌, ◌<◌}
use mathlib.Core.List.{List, [], ◌∷◌, ◌++◌, map}
use mathlib.Core.Bool.{Bool, true, false, cond, ◌&&◌, not}
use native.Mathlib.Omega.{arith}
use native.Mathlib.Nat.{le_of_suc-le-suc, not-suc-le-zero}
use lib.ListN.{length, get_or, take, drop, length-map}
use lib.Dec.{eqb, ltb}
use borrow.Author.Tests.{ne_eqb, eqb-false, le-leb, lt-ltb, le-ltb, ltb-true, ltb-false}
use Rattle.blorb.specs.Format.{Ref, Chunk, size, total}
use Rattle.std.specs.Prelude.{Option, Some, None}
use Rattle.blorb.specs.Verdict.{Verdict, accept, refuse, check, no_chunk, second_index, verdict}
use Rattle.blorb.specs.Tags.{Pict, Fspc}
use Rattle.blorb.specs.Rules.{picture, type_in, optional, rules_of}
use Rattle.blorb.specs.Model.{Model, base, start_of, file, model}
use Rattle.edits.specs.Edit.{remove, edited, lower, removed, removed_both, removed_entry}
use Rattle.blorb.specs.Queries.{find, no_ref, ref_at, chunk_at, without, shared, start, front_place, front_number}
use Rattle.blorb.specs.All.{All}
use Rattle.blorb.specs.Sound.{W, Sound}
use Rattle.blorb.specs.Bytes.{Byte}
use Rattle.blorb.proofs.Checks.{pass, accepts}
use Rattle.blorb.proofs.Accept.{accept_back}
use Rattle.edits.proofs.AddVerdict.{second-any}
use Rattle.edits.proofs.UndoLaws.{length_without, length_remaining}
use Rattle.blorb.proofs.VerdictLaws.{refs_fault, model_fault, verdict-file, file-judged, file-ordered}
use Rattle.edits.proofs.EditsKeepOrder.{edits_keep_order}
use Rattle.edits.proofs.RemoveVerdict.{refs_removed, refs_without}
use Rattle.edits.proofs.FitLaws.{edit-sound}
use Rattle.edits.specs.Starts.{fallen}
use Rattle.edits.specs.GoneSize.{gone_size_of}
use Rattle.edits.proofs.Starts.{fell}
use Rattle.edits.specs.Run.{hundred}
use Rattle.judging.specs.Told.{Listed}
use Rattle.reader.specs.declared.Frontispiece.{Frontispiece}
use Rattle.reader.specs.Inspecting.{front_of}
use Rattle.judging.proofs.OpenLaws.{front-nothing, front_at}
use Rattle.edits.proofs.Lengths.{length_removed}
use Rattle.edits.proofs.RemoveJudged.{second-without, picture-lower, picture-without, unlisted_length}
use Rattle.edits.proofs.JudgedLaws.{chunk_plain, Parts, model_parts}
use Rattle.edits.proofs.RuleSeven.{Plain}
use Rattle.edits.proofs.FrontLaws.{like_self, like_without, optional_like, front-picture}
use Rattle.edits.proofs.ReadBack.{same}
use Rattle.blorb.proofs.FindLaws.{find-pair}
use Rattle.blorb.proofs.ModelLaws.{chunk_in}

not_flip : (x y : Bool) → not x ≡ y → x ≡ not y
not_flip true y e = ap not e
not_flip false y e = ap not e

-- the frontispiece's place among fewer chunks
front-without : (cs : List Chunk) (k : ℕ) → k < length cs → Plain (get_or cs k no_chunk)
    → (front_place (without k cs) ≡ (lower k (record { usage = 0; number = 0; chunk = front_place cs })).chunk) × (eqb (front_place cs) k ≡ false)
unfolding front_place without lower
front-without [] k h p = absurd (not-suc-le-zero h)
front-without (c ∷ cs) zero h p = rw p.no_front (lowered (front_place cs), ne_eqb (suc (front_place cs)) 0 (λ e. omega arith))
  where
    lowered : (x : ℕ) → x ≡ cond (ltb 0 (suc x)) (suc x - 1) (suc x)
    lowered x = rw (lt-ltb 0 (suc x) (omega arith)) (omega arith)
front-without (c ∷ cs) (suc k) h p = go (eqb c.type Fspc) (front-without cs k (le_of_suc-le-suc h) p)
  where
    up : (x : ℕ) → suc (cond (ltb k x) (x - 1) x) ≡ cond (ltb (suc k) (suc x)) (suc x - 1) (suc x)
    up x = at_test (ltb k x) refl
      where
        at_test : (b : Bool) → ltb k x ≡ b → suc (cond b (x - 1) x) ≡ cond (ltb (suc k) (suc x)) (suc x - 1) (suc x)
        at_test true e = let lt = ltb-true k x e in rw (lt-ltb (suc k) (suc x) (omega arith)) (omega arith)
        at_test false e = let le = ltb-false k x e in rw (le-ltb (suc k) (suc x) (omega arith))

    go : (b : Bool) → (front_place (take k cs ++ drop (suc k) cs) ≡ cond (ltb k (front_place cs)) (front_place cs - 1) (front_place cs))
        × (eqb (front_place cs) k ≡ false)
        → (cond b 0 (suc (front_place (take k cs ++ drop (suc k) cs))) ≡ cond (ltb (suc k) (cond b 0 (suc (front_place cs))))
        (cond b 0 (suc (front_place cs)) - 1) (cond b 0 (suc (front_place cs)))) × (eqb (cond b 0 (suc (front_place cs))) (suc k) ≡ false)
    go true ih = (rw (le-ltb (suc k) 0 (omega arith)), ne_eqb 0 (suc k) (λ e. omega arith))
    go false ih = (ap suc ih.0 ∙ up (front_place cs), ne_eqb (suc (front_place cs)) (suc k) (λ e. eqb-false (front_place cs) k ih.1 (omega arith)))

fell_all : (n : ℕ) (cs : List Chunk) (s j : ℕ) → start_of (base n) cs j ≡ fallen s 0 (start_of (base (suc n)) cs j)
unfolding start_of base
fell_all n cs s j = both (ltb s (24 + 12 * suc n + total (take j cs)))
  where
    both : (x : Bool) → 24 + 12 * n + total (take j cs) ≡ cond x (24 + 12 * suc n + total (take j cs) - (12 + 0)) (24 + 12 * suc n + total (take j cs) - 12)
    both true = omega arith
    both false = omega arith

-- what rule 7 says after a removal, in the old file's terms
unfoldable pub lost_front : Model → ℕ → ℕ → ℕ → Verdict
lost_front m i u n = cond (type_in Fspc m.chunks)
    (check (not (eqb u Pict && eqb n (front_number m.chunks))) 19 (fallen (start m (ref_at m i).chunk) (gone_size_of m i)
    (start m (front_place m.chunks)) + 8)) accept

module _ (profile : ℕ) (m : Model) (i u n : ℕ) (s : Sound m) (ok : model_fault (rules_of profile) m ≡ accept) (h : i < length m.refs)
    (eu : (ref_at m i).usage ≡ u) (en : (ref_at m i).number ≡ n) where
  abbrev k : ℕ
  k = (ref_at m i).chunk

  abbrev cs : List Chunk
  cs = m.chunks

  abbrev rs : List Ref
  rs = m.refs

  parts : Parts profile m
  parts = model_parts profile m ok

  there : (ref_at m i).chunk < length m.chunks
  there = chunk_in m i s h

  pair : (q : ℕ) → same (ref_at m i) Pict q ≡ (eqb u Pict && eqb n q)
  pair q = rw (eu, en)

  still : (q : ℕ) → type_in Fspc m.chunks ≡ true → q ≡ front_number m.chunks → picture q m.chunks (without i m.refs) ≡ not (eqb u Pict && eqb n q)
  still q e w =
      not_flip (picture q cs (without i rs)) (same (get_or rs i no_ref) Pict q)
      (picture-without profile q cs i rs parts.entries_fine h (ap (λ (z : ℕ). picture z cs rs) w ∙ front-picture (base (length rs)) rs cs parts.seven e))
      ∙ ap not (pair q)

  pick : (b : Bool) (x y p p' : ℕ) (t t' : Bool) → type_in Fspc m.chunks ≡ b → (b ≡ true → t ≡ t') → p ≡ p' → cond b (check t 19 (p + 8)) accept ≡ cond b
      (check t' 19 (p' + 8)) accept
  pick true x y p p' t t' e f w = λ z. check (f refl z) 19 (w z + 8)
  pick false x y p p' t t' e f w = refl

  both_seven : shared m i ≡ false → gone_size_of m i ≡ size (chunk_at m k)
      → optional (base (length (removed_both m i k).refs)) (removed_both m i k).refs (removed_both m i k).chunks ≡ lost_front m i u n
  unfolding lost_front removed_both shared start
  both_seven alone gs =
      let pl = chunk_plain profile cs [] 24 rs i parts.entries_fine h in
      let fw = front-without cs k there pl in
      let x : Ref = record { usage = 0; number = 0; chunk = front_place cs } in
      let n1 : length (map (lower k) (without i rs)) ≡ length (without i rs) = length-map (without i rs) (lower k) in
      let n2 : suc (length (without i rs)) ≡ length rs = length_without i rs h in
      let place : start_of (base (length (map (lower k) (without i rs)))) (without k cs) (front_place (without k cs)) ≡ fallen
      (start_of (base (length rs)) cs k) (gone_size_of m i) (start_of (base (length rs)) cs (front_place cs))
      = (λ z. start_of (base (n1 z)) (without k cs) (fw.0 z)) ∙ fell (length (without i rs)) cs k x there fw.1
      ∙ (λ z. fallen (start_of (base (n2 z)) cs k) (sym gs z) (start_of (base (n2 z)) cs (front_place cs))) in
      optional_like (base (length rs)) (base (length (map (lower k) (without i rs)))) rs (map (lower k) (without i rs)) cs (without k cs)
      (like_without cs k there pl) parts.seven
      ∙ pick (type_in Fspc cs) 0 0 _ _ _ _ refl (λ e. picture-lower (front_number cs) cs k (without i rs) alone ∙ still (front_number cs) e refl) place

  entry_seven : gone_size_of m i ≡ 0
      → optional (base (length (removed_entry m i).refs)) (removed_entry m i).refs (removed_entry m i).chunks ≡ lost_front m i u n
  unfolding lost_front removed_entry start
  entry_seven gs =
      let n2 : suc (length (without i rs)) ≡ length rs = length_without i rs h in
      let place : start_of (base (length (without i rs))) cs (front_place cs) ≡ fallen (start_of (base (length rs)) cs k) (gone_size_of m i)
      (start_of (base (length rs)) cs (front_place cs))
      = fell_all (length (without i rs)) cs (start_of (base (length rs)) cs k) (front_place cs) ∙ (λ z. fallen (start_of (base (length rs)) cs k) (sym gs z)
      (start_of (base (n2 z)) cs (front_place cs))) in
      optional_like (base (length rs)) (base (length (without i rs))) rs (without i rs) cs cs (like_self cs) parts.seven
      ∙ pick (type_in Fspc cs) 0 0 _ _ _ _ refl (λ e. still (front_number cs) e refl) place

  gone_alone : shared m i ≡ false → gone_size_of m i ≡ size (chunk_at m k)
  unfolding gone_size_of
  gone_alone e = rw e

  gone_shared : shared m i ≡ true → gone_size_of m i ≡ 0
  unfolding gone_size_of
  gone_shared e = rw e

  -- only rule 7 is left
  both-model : shared m i ≡ false → model_fault (rules_of profile) (removed_both m i k) ≡ lost_front m i u n
  unfolding model_fault
  both-model e =
      let le : length (removed_both m i k).refs ≤ 4096 = omega (arith, length_remaining m i k h, parts.few) in
      let a : second_index (base (length (removed_both m i k).refs)) (removed_both m i k).chunks ≡ accept
      = (unfold removed_both in second-without (base (length rs)) (base (length (map (lower k) (without i rs)))) cs k parts.no_second) in
      let b : refs_fault (rules_of profile) (removed_both m i k).chunks [] 24 (removed_both m i k).refs ≡ accept =
      (unfold removed_both shared in refs_removed (rules_of profile) cs k i rs e parts.entries_fine) in
      accepts _ _ a ∙ pass _ _ _ _ (le-leb _ _ le) ∙ accepts _ _ b
      ∙ both_seven e (gone_alone e)

  entry-model : shared m i ≡ true → model_fault (rules_of profile) (removed_entry m i) ≡ lost_front m i u n
  unfolding model_fault
  entry-model e =
      let le : length (removed_entry m i).refs ≤ 4096 = (unfold removed_entry in omega (arith, length_without i rs h, parts.few)) in
      let a : second_index (base (length (removed_entry m i).refs)) (removed_entry m i).chunks ≡ accept
      = (unfold removed_entry in second-any (base (length rs)) (base (length (without i rs))) cs parts.no_second) in
      let b : refs_fault (rules_of profile) (removed_entry m i).chunks [] 24 (removed_entry m i).refs ≡ accept =
      (unfold removed_entry in refs_without (rules_of profile) cs [] [] 24 24 i rs (λ a b c. c) parts.entries_fine) in
      accepts _ _ a ∙ pass _ _ _ _ (le-leb _ _ le) ∙ accepts _ _ b
      ∙ entry_seven (gone_shared e)

  pub removed-model : model_fault (rules_of profile) (removed m i) ≡ lost_front m i u n
  unfolding removed
  removed-model = go (shared m i) refl
    where
      go : (b : Bool) → shared m i ≡ b → model_fault (rules_of profile) (cond b (removed_entry m i) (removed_both m i (ref_at m i).chunk)) ≡ lost_front m i u n
      go true e = entry-model e
      go false e = both-model e

  pub removed-length : length (file (removed m i)) + (12 + gone_size_of m i) ≡ length (file m)
  unfolding removed gone_size_of
  removed-length = go (shared m i) refl
    where
      go : (b : Bool) → shared m i ≡ b → length (file (cond b (removed_entry m i) (removed_both m i (ref_at m i).chunk))) + (12 + cond b 0
          (size (chunk_at m (ref_at m i).chunk))) ≡ length (file m)
      go false e = omega (arith, length_removed m i (ref_at m i).chunk h there)
      go true e = unlisted_length m i h

pub hundred-front : (b t : Bool) (p : ℕ) → hundred (cond b (check t 19 p) accept) ≡ cond b (check t 119 p) accept
unfolding check
hundred-front true true p = refl
hundred-front true false p = refl
hundred-front false t p = refl

-- from an accepted file, as the code has it
pub remove-fault : (profile : ℕ) (f : List ℕ) (u n : ℕ) → All Byte f → verdict (rules_of profile) f ≡ accept → u < W → n < W
    → find u n (model f).refs < length (model f).refs
    → hundred (verdict (rules_of profile) (file (removed (model f) (find u n (model f).refs))))
    ≡ cond (type_in Fspc (model f).chunks) (check (not (eqb u Pict && eqb n (front_number (model f).chunks))) 119
    (fallen (start (model f) (ref_at (model f) (find u n (model f).refs)).chunk) (gone_size_of (model f) (find u n (model f).refs))
    (start (model f) (front_place (model f).chunks)) + 8)) accept
unfolding edited
remove-fault profile f u n bytes fine hu hn found =
    let m : Model = model f in
    let i : ℕ = find u n m.refs in
    let g = accept_back (rules_of profile) f bytes fine in
    let old : verdict (rules_of profile) (file m) ≡ accept = ap (verdict (rules_of profile)) g.0 ∙ fine in
    let mf = file-judged (rules_of profile) m g.1 old in
    let ord = edits_keep_order m (remove u n) g.1 (file-ordered (rules_of profile) m g.1 old) in
    let fp = find-pair u n m.refs found in
    let sd : Sound (removed m i) = edit-sound m (remove u n) g.1 (hu, hn) found in
    let short : length (file (removed m i)) ≤ 16777216 = omega (
      arith,
      removed-length profile m i u n g.1 mf found fp.0 fp.1,
      ap length
          g.0,
      g.2,
    ) in
    ap hundred (verdict-file (rules_of profile) (removed m i) sd ord ∙ pass _ _ _ _ (le-leb _ _ short) ∙ removed-model profile m i u n g.1 mf found
    fp.0 fp.1)
    ∙ (unfold lost_front in hundred-front (type_in Fspc m.chunks) (not (eqb u Pict && eqb n (front_number m.chunks))) (fallen (start m (ref_at m i).chunk)
    (gone_size_of m i) (start m (front_place m.chunks)) + 8))

-- the ways out of the code
module _ (profile : ℕ) (f : List ℕ) (r : Option Frontispiece) (u n s a : ℕ) (bytes : All Byte f)
    (pre : (verdict (rules_of profile) f ≡ accept) × (Listed f u n s a × (r ≡ front_of (model f)))) (hu : u < W) (hn : n < W) where
  li : Listed f u n s a
  li = pre.1.0

  pub no_front : r ≡ None → accept ≡ hundred (verdict (rules_of profile) (file (removed (model f) (find u n (model f).refs))))
  no_front e = sym (remove-fault profile f u n bytes pre.0 hu hn li.found ∙ rw (front-nothing (model f) (sym pre.1.1 ∙ e)))

  module _ (fr : Frontispiece) (e : r ≡ Some fr) where
    shape : hundred (verdict (rules_of profile) (file (removed (model f) (find u n (model f).refs))))
        ≡ check (not (eqb u Pict && eqb n fr.number)) 119 (fallen s a fr.start + 8)
    shape =
        let w = front_at (model f) fr (sym pre.1.1 ∙ e) in
        remove-fault profile f u n bytes pre.0 hu hn li.found
        ∙ ap (λ (b : Bool). cond b (check (not (eqb u Pict && eqb n (front_number (model f).chunks))) 119
        (fallen (start (model f) (ref_at (model f) (find u n (model f).refs)).chunk) (gone_size_of (model f) (find u n (model f).refs))
        (start (model f) (front_place (model f).chunks)) + 8)) accept) w.0
        ∙ (λ z. check (not (eqb u Pict && eqb n (sym w.2 z))) 119 (fallen (sym li.starts z) (sym li.gone z) (sym w.1 z) + 8))

    pub lost_front_lem : (eqb u Pict && eqb n fr.number) ≡ true → refuse 119 (fallen s a fr.start + 8) ≡ hundred
        (verdict (rules_of profile) (file (removed (model f) (find u n (model f).refs))))
    unfolding check
    lost_front_lem t = sym (shape ∙ rw t)

    pub kept-front : (eqb u Pict && eqb n fr.number) ≡ false → accept ≡ hundred (verdict (rules_of profile) (file (removed (model f) (find u n
        (model f).refs))))
    unfolding check
    kept-front t = sym (shape ∙ rw t)
