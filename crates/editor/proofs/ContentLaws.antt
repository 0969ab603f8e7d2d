-- What a file holds for a pair, told by its model; what a successful edit tells of the models before and after it.
use mathlib.Core.Path.{◌≡◌, refl, sym, ap, ◌∙◌}
use Prim.Native.Nat.{ℕ, suc, ◌+◌, ◌-◌, ◌%◌, ◌<◌}
use mathlib.Core.List.{List, ◌++◌, append_assoc}
use mathlib.Core.Bool.{Bool, true, false, ◌&&◌}
use native.Mathlib.Omega.{arith}
use lib.ListN.{length, take, drop, replicate, length-append, length-drop}
use lib.Seq.{drop-drop, take_at}
use lib.Dec.{eqb, leb, ltb}
use borrow.Author.Tests.{eq-eqb, eqb-true, ltb-true, not-true, lt-ltb}
use Rattle.blorb.specs.Bytes.{Byte, be32}
use Rattle.blorb.specs.All.{All}
use Rattle.blorb.specs.Tags.{FORM}
use Rattle.blorb.specs.Format.{Chunk, chunk_bytes, chunks_bytes}
use Rattle.blorb.specs.Verdict.{accept, verdict, ref_fault, pair_in}
use Rattle.blorb.specs.Rules.{rules_of, profile_verdict}
use Rattle.blorb.specs.Model.{Model, model, file}
use Rattle.blorb.specs.Queries.{find, ref_at, chunk_at, start}
use Rattle.blorb.specs.Lookup.{Look, missing, here, lookup, left_out_of, shown}
use Rattle.blorb.proofs.ByteLaws.{length-be32}
use Rattle.blorb.specs.Sound.{W, Sound}
use Rattle.blorb.proofs.Checks.{then_accept, check_accept, both_true}
use Rattle.blorb.proofs.Accept.{accept_back, accept_short}
use Rattle.blorb.proofs.ModelLaws.{model-file, chunk_in}
use Rattle.blorb.proofs.Profiles.{profile_known}
use Rattle.blorb.proofs.VerdictLaws.{model_fault, file-judged}
use Rattle.blorb.proofs.FindLaws.{pair_found, find-pair, look_missing, look_find}
use Rattle.reader.specs.Reading.{found_at, lookup_of, part_of}
use Rattle.std.specs.Prelude.{Result, Ok}
use Rattle.blorb.specs.declared.refusal.Refusal.{Refusal}
use Rattle.blorb.specs.Refusals.{Refused}
use Rattle.reader.specs.declared.Resource.{Resource}
use Rattle.reader.proofs.Promises.{lookup_here, lookup_nowhere}
use Rattle.edits.specs.Edit.{Edit, add, replace, remove, link, added, linked, edited, given_chunk}
use Rattle.edits.specs.Run.{ArgsOk, whole_fault, target_fault, edited_file, edit_fault}
use Rattle.edits.proofs.Applies.{Applies}
use Rattle.edits.proofs.LastLaws.{drop-take}
use Rattle.edits.proofs.WholeForms.{given-shown}
use Rattle.undoing.proofs.ChunkAt.{drop-start}
use Rattle.edits.proofs.AddVerdict.{added-verdict}
use Rattle.edits.proofs.LinkVerdict.{linked-verdict}
use Rattle.edits.proofs.RunLaws.{Good, target_applies, hundred_accept}
use Rattle.edits.proofs.FitLaws.{edit-sound}
use Rattle.edits.proofs.ReadBack.{
  same,
  add_reads,
  add_keeps,
  replace_reads,
  replace_keeps,
  remove_gone,
  remove_keeps,
  link_reads,
  link_keeps,
  link_on_new,
  link_on_old,
}
use Rattle.editor.specs.ReadsBack.{Content, nothing, holds, content_of, Holds, DataBytes, OwnPair, Apart, OtherPair}

-- the two answers of a lookup
content_found : (profile : ℕ) (f : List ℕ) (u n : ℕ) (r : Resource) → lookup_of profile f u n ≡ Ok r
    → content_of profile f u n ≡ holds r.kind (part_of (lookup_of profile f u n) f)
unfolding content_of
content_found profile f u n r e = rw e

content_refused : (profile : ℕ) (f : List ℕ) (u n k p : ℕ) → lookup_of profile f u n ≡ Refused k p → content_of profile f u n ≡ nothing
unfolding content_of
content_refused profile f u n k p e = rw e

-- what is shown of a chunk stands at its bytes' front
shown-part : (c : Chunk) (rest : List ℕ) → take (8 + length c.body - left_out_of c.type) (drop (left_out_of c.type) (chunk_bytes c ++ rest)) ≡ shown c
unfolding chunk_bytes shown
shown-part c rest =
    let k : ℕ = left_out_of c.type in
    let m : ℕ = length c.body in
    let w : List ℕ = be32 c.type ++ (be32 m ++ c.body) in
    let z : List ℕ = replicate (m % 2) 0 ++ rest in
    let e : be32 c.type ++ (be32 m ++ (c.body ++ replicate (m % 2) 0)) ++ rest ≡ w ++ z = simp append_assoc in
    let l : length w ≡ 8 + m = simp (length-append, length-be32) (omega arith) in
    ap (λ (x : List ℕ). take (8 + m - k) (drop k x)) e ∙ sym (drop-take k (8 + m) (w ++ z)) ∙ ap (drop k) (take_at w z (8 + m) l)

shown-length : (c : Chunk) → length (shown c) ≡ 8 + length c.body - left_out_of c.type
unfolding shown
shown-length c = simp (length-drop, length-append, length-be32) (omega arith)

-- an accepted file that is its model's: nothing is in it but its header, its index and its chunks
pub record Own (profile : ℕ) (f : List ℕ) : Type 0 where
  pub fine : profile_verdict profile f ≡ accept
  pub good : Good (rules_of profile) f

module _ (profile : ℕ) (f : List ℕ) (u n : ℕ) (o : Own profile f) where
  abbrev m : Model
  m = model f

  abbrev i : ℕ
  i = find u n (model f).refs

  abbrev k : ℕ
  k = (ref_at (model f) (find u n (model f).refs)).chunk

  -- the part that a lookup of such a file names is what is shown of the chunk that the model has
  module _ (l : i < length m.refs) where
    there : lookup m u n ≡ here (chunk_at m k)
    unfolding lookup
    there = look_find m.chunks u n m.refs l

    part-is : part_of (lookup_of profile f u n) f ≡ shown (chunk_at m k)
    part-is =
        let c : Chunk = chunk_at m k in
        let x : ℕ = start m k in
        let left : ℕ = left_out_of c.type in
        let size : ℕ = 8 + length c.body - left in
        let small : length (file m) < W = omega (arith, ap length o.good.whole, o.good.short) in
        ap (λ (a : Result Resource Refusal). part_of a f) (lookup_here profile f u n o.fine c there).0
        ∙ ap (take size) (sym (drop-drop left x f))
        ∙ ap (λ (g : List ℕ). take size (drop left (drop x g))) (sym o.good.whole)
        ∙ ap (λ (g : List ℕ). take size (drop left g)) (drop-start m k o.good.sound (chunk_in m i o.good.sound l) small)
        ∙ shown-part c (chunks_bytes (drop (suc k) m.chunks))

  pub part_here : (c : Chunk) → lookup m u n ≡ here c → part_of (lookup_of profile f u n) f ≡ shown c
  unfolding lookup
  part_here c e = go (ltb i (length m.refs)) refl
    where
      go : (b : Bool) → ltb (find u n (model f).refs) (length (model f).refs) ≡ b → part_of (lookup_of profile f u n) f ≡ shown c
      go true q = let l = ltb-true _ _ q in let s : chunk_at (model f) k ≡ c = cc (there l, e) in part-is l ∙ ap shown s
      go false q =
          let none = look_missing (model f).chunks u n (model f).refs (pair_found u n (model f).refs ∙ q) in
          let z : ◌≡◌ {A = ℕ} 0 1 = cc (none, e) in
          absurd (omega arith)

something : (c : Chunk) → holds c.type (shown c) ≡ nothing → ⊥
something c e = let z : ◌≡◌ {A = ℕ} 0 1 = cc in omega arith

-- it holds for a pair what its model has
abbrev pub content_in : Look → Content
content_in missing = nothing
content_in (here c) = holds c.type (shown c)

pub content_is : (profile : ℕ) (f : List ℕ) (u n : ℕ) → Own profile f → content_of profile f u n ≡ content_in (lookup (model f) u n)
content_is profile f u n o = go (lookup (model f) u n) refl
  where
    go : (l : Look) → lookup (model f) u n ≡ l → content_of profile f u n ≡ content_in l
    go missing e = content_refused profile f u n 22 0 (lookup_nowhere profile f u n o.fine e)
    go (here c) e = content_found profile f u n _ (lookup_here profile f u n o.fine c e).0 ∙ ap (holds c.type) (part_here profile f u n o c e)

-- of data that was given to an add or a replacement the lookup gives all again, the head of a 'FORM' included
pub holds_given : (profile : ℕ) (f : List ℕ) (u n t : ℕ) (d : List ℕ) → Own profile f → (t ≡ FORM → All Byte d) → whole_fault t d ≡ accept
    → lookup (model f) u n ≡ here (given_chunk t d) → Holds profile f u n t d
holds_given profile f u n t d o bytes w e =
    let c : Chunk = given_chunk t d in
    let p = (lookup_here profile f u n o.fine c e).0 in
    let back : shown c ≡ d = given-shown t d bytes w in
    let l : 8 + length c.body - left_out_of t ≡ length d = sym (shown-length c) ∙ ap length back in
    let x : ℕ = start (model f) (ref_at (model f) (find u n (model f).refs)).chunk + left_out_of t in
    record {
      start = x;
      found = p ∙ ap (λ (z : ℕ). Ok (record { kind = t; start = x; length = z })) l;
      content = content_found profile f u n _ p ∙ ap
          (holds t) (part_here profile f u n o c e ∙ back);
    }

-- a successful edit of the file f: both files are accepted, and the new one's model is the edited model
pub record Told (profile : ℕ) (f : List ℕ) (e : Edit) : Type 0 where
  pub old : Own profile f
  pub new : Own profile (edited_file f e)
  pub sound : Sound (model f)
  pub on_target : target_fault (model f) e ≡ accept
  pub judged : model_fault (rules_of profile) (model f) ≡ accept
  pub judged_new : model_fault (rules_of profile) (edited (model f) e) ≡ accept
  pub applies : Applies (model f) e
  pub same : model (edited_file f e) ≡ edited (model f) e

pub edit-told : (profile N J : ℕ) (f : List ℕ) (L U : ℕ) (e : Edit) → All Byte f → ArgsOk e → leb profile 1 ≡ true
    → edit_fault (rules_of profile) N J f L U e ≡ accept → Told profile f e
unfolding edit_fault edited_file
edit-told profile N J f L U e bytes args known h =
    let h2 = then_accept _ _ (then_accept _ _ h).1 in
    let h3 = then_accept _ _ h2.1 in
    let g = accept_back (rules_of profile) f bytes h2.0 in
    let ap : Applies (model f) e = target_applies (model f) e h3.0 in
    let new : verdict (rules_of profile) (file (edited (model f) e)) ≡ accept = hundred_accept _ (then_accept _ _ h3.1).0 in
    let sd : Sound (edited (model f) e) = edit-sound (model f) e g.1 args ap in
    let short = accept_short (rules_of profile) (file (edited (model f) e)) new in
    let same : model (file (edited (model f) e)) ≡ edited (model f) e = model-file (edited (model f) e) sd (omega arith) in
    record {
      old = record { fine = profile_known profile f known ∙ h2.0; good = record { fine = h2.0; whole = g.0; sound = g.1; short = g.2 } };
      new = record {
        fine = profile_known profile (file (edited (model f) e)) known ∙ new;
        good = record { fine = new; whole = (λ i. file (same i)); sound = rw same sd; short = short };
      };
      sound = g.1;
      on_target = h3.0;
      judged = file-judged (rules_of profile) (model f) g.1 (rw g.0 h2.0);
      judged_new = file-judged (rules_of profile) (edited (model f) e) sd new;
      applies = ap;
      same = same;
    }

-- the pair of an accepted add was in no entry before: 16 would have refused it
not_there : (profile : ℕ) (m : Model) (u n : ℕ) (c : Chunk) → Sound m → model_fault (rules_of profile) m ≡ accept → model_fault (rules_of profile)
    (added m u n c) ≡ accept → pair_in u n m.refs ≡ false
unfolding ref_fault
not_there profile m u n c s h k =
    let a = then_accept _ _ (sym (added-verdict (rules_of profile) m u n c s h) ∙ k) in
    let b = then_accept _ _ (then_accept _ _ a.1).1 in
    let d = then_accept _ _ (then_accept _ _ b.0).1 in
    not-true _ (check_accept _ _ _ (then_accept _ _ d.1).1)

-- and so was the new pair of an accepted link
not_linked : (profile : ℕ) (m : Model) (k u n : ℕ) → model_fault (rules_of profile) m ≡ accept → model_fault (rules_of profile) (linked m k u n) ≡ accept
    → pair_in u n m.refs ≡ false
not_linked profile m k u n h j =
    let a = then_accept _ _ (sym (linked-verdict profile m k u n h) ∙ j) in
    let b = then_accept _ _ a.1 in
    let c = then_accept _ _ b.1 in
    let d = then_accept _ _ c.1 in
    not-true _ (check_accept _ _ _ d.1)

-- a pair that is not there is not the one that is found
not_found : (m : Model) (u n v o : ℕ) → pair_in u n m.refs ≡ false → find v o m.refs < length m.refs → (eqb u v && eqb n o) ≡ false
not_found m u n v o none h = go (eqb u v) (eqb n o) refl refl
  where
    go : (a b : Bool) → eqb u v ≡ a → eqb n o ≡ b → a && b ≡ false
    go true true p q =
        let l : find u n m.refs < length m.refs = rw (eqb-true u v p, eqb-true n o q) h in
        let z : ◌≡◌ {A = Bool} false true = sym none ∙ pair_found u n m.refs ∙ lt-ltb _ _ l in
        cc
    go true false p q = refl
    go false b p q = refl

-- the entry that find gives has the pair sought, so no other
found_same : (m : Model) (u n : ℕ) → find u n m.refs < length m.refs → same (ref_at m (find u n m.refs)) u n ≡ true
found_same m u n h =
    let p = find-pair u n m.refs h in
    both_true _ _ (eq-eqb _ _ p.0) (eq-eqb _ _ p.1)

apart_eqb : (u n v k : ℕ) → Apart u n v k → (eqb u v && eqb n k) ≡ false
apart_eqb u n v k o = go (eqb u v) (eqb n k) refl refl
  where
    go : (a b : Bool) → eqb u v ≡ a → eqb n k ≡ b → a && b ≡ false
    go true true p q = absurd (o (eqb-true u v p, eqb-true n k q))
    go true false p q = refl
    go false b p q = refl

found_apart : (m : Model) (u n v k : ℕ) → find u n m.refs < length m.refs → Apart u n v k → same (ref_at m (find u n m.refs)) v k ≡ false
found_apart m u n v k h o =
    let p = find-pair u n m.refs h in
    apart_eqb _ _ v k (λ e. o (sym p.0 ∙ e.0, sym p.1 ∙ e.1))

-- the edit's own pair in the new file
pub own_pair : (profile : ℕ) (f : List ℕ) (e : Edit) → DataBytes e → Told profile f e → OwnPair profile e (edited_file f e)
unfolding edited model_fault target_fault
own_pair profile f (add u n t d) bytes k =
    let fresh : pair_in u n (model f).refs ≡ false = not_there profile (model f) u n (given_chunk t d) k.sound k.judged k.judged_new in
    holds_given profile (edited_file f (add u n t d)) u n t d k.new bytes k.on_target
    (ap (λ (m : Model). lookup m u n) k.same ∙ add_reads (model f) u n (given_chunk t d) k.sound fresh)
own_pair profile f (replace u n t d) bytes k =
    holds_given profile (edited_file f (replace u n t d)) u n t d k.new bytes (then_accept _ _ (then_accept _ _ k.on_target).1).1
    (ap (λ (m : Model). lookup m u n) k.same ∙ replace_reads (model f) u n (given_chunk t d) k.applies.0
    (chunk_in (model f) (find u n (model f).refs) k.sound k.applies.0))
own_pair profile f (remove u n) bytes k =
    let i : ℕ = find u n (model f).refs in
    let refs = (then_accept _ _ (then_accept _ _ (then_accept _ _ k.judged).1).1).0 in
    lookup_nowhere profile (edited_file f (remove u n)) u n k.new.fine
    (ap (λ (m : Model). lookup m u n) k.same ∙ remove_gone (rules_of profile) (model f) i u n refs k.applies (found_same (model f) u n k.applies))
own_pair profile f (link v o u n) bytes k =
    let m : Model = model f in
    let g : List ℕ = edited_file f (link v o u n) in
    let kc : ℕ = (ref_at m (find v o m.refs)).chunk in
    let fresh : pair_in u n m.refs ≡ false = not_linked profile m kc u n k.judged k.judged_new in
    let other : (eqb u v && eqb n o) ≡ false = not_found m u n v o fresh k.applies in
    let here-is : lookup m v o ≡ here (chunk_at m kc) = (unfold lookup in look_find m.chunks v o m.refs k.applies) in
    let new : lookup (model g) u n ≡ here (chunk_at m kc)
    = ap (λ (z : Model). lookup z u n) k.same ∙ link_reads m v o u n k.applies fresh ∙ here-is in
    let old : lookup (model g) v o ≡ here (chunk_at m kc) = ap (λ (z : Model). lookup z v o) k.same ∙ link_keeps m kc u n v o other ∙ here-is in
    let on_one : (ref_at (model g) (find u n (model g).refs)).chunk ≡ (ref_at (model g) (find v o (model g).refs)).chunk
    = rw k.same (link_on_new m kc u n fresh ∙ sym (link_on_old m kc u n v o other)) in (
      (lookup_here profile g u n k.new.fine (chunk_at m kc) new).0
          ∙ ap (λ (j : ℕ). found_at (chunk_at m kc) (start (model g) j)) on_one
          ∙ sym (lookup_here profile g v o k.new.fine (chunk_at m kc) old).0,
      λ e. something _ (sym (content_is profile g v o k.new ∙ ap content_in old) ∙ e),
    )

-- every other pair
keeps : (m : Model) (e : Edit) (v k : ℕ) → Sound m → Applies m e → OtherPair e v k → lookup (edited m e) v k ≡ lookup m v k
unfolding edited
keeps m (add u n t d) v k s a o = add_keeps m u n (given_chunk t d) v k s (apart_eqb u n v k o)
keeps m (replace u n t d) v k s a o = replace_keeps m (find u n m.refs) (given_chunk t d) v k a.0 a.1 (found_apart m u n v k a.0 o)
keeps m (link w q u n) v k s a o = link_keeps m (ref_at m (find w q m.refs)).chunk u n v k (apart_eqb u n v k o)
keeps m (remove u n) v k s a o = remove_keeps m (find u n m.refs) v k a (found_apart m u n v k a o)

pub other_pair : (profile : ℕ) (f : List ℕ) (e : Edit) (v k : ℕ) → Told profile f e → OtherPair e v k
    → content_of profile (edited_file f e) v k ≡ content_of profile f v k
other_pair profile f e v k t o =
    content_is profile (edited_file f e) v k t.new
    ∙ ap (λ (m : Model). content_in (lookup m v k)) t.same
    ∙ ap content_in (keeps (model f) e v k t.sound t.applies o)
    ∙ sym (content_is profile f v k t.old)
