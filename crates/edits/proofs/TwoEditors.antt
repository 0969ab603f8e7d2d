-- Two replacements in either order give the same file; and the length of a file after a run is told by its edits (02, P13).
use mathlib.Core.Path.{◌≡◌, refl, sym, ap, subst, ◌∙◌}
use Prim.Native.Nat.{ℕ, ◌+◌, ◌≤◌, ◌<◌}
use mathlib.Core.List.{List, [], ◌∷◌}
use mathlib.Core.Bool.{Bool, true, false, cond}
use native.Mathlib.Omega.{arith}
use lib.ListN.{length}
use lib.Seq.{length-take-le}
use Rattle.blorb.specs.Bytes.{Byte}
use Rattle.blorb.specs.All.{All}
use Rattle.blorb.specs.Format.{Chunk, size, sized}
use Rattle.blorb.specs.Verdict.{Rules, accept}
use Rattle.blorb.specs.Model.{Model, model, file}
use Rattle.blorb.specs.Queries.{find, ref_at, chunk_at, shared}
use Rattle.blorb.specs.Sound.{Sound}
use Rattle.blorb.proofs.AllLaws.{all_take}
use Rattle.blorb.proofs.Accept.{accept_back, accept_short}
use Rattle.blorb.proofs.Checks.{then_accept}
use Rattle.blorb.proofs.ModelLaws.{model-file, chunk_in}
use Rattle.edits.specs.Edit.{Edit, add, replace, remove, link, given_chunk, removed, removed_entry, removed_both, edited}
use Rattle.edits.specs.Run.{State, file_in, Call, edit, CallOk, ArgsOk, after, after_edit, edit_fault, edited_file, fault, step, run, ledger_file}
use Rattle.edits.specs.Demand3.{Begins, list_after}
use Rattle.edits.specs.TwoEditors.{SameFile, Other, NamesOther, BothOrders, EitherOrder, LaterWins}
use Rattle.edits.specs.TwoEditors.{padded, grows, falls, grown, shrunk, LengthAfter}
use Rattle.edits.proofs.Applies.{Applies}
use Rattle.edits.proofs.FitLaws.{edit-sound}
use Rattle.edits.proofs.RunLaws.{target_applies, take-written, hundred_accept}
use Rattle.edits.proofs.LinkLaws.{linked-length}
use Rattle.edits.proofs.Commute.{edited_comm, edited-twice}
use Rattle.edits.proofs.Lengths.{length-added, length-replaced, length_removed}
use Rattle.edits.proofs.Demand3.{Valid, holds, agree, first}
use Rattle.edits.proofs.RemoveJudged.{unlisted_length}

-- a successful edit leaves its file
step-file : (R : Rules) (s : State) (e : Edit) → fault R s (edit e) ≡ accept → file_in (step R s (edit e)) ≡ edited_file (file_in s) e
step-file R s e h = unfold step after after_edit in rw h (take-written s.buffer s.L (edited_file (file_in s) e))

-- what a successful edit tells: its target, and the file after it with its model
record Told (R : Rules) (s : State) (e : Edit) : Type 0 where
  sound : Sound (model (file_in s))
  applies : Applies (model (file_in s)) e
  after_is : file_in (step R s (edit e)) ≡ edited_file (file_in s) e
  model_is : model (edited_file (file_in s) e) ≡ edited (model (file_in s)) e

module _ (R : Rules) (s : State) (bytes : All Byte (file_in s)) where
  told : (e : Edit) → ArgsOk e → fault R s (edit e) ≡ accept → Told R s e
  unfolding step after after_edit fault edit_fault edited_file
  told e a h =
      let f : List ℕ = file_in s in
      let h2 = then_accept _ _ (then_accept _ _ (then_accept _ _ h).1).1 in
      let h3 = then_accept _ _ h2.1 in
      let ap : Applies (model f) e = target_applies (model f) e h3.0 in
      let g = accept_back R f bytes h2.0 in
      let sd : Sound (edited (model f) e) = edit-sound (model f) e g.1 a ap in
      let len : length (file (edited (model f) e)) ≤ 16777216 = accept_short R (file (edited (model f) e)) (hundred_accept _ (then_accept _ _ h3.1).0) in
      record {
        sound = g.1;
        applies = ap;
        after_is = step-file R s e h;
        model_is = model-file (edited (model f) e) sd (omega arith);
      }

-- a state that holds the file f, and its length
record Holds (s : State) (f : List ℕ) : Type 0 where
  len : s.L ≡ length f
  bytes : file_in s ≡ f

holds_same : (s t : State) (f g : List ℕ) → f ≡ g → Holds s f → Holds t g → SameFile s t
holds_same s t f g e h k = record { same_length = h.len ∙ ap length e ∙ sym k.len; same_bytes = h.bytes ∙ e ∙ sym k.bytes }

-- the file after one successful edit, and after two, the second of which succeeds too
one : (R : Rules) (s : State) (e : Edit) → fault R s (edit e) ≡ accept → Holds (step R s (edit e)) (edited_file (file_in s) e)
one R s e h = record { len = (unfold step after after_edit in rw h); bytes = step-file R s e h }

two : (R : Rules) (s : State) (a b : Edit) → Told R s a → fault R (step R s (edit a)) (edit b) ≡ accept
    → Holds (run R s (edit a ∷ (edit b ∷ []))) (file (edited (edited (model (file_in s)) a) b))
unfolding run
two R s a b t h =
    let e : edited_file (file_in (step R s (edit a))) b ≡ file (edited (edited (model (file_in s)) a) b)
    = ap (λ (f : List ℕ). edited_file f b) t.after_is ∙ (unfold edited_file in ap (λ (m : Model). file (edited m b)) t.model_is) in
    subst (Holds (step R (step R s (edit a)) (edit b))) e (one R (step R s (edit a)) b h)

-- A replacement and any edit that names other resources, in either order, where all four calls succeed: the same file.
pub replacement_commutes : (R : Rules) (s : State) (u n t : ℕ) (d : List ℕ) (e : Edit)
    → All Byte s.buffer → ArgsOk (replace u n t d) → ArgsOk e → NamesOther u n e
    → BothOrders R s (edit (replace u n t d)) (edit e) → EitherOrder R s (edit (replace u n t d)) (edit e)
replacement_commutes R s u n t d e bytes a b ne w =
    let m : Model = model (file_in s) in
    let fb : All Byte (file_in s) = all_take Byte s.L s.buffer bytes in
    let p = told R s fb (replace u n t d) a w.a_first in
    let q = told R s fb e b w.b_first in
    holds_same _ _ _ _ (ap file (sym (edited_comm m u n t d e p.sound p.applies q.applies ne)))
    (two R s (replace u n t d) e p w.then_b) (two R s e (replace u n t d) q w.then_a)

-- "Replacing two different resources in either order, where all four calls succeed, gives the same file."
pub replacements_commute : (R : Rules) (s : State) (u n t : ℕ) (d : List ℕ) (v o x : ℕ) (y : List ℕ)
    → All Byte s.buffer → ArgsOk (replace u n t d) → ArgsOk (replace v o x y) → Other u n v o
    → BothOrders R s (edit (replace u n t d)) (edit (replace v o x y)) → EitherOrder R s (edit (replace u n t d)) (edit (replace v o x y))
replacements_commute R s u n t d v o x y = replacement_commutes R s u n t d (replace v o x y)

-- Of two replacements of one resource the file has the later one alone, where both succeed and the later one succeeds without the first too.
pub later_wins : (R : Rules) (s : State) (u n t : ℕ) (d : List ℕ) (x : ℕ) (y : List ℕ) → All Byte s.buffer → ArgsOk (replace u n t d)
    → fault R s (edit (replace u n t d)) ≡ accept → fault R (step R s (edit (replace u n t d))) (edit (replace u n x y)) ≡ accept
    → fault R s (edit (replace u n x y)) ≡ accept → LaterWins R s (edit (replace u n t d)) (edit (replace u n x y))
unfolding run edited_file
later_wins R s u n t d x y bytes a first then_later alone =
    let p = told R s (all_take Byte s.L s.buffer bytes) (replace u n t d) a first in
    holds_same _ _ _ _ (ap file (edited-twice (model (file_in s)) u n t d x y))
    (two R s (replace u n t d) (replace u n x y) p then_later) (one R s (replace u n x y) alone)

-- an edit's own change
size-padded : (c : Chunk) → size c ≡ 8 + padded c
unfolding size sized padded
size-padded c = refl

own_change : (m : Model) (e : Edit) → Sound m → Applies m e → length (file (edited m e)) + falls m e ≡ length (file m) + grows m e
unfolding edited removed grows falls
own_change m (add u n t d) s a = omega (arith, length-added m u n (given_chunk t d), size-padded (given_chunk t d))
own_change m (replace u n t d) s a =
    let k : ℕ = (ref_at m (find u n m.refs)).chunk in
    let there : k < length m.chunks = chunk_in m (find u n m.refs) s a.0 in
    omega (arith, length-replaced m k (given_chunk t d) there, size-padded (given_chunk t d), size-padded (chunk_at m k))
own_change m (link v o u n) s a = omega (arith, linked-length m (ref_at m (find v o m.refs)).chunk u n)
own_change m (remove u n) s a = go (shared m (find u n m.refs))
  where
    i : ℕ
    i = find u n m.refs

    k : ℕ
    k = (ref_at m (find u n m.refs)).chunk

    go : (b : Bool) → length (file (cond b (removed_entry m i) (removed_both m i k))) + (12 + cond b 0 (8 + padded (chunk_at m k))) ≡ length (file m) + 0
    go true = omega (arith, unlisted_length m i a)
    go false = omega (arith, length_removed m i k a (chunk_in m i s a), size-padded (chunk_at m k))

-- of a whole list
module _ (R : Rules) (f₀ : List ℕ) (N J : ℕ) (known : R.known ≡ true) where
  lengths : (es : List Edit) → Valid R f₀ N J known es → length (ledger_file f₀ es) + shrunk f₀ es ≡ length f₀ + grown f₀ es
  unfolding ledger_file grown shrunk edit_fault edited_file
  lengths [] v = refl
  lengths (e ∷ es) v =
      let g = (holds R f₀ N J known es v.0).good in
      let h = then_accept _ _ (then_accept _ _ (then_accept _ _ v.2).1).1 in
      let c = own_change (model (ledger_file f₀ es)) e g.sound (target_applies (model (ledger_file f₀ es)) e h.0) in
      let w : length (file (model (ledger_file f₀ es))) ≡ length (ledger_file f₀ es) = ap length g.whole in
      omega (arith, lengths es v.0)

-- "after any run the file's length is its starting length plus, for each edit not taken back, its own change"
pub length-after : (R : Rules) (s : State) (cs : List Call) → Begins R s → All CallOk cs → LengthAfter R s cs
length-after R s cs b args =
    let f : List ℕ = file_in s in
    let N : ℕ = length s.buffer in
    let J : ℕ = length s.journal in
    let r = agree R f N J b.known s [] cs args (first R s cs b args) in
    let whole : length f ≡ s.L = length-take-le s.L s.buffer b.inside in
    rw r.1.match.L-is (lengths R f N J b.known (list_after R s cs) r.1.valid ∙ ap (λ (l : ℕ). l + grown f (list_after R s cs)) whole)
