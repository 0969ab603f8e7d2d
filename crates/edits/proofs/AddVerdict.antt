-- What is left to judge of a file after an add, where the file before it was accepted: 9, 11, the new entry and rule 7.
use mathlib.Core.Path.{◌≡◌, refl, sym, ap, ◌∙◌}
use Prim.Native.Nat.{ℕ, suc, ◌+◌, ◌*◌}
use mathlib.Core.List.{List, [], ◌∷◌, ◌++◌, append-nil}
use mathlib.Core.Bool.{not}
use native.Mathlib.Omega.{arith}
use native.Mathlib.Nat.{add-zero}
use lib.ListN.{length, length-append, get_or-append}
use lib.Seq.{append_snoc}
use lib.Dec.{eqb, leb}
use Rattle.blorb.specs.Format.{Ref, Chunk, size, total}
use Rattle.blorb.specs.Tags.{RIdx}
use Rattle.blorb.specs.Verdict.{Rules, Verdict, accept, ◌then◌, check, second_index, ref_fault, known_usage_of, no_chunk}
use Rattle.blorb.specs.Model.{Model, base}
use Rattle.edits.specs.Edit.{added}
use Rattle.blorb.specs.All.{All}
use Rattle.blorb.specs.Sound.{RefOk, Sound}
use Rattle.blorb.proofs.Checks.{then_accept, check_accept, pass, accepts, then_assoc, then_end}
use Rattle.blorb.proofs.VerdictLaws.{refs_fault, model_fault}

second-append : (at : ℕ) (cs : List Chunk) (c : Chunk) → second_index at (cs ++ (c ∷ [])) ≡ second_index at cs then check (not (eqb c.type RIdx)) 9
    (at + total cs)
unfolding second_index total
second-append at [] c = rw (add-zero at) (then_end _ ∙ sym (accepts accept _ refl))
second-append at (x ∷ cs) c =
    rw (second-append (at + size x) cs c) (sym (then_assoc _ _ _) ∙ ap (λ (k : ℕ). (check (not (eqb x.type RIdx)) 9 at then second_index (at + size x) cs)
    then check (not (eqb c.type RIdx)) 9 k) e)
  where
    e : at + size x + total cs ≡ at + (size x + total cs)
    e = omega arith

pub second-any : (at at' : ℕ) (cs : List Chunk) → second_index at cs ≡ accept → second_index at' cs ≡ accept
unfolding second_index
second-any at at' [] h = refl
second-any at at' (c ∷ cs) h = let p = then_accept _ _ h in pass _ _ _ _ (check_accept _ _ _ p.0) ∙ second-any (at + size c) (at' + size c) cs p.1

module _ (R : Rules) where
  refs_append : (cs : List Chunk) (earlier : List Ref) (p : ℕ) (rs : List Ref) (r : Ref)
      → refs_fault R cs earlier p (rs ++ (r ∷ [])) ≡ refs_fault R cs earlier p rs then (check (known_usage_of r.usage) 12 (p + 12 * length rs) then ref_fault R
      cs (earlier ++ rs) (p + 12 * length rs) r)
  unfolding refs_fault
  refs_append cs earlier p [] r =
      rw (append-nil earlier) (ap (λ (v : Verdict). check (known_usage_of r.usage) 12 p then v) (then_end _)
      ∙ ap (λ (k : ℕ). check (known_usage_of r.usage) 12 k then ref_fault R cs earlier k r) e ∙ sym (accepts accept _ refl))
    where
      e : p ≡ p + 12 * length {A = Ref} []
      e = omega arith
  refs_append cs earlier p (x ∷ rs) r =
      let e : p + 12 + 12 * length rs ≡ p + 12 * suc (length rs) = omega arith in
      rw (refs_append cs (earlier ++ (x ∷ [])) (p + 12) rs r, append_snoc earlier x rs, e)
      (sym (ap (λ (v : Verdict). v) (then_assoc _ _ _ ∙ ap (λ (v : Verdict). check (known_usage_of x.usage) 12 p then v) (then_assoc _ _ _))))

  refs_more : (cs : List Chunk) (c : Chunk) (earlier : List Ref) (p : ℕ) (rs : List Ref) → All (RefOk (length cs)) rs → refs_fault R (cs ++ (c ∷ [])) earlier
      p rs ≡ refs_fault R cs earlier p rs
  unfolding refs_fault ref_fault
  refs_more cs c earlier p [] ok = refl
  refs_more cs c earlier p (r ∷ rs) ok = rw (
    refs_more cs c (earlier ++ (r ∷ [])) (p + 12) rs ok.1,
    get_or-append cs (c ∷ []) no_chunk r.chunk
        ok.0.chunk_there,
  )

  pub added-verdict : (m : Model) (u n : ℕ) (c : Chunk) → Sound m → model_fault R m ≡ accept
      → model_fault R (added m u n c)
      ≡ check (not (eqb c.type RIdx)) 9 (base (suc (length m.refs)) + total m.chunks)
      then check (leb (suc (length m.refs)) 4096) 11 20
      then (check (known_usage_of u) 12 (24 + 12 * length m.refs) then ref_fault R (m.chunks ++ (c ∷ [])) m.refs (24 + 12 * length m.refs)
      (record { usage = u; number = n; chunk = length m.chunks }))
      then R.rule7 (base (suc (length m.refs))) (m.refs ++ (record { usage = u; number = n; chunk = length m.chunks } ∷ [])) (m.chunks ++ (c ∷ []))
  unfolding model_fault added
  added-verdict m u n c s h =
      let x : Ref = record { usage = u; number = n; chunk = length m.chunks } in
      let l : length (m.refs ++ (x ∷ [])) ≡ suc (length m.refs) = simp length-append (omega arith) in
      let a = then_accept _ _ h in
      let b = then_accept _ _ (then_accept _ _ a.1).1 in
      rw (
        l,
        second-append (base (suc (length m.refs))) m.chunks c,
        second-any _ (base (suc (length m.refs))) m.chunks a.0,
        refs_append (m.chunks ++ (c ∷ [])) [] 24 m.refs x,
        refs_more m.chunks c [] 24 m.refs s.refs_ok,
        b.0,
      )
      (unfold ◌then◌ in refl)
