-- Whether a model's file is accepted, as one test; and that an entry is found by its pair.
use mathlib.Core.Path.{◌≡◌, refl, sym, ap, ◌∙◌}
use Prim.Native.Nat.{ℕ, zero, suc, ◌+◌, ◌≤◌, ◌<◌}
use mathlib.Core.List.{List, [], ◌∷◌, ◌++◌}
use mathlib.Core.Bool.{Bool, true, false, cond, ◌&&◌, not}
use native.Mathlib.Nat.{le_of_suc-le-suc, not-suc-le-zero}
use lib.ListN.{length, get_or}
use lib.Dec.{eqb, leb}
use borrow.Author.Tests.{leb-true, lt-ltb}
use Rattle.blorb.specs.Format.{Ref, Chunk}
use Rattle.blorb.specs.Verdict.{Rules, Verdict, accept, refuse, check, no_chunk, pair_in, ref_fault, second_index, verdict, accepted}
use Rattle.blorb.specs.Tags.{Pict, Fspc}
use Rattle.blorb.specs.Rules.{type_in, optional, rules_of}
use Rattle.blorb.specs.Model.{Model, base, file}
use Rattle.blorb.specs.Queries.{find, no_ref, front_number}
use Rattle.blorb.specs.Sound.{Sound}
use Rattle.blorb.proofs.Checks.{then_accept, check_accept}
use Rattle.blorb.proofs.VerdictLaws.{refs_fault, model_fault, refs_in_order, verdict-file, file-ordered}
use Rattle.blorb.proofs.FindLaws.{pair_found}
use Rattle.edits.proofs.ReadBack.{same}
use Rattle.edits.proofs.RuleSeven.{Plain, allowed_plain}
use Rattle.edits.proofs.UndoVerdict.{accepted_then, accepted-check}
use Rattle.edits.proofs.FrontPicture.{pairs_once, pair_right}

-- what an accepted model tells
pub record Parts (profile : ℕ) (m : Model) : Type 0 where
  pub no_second : second_index (base (length m.refs)) m.chunks ≡ accept
  pub few : length m.refs ≤ 4096
  pub entries_fine : refs_fault (rules_of profile) m.chunks [] 24 m.refs ≡ accept
  pub seven : optional (base (length m.refs)) m.refs m.chunks ≡ accept

pub model_parts : (profile : ℕ) (m : Model) → model_fault (rules_of profile) m ≡ accept → Parts profile m
unfolding model_fault
model_parts profile m ok =
    let a = then_accept _ _ ok in
    let b = then_accept _ _ a.1 in
    let c = then_accept _ _ b.1 in
    record { no_second = a.0; few = leb-true _ _ (check_accept _ _ _ b.0); entries_fine = c.0; seven = c.1 }

-- the verdict on a sound model's file, as a test
pub accepted-ordered : (profile : ℕ) (m : Model) → Sound m → refs_in_order 0 m.refs ≡ true → accepted (verdict (rules_of profile) (file m))
    ≡ (leb (length (file m)) 16777216 && (accepted (second_index (base (length m.refs)) m.chunks) && (leb (length m.refs) 4096
    && (accepted (refs_fault (rules_of profile) m.chunks [] 24 m.refs) && accepted (optional (base (length m.refs)) m.refs m.chunks)))))
unfolding model_fault
accepted-ordered profile m s o = ap accepted (verdict-file (rules_of profile) m s o) ∙ simp (accepted_then, accepted-check)

-- of any order
pub accepted-file : (profile : ℕ) (m : Model) → Sound m → accepted (verdict (rules_of profile) (file m))
    ≡ (refs_in_order 0 m.refs && (leb (length (file m)) 16777216 && (accepted (second_index (base (length m.refs)) m.chunks) && (leb (length m.refs) 4096
    && (accepted (refs_fault (rules_of profile) m.chunks [] 24 m.refs) && accepted (optional (base (length m.refs)) m.refs m.chunks))))))
accepted-file profile m s = go (refs_in_order 0 m.refs) refl
  where
    refused : (v : Verdict) → (v ≡ accept → refs_in_order 0 m.refs ≡ true) → refs_in_order 0 m.refs ≡ false → accepted v ≡ false
    refused accept h o = sym (h refl) ∙ o
    refused (refuse k p) h o = refl

    go : (b : Bool) → refs_in_order 0 m.refs ≡ b → accepted (verdict (rules_of profile) (file m))
        ≡ (b && (leb (length (file m)) 16777216 && (accepted (second_index (base (length m.refs)) m.chunks) && (leb (length m.refs) 4096
        && (accepted (refs_fault (rules_of profile) m.chunks [] 24 m.refs) && accepted (optional (base (length m.refs)) m.refs m.chunks))))))
    go true o = accepted-ordered profile m s o
    go false o = refused (verdict (rules_of profile) (file m)) (λ h. file-ordered (rules_of profile) m s h) o

pub accepted-front : (b t : Bool) (p : ℕ) → accepted (cond b (check t 19 p) accept) ≡ not (b && not t)
accepted-front true t p = accepted-check t 19 p ∙ sym (not_not t)
  where
    not_not : (x : Bool) → not (not x) ≡ x
    not_not true = refl
    not_not false = refl
accepted-front false t p = refl

-- the pair is that of the frontispiece's picture
abbrev pub is_front_of : List Chunk → ℕ → ℕ → Bool
is_front_of cs u n = type_in Fspc cs && (eqb u Pict && eqb n (front_number cs))

-- an entry whose pair stands nowhere else is the one that find gives
pub find_at : (R : Rules) (cs : List Chunk) (e : List Ref) (p : ℕ) (u n i : ℕ) (rs : List Ref) → refs_fault R cs e p rs ≡ accept → i < length rs
    → same (get_or rs i no_ref) u n ≡ true → find u n rs ≡ i
unfolding refs_fault find
find_at R cs e p u n i [] ok l h = absurd (not-suc-le-zero l)
find_at R cs e p u n zero (r ∷ rs) ok l h = rw h
find_at R cs e p u n (suc i) (r ∷ rs) ok l h =
    let rest = (then_accept _ _ (then_accept _ _ ok).1).1 in
    let ih = find_at R cs (e ++ (r ∷ [])) (p + 12) u n i rs rest (le_of_suc-le-suc l) h in
    let there : pair_in u n rs ≡ true = pair_found u n rs ∙ rw ih (lt-ltb i (length rs) (le_of_suc-le-suc l)) in
    rw (first (same r u n) refl (λ x. pairs_once R cs (e ++ (r ∷ [])) (p + 12) rs u n (pair_right u n e r x) rest) there, ih)
  where
    first : (b : Bool) → same r u n ≡ b → (same r u n ≡ true → pair_in u n rs ≡ false) → pair_in u n rs ≡ true → same r u n ≡ false
    first false x f t = x
    first true x f t = x ∙ sym t ∙ f x

-- an entry's chunk is one that rule 5 allows
pub chunk_plain : (profile : ℕ) (cs : List Chunk) (e : List Ref) (p : ℕ) (rs : List Ref) (i : ℕ) → refs_fault (rules_of profile) cs e p rs ≡ accept
    → i < length rs → Plain (get_or cs (get_or rs i no_ref).chunk no_chunk)
unfolding refs_fault ref_fault
chunk_plain profile cs e p [] i ok h = absurd (not-suc-le-zero h)
chunk_plain profile cs e p (r ∷ rs) zero ok h = allowed_plain profile r.usage (get_or cs r.chunk no_chunk)
    (check_accept _ _ _ (then_accept _ _ (then_accept _ _ (then_accept _ _ ok).1).0).0)
chunk_plain profile cs e p (r ∷ rs) (suc i) ok h =
    chunk_plain profile cs (e ++ (r ∷ [])) (p + 12) rs i (then_accept _ _ (then_accept _ _ ok).1).1 (le_of_suc-le-suc h)
