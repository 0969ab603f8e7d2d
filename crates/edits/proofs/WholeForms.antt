-- A lookup of what an add or a replacement has put in gives the data given, whole FORM files too (02, P3).
use mathlib.Core.Path.{◌≡◌, refl, sym, ap, ◌∙◌}
use Prim.Native.Nat.{ℕ, ◌+◌, ◌-◌, ◌≤◌}
use mathlib.Core.List.{List, ◌++◌}
use mathlib.Core.Bool.{Bool, true, false, cond, ◌&&◌, ◌||◌, not}
use native.Mathlib.Omega.{arith}
use lib.ListN.{length, take, drop, length-drop, take-append-drop}
use lib.Seq.{drop-drop}
use lib.Dec.{eqb, leb}
use borrow.Author.Tests.{eqb-true, leb-true}
use Rattle.blorb.specs.Bytes.{be32, rd32, Byte}
use Rattle.blorb.specs.Tags.{FORM}
use Rattle.blorb.specs.All.{All}
use Rattle.blorb.specs.Verdict.{accept}
use Rattle.blorb.proofs.AllLaws.{all_drop}
use Rattle.blorb.proofs.Accept.{again}
use Rattle.blorb.proofs.Checks.{check_accept, and_both}
use Rattle.blorb.specs.Lookup.{left_out_of, shown}
use Rattle.edits.specs.Edit.{held, given_chunk, is_whole}
use Rattle.edits.specs.Run.{whole_fault}

head-back : (d : List ℕ) → All Byte d → is_whole d ≡ true → be32 FORM ++ (be32 (length (drop 8 d)) ++ drop 8 d) ≡ d
unfolding is_whole
head-back d bytes h =
    let q = and_both (leb 8 (length d) && eqb (rd32 d) FORM) (eqb (8 + rd32 (drop 4 d)) (length d)) h in
    let p = and_both (leb 8 (length d)) (eqb (rd32 d) FORM) q.0 in
    let l : 8 ≤ length d = leb-true 8 (length d) p.0 in
    let f : rd32 d ≡ FORM = eqb-true (rd32 d) FORM p.1 in
    let n : 8 + rd32 (drop 4 d) ≡ length d = eqb-true (8 + rd32 (drop 4 d)) (length d) q.1 in
    let m : length (drop 8 d) ≡ rd32 (drop 4 d) = rw (length-drop 8 d) (omega arith) in
    rw (m, ← f, again d bytes (omega arith), again (drop 4 d) (all_drop Byte 4 d bytes) (simp length-drop (omega arith)))
    (ap (λ (z : List ℕ). take 4 d ++ z)
    (ap (λ (z : List ℕ). take 4 (drop 4 d) ++ z) (sym (drop-drop 4 4 d)) ∙ take-append-drop 4 (drop 4 d)) ∙ take-append-drop 4 d)

pub given-shown : (t : ℕ) (d : List ℕ) → (t ≡ FORM → All Byte d) → whole_fault t d ≡ accept → shown (given_chunk t d) ≡ d
unfolding whole_fault shown held left_out_of be32
given-shown t d bytes h = go (eqb t FORM) refl (check_accept _ _ _ h)
  where
    go : (b : Bool) → eqb t FORM ≡ b → not b || is_whole d ≡ true
        → drop (cond b 0 8) (be32 t ++ (be32 (length (drop (8 - cond b 0 8) d)) ++ drop (8 - cond b 0 8) d)) ≡ d
    go true e w = rw (eqb-true t FORM e) (head-back d (bytes (eqb-true t FORM e)) w)
    go false e w = refl
