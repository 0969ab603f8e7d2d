-- An accepted file's index in its bytes: the pair and the start that stand in entry i are the model's. And the search for a pair, step by step.
use mathlib.Core.Path.{◌≡◌, refl, sym, ap, ◌∙◌}
use Prim.Native.Nat.{ℕ, suc, ◌+◌, ◌*◌, ◌≤◌, ◌<◌}
use mathlib.Core.List.{List}
use mathlib.Core.Bool.{Bool, true, false, cond, ◌&&◌}
use native.Mathlib.Omega.{arith}
use lib.ListN.{length, drop}
use lib.Seq.{drop-drop, drop-cons}
use lib.Dec.{eqb, ltb}
use borrow.Author.Tests.{lt-ltb, ltb-true, ltb-false}
use Rattle.std.specs.Prelude.{Some, None}
use Rattle.std.specs.Bool.{then_some}
use Rattle.blorb.specs.Bytes.{rd32, Byte}
use Rattle.blorb.specs.All.{All}
use Rattle.blorb.specs.Format.{Ref, Entry, entry_from}
use Rattle.blorb.specs.Model.{Model, entry_of, model, file}
use Rattle.blorb.specs.Queries.{find, no_ref, ref_at, start}
use Rattle.blorb.specs.Sound.{W, Sound}
use Rattle.blorb.proofs.Parts.{start_in_lem, index-entry}
use Rattle.edits.proofs.UndoJudged.{AcceptedFile, accepted-facts}
use Rattle.undoing.specs.UndoPlan.{start_in}
use Rattle.linking.specs.Original.{Indexed}

-- usage and number in entry i
pair_in_lem : (m : Model) (i : ℕ) → Sound m → length (file m) < W → i < length m.refs
    → (rd32 (drop (24 + 12 * i) (file m)) ≡ (ref_at m i).usage) × (rd32 (drop (24 + 12 * i + 4) (file m)) ≡ (ref_at m i).number)
unfolding entry_from entry_of
pair_in_lem m i s small h =
    let e = index-entry m i s small h in
    (ap (λ (y : Entry). y.usage) e, ap rd32 (sym (drop-drop 4 (24 + 12 * i) (file m))) ∙ ap (λ (y : Entry). y.number) e)

module _ (f : List ℕ) (k : ℕ) (a : Indexed f k) (bytes : All Byte f) where
  pub facts : AcceptedFile a.profile f
  facts = accepted-facts a.profile f bytes a.fine

  pair_read : (i : ℕ) → i < k → (rd32 (drop (24 + 12 * i) f) ≡ (ref_at (model f) i).usage) × (rd32 (drop (24 + 12 * i + 4) f) ≡ (ref_at (model f) i).number)
  pair_read i h =
      let p = pair_in_lem (model f) i facts.sound (omega (arith, facts.short)) (omega (arith, a.counted.entries)) in
      let w = sym facts.whole in
      (ap (λ (z : List ℕ). rd32 (drop (24 + 12 * i) z)) w ∙ p.0, ap (λ (z : List ℕ). rd32 (drop (24 + 12 * i + 4) z)) w ∙ p.1)

  pub start-read : (i : ℕ) → i < k → start_in f i ≡ start (model f) (ref_at (model f) i).chunk
  start-read i h = ap (λ (z : List ℕ). rd32 (drop (32 + 12 * i) z)) (sym facts.whole) ∙ start_in_lem (model f) i facts.sound (omega (arith, facts.short))
      (omega (arith, a.counted.entries))

  -- the search, from entry i on
  module _ (u n i : ℕ) where
    abbrev rs : List Ref
    rs = (model f).refs

    unfold_find : i < length (model f).refs
        → find u n (drop i (model f).refs) ≡ cond (eqb (ref_at (model f) i).usage u && eqb (ref_at (model f) i).number n) 0
        (suc (find u n (drop (i + 1) (model f).refs)))
    unfolding find
    unfold_find h =
        let e : suc i ≡ i + 1 = omega arith in
        ap (find u n) (drop-cons rs i no_ref h) ∙ ap (λ (z : ℕ). cond (eqb (ref_at (model f) i).usage u && eqb (ref_at (model f) i).number n) 0
        (suc (find u n (drop z rs)))) e

    -- x and y stand in entry i
    module _ (h : i < k) (x y : ℕ) (ex : x ≡ rd32 (drop (24 + 12 * i) f)) (ey : y ≡ rd32 (drop (24 + 12 * i + 4) f))
        (inv : i + find u n (drop i (model f).refs) ≡ find u n (model f).refs) where
      step : (b : Bool) → (eqb x u && eqb y n) ≡ b → find u n (drop i (model f).refs) ≡ cond b 0 (suc (find u n (drop (i + 1) (model f).refs)))
      step b e =
          let p = pair_read i h in
          unfold_find (omega (arith, a.counted.entries))
          ∙ (λ z. cond (eqb (sym (ex ∙ p.0) z) u && eqb (sym (ey ∙ p.1) z) n) 0 (suc (find u n (drop (i + 1) rs))))
          ∙ ap (λ (z : Bool). cond z 0 (suc (find u n (drop (i + 1) rs)))) e

      pub pair_hit : (eqb x u && eqb y n) ≡ true → i ≡ find u n (model f).refs
      pair_hit e = omega (arith, step true e, inv)

      pub pair-next : (eqb x u && eqb y n) ≡ false → i + 1 + find u n (drop (i + 1) (model f).refs) ≡ find u n (model f).refs
      pair-next e = omega (arith, step false e, inv)

    -- the search ends there
    pub found : i < k → i ≡ find u n (model f).refs
        → Some i ≡ then_some (ltb (find u n (model f).refs) (length (model f).refs)) (find u n (model f).refs)
    found h e =
        let l : find u n (model f).refs < length (model f).refs = omega (arith, a.counted.entries) in
        ap Some e ∙ ap (λ (b : Bool). then_some b (find u n (model f).refs)) (sym (lt-ltb (find u n (model f).refs) (length (model f).refs) l))

-- what its answer tells: the entry's place, which lies below the count, or none
pub pair_there : (x k o : ℕ) → then_some (ltb x k) x ≡ Some o → (o ≡ x) × (o < k)
pair_there x k o e = go (ltb x k) refl e
  where
    go : (b : Bool) → ltb x k ≡ b → then_some b x ≡ Some o → (o ≡ x) × (o < k)
    go true t e = let q : x ≡ o = cc in (sym q, omega (arith, ltb-true x k t))
    go false t e = cc

pub pair_missing : (x k : ℕ) → then_some (ltb x k) x ≡ None → k ≤ x
pair_missing x k e = go (ltb x k) refl e
  where
    go : (b : Bool) → ltb x k ≡ b → then_some b x ≡ None → k ≤ x
    go true t e = cc
    go false t e = ltb-false x k t
