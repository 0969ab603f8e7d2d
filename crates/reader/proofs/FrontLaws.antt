-- The frontispiece of a file that the reader has passed. Rule 7 has judged its length, so its number can be read; the first 'Fspc' that the walk meets is
-- the model's, and there is none among ordinary chunks.
use Rattle.reader.specs.declared.Frontispiece.{Frontispiece}
use Rattle.std.specs.Prelude.{Some, None, Option}
use mathlib.Core.Path.{◌≡◌, refl, sym, ap, ◌∙◌}
use Prim.Native.Nat.{ℕ, suc, ◌+◌, ◌≤◌, ◌<◌}
use mathlib.Core.List.{List, [], ◌∷◌}
use mathlib.Core.Bool.{Bool, true, false, cond, ◌||◌}
use native.Mathlib.Omega.{arith}
use lib.ListN.{length, get_or, drop}
use lib.Dec.{eqb}
use borrow.Author.Tests.{eq-eqb, ne_eqb, eqb-true}
use Rattle.blorb.specs.Bytes.{rd32}
use Rattle.blorb.specs.Format.{Chunk, size, chunk_in}
use Rattle.blorb.specs.Verdict.{accept, no_chunk}
use Rattle.blorb.specs.Rules.{type_in}
use Rattle.blorb.specs.Tags.{RelN, Fspc}
use Rattle.blorb.specs.Model.{base, start_of}
use Rattle.blorb.specs.Queries.{start, front_place}
use Rattle.blorb.proofs.Places.{start_of-zero, start_of-suc}
use Rattle.blorb.proofs.Checks.{then_accept, check_accept, and_both}
use Rattle.chunks.specs.Walk.{chunk_from, skip_at, chunks_from, walk_from}
use Rattle.chunks.specs.Ordinary.{ordinary_type, all_ordinary}
use Rattle.index.specs.Entries.{place}
use Rattle.index.specs.Optional.{one_rule, rules_from, optional_fault}
use Rattle.reader.specs.Passed.{Passed, model_at, Fronts, pick_front, front_from_of}
use Rattle.reader.specs.Inspecting.{front_by, front_of}
use Rattle.chunks.proofs.ChunkLaws.{fine, chunks_end, ordinary_not}
use Rattle.index.proofs.IndexLaws.{body_word}
use Rattle.reader.proofs.PartLaws.{refs_count}

-- the frontispiece: the loop
module _ (f : List ℕ) (at : ℕ) where
  pub front_end : length f ≤ at → None ≡ front_from_of at (chunks_from f at)
  unfolding front_from_of
  front_end h = rw (chunks_end f at h)

  module _ (h : at < length f) (w : walk_from f at ≡ accept) (r : Fronts (chunks_from f at)) where
    fronts_on : (rd32 (drop at f) ≡ Fspc → length (chunk_from f at).body ≡ 4) × Fronts (chunks_from f (skip_at f at))
    unfolding chunk_in
    fronts_on = let i = fine f at h w in rw i.next (rw i.chunks at r)

    module _ (t : ℕ) (et : t ≡ rd32 (drop at f)) where
      pub front-room : t ≡ Fspc → at + 12 ≤ length f
      front-room e =
          let i = fine f at h w in
          let l : length (chunk_from f at).body ≡ 4 = fronts_on.0 (sym et ∙ e) in
          omega (arith, i.inside, i.next, i.bodied)

      pub front_hit : t ≡ Fspc → (n : ℕ) → n ≡ rd32 (drop (at + 8) f) → Some (record { start = at; number = n }) ≡ front_from_of at (chunks_from f at)
      unfolding front_from_of chunk_in
      front_hit e n en =
          let i = fine f at h w in
          let l : length (chunk_from f at).body ≡ 4 = fronts_on.0 (sym et ∙ e) in
          let q : rd32 (chunk_from f at).body ≡ n = body_word f at (omega (arith, i.bodied)) ∙ sym en in
          rw (i.chunks, ← et, eq-eqb t Fspc e) (ap (λ (x : ℕ). Some (record { start = at; number = x })) (sym q))

      pub front-next : (t ≡ Fspc → ⊥) → (Fronts (chunks_from f (skip_at f at))) × (front_from_of (skip_at f at) (chunks_from f (skip_at f at)) ≡ front_from_of at
          (chunks_from f at))
      unfolding front_from_of chunk_in
      front-next e = let i = fine f at h w in (fronts_on.1, rw (i.chunks, i.next, ← et, ne_eqb t Fspc e))

-- rule 7 has judged the frontispiece's length
rule_front : (pic : ℕ → Bool) (a b : Bool) (at : ℕ) (c : Chunk) → one_rule pic a b at c ≡ accept → c.type ≡ Fspc → length c.body ≡ 4
unfolding one_rule
rule_front pic a b at c h e =
    let q = then_accept _ _ (then_accept _ _ (rw e at h)).0 in
    eqb-true _ _ (check_accept _ _ _ q.1)

rules_fronts : (pic : ℕ → Bool) (a b : Bool) (at : ℕ) (cs : List Chunk) → rules_from pic a b at cs ≡ accept → Fronts cs
unfolding rules_from
rules_fronts pic a b at [] h = tt
rules_fronts pic a b at (c ∷ cs) h =
    let q = then_accept _ _ h in
    (rule_front pic a b at c q.0, rules_fronts pic (a || eqb c.type RelN) (b || eqb c.type Fspc) (at + size c) cs q.1)

pub passed_fronts : (f : List ℕ) (count : ℕ) → Passed f count → Fronts (chunks_from f (place count))
unfolding optional_fault
passed_fronts f count g = rules_fronts _ false false (place count) (chunks_from f (place count)) g.optional

-- the first frontispiece is the model's
abbrev front_in : Bool → ℕ → List Chunk → ℕ → Option Frontispiece
front_in true at cs k = Some (record { start = (start_of at cs k); number = (rd32 (get_or cs k no_chunk).body) })
front_in false at cs k = None

front-first : (at : ℕ) (cs : List Chunk) → front_from_of at cs ≡ front_in (type_in Fspc cs) at cs (front_place cs)
unfolding front_from_of type_in front_place
front-first at [] = refl
front-first at (c ∷ cs) = go (eqb c.type Fspc) (type_in Fspc cs) (front-first (at + size c) cs)
  where
    go : (b t : Bool) → front_from_of (at + size c) cs ≡ front_in t (at + size c) cs (front_place cs)
        → pick_front b at (rd32 c.body) (front_from_of (at + size c) cs) ≡ front_in (b || t) at (c ∷ cs) (cond b 0 (suc (front_place cs)))
    go true t ih = ap (λ (x : ℕ). Some (record { start = x; number = (rd32 c.body) })) (sym (start_of-zero at (c ∷ cs)))
    go false true ih = ih ∙ ap (λ (x : ℕ). Some (record { start = x; number = (rd32 (get_or cs (front_place cs) no_chunk).body) })) (sym (start_of-suc at c cs (front_place cs)))
    go false false ih = ih

front-model : (b : Bool) (f : List ℕ) (count : ℕ) → front_in b (place count) (chunks_from f (place count)) (front_place (chunks_from f (place count))) ≡ front_by
    b (model_at f count)
unfolding start base
front-model true f count = rw (refs_count f count)
front-model false f count = refl

pub front_is : (f : List ℕ) (count : ℕ) → front_from_of (place count) (chunks_from f (place count)) ≡ front_of (model_at f count)
unfolding front_of
front_is f count = front-first (place count) (chunks_from f (place count)) ∙ front-model (type_in Fspc (chunks_from f (place count))) f count

ordinary_fronts : (cs : List Chunk) → all_ordinary cs ≡ true → type_in Fspc cs ≡ false
unfolding all_ordinary type_in
ordinary_fronts [] e = refl
ordinary_fronts (c ∷ cs) e =
    let q = and_both (ordinary_type c.type) (all_ordinary cs) e in
    rw (ordinary_not c.type q.0).2 (ordinary_fronts cs q.1)

pub front_ordinary : (f : List ℕ) (count : ℕ) → all_ordinary (chunks_from f (place count)) ≡ true → None ≡ front_of (model_at f count)
unfolding front_of
front_ordinary f count e = rw (ordinary_fronts (chunks_from f (place count)) e)
