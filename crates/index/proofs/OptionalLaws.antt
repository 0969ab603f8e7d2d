-- Laws of the optional chunks: refusals 17 to 19.
use mathlib.Core.Path.{◌≡◌, refl, sym, ap, ◌∙◌}
use Prim.Native.Nat.{ℕ, ◌+◌, ◌≤◌, ◌<◌}
use mathlib.Core.List.{List, [], ◌∷◌, ◌++◌, map}
use mathlib.Core.Bool.{Bool, true, false, cond, ◌||◌, or_assoc, or-false}
use native.Mathlib.Omega.{arith}
use lib.ListN.{length, drop}
use lib.Dec.{eqb}
use borrow.Author.Tests.{eq-eqb, ne_eqb, eqb-true}
use Rattle.blorb.specs.Bytes.{rd32}
use Rattle.blorb.specs.Format.{Chunk, Ref, ref_of, size, chunk_in, entries_in}
use Rattle.blorb.specs.Verdict.{Rules, Verdict, accept, refuse, ◌then◌, check, entries_fault}
use Rattle.blorb.specs.Rules.{picture, optional, chunk_rules, chunk_rule, single, type_in}
use Rattle.blorb.specs.Tags.{Pict, Rect, RelN, Fspc}
use Rattle.chunks.specs.Walk.{chunk_from, skip_at, chunks_from, walk_from}
use Rattle.chunks.specs.Ordinary.{ordinary_type, all_ordinary}
use Rattle.chunks.proofs.ChunkLaws.{ordinary_not, fine, chunks_end}
use Rattle.blorb.proofs.Checks.{pass, stop, holds_last, fails_last, accepts, refuses, then_accept, check_accept, and_both}
use Rattle.index.specs.Entries.{place}
use Rattle.std.specs.Prelude.{Some, None}
use Rattle.index.specs.Hits.{hit_in}
use Rattle.index.specs.Optional.{pictured, single_by, one_rule, rules_from, optional_fault}
use Rattle.index.proofs.IndexLaws.{body_word, picture_hit}

-- rules 17 to 19 with two flags for the chunks before
type_snoc : (t : ℕ) (l : List Chunk) (c : Chunk) → type_in t (l ++ (c ∷ [])) ≡ type_in t l || eqb c.type t
unfolding type_in
type_snoc t [] c = or-false (eqb c.type t)
type_snoc t (x ∷ l) c = rw (type_snoc t l c) (sym (or_assoc (eqb x.type t) (type_in t l) (eqb c.type t)))

rules_flags : (rs : List Ref) (all : List Chunk) (earlier : List Chunk) (at : ℕ) (cs : List Chunk)
    → chunk_rules rs all earlier at cs ≡ rules_from (λ n. picture n all rs) (type_in RelN earlier) (type_in Fspc earlier) at cs
unfolding chunk_rules rules_from chunk_rule one_rule single
rules_flags rs all earlier at [] = refl
rules_flags rs all earlier at (c ∷ cs) =
    let ih : chunk_rules rs all (earlier ++ (c ∷ [])) (at + size c) cs
    ≡ rules_from (λ n. picture n all rs) (type_in RelN earlier || eqb c.type RelN) (type_in Fspc earlier || eqb c.type Fspc) (at + size c) cs
    = rules_flags rs all (earlier ++ (c ∷ [])) (at + size c) cs
    ∙ ap (λ (b : Bool). rules_from (λ n. picture n all rs) b (type_in Fspc (earlier ++ (c ∷ []))) (at + size c) cs) (type_snoc RelN earlier c)
    ∙ ap (λ (b : Bool). rules_from (λ n. picture n all rs) (type_in RelN earlier || eqb c.type RelN) b (at + size c) cs) (type_snoc Fspc earlier c) in
    ap (λ (v : Verdict). chunk_rule rs all earlier at c then v) ih

pub optional-is : (R : Rules) (f : List ℕ) (count : ℕ) → walk_from f (place count) ≡ accept
    → entries_fault R (place count) (chunks_from f (place count)) [] 24 (entries_in count (drop 24 f)) ≡ accept
    → optional (place count) (map (ref_of (place count) (chunks_from f (place count))) (entries_in count (drop 24 f))) (chunks_from f (place count)) ≡
    optional_fault f count
unfolding optional optional_fault pictured type_in
optional-is R f count w h =
    rules_flags _ _ [] (place count) (chunks_from f (place count))
    ∙ ap (λ (p : ℕ → Bool). rules_from p false false (place count) (chunks_from f (place count)))
    (λ i n. picture_hit R f (place count) w n (entries_in count (drop 24 f)) [] 24 h i)

-- one chunk of rule 7, by facts on its numbers
module _ (f : List ℕ) (at : ℕ) (h : at < length f) (w : walk_from f at ≡ accept) where
  module _ (a : Bool) (n : ℕ) where
    pub single_17 : a ≡ true → refuse 17 at ≡ single_by a n at (chunk_from f at)
    single_17 p = sym (stop _ _ _ _ (rw p))

    module _ (m : ℕ) (em : m ≡ rd32 (drop (at + 4) f)) where
      lm : length (chunk_from f at).body ≡ m
      lm = (fine f at h w).bodied ∙ sym em

      pub single_18 : a ≡ false → (m ≡ n → ⊥) → refuse 18 (at + 4) ≡ single_by a n at (chunk_from f at)
      single_18 p q = sym (pass _ _ _ _ (rw p) ∙ fails_last _ _ _ (rw lm (ne_eqb m n q)))

      pub single-good : a ≡ false → m ≡ n → accept ≡ single_by a n at (chunk_from f at)
      single-good p q = sym (pass _ _ _ _ (rw p) ∙ holds_last _ _ _ (rw lm (eq-eqb m n q)))

    -- what an accepted one tells
    pub single-length : single_by a n at (chunk_from f at) ≡ accept → rd32 (drop (at + 4) f) ≡ n
    single-length e = sym (fine f at h w).bodied ∙ eqb-true _ _ (check_accept _ _ _ (then_accept _ _ e).1)

  module _ (pic : ℕ → Bool) (a b : Bool) (t : ℕ) (et : t ≡ rd32 (drop at f)) where
    by_type : one_rule pic a b at (chunk_from f at)
        ≡ cond (eqb t RelN) (single_by a 2 at (chunk_from f at))
        (cond (eqb t Fspc) (single_by b 4 at (chunk_from f at) then check (pic (rd32 (chunk_from f at).body)) 19 (at + 8)) accept)
    unfolding one_rule chunk_in
    by_type = rw (← et)

    pub rule_none : (t ≡ RelN → ⊥) → (t ≡ Fspc → ⊥) → accept ≡ one_rule pic a b at (chunk_from f at)
    rule_none n1 n2 = sym (by_type ∙ rw (ne_eqb t RelN n1, ne_eqb t Fspc n2))

    pub rule_reln : t ≡ RelN → single_by a 2 at (chunk_from f at) ≡ one_rule pic a b at (chunk_from f at)
    rule_reln e = sym (by_type ∙ rw (eq-eqb t RelN e))

    module _ (n1 : t ≡ RelN → ⊥) (e : t ≡ Fspc) where
      fspc : one_rule pic a b at (chunk_from f at) ≡ single_by b 4 at (chunk_from f at) then check (pic (rd32 (chunk_from f at).body)) 19 (at + 8)
      fspc = by_type ∙ rw (ne_eqb t RelN n1, eq-eqb t Fspc e)

      pub fspc_stop : (k p : ℕ) → single_by b 4 at (chunk_from f at) ≡ refuse k p → refuse k p ≡ one_rule pic a b at (chunk_from f at)
      fspc_stop k p q = sym (fspc ∙ refuses _ _ _ _ q)

      pub fspc_on : single_by b 4 at (chunk_from f at) ≡ accept → check (pic (rd32 (drop (at + 8) f))) 19 (at + 8) ≡ one_rule pic a b at (chunk_from f at)
      fspc_on ok =
          let l = single-length b 4 ok in
          let q : rd32 (chunk_from f at).body ≡ rd32 (drop (at + 8) f) = body_word f at (omega arith) in
          sym (fspc ∙ accepts _ _ ok ∙ ap (λ (n : ℕ). check (pic n) 19 (at + 8)) q)

-- 19 by the lookup's answer; n is the picture's number as the code has read it
module _ (f : List ℕ) (count at n : ℕ) (en : n ≡ rd32 (drop (at + 8) f)) where
  same : pictured f count (rd32 (drop (at + 8) f)) ≡ pictured f count n
  same = ap (pictured f count) (sym en)

  pub front-none : hit_in Pict n (entries_in count (drop 24 f)) ≡ None → refuse 19 (at + 8) ≡ check (pictured f count (rd32 (drop (at + 8) f))) 19 (at + 8)
  unfolding pictured
  front-none e = sym (fails_last _ _ _ (same ∙ rw e))

  module _ (x t : ℕ) (e : hit_in Pict n (entries_in count (drop 24 f)) ≡ Some x) (et : t ≡ rd32 (drop x f)) where
    pub front_rect : t ≡ Rect → refuse 19 (at + 8) ≡ check (pictured f count (rd32 (drop (at + 8) f))) 19 (at + 8)
    unfolding pictured
    front_rect q = sym (fails_last _ _ _ (same ∙ rw (e, ← et, q)))

    pub front-there : (t ≡ Rect → ⊥) → accept ≡ check (pictured f count (rd32 (drop (at + 8) f))) 19 (at + 8)
    unfolding pictured
    front-there q = sym (holds_last _ _ _ (same ∙ rw (e, ← et, ne_eqb t Rect q)))

-- the loop over the optional chunks
module _ (pic : ℕ → Bool) (f : List ℕ) (a b : Bool) (at : ℕ) where
  pub rules_end : length f ≤ at → rules_from pic a b at (chunks_from f at) ≡ accept
  unfolding rules_from
  rules_end h = rw (chunks_end f at h)

  module _ (h : at < length f) (w : walk_from f at ≡ accept) where
    turn : rules_from pic a b at (chunks_from f at) ≡ one_rule pic a b at (chunk_from f at) then rules_from pic (a || eqb (rd32 (drop at f)) RelN)
        (b || eqb (rd32 (drop at f)) Fspc) (skip_at f at) (chunks_from f (skip_at f at))
    unfolding rules_from chunk_in
    turn = let i = fine f at h w in rw (i.chunks, i.next)

    pub rules_next : (t : ℕ) → t ≡ rd32 (drop at f) → one_rule pic a b at (chunk_from f at) ≡ accept
        → rules_from pic (a || eqb t RelN) (b || eqb t Fspc) (skip_at f at) (chunks_from f (skip_at f at)) ≡ rules_from pic a b at (chunks_from f at)
    rules_next t et e = rw et (sym (turn ∙ accepts _ _ e))

    pub rules_stop : (k p : ℕ) → one_rule pic a b at (chunk_from f at) ≡ refuse k p → refuse k p ≡ rules_from pic a b at (chunks_from f at)
    rules_stop k p e = sym (turn ∙ refuses _ _ _ _ e)

-- where no chunk is optional
pub ordinary_rules : (pic : ℕ → Bool) (cs : List Chunk) (a b : Bool) (at : ℕ) → all_ordinary cs ≡ true → rules_from pic a b at cs ≡ accept
unfolding all_ordinary rules_from one_rule
ordinary_rules pic [] a b at e = refl
ordinary_rules pic (c ∷ cs) a b at e =
    let q = and_both (ordinary_type c.type) (all_ordinary cs) e in
    let n = ordinary_not c.type q.0 in
    rw (n.1, n.2) (accepts _ _ refl ∙ ordinary_rules pic cs (a || false) (b || false) (at + size c) q.1)

pub ordinary_optional : (f : List ℕ) (count : ℕ) → all_ordinary (chunks_from f (place count)) ≡ true → optional_fault f count ≡ accept
unfolding optional_fault
ordinary_optional f count e = ordinary_rules (pictured f count) (chunks_from f (place count)) false false (place count) e
