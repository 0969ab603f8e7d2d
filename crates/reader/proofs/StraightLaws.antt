-- Why the straight way is enough: each step over a good chunk that is no index leaves the walk, the second index, the ordinary chunks and the
-- starts to what stands behind it, and each entry on the chunk that the walk has come to leaves the index's faults to the entries behind it.
use Rattle.reader.specs.declared.Judged.{Judged}
use Rattle.std.specs.Prelude.{Some, Ok, None, Option}
use mathlib.Core.Path.{◌≡◌, refl, sym, ap, ◌∙◌}
use Prim.Native.Nat.{ℕ, ◌+◌, ◌*◌, ◌-◌, ◌%◌, ◌≤◌, ◌<◌}
use mathlib.Core.List.{List}
use mathlib.Core.Bool.{Bool, true, false, ◌&&◌, ◌||◌, not, and-true}
use native.Mathlib.Omega.{arith}
use lib.ListN.{length, drop}
use lib.Dec.{eqb}
use borrow.Author.Tests.{eq-eqb, ne_eqb, eqb-true, eqb-false, not-true}
use Rattle.blorb.specs.Tags.{RIdx, Rect, FORM}
use Rattle.blorb.specs.Bytes.{rd32}
use Rattle.blorb.specs.Format.{Chunk, chunk_of, chunk_in, is_start}
use Rattle.blorb.specs.Rules.{plain_allows_of, allows}
use Rattle.blorb.specs.Usages.{code_of, usage_of}
use Rattle.blorb.specs.Verdict.{accept, head_fault, chunk_fault, second_index, pair_in}
use Rattle.blorb.specs.declared.Usage.{Usage}
use Rattle.blorb.specs.declared.Usage.TheVariants.{Exec}
use Rattle.blorb.proofs.AllowedTypes.{allowed_not}
use Rattle.blorb.proofs.Checks.{pass, holds_last, then_accept, check_accept, and_both}
use Rattle.chunks.specs.Walk.{chunk_from, chunks_from, walk_from, skip_at}
use Rattle.chunks.specs.Ordinary.{ordinary_type, all_ordinary}
use Rattle.index.specs.Entries.{usage_at, number_at, start_at, place, typed_at, entry_fault, earlier, entries_from}
use Rattle.reader.specs.Passed.{JudgesEntries}
use Rattle.reader.specs.Straight.{CameTo, ChunkAt, Stands, Over, Stepped, Suits, Allowed, Remembered, SoFar, Alongside, Straightly}
use Rattle.chunks.proofs.ChunkLaws.{whole, walk_end, walk-next, chunk-even, ordinary_end, ordinary_not, second_end, along_next, first_good}
use Rattle.index.proofs.EntryLaws.{by_good, judged-at, entries_next, entries_end, before-next, before-none}
use Rattle.index.proofs.IndexLaws.{shape-good}
use Rattle.reader.proofs.ReadLaws.{is-judged, read-rest}

pub came_none : (f : List ℕ) (at : ℕ) → CameTo f at at true
came_none f at =
    record { along = record { rest = refl; ordinary = λ e. refl }; second = refl; reached = λ x h. refl; past = omega arith }

-- over one more chunk
module _ (f : List ℕ) (from at n t : ℕ) (p o : Bool) (h : at < length f) (good : chunk_fault at (drop at f) ≡ accept) (et : t ≡ rd32 (drop at f))
    (no_index : t ≡ RIdx → ⊥) (eo : o ≡ ordinary_type t) (en : n ≡ skip_at f at) where
  second_on : second_index (skip_at f at) (chunks_from f (skip_at f at)) ≡ second_index at (chunks_from f at)
  unfolding second_index chunk_in
  second_on =
      let i = whole f at h good in
      rw (i.chunks, i.next) (sym (pass _ _ _ _ (rw (ne_eqb (rd32 (drop at f)) RIdx (λ e. no_index (et ∙ e))))))

  start_on : (x : ℕ) → skip_at f at ≤ x → is_start x at (chunks_from f at) ≡ is_start x (skip_at f at) (chunks_from f (skip_at f at))
  unfolding is_start
  start_on x l =
      let i = whole f at h good in
      let q : eqb x at ≡ false = ne_eqb x at (λ e. omega (arith, i.past, i.next)) in
      rw (i.chunks, i.next, q)

  pub came_next : CameTo f from at p → CameTo f from n (p && o)
  came_next c =
      let i = whole f at h good in
      record {
        along = along_next f from at n t p o h good et eo en c.along;
        second = rw en (second_on ∙ c.second);
        reached = λ x l. c.reached x (omega (arith, i.past, i.next)) ∙ rw en (start_on x (omega arith));
        past = omega (arith, i.past, i.next, c.past);
      }

pub came_then : (f : List ℕ) (a b d : ℕ) (p q : Bool) → CameTo f a b p → CameTo f b d q → CameTo f a d (p && q)
came_then f a b d p q x y = record {
  along = record {
    rest = y.along.rest ∙ x.along.rest;
    ordinary = λ e. let o = and_both p q e in y.along.ordinary o.1 ∙ x.along.ordinary o.0;
  };
  second = y.second ∙ x.second;
  reached = λ z l. x.reached z (omega (arith, y.past)) ∙ y.reached z l;
  past = omega (arith, x.past, y.past);
}

-- where the walk has come to a good chunk, one begins
pub came_begins : (f : List ℕ) (base x : ℕ) (p : Bool) → CameTo f base x p → x < length f → chunk_fault x (drop x f) ≡ accept → ChunkAt f base x
unfolding is_start
came_begins f base x p c h good =
    let i = whole f x h good in
    record { inside = h; good = good; begins = c.reached x (omega arith) ∙ rw (i.chunks, eq-eqb x x refl) }

-- to the chunk of the last entry again
pub step_same : (f : List ℕ) (base found at start : ℕ) (q : Bool) → start ≡ found → Stands f base found at q → Stepped (Some (at, true)) f base found at start q
step_same f base found at start q e s = ((λ l. (rw e (s.chunk (rw (← e) l)).0, λ o. rw (e, and-true q) s)), λ n. absurd (n e))

-- to another one
pub step_on : (f : List ℕ) (base found at start n : ℕ) (q p : Bool) → CameTo f at start p → Over (Some n) f start → Stands f base found at q
    → Stepped (Some (n, p)) f base found at start q
step_on f base found at start n q p c v s =
    let there = came_then f base at start q p s.came c in
    let i = whole f start v.0 v.1 in
    let l : start ≤ n = omega (arith, i.past, i.next, v.2) in
    let here = came_begins f base start (q && p) there v.0 v.1 in (
      (λ z. (
        here,
        λ o. record {
          came = rw (and-true (q && p)) at (came_next f base start n _ (q && p) true v.0 v.1 refl (eqb-false _ _
              (ordinary_not (rd32 (drop start f)) o).0) (sym o) v.2 there);
          chunk = λ y. (here, l);
        },
      )),
      λ z. c.past,
    )

-- the walk has come to the file's end
pub came_end : (f : List ℕ) (base at : ℕ) (p : Bool) → at ≡ length f → CameTo f base at p
    → (walk_from f base ≡ accept) × (second_index base (chunks_from f base) ≡ accept) × (p ≡ true → all_ordinary (chunks_from f base) ≡ true)
came_end f base at p e c =
    let l : length f ≤ at = omega arith in
    (sym c.along.rest ∙ walk_end f at l, sym c.second ∙ second_end f at l, λ o. sym (c.along.ordinary o) ∙ ordinary_end f at l)

allowed_ordinary : (profile u : ℕ) (c : Chunk) → allows profile u c ≡ true → ordinary_type c.type ≡ true
allowed_ordinary profile u c h = let n = allowed_not profile u c h in rw (n.0, n.1, n.2)

-- 12, 14 and 15 by the numbers that the code has read
pub suits-good : (profile : ℕ) (f : List ℕ) (p u x n : ℕ) (k : Usage) → u ≡ usage_at f p → usage_of u ≡ Some k → x ≡ start_at f p
    → typed_at profile f (code_of k) x ≡ true
    → n ≡ number_at f p → not (eqb u (code_of Exec)) || eqb n 0 ≡ true → (base : ℕ) → is_start (start_at f p) base (chunks_from f base) ≡ true
    → entry_fault profile f base p ≡ accept
suits-good profile f p u x n k eu e ex t en h base b = (judged-at _ _ _ (sym (by_good profile f base p u x eu k e ex (rw ex b) t n en h))).0

pub suits_not : (profile : ℕ) (f : List ℕ) (p : ℕ) → Suits profile false f p
suits_not profile f p e = let z : ◌≡◌ {A = ℕ} 0 1 = cc in absurd (omega arith)

-- a type other than 'Rect' and 'FORM' is allowed whatever the data
same_typed : (profile u t : ℕ) (b d : List ℕ) → eqb t Rect ≡ false → eqb t FORM ≡ false → allows profile u (chunk_of t b) ≡ allows profile u (chunk_of t d)
unfolding allows plain_allows_of
same_typed profile u t b d r s = rw (r, s) refl

-- an entry of usage u, on a chunk of type t: like the remembered one, or to be remembered itself
module _ (profile : ℕ) (f : List ℕ) (p x u t : ℕ) (eu : u ≡ usage_at f p) (et : t ≡ rd32 (drop x f)) (ex : start_at f p ≡ x) where
  typed-is : typed_at profile f (usage_at f p) (start_at f p) ≡ allows profile u (chunk_of t (chunk_from f x).body)
  unfolding chunk_in
  typed-is = rw (ex, ← eu, ← et) refl

  pub suits-again : (usage kind : ℕ) → u < 4294967296 → eqb u usage && eqb t kind ≡ true → Remembered profile usage kind → Suits profile true f p
  unfolding entry_fault
  suits-again usage kind l e m =
      let q = and_both _ _ e in
      let a : Allowed profile u t = rw (← eqb-true u usage q.0, ← eqb-true t kind q.1) at m l in
      λ z base b. pass _ _ _ _ (rw (← eu) a.known) ∙ pass _ _ _ _ b ∙ pass _ _ _ _ (typed-is ∙ a.typed _) ∙ holds_last _ _ _ (rw (← eu, a.numbered))

  pub suits_lasting : x < length f → chunk_fault x (drop x f) ≡ accept → not (eqb t Rect) && (not (eqb t FORM) && not (eqb u (code_of Exec))) ≡ true
      → Suits profile true f p → Remembered profile u t
  unfolding entry_fault is_start
  suits_lasting h good e s =
      let q = and_both _ _ e in
      let r = and_both _ _ q.1 in
      let b : is_start (start_at f p) x (chunks_from f x) ≡ true = rw (ex, (whole f x h good).chunks, eq-eqb x x refl) in
      let a = then_accept _ _ (s refl x b) in
      let y = check_accept _ _ _ (then_accept _ _ (then_accept _ _ a.1).1).0 in
      λ l. record {
        known = rw eu (check_accept _ _ _ a.0);
        typed = λ body. same_typed profile u t body _ (not-true _ q.0) (not-true _ r.0) ∙ sym typed-is ∙ y;
        numbered = r.1;
      }

-- what rule 5 allows is an ordinary chunk
pub good_ordinary : (profile : ℕ) (f : List ℕ) (base p x : ℕ) → start_at f p ≡ x → entry_fault profile f base p ≡ accept → ordinary_type (rd32 (drop x f)) ≡ true
unfolding entry_fault chunk_in
good_ordinary profile f base p x ex e =
    let a = then_accept _ _ e in
    let y = check_accept _ _ _ (then_accept _ _ (then_accept _ _ a.1).1).0 in
    allowed_ordinary profile (usage_at f p) (chunk_from f x) (rw ex at y)

-- before the first entry
pub sofar_none : (profile : ℕ) (f : List ℕ) (base count found : ℕ) → (found < 4294967296 → ⊥) → SoFar profile f base count 0 found base
sofar_none profile f base count found n =
    let z : count - 0 ≡ count = omega arith in
    record { entries = ap (entries_from profile f base 0) z; last = base; before = before-none f base; behind = omega arith; level = λ l. absurd (n l) }

-- an entry more
pub sofar_next : (profile : ℕ) (f : List ℕ) (base count j found at start behind : ℕ) → walk_from f base ≡ accept → j < count → entry_fault profile f base
    (place j) ≡ accept
    → pair_in (usage_at f (place j)) (number_at f (place j)) (earlier f base j) ≡ false → start_at f (place j) ≡ start → start < 4294967296
    → ((start ≡ found → ⊥) → at ≤ start) → start ≤ behind → SoFar profile f base count j found at → SoFar profile f base count (j + 1) start behind
sofar_next profile f base count j found at start behind w h good fresh es small onward l s = record {
  entries = entries_next profile f base count j w h good fresh s.last start s.before es (order (eqb start found) refl) ∙ s.entries;
  last = start;
  before = before-next profile f base count j w h good start es;
  behind = l;
  level = λ z. omega arith;
}
  where
    order : (b : Bool) → eqb start found ≡ b → s.last ≤ start
    order true e = let q : start ≡ found = eqb-true start found e in let v = s.level (omega arith) in omega arith
    order false e = let v = onward (eqb-false start found e) in omega (arith, s.behind)

pub sofar_end : (profile : ℕ) (f : List ℕ) (base count j found at : ℕ) → walk_from f base ≡ accept → j ≡ count → SoFar profile f base count j found at
    → entries_from profile f base 0 count ≡ accept
sofar_end profile f base count j found at w e s =
    let z : count - j ≡ 0 = omega arith in sym s.entries ∙ ap (entries_from profile f base j) z ∙ entries_end profile f base w j

-- the file's head and the index's length; the rest by the pass
module _ (profile : ℕ) (f : List ℕ) (count m : ℕ) (head : head_fault f ≡ accept) (room : 24 ≤ length f) (index : rd32 (drop 12 f) ≡ RIdx)
    (em : m ≡ rd32 (drop 16 f))
    (ec : count ≡ rd32 (drop 20 f)) (shape : m ≡ 4 + 12 * count) (few : count ≤ 4096) (all : place count ≤ length f) where
  even : m % 2 ≡ 0
  even = omega arith

  long : 12 < length f
  long = omega arith

  behind : skip_at f 12 ≡ place count
  behind = let e : rd32 (drop 16 f) ≡ 4 + 12 * count = sym em ∙ shape in rw e (omega arith)

  module _ (walks : walk_from f (place count) ≡ accept) (second : second_index (place count) (chunks_from f (place count)) ≡ accept)
      (entries : entries_from profile f (place count) 0 count ≡ accept) where
    walk : walk_from f 12 ≡ accept
    walk = sym (walk-next f 12 long (sym (chunk-even f 12 m long em (omega arith) (omega arith) even))) ∙ ap (walk_from f) behind ∙ walks

    second_12 : second_index (skip_at f 12) (chunks_from f (skip_at f 12)) ≡ accept
    second_12 = rw behind second

    shaped : 4 ≤ rd32 (drop 16 f)
    shaped = omega arith

    straight_good : (ordinary : Bool) → (ordinary ≡ true → all_ordinary (chunks_from f (place count)) ≡ true) → JudgesEntries profile
        (Ok (record { count = count; ordinary = ordinary })) f
    straight_good ordinary o =
        let first = sym (first_good f long index) in
        let i = sym (shape-good f long walk shaped (sym em ∙ shape ∙ ap (λ (n : ℕ). 4 + 12 * n) ec) (omega arith)) in (
          is-judged profile f head walk first (skip_at f 12) refl second_12 i count ec entries,
          read-rest profile f head walk first (skip_at f 12) refl second_12 i count ec entries,
          o,
        )

  pub straight_told : (r : Option Judged) → Alongside profile r f count → Straightly profile r f
  straight_told (Some j) a = rw a.0 (straight_good a.1 a.2 a.4 j.ordinary a.3)
  straight_told None a = tt
