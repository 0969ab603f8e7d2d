-- An undo of kind 3 or 4 puts an entry in: the order of the chunks is kept just where the entry fits between its two neighbours, and since chunks stand one
-- behind the other, that is told by their starts in the present file (order_inserted, order_entered).
use mathlib.Core.Path.{◌≡◌, refl, sym, ap, ◌∙◌}
use Prim.Native.Nat.{ℕ, zero, suc, ◌+◌, ◌-◌, ◌≤◌, ◌<◌}
use mathlib.Core.List.{List, [], ◌∷◌, map}
use mathlib.Core.Bool.{Bool, true, false, cond, ◌&&◌, ◌||◌, not}
use native.Mathlib.Omega.{arith}
use native.Mathlib.Nat.{le_of_suc-le-suc, not-suc-le-zero}
use lib.ListN.{length, get_or, length-map}
use lib.Dec.{leb, ltb, eqb}
use borrow.Author.Tests.{le-leb, lt-leb, leb-true, leb-false, lt-ltb, le-ltb, ltb-true, ltb-false, eqb-true, eqb-false}
use Rattle.blorb.specs.Format.{Ref}
use Rattle.blorb.specs.Model.{Model, base}
use Rattle.blorb.specs.Queries.{no_ref, ref_at, start}
use Rattle.blorb.specs.Sound.{Sound}
use Rattle.blorb.proofs.Places.{start_of-before, lower-start}
use Rattle.blorb.proofs.VerdictLaws.{refs_in_order}
use Rattle.blorb.proofs.Checks.{and_where}
use Rattle.blorb.proofs.ModelLaws.{chunk_in}
use Rattle.edits.specs.Edit.{raise, entered, inserted}
use Rattle.edits.specs.Journal.{Rec, fits3, fits4, undo3, undo4, old_place}
use Rattle.edits.specs.Order.{between}
use Rattle.edits.proofs.FitFacts.{fits3_in, fits4_in}
use Rattle.edits.proofs.OrderLaws.{chunk_before, not_behind, order_with, order_raise}

-- the chunks of the neighbours by the entries' places
before_at : (k i : ℕ) (rs : List Ref) → i < length rs → chunk_before k (suc i) rs ≡ (get_or rs i no_ref).chunk
before_at k i [] h = absurd (not-suc-le-zero h)
before_at k zero (r ∷ rs) h = refl
before_at k (suc i) (r ∷ rs) h = before_at r.chunk i rs (le_of_suc-le-suc h)

behind-at : (c i : ℕ) (rs : List Ref) → i < length rs → not_behind c i rs ≡ leb c (get_or rs i no_ref).chunk
behind-at c i [] h = absurd (not-suc-le-zero h)
behind-at c zero (r ∷ rs) h = refl
behind-at c (suc i) (r ∷ rs) h = behind-at c i rs (le_of_suc-le-suc h)

behind_end : (c i : ℕ) (rs : List Ref) → length rs ≤ i → not_behind c i rs ≡ true
behind_end c i [] h = refl
behind_end c zero (r ∷ rs) h = absurd (not-suc-le-zero h)
behind_end c (suc i) (r ∷ rs) h = behind_end c i rs (le_of_suc-le-suc h)

raised_at : (k i : ℕ) (rs : List Ref) → i < length rs
    → (get_or (map (raise k) rs) i no_ref).chunk ≡ cond (leb k (get_or rs i no_ref).chunk) (suc (get_or rs i no_ref).chunk) (get_or rs i no_ref).chunk
unfolding raise
raised_at k i [] h = absurd (not-suc-le-zero h)
raised_at k zero (r ∷ rs) h = refl
raised_at k (suc i) (r ∷ rs) h = raised_at k i rs (le_of_suc-le-suc h)

-- where the chunks from k on have moved up by one, a chunk c is before the new one just if it was before k, and not before it just if it was not
raised-before : (k c : ℕ) → leb (cond (leb k c) (suc c) c) k ≡ ltb c k
raised-before k c = go (leb k c) refl
  where
    go : (b : Bool) → leb k c ≡ b → leb (cond b (suc c) c) k ≡ ltb c k
    go true e = let h : k ≤ c = leb-true k c e in lt-leb (suc c) k (omega arith) ∙ sym (le-ltb c k h)
    go false e = let h : c < k = leb-false k c e in le-leb c k (omega arith) ∙ sym (lt-ltb c k h)

raised-behind : (k c : ℕ) → leb k (cond (leb k c) (suc c) c) ≡ leb k c
raised-behind k c = go (leb k c) refl
  where
    go : (b : Bool) → leb k c ≡ b → leb k (cond b (suc c) c) ≡ b
    go true e = le-leb k (suc c) (omega (arith, leb-true k c e))
    go false e = e

-- the same of starts: x is where chunk k begins, or where the file ends
module _ (m : Model) (k x : ℕ) (s : Sound m) (kin : k ≤ length m.chunks) (ex : start m k ≡ x) where
  abbrev at : ℕ → ℕ
  at i = start m (ref_at m i).chunk

  start_not_behind : (i : ℕ) → i < length m.refs → leb (ref_at m i).chunk k ≡ ltb (at i) (x + 1)
  unfolding start
  start_not_behind i h =
      sym (lower-start (base (length m.refs)) m.chunks (ref_at m i).chunk k (omega (arith, chunk_in m i s h)) kin)
      ∙ ap (leb (at i)) ex ∙ below_suc (at i) x
    where
      below_suc : (a b : ℕ) → leb a b ≡ ltb a (b + 1)
      below_suc a b = go (leb a b) refl
        where
          go : (t : Bool) → leb a b ≡ t → t ≡ ltb a (b + 1)
          go true e = sym (lt-ltb a (b + 1) (omega (arith, leb-true a b e)))
          go false e = sym (le-ltb a (b + 1) (omega (arith, leb-false a b e)))

  start-before : (i : ℕ) → i < length m.refs → ltb (ref_at m i).chunk k ≡ ltb (at i) x
  unfolding start
  start-before i h = go (ltb (ref_at m i).chunk k) refl
    where
      bs : ℕ
      bs = base (length m.refs)

      go : (b : Bool) → ltb (ref_at m i).chunk k ≡ b → b ≡ ltb (at i) x
      go true e =
          let l = start_of-before bs m.chunks (ref_at m i).chunk k (ltb-true (ref_at m i).chunk k e) kin in
          sym (lt-ltb (at i) x (rw (← ex) l))
      go false e =
          let l : leb (start m k) (at i) ≡ true
          = lower-start bs m.chunks k (ref_at m i).chunk kin (omega (arith, chunk_in m i s h))
          ∙ le-leb k (ref_at m i).chunk (ltb-false (ref_at m i).chunk k e) in
          sym (le-ltb (at i) x (rw (← ex) (leb-true _ _ l)))

  start-behind : (i : ℕ) → i < length m.refs → leb k (ref_at m i).chunk ≡ leb x (at i)
  unfolding start
  start-behind i h =
      sym (lower-start (base (length m.refs)) m.chunks k (ref_at m i).chunk kin (omega (arith, chunk_in m i s h)))
      ∙ ap (λ (z : ℕ). leb z (at i)) ex

  -- both neighbours; `limit` is what the one in front starts below
  neighbours : (i limit : ℕ) (rs : List Ref) → i ≤ length m.refs → length rs ≡ length m.refs
      → ((j : ℕ) → j < length m.refs → leb (get_or rs j no_ref).chunk k ≡ ltb (at j) limit)
      → ((j : ℕ) → j < length m.refs → leb k (get_or rs j no_ref).chunk ≡ leb k (ref_at m j).chunk)
      → (leb (chunk_before 0 i rs) k && not_behind k i rs) ≡ between at (length m.refs) i limit x
  neighbours i limit rs h l front back =
      rw (le-leb i (length m.refs) h) (λ z. before (eqb i 0) refl z && behind (ltb i (length m.refs)) refl z)
    where
      before : (b : Bool) → eqb i 0 ≡ b → leb (chunk_before 0 i rs) k ≡ (b || ltb (at (i - 1)) limit)
      before true e = ap (λ (z : ℕ). leb (chunk_before 0 z rs) k) (eqb-true i 0 e) ∙ le-leb 0 k (omega arith)
      before false e =
          let n = eqb-false i 0 e in
          let q : i ≡ suc (i - 1) = omega arith in
          ap (λ (z : ℕ). leb (chunk_before 0 z rs) k) q ∙ ap (λ (z : ℕ). leb z k) (before_at 0 (i - 1) rs (omega arith)) ∙ front (i - 1) (omega arith)

      behind : (b : Bool) → ltb i (length m.refs) ≡ b → not_behind k i rs ≡ (not b || leb x (at i))
      behind true e = let q = ltb-true i (length m.refs) e in behind-at k i rs (omega (arith, l)) ∙ back i q ∙ start-behind i q
      behind false e = behind_end k i rs (omega (arith, l, ltb-false i (length m.refs) e))

-- kind 3: "entry and chunk go in there"
pub order_inserted : (r : Rec) (m : Model) → Sound m → refs_in_order 0 m.refs ≡ true → fits3 r m ≡ true
    → refs_in_order 0 (undo3 r m).refs ≡ between (λ (i : ℕ). start m (ref_at m i).chunk) (length m.refs) r.place (r.start - 12) (r.start - 12)
unfolding undo3 inserted
order_inserted r m s o fit =
    let g = fits3_in r m fit in
    let k : ℕ = old_place r m in
    let up : List Ref = map (raise k) m.refs in
    let l : length up ≡ length m.refs = length-map m.refs (raise k) in
    order_with 0 r.place _ up (rw l g.place_in) (order_raise k m.refs o)
    ∙ neighbours m k (r.start - 12) s g.chunk_place g.starts r.place (r.start - 12) up g.place_in l
    (λ j h. ap (λ (z : ℕ). leb z k) (raised_at k j m.refs h) ∙ raised-before k (ref_at m j).chunk ∙ start-before m k (r.start - 12) s
    g.chunk_place g.starts j h)
    (λ j h. ap (leb k) (raised_at k j m.refs h) ∙ raised-behind k (ref_at m j).chunk)

-- kind 4: "the entry goes in"
pub order_entered : (r : Rec) (m : Model) → Sound m → refs_in_order 0 m.refs ≡ true → fits4 r m ≡ true
    → refs_in_order 0 (undo4 r m).refs ≡ between (λ (i : ℕ). start m (ref_at m i).chunk) (length m.refs) r.place (r.start - 12 + 1) (r.start - 12)
unfolding undo4 entered
order_entered r m s o fit =
    let g = fits4_in r m fit in
    let k : ℕ = old_place r m in
    order_with 0 r.place _ m.refs g.place_in o
    ∙ neighbours m k (r.start - 12) s g.chunk_place g.starts r.place (r.start - 12 + 1) m.refs g.place_in refl
    (λ j h. start_not_behind m k (r.start - 12) s g.chunk_place g.starts j h) (λ j h. refl)

-- it is told the same by any account of the entries' starts
pub between_alike : (f g : ℕ → ℕ) (n i limit x : ℕ) → ((j : ℕ) → j < n → f j ≡ g j) → between f n i limit x ≡ between g n i limit x
between_alike f g n i limit x same = and_where (leb i n) _ _ (λ e. let h : i ≤ n = leb-true i n e in λ z. before (eqb i 0) refl h z && behind (ltb i n) refl z)
  where
    before : (b : Bool) → eqb i 0 ≡ b → i ≤ n → (b || ltb (f (i - 1)) limit) ≡ (b || ltb (g (i - 1)) limit)
    before true e h = refl
    before false e h = let p = eqb-false i 0 e in ap (λ (z : ℕ). ltb z limit) (same (i - 1) (omega arith))

    behind : (b : Bool) → ltb i n ≡ b → (not b || leb x (f i)) ≡ (not b || leb x (g i))
    behind true e = ap (leb x) (same i (ltb-true i n e))
    behind false e = refl
