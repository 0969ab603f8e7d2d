-- The edits keep the entries in the order of their chunks (02, P5: "01's edits keep the order").
use mathlib.Core.Path.{◌≡◌, refl, ap}
use Prim.Native.Nat.{ℕ, zero, suc, ◌-◌, ◌≤◌, ◌<◌}
use mathlib.Core.List.{List, [], ◌∷◌, ◌++◌, map}
use mathlib.Core.Bool.{Bool, true, false, cond, ◌&&◌, ◌||◌, and-true}
use native.Mathlib.Omega.{arith}
use native.Mathlib.Nat.{le_of_suc-le-suc, not-suc-le-zero}
use lib.ListN.{length}
use lib.Dec.{leb, ltb}
use borrow.Author.Tests.{le-leb, leb-true, leb-false, ltb-true, ltb-false}
use Rattle.blorb.specs.Format.{Ref}
use Rattle.blorb.specs.All.{All}
use Rattle.blorb.specs.Sound.{RefOk}
use Rattle.blorb.specs.Queries.{without}
use Rattle.blorb.proofs.Checks.{and_both, both_true, neither}
use Rattle.blorb.proofs.VerdictLaws.{refs_in_order}
use Rattle.edits.specs.Edit.{with_at, lower, raise, up_to, any_up_to, link_place_of}

-- from an earlier chunk on
order_from : (j k : ℕ) (rs : List Ref) → j ≤ k → refs_in_order k rs ≡ true → refs_in_order j rs ≡ true
unfolding refs_in_order
order_from j k [] h o = refl
order_from j k (r ∷ rs) h o =
    let q = and_both (leb k r.chunk) (refs_in_order r.chunk rs) o in
    both_true _ _ (le-leb j r.chunk (omega (arith, leb-true k r.chunk q.0))) q.1

-- add: "entry at the end of the index, chunk at the end of the file"
pub order_added : (k n : ℕ) (rs : List Ref) (x : Ref) → k ≤ n → All (RefOk n) rs → x.chunk ≡ n → refs_in_order k rs ≡ true → refs_in_order k (rs ++ (x ∷ [])) ≡ true
unfolding refs_in_order
order_added k n [] x h ok e o = both_true _ _ (le-leb k x.chunk (omega arith)) refl
order_added k n (r ∷ rs) x h ok e o =
    let q = and_both (leb k r.chunk) (refs_in_order r.chunk rs) o in
    both_true _ _ q.0 (order_added r.chunk n rs x (omega (arith, ok.0.chunk_there)) ok.1 e q.1)

-- an entry goes
pub order_without : (k i : ℕ) (rs : List Ref) → refs_in_order k rs ≡ true → refs_in_order k (without i rs) ≡ true
unfolding refs_in_order without
order_without k zero [] o = refl
order_without k (suc i) [] o = refl
order_without k zero (r ∷ rs) o =
    let q = and_both (leb k r.chunk) (refs_in_order r.chunk rs) o in
    order_from k r.chunk rs (leb-true k r.chunk q.0) q.1
order_without k (suc i) (r ∷ rs) o =
    let q = and_both (leb k r.chunk) (refs_in_order r.chunk rs) o in
    both_true _ _ q.0 (order_without r.chunk i rs q.1)

-- its chunk goes
abbrev down : ℕ → ℕ → ℕ
down c k = cond (ltb c k) (k - 1) k

down_le : (c j k : ℕ) → j ≤ k → down c j ≤ down c k
down_le c j k h = go (ltb c j) (ltb c k) refl refl
  where
    go : (a b : Bool) → ltb c j ≡ a → ltb c k ≡ b → cond a (j - 1) j ≤ cond b (k - 1) k
    go true true e f = omega arith
    go true false e f = omega (arith, ltb-true c j e, ltb-false c k f)
    go false true e f = omega (arith, ltb-false c j e, ltb-true c k f)
    go false false e f = h

order_lower : (c k : ℕ) (rs : List Ref) → refs_in_order k rs ≡ true → refs_in_order (down c k) (map (lower c) rs) ≡ true
unfolding refs_in_order lower
order_lower c k [] o = refl
order_lower c k (r ∷ rs) o =
    let q = and_both (leb k r.chunk) (refs_in_order r.chunk rs) o in
    both_true _ _ (le-leb (down c k) (down c r.chunk) (down_le c k r.chunk (leb-true k r.chunk q.0))) (order_lower c r.chunk rs q.1)

pub order_removed : (c i : ℕ) (rs : List Ref) → refs_in_order 0 rs ≡ true → refs_in_order 0 (map (lower c) (without i rs)) ≡ true
order_removed c i rs o = order_from 0 (down c 0) (map (lower c) (without i rs)) (omega arith) (order_lower c 0 (without i rs) (order_without 0 i rs o))

-- An entry goes in at i (undo of kinds 3 and 4): the order is kept just where its chunk is not before that of the entry in front of it and not behind that
-- of the entry that it goes before. k is the chunk before the first
abbrev pub chunk_before : ℕ → ℕ → List Ref → ℕ
chunk_before k zero rs = k
chunk_before k (suc i) [] = k
chunk_before k (suc i) (r ∷ rs) = chunk_before r.chunk i rs

abbrev pub not_behind : ℕ → ℕ → List Ref → Bool
not_behind c i [] = true
not_behind c zero (r ∷ rs) = leb c r.chunk
not_behind c (suc i) (r ∷ rs) = not_behind c i rs

pub order_with : (k i : ℕ) (x : Ref) (rs : List Ref) → i ≤ length rs → refs_in_order k rs ≡ true
    → refs_in_order k (with_at i x rs) ≡ (leb (chunk_before k i rs) x.chunk && not_behind x.chunk i rs)
unfolding refs_in_order with_at
order_with k zero x [] l o = refl
order_with k (suc i) x [] l o = absurd (not-suc-le-zero l)
order_with k zero x (r ∷ rs) l o =
    let q = and_both (leb k r.chunk) (refs_in_order r.chunk rs) o in
    rw q.1 (ap (λ (b : Bool). leb k x.chunk && b) (and-true (leb x.chunk r.chunk)))
order_with k (suc i) x (r ∷ rs) l o =
    let q = and_both (leb k r.chunk) (refs_in_order r.chunk rs) o in
    rw q.0 (order_with r.chunk i x rs (le_of_suc-le-suc l) q.1)

-- the chunks from c on have moved up by one (kind 3): the order is kept
up_le : (c j k : ℕ) → j ≤ k → cond (leb c j) (suc j) j ≤ cond (leb c k) (suc k) k
up_le c j k h = go (leb c j) (leb c k) refl refl
  where
    go : (a b : Bool) → leb c j ≡ a → leb c k ≡ b → cond a (suc j) j ≤ cond b (suc k) k
    go true true e f = omega arith
    go true false e f = omega (arith, leb-true c j e, leb-false c k f)
    go false true e f = omega arith
    go false false e f = h

order_up : (c j k : ℕ) (rs : List Ref) → j ≤ cond (leb c k) (suc k) k → refs_in_order k rs ≡ true → refs_in_order j (map (raise c) rs) ≡ true
unfolding refs_in_order raise
order_up c j k [] h o = refl
order_up c j k (r ∷ rs) h o =
    let q = and_both (leb k r.chunk) (refs_in_order r.chunk rs) o in
    let up : ℕ = cond (leb c r.chunk) (suc r.chunk) r.chunk in
    both_true _ _ (le-leb j up (omega (arith, up_le c k r.chunk (leb-true k r.chunk q.0)))) (order_up c up r.chunk rs (omega arith) q.1)

pub order_raise : (c : ℕ) (rs : List Ref) → refs_in_order 0 rs ≡ true → refs_in_order 0 (map (raise c) rs) ≡ true
order_raise c rs o = order_up c 0 0 rs (omega arith) o

-- what the test of a link's place tells of an entry: it stands behind chunk k, or it does not
pub up_to_no : (k : ℕ) (r : Ref) → up_to k r ≡ false → k < r.chunk
up_to_no k r e = leb-false r.chunk k e

pub up_to_yes : (k : ℕ) (r : Ref) → up_to k r ≡ true → r.chunk ≤ k
up_to_yes k r e = leb-true r.chunk k e

-- in an index in order, an entry that isn't behind chunk k tells that of all before it
up_to_first : (c k : ℕ) (rs : List Ref) → refs_in_order c rs ≡ true → any_up_to k rs ≡ true → c ≤ k
unfolding refs_in_order any_up_to
up_to_first c k [] o h = let z : ◌≡◌ {A = Bool} false true = h in let y : ◌≡◌ {A = ℕ} 0 1 = cc in absurd (omega arith)
up_to_first c k (r ∷ rs) o h =
    let p = and_both (leb c r.chunk) (refs_in_order r.chunk rs) o in
    go (up_to k r) refl h (λ q. up_to_first r.chunk k rs p.1 q) (leb-true c r.chunk p.0)
  where
    go : (b : Bool) → up_to k r ≡ b → b || any_up_to k rs ≡ true → (any_up_to k rs ≡ true → r.chunk ≤ k) → c ≤ r.chunk → c ≤ k
    go true e h f l = omega (arith, up_to_yes k r e)
    go false e h f l = omega (arith, f h)

-- a link's entry goes in behind the last one that isn't behind its chunk
pub order_linked : (c k : ℕ) (x : Ref) (rs : List Ref) → x.chunk ≡ k → c ≤ k → refs_in_order c rs ≡ true → refs_in_order c (with_at (link_place_of k rs) x rs) ≡ true
unfolding refs_in_order link_place_of with_at
order_linked c k x [] e h o = both_true _ _ (le-leb c x.chunk (omega (arith, e))) refl
order_linked c k x (r ∷ rs) e h o =
    let p = and_both (leb c r.chunk) (refs_in_order r.chunk rs) o in
    go (any_up_to k (r ∷ rs)) refl p.0 p.1 (λ l. order_linked r.chunk k x rs e l p.1)
  where
    go : (b : Bool) → any_up_to k (r ∷ rs) ≡ b → leb c r.chunk ≡ true → refs_in_order r.chunk rs ≡ true
        → (r.chunk ≤ k → refs_in_order r.chunk (with_at (link_place_of k rs) x rs) ≡ true) → refs_in_order c (with_at (cond b (suc (link_place_of k rs)) 0) x (r ∷ rs)) ≡ true
    go true q a o f = both_true _ _ a (f (up_to_first r.chunk k (r ∷ rs) (both_true _ _ (le-leb r.chunk r.chunk (omega arith)) o) q))
    go false q a o f =
        let n : up_to k r ≡ false = (unfold any_up_to in (neither (up_to k r) (any_up_to k rs) q).0) in
        both_true _ _ (le-leb c x.chunk (omega (arith, e)))
        (both_true _ _ (le-leb x.chunk r.chunk (omega (arith, e, up_to_no k r n))) o)
