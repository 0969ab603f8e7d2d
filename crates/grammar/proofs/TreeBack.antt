-- Chunks that are read without fault are the bytes of an allowed tree: each header is written again from what was read in it, a FORM's, group's or
-- PROP's members are those of its data, and the walk goes forward by at least eight bytes, so the tree is built in finitely many steps.
use Prim.Native.Nat.{ℕ, zero, suc, ◌+◌, ◌-◌, ◌%◌, ◌≤◌, ◌<◌}
use mathlib.Core.Path.{◌≡◌, refl, ap, sym, ◌∙◌}
use mathlib.Core.List.{List, [], ◌∷◌, ◌++◌}
use mathlib.Core.Bool.{Bool, true, false, ◌&&◌, ◌||◌}
use native.Mathlib.Omega.{arith}
use native.Mathlib.Nat.{add-zero}
use lib.ListN.{length, get_or, take, drop, replicate, length-drop}
use lib.Seq.{drop-drop, take-add, length-take-le, get_or-drop}
use lib.Dec.{eqb, leb, ltb}
use borrow.Author.Tests.{leb-true, leb-false, eqb-true}
use Rattle.blorb.specs.All.{All}
use Rattle.blorb.specs.Bytes.{be32, rd32, Byte}
use Rattle.blorb.specs.Format.{chunk_of, sized, chunk_bytes}
use Rattle.blorb.specs.Tags.{FORM}
use Rattle.blorb.specs.Verdict.{Verdict, accept, refuse}
use Rattle.blorb.proofs.AllLaws.{all_drop}
use Rattle.blorb.proofs.Accept.{again, rd32_small}
use Rattle.blorb.proofs.Checks.{then_accept, check_accept, and_both}
use Rattle.members.specs.declared.Kind.{Kind}
use Rattle.members.specs.declared.Kind.TheVariants.{Form, List as Lst, Cat, Prop, Plain}
use Rattle.members.specs.declared.Place.{Place}
use Rattle.members.specs.Kinds.{LIST, CAT, PROP, kind_of, pick_kind, is_plain, behind, within}
use Rattle.members.specs.Faults.{kind_at, size_at, end_at, next_at, padded, member_fault_of}
use Rattle.members.proofs.FaultLaws.{good-facts}
use Rattle.groups.specs.Events.{Event, form, fault, chunk_by, members, chunk}
use Rattle.groups.specs.Files.{first_fault}
use Rattle.groups.proofs.EventLaws.{members_on}
use Rattle.grammar.specs.Tree.{Chunks, none, plain, holder, code_of, bytes, Within}
use Rattle.grammar.proofs.Sentences.{Placed, named_nests, plain_named}

-- no fault in two lists of events is no fault in either
fine_append : (xs ys : List Event) → first_fault (xs ++ ys) ≡ accept → (first_fault xs ≡ accept) × (first_fault ys ≡ accept)
unfolding first_fault
fine_append [] ys e = (refl, e)
fine_append (form t a m d ∷ xs) ys e = fine_append xs ys e
fine_append (fault k p ∷ xs) ys e = let z : ◌≡◌ {A = ℕ} 0 1 = cc in absurd (omega arith)

-- a chunk that shows no fault has none, nor has what it holds
pub chunk_fine : (v : Verdict) (k : Kind) (f : List ℕ) (d at : ℕ) (I : Place → ℕ → ℕ → List Event) → first_fault (chunk_by v k f d at I) ≡ accept
    → (v ≡ accept) × (is_plain k ≡ false → first_fault (I (within k) (end_at f at) (at + 12)) ≡ accept)
unfolding first_fault
chunk_fine (refuse n q) k f d at I e = let z : ◌≡◌ {A = ℕ} 0 1 = cc in absurd (omega arith)
chunk_fine accept Form f d at I e = (refl, λ h. e)
chunk_fine accept Lst f d at I e = (refl, λ h. e)
chunk_fine accept Cat f d at I e = (refl, λ h. e)
chunk_fine accept Prop f d at I e = (refl, λ h. e)
chunk_fine accept Plain f d at I e = (refl, λ h. let z : ◌≡◌ {A = ℕ} 0 1 = cc in absurd (omega arith))

-- the type of a FORM, group or PROP is its kind's
code_is : (t : ℕ) → is_plain (kind_of t) ≡ false → t ≡ code_of (kind_of t)
unfolding kind_of
code_is t e = go (eqb t FORM) (eqb t LIST) (eqb t CAT) (eqb t PROP) (eqb-true t FORM) (eqb-true t LIST) (eqb-true t CAT) (eqb-true t PROP) e
  where
    go : (a b c d : Bool) → (a ≡ true → t ≡ FORM) → (b ≡ true → t ≡ LIST) → (c ≡ true → t ≡ CAT) → (d ≡ true → t ≡ PROP)
        → is_plain (pick_kind a Form (pick_kind b Lst (pick_kind c Cat (pick_kind d Prop Plain)))) ≡ false
        → t ≡ code_of (pick_kind a Form (pick_kind b Lst (pick_kind c Cat (pick_kind d Prop Plain))))
    go true b c d x y z w e = x refl
    go false true c d x y z w e = y refl
    go false false true d x y z w e = z refl
    go false false false true x y z w e = w refl
    go false false false false x y z w e = let v : ◌≡◌ {A = ℕ} 0 1 = cc in absurd (omega arith)

-- a padding byte, if there is one, is zero
pad_zero : (r e end : ℕ) (t : List ℕ) → r < 2 → r ≤ length t → eqb r 0 || (ltb e end && eqb (get_or t 0 0) 0) ≡ true → take r t ≡ replicate r 0
pad_zero zero e end t h l q = refl
pad_zero (suc zero) e end [] h l q = absurd (omega arith)
pad_zero (suc zero) e end (b ∷ t) h l q = λ i. eqb-true b 0 (and_both (ltb e end) (eqb b 0) q).1 i ∷ []
pad_zero (suc (suc r)) e end t h l q = absurd (omega arith)

-- header, data and padding are the front of what they stand in
parts_of : (s : List ℕ) (m r : ℕ) → take 4 s ++ (take 4 (drop 4 s) ++ (take m (drop 8 s) ++ take r (drop (8 + m) s))) ≡ take (8 + (m + r)) s
parts_of s m r =
    let sum : 4 + (4 + (m + r)) ≡ 8 + (m + r) = omega arith in
    rw (← drop-drop m 8 s, ← take-add m r (drop 8 s), ← drop-drop 4 4 s, ← take-add 4 (m + r) (drop 4 s), ← take-add 4 (4 + (m + r)) s)
    (ap (λ (k : ℕ). take k s) sum)

parts_at : (f : List ℕ) (at m r : ℕ)
    → take 4 (drop at f) ++ (take 4 (drop (at + 4) f) ++ (take m (drop (at + 8) f) ++ take r (drop (at + 8 + m) f))) ≡ take (8 + (m + r)) (drop at f)
parts_at f at m r =
    let sum : at + 8 + m ≡ at + (8 + m) = omega arith in
    rw (sum, ← drop-drop 4 at f, ← drop-drop 8 at f, ← drop-drop (8 + m) at f) (parts_of (drop at f) m r)

-- one chunk, written again
module _ (f : List ℕ) (all : All Byte f) (p : Place) (d end at : ℕ) (inside : end ≤ length f) (ok : member_fault_of f p d end at ≡ accept) where
  abbrev body : List ℕ
  body = take (size_at f at) (drop (at + 8) f)

  padding : padded f end at ≡ true
  unfolding member_fault_of
  padding = check_accept _ _ _ (then_accept _ _ (then_accept _ _ (then_accept _ _ ok).1).1).1

  pub chunk-again : chunk_bytes (chunk_of (rd32 (drop at f)) body) ≡ take (sized (size_at f at)) (drop at f)
  unfolding chunk_bytes sized padded
  chunk-again =
      let m : ℕ = size_at f at in
      let good = good-facts f p d end at ok in
      let long : at + 8 + m + m % 2 ≤ length f = omega (arith, good.next, inside) in
      let pad : eqb (m % 2) 0 || (ltb (end_at f at) end && eqb (get_or f (end_at f at) 0) 0) ≡ true = padding in
      let first : get_or (drop (end_at f at) f) 0 0 ≡ get_or f (end_at f at + 0) 0 = get_or-drop (end_at f at) f 0 0 in
      let first2 : get_or (drop (end_at f at) f) 0 0 ≡ get_or f (end_at f at) 0 = rw (add-zero (end_at f at)) at first in
      let lm : length (take m (drop (at + 8) f)) ≡ m = length-take-le m (drop (at + 8) f) (simp length-drop (omega arith)) in
      let e1 : be32 (rd32 (drop at f)) ≡ take 4 (drop at f) = again (drop at f) (all_drop Byte at f all) (simp length-drop (omega arith)) in
      let e2 : be32 m ≡ take 4 (drop (at + 4) f) = again (drop (at + 4) f) (all_drop Byte (at + 4) f all) (simp length-drop (omega arith)) in
      let e3 : take (m % 2) (drop (end_at f at) f) ≡ replicate (m % 2) 0
      = pad_zero (m % 2) (end_at f at) end (drop (end_at f at) f) (omega arith) (simp length-drop (omega arith)) (rw first2 pad) in
      rw (lm, e1, e2, ← e3) (parts_at f at m (m % 2))

  -- the data of a FORM, group or PROP: its type and its members
  pub data-again : 4 ≤ size_at f at → (b : List ℕ) → take (end_at f at - (at + 12)) (drop (at + 12) f) ≡ b → body ≡ be32 (rd32 (drop (at + 8) f)) ++ b
  data-again four b e =
      let good = good-facts f p d end at ok in
      let split : size_at f at ≡ 4 + (end_at f at - (at + 12)) = omega arith in
      let sum : at + 8 + 4 ≡ at + 12 = omega arith in
      let e1 : be32 (rd32 (drop (at + 8) f)) ≡ take 4 (drop (at + 8) f)
      = again (drop (at + 8) f) (all_drop Byte (at + 8) f all) (simp length-drop (omega (arith, good.body))) in
      let two = take-add 4 (end_at f at - (at + 12)) (drop (at + 8) f) in
      let e2 : drop 4 (drop (at + 8) f) ≡ drop (at + 12) f = drop-drop 4 (at + 8) f ∙ rw sum in
      ap (λ (k : ℕ). take k (drop (at + 8) f)) split ∙ two ∙ rw (e1, e2, e)

  -- this chunk, and the bytes of what stands behind it
  pub front-again : (b : List ℕ) → take (end - next_at f at) (drop (next_at f at) f) ≡ b
      → take (end - at) (drop at f) ≡ chunk_bytes (chunk_of (rd32 (drop at f)) body) ++ b
  unfolding sized
  front-again b e =
      let good = good-facts f p d end at ok in
      let m : ℕ = size_at f at in
      let split : end - at ≡ 8 + (m + m % 2) + (end - next_at f at) = omega (arith, good.next) in
      let next : at + (8 + (m + m % 2)) ≡ next_at f at = omega arith in
      let two = take-add (8 + (m + m % 2)) (end - next_at f at) (drop at f) in
      let e2 : drop (8 + (m + m % 2)) (drop at f) ≡ drop (next_at f at) f = drop-drop (8 + (m + m % 2)) at f ∙ rw next in
      ap (λ (k : ℕ). take k (drop at f)) split ∙ two ∙ rw (e2, e, chunk-again)

-- the bytes from at to end are those of an allowed tree, whose chunks stand at p and depth d
pub record Read (f : List ℕ) (p : Place) (d end at : ℕ) : Type 0 where
  pub tree : Chunks
  pub same : take (end - at) (drop at f) ≡ bytes tree
  pub placed : Placed p tree
  pub levels : Within (17 - d) tree

pub nothing : (f : List ℕ) (p : Place) (d end at : ℕ) → end ≤ at → Read f p d end at
unfolding bytes Placed Within
nothing f p d end at h = let z : end - at ≡ 0 = omega arith in record { tree = none; same = rw z; placed = tt; levels = tt }

-- a FORM, group or PROP, and the bytes of what stands behind it
pub holder-again : (f : List ℕ) (all : All Byte f) (p : Place) (d end at : ℕ) (inside : end ≤ length f) (ok : member_fault_of f p d end at ≡ accept)
    → is_plain (kind_at f at) ≡ false → (inner : Read f (within (kind_at f at)) (d + 1) (end_at f at) (at + 12))
    → (b : List ℕ) → take (end - next_at f at) (drop (next_at f at) f) ≡ b
    → take (end - at) (drop at f) ≡ chunk_bytes (chunk_of (code_of (kind_at f at)) (be32 (rd32 (drop (at + 8) f)) ++ bytes inner.tree)) ++ b
holder-again f all p d end at inside ok q inner b e =
    let code : rd32 (drop at f) ≡ code_of (kind_at f at) = code_is (rd32 (drop at f)) q in
    let four = (good-facts f p d end at ok).four q in
    let members-in = data-again f all p d end at inside ok four (bytes inner.tree) inner.same in
    front-again f all p d end at inside ok b e
    ∙ ap (λ (x : ℕ). chunk_bytes (chunk_of x (take (size_at f at) (drop (at + 8) f))) ++ b) code
    ∙ ap (λ (x : List ℕ). chunk_bytes (chunk_of (code_of (kind_at f at)) x) ++ b) members-in

-- one chunk more
module _ (f : List ℕ) (all : All Byte f) (p : Place) (d end at : ℕ) (inside : end ≤ length f) (ok : member_fault_of f p d end at ≡ accept)
    (rest : Read f (behind p (kind_at f at)) d end (next_at f at)) where
  with_plain : is_plain (kind_at f at) ≡ true → Read f p d end at
  unfolding bytes Placed Within
  with_plain q =
      let k : kind_at f at ≡ Plain = plain_named (kind_at f at) q in
      let holds = (good-facts f p d end at ok).holds in
      let behind-it : Placed (behind p Plain) rest.tree = rw k at rest.placed in
      record {
        tree = plain (rd32 (drop at f)) (take (size_at f at) (drop (at + 8) f)) rest.tree;
        same = front-again f all p d end at inside ok (bytes rest.tree) rest.same;
        placed = (rd32_small (drop at f) (all_drop Byte at f all), k, rw k at holds, behind-it);
        levels = rest.levels;
      }

  with-holder : is_plain (kind_at f at) ≡ false → Read f (within (kind_at f at)) (d + 1) (end_at f at) (at + 12) → Read f p d end at
  unfolding bytes Placed Within
  with-holder q inner =
      let good = good-facts f p d end at ok in
      let less : 17 - (d + 1) ≡ 17 - d - 1 = omega arith in
      record {
        tree = holder (kind_at f at) (rd32 (drop (at + 8) f)) inner.tree rest.tree;
        same = holder-again f all p d end at inside ok q inner (bytes rest.tree) rest.same;
        placed = (rd32_small (drop (at + 8) f) (all_drop Byte (at + 8) f all), q, good.holds, inner.placed, rest.placed);
        levels = ((λ n. let h = good.shallow (named_nests (kind_at f at) n) in omega arith), rw less at inner.levels, rest.levels);
      }

  with-chunk : (is_plain (kind_at f at) ≡ false → Read f (within (kind_at f at)) (d + 1) (end_at f at) (at + 12)) → Read f p d end at
  with-chunk inner = go (is_plain (kind_at f at)) refl
    where
      go : (b : Bool) → is_plain (kind_at f at) ≡ b → Read f p d end at
      go true q = with_plain q
      go false q = with-holder q (inner q)

-- a turn: the first chunk, what it holds, and the chunks behind it; n bounds the number of turns that are left
turn : (n : ℕ) (f : List ℕ) (p : Place) (d end at : ℕ) → All Byte f → end ≤ length f → end ≤ at + suc n → at < end → first_fault (members f p d end at) ≡ accept
    → ((q : Place) (c x a : ℕ) → x ≤ length f → x ≤ a + n → first_fault (members f q c x a) ≡ accept → Read f q c x a) → Read f p d end at
unfolding chunk
turn n f p d end at all inside h l e read =
    let both = fine_append _ _ (ap first_fault (sym (members_on f p d end at l inside)) ∙ e) in
    let own = chunk_fine (member_fault_of f p d end at) (kind_at f at) f d at (λ q x a. members f q (d + 1) x a) both.0 in
    let good = good-facts f p d end at own.0 in
    let rest = read (behind p (kind_at f at)) d end (next_at f at) inside (omega arith) both.1 in
    with-chunk f all p d end at inside own.0 rest
    (λ q. read (within (kind_at f at)) (d + 1) (end_at f at) (at + 12) (omega (arith, good.body)) (omega (arith, good.body)) (own.1 q))

-- all chunks from at to end; n bounds their number
pub members-back : (n : ℕ) (f : List ℕ) (p : Place) (d end at : ℕ) → All Byte f → end ≤ length f → end ≤ at + n
    → first_fault (members f p d end at) ≡ accept → Read f p d end at
members-back zero f p d end at all inside h e = nothing f p d end at (omega arith)
members-back (suc n) f p d end at all inside h e = go (leb end at) refl (λ q c x a i k v. members-back n f q c x a all i k v)
  where
    go : (b : Bool) → leb end at ≡ b → ((q : Place) (c x a : ℕ) → x ≤ length f → x ≤ a + n → first_fault (members f q c x a) ≡ accept → Read f q c x a)
        → Read f p d end at
    go true q read = nothing f p d end at (leb-true end at q)
    go false q read = turn n f p d end at all inside h (leb-false end at q) e read
