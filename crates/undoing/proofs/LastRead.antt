-- The last record, read by its offsets, is the one that the journal's definitions give.
use mathlib.Core.Path.{◌≡◌, refl, sym, ap, ◌∙◌}
use Prim.Native.Nat.{ℕ, zero, suc, ◌+◌, ◌-◌, ◌≤◌, ◌<◌}
use mathlib.Core.List.{List}
use mathlib.Core.Bool.{Bool, true, false, ◌&&◌, and-false}
use native.Mathlib.Omega.{arith}
use lib.ListN.{length, get_or, take, drop}
use lib.Dec.{eqb}
use borrow.Author.Tests.{eq-eqb, ne_eqb}
use Rattle.std.specs.Prelude.{Some, None}
use Rattle.std.specs.Bool.{then_some}
use Rattle.blorb.specs.Bytes.{rd32}
use Rattle.blorb.specs.Format.{chunk_of}
use Rattle.edits.specs.Journal.{last_rec, well_formed, old_chunk}
use Rattle.edits.specs.KindRule.{kind_rule}
use Rattle.edits.specs.Run.{after_undo}
use Rattle.edits.proofs.LastLaws.{numbers-part, formed_part, well_formed_part}
use Rattle.undoing.specs.declared.journal.Record.{Record}
use Rattle.undoing.specs.declared.journal.Kind.{Kind}
use Rattle.undoing.specs.declared.journal.Kind.TheVariants.{Added, Replaced, Removed, Unlisted, Linked}
use Rattle.undoing.specs.Kinds.{number_of, kind_of}
use Rattle.undoing.specs.LastRecord.{numbers_of, last_by, last_of, record_at_of}
use Rattle.edits.specs.Run.{state}

-- a kind and its number
kind_again : (k : Kind) → kind_of (number_of k) ≡ k
kind_again Added = refl
kind_again Replaced = refl
kind_again Removed = refl
kind_again Unlisted = refl
kind_again Linked = refl

number_again : (n : ℕ) → 1 ≤ n → n ≤ 5 → number_of (kind_of n) ≡ n
number_again zero h g = absurd (omega arith)
number_again (suc zero) h g = refl
number_again (suc (suc zero)) h g = refl
number_again (suc (suc (suc zero))) h g = refl
number_again (suc (suc (suc (suc zero)))) h g = refl
number_again (suc (suc (suc (suc (suc zero))))) h g = refl
number_again (suc (suc (suc (suc (suc (suc n)))))) h g = absurd (omega arith)

no_kind : (n s t m : ℕ) → (1 ≤ n → 5 < n) → kind_rule n s t m ≡ false
no_kind n s t m h = rw (
  ne_eqb n 1 (λ e. omega arith),
  ne_eqb n 2 (λ e. omega arith),
  ne_eqb n 3 (λ e. omega arith),
  ne_eqb n 4 (λ e. omega arith),
  ne_eqb n 5 (λ e. omega arith),
)

pub is_bad : (j : List ℕ) → well_formed j ≡ false → None ≡ last_of j
unfolding last_of
is_bad j h = rw h

-- the ways out once the trailer t is between 25 and U - 4
module _ (l : List ℕ) (u t : ℕ) (inside : u ≤ length l) (is : t ≡ rd32 (drop (u - 4) l)) (low : 25 ≤ t) (high : t ≤ u - 4) where
  pub unknown_kind : (1 ≤ get_or l (u - 4 - t) 0 → 5 < get_or l (u - 4 - t) 0) → None ≡ last_of (take u l)
  unknown_kind h =
      is_bad (take u l) (formed_part l u inside t is low high
      ∙ ap (λ (z : Bool). eqb (25 + rd32 (drop (u - 4 - t + 21) l)) t && z) (no_kind _ (rd32 (drop (u - 4 - t + 13) l)) (rd32 (drop (u - 4 - t + 17) l))
      (t - 25) h) ∙ and-false _)

  -- r being what stands at the offsets, k its kind
  module _ (k : Kind) (first : number_of k ≡ get_or l (u - 4 - t) 0) (r : Record) (e : r ≡ record_at_of l (u - 4 - t) k) where
    kind_read : get_or l (u - 4 - t) 0 ≡ number_of r.kind
    unfolding record_at_of
    kind_read = sym first ∙ ap (λ (z : Record). number_of z.kind) (sym e)

    formed : well_formed (take u l) ≡ (eqb (25 + r.length) t && kind_rule (number_of r.kind) r.start r.sort (t - 25))
    unfolding record_at_of
    formed = formed_part l u inside t is low high
        ∙ (λ i. eqb (25 + (sym e i).length) t && kind_rule (kind_read i) (sym e i).start (sym e i).sort (t - 25))

    pub other_length : (25 + r.length ≡ t → ⊥) → None ≡ last_of (take u l)
    other_length h = is_bad (take u l) (formed ∙ rw (ne_eqb (25 + r.length) t h))

    module _ (m : 25 + r.length ≡ t) where
      agrees : well_formed (take u l) ≡ kind_rule (number_of r.kind) r.start r.sort r.length
      agrees =
          let n : t - 25 ≡ r.length = omega arith in
          formed ∙ rw (eq-eqb (25 + r.length) t m, n)

      numbers : numbers_of (last_rec (take u l)) ≡ r
      unfolding record_at_of
      numbers =
          let n = numbers-part l u inside t is low high in
          let z : length (last_rec (take u l)).body ≡ rd32 (drop (u - 4 - t + 21) l) = n.6 ∙ omega (arith, ap (λ (x : Record). x.length) e) in
          let q : kind_of (last_rec (take u l)).kind ≡ k = ap kind_of (n.0 ∙ sym first) ∙ kind_again k in
          (λ i. record { kind = q i; usage = n.1 i; number = n.2 i; place = n.3 i; start = n.4 i; sort = n.5 i; length = z i }) ∙ sym e

      pub is-good : (b : Bool) → b ≡ kind_rule (number_of r.kind) r.start r.sort r.length → then_some b r ≡ last_of (take u l)
      unfolding last_of
      is-good b h = go (well_formed (take u l)) b (agrees ∙ sym h)
        where
          go : (w b : Bool) → w ≡ b → then_some b r ≡ last_by w (last_rec (take u l))
          go true true q = ap Some (sym numbers)
          go false false q = refl
          go true false q = cc
          go false true q = cc

-- for a caller: what the answer tells
pub last_bad : (j : List ℕ) → last_of j ≡ None → well_formed j ≡ false
unfolding last_of
last_bad j h = go (well_formed j) h
  where
    go : (b : Bool) → last_by b (last_rec j) ≡ None → b ≡ false
    go true h = cc
    go false h = refl

last_good : (j : List ℕ) (r : Record) → last_of j ≡ Some r → (well_formed j ≡ true) × (numbers_of (last_rec j) ≡ r)
unfolding last_of
last_good j r h = go (well_formed j) h
  where
    go : (b : Bool) → last_by b (last_rec j) ≡ Some r → (b ≡ true) × (numbers_of (last_rec j) ≡ r)
    go true h = (refl, cc)
    go false h = (cc, cc)

-- the last record is well formed, has these numbers and this place, and its undo gives back U - (29 + m)
pub record Ends (l : List ℕ) (u : ℕ) (r : Record) : Type 0 where
  pub formed : well_formed (take u l) ≡ true
  pub numbers : numbers_of (last_rec (take u l)) ≡ r
  pub room : 29 + r.length ≤ u
  pub lies : (last_rec (take u l)).body ≡ take r.length (drop (u - 4 - r.length) l)
  pub old : old_chunk (last_rec (take u l)) ≡ chunk_of r.sort (take r.length (drop (u - 4 - r.length) l))
  pub kind : (last_rec (take u l)).kind ≡ number_of r.kind
  pub back : (b : List ℕ) (len : ℕ) → (after_undo (state b len l u)).U ≡ u - (29 + r.length)

module _ (l : List ℕ) (u : ℕ) (r : Record) (ends : Ends l u r) where
  pub kind_is : (k : Kind) → r.kind ≡ k → (last_rec (take u l)).kind ≡ number_of k
  kind_is k h = ends.kind ∙ ap number_of h

  -- the record's data, as the code lends them
  pub body_is : take (u - 4 - (u - 4 - r.length)) (drop (u - 4 - r.length) l) ≡ (last_rec (take u l)).body
  body_is =
      let e : u - 4 - (u - 4 - r.length) ≡ r.length = omega (arith, ends.room) in
      ap (λ (z : ℕ). take z (drop (u - 4 - r.length) l)) e ∙ sym ends.lies

pub good_ends : (l : List ℕ) (u : ℕ) (r : Record) → u ≤ length l → last_of (take u l) ≡ Some r → Ends l u r
unfolding after_undo
good_ends l u r inside h =
    let g = last_good (take u l) r h in
    let w = well_formed_part l u inside g.0 in
    let m : length (last_rec (take u l)).body ≡ r.length = ap (λ (x : Record). x.length) g.1 in
    let k : kind_of (last_rec (take u l)).kind ≡ r.kind = ap (λ (x : Record). x.kind) g.1 in
    let lies : (last_rec (take u l)).body ≡ take r.length (drop (u - 4 - r.length) l) = w.lies ∙ (λ i. take (m i) (drop (u - 4 - m i) l)) in
    record {
      formed = g.0;
      numbers = g.1;
      room = omega (arith, w.room);
      lies = lies;
      old = λ i. record { type = (g.1 i).sort; body = lies i };
      kind = sym (number_again (last_rec (take u l)).kind (omega (arith, w.kind_low)) (omega (arith, w.kind_high))) ∙ ap number_of k;
      back = λ b len. ap (λ (z : ℕ). u - (29 + z)) m;
    }
