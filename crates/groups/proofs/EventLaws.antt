-- Laws of the events of a row of chunks.
use Prim.Native.Nat.{ℕ, zero, suc, ◌+◌, ◌-◌, ◌%◌, ◌≤◌, ◌<◌}
use mathlib.Core.Path.{◌≡◌, refl, ap, sym, ◌∙◌}
use mathlib.Core.List.{List, [], ◌∷◌, ◌++◌}
use mathlib.Core.Bool.{Bool, true, false}
use native.Mathlib.Omega.{arith}
use lib.ListN.{length, drop, length-append}
use lib.Dec.{leb}
use borrow.Author.Tests.{le-leb, lt-leb, leb-false}
use Rattle.blorb.specs.Bytes.{rd32}
use Rattle.blorb.specs.Verdict.{Verdict, accept, refuse}
use Rattle.members.specs.declared.Kind.{Kind}
use Rattle.members.specs.declared.Kind.TheVariants.{Form, List as Lst, Cat, Prop, Plain}
use Rattle.members.specs.declared.Place.{Place}
use Rattle.members.specs.declared.Place.TheVariants.{InForm, ListHead, InGroup, InProp}
use Rattle.members.specs.Kinds.{behind}
use Rattle.members.specs.Faults.{kind_at, size_at, end_at, next_at, member_fault_of}
use Rattle.groups.specs.Events.{Event, form, chunk_by, unless_end, members_go, members, chunk}
use Rattle.members.proofs.FaultLaws.{good-facts}

-- fuel: enough is as good as more
chunk-same : (v : Verdict) (k : Kind) (f : List ℕ) (d at : ℕ) (I J : Place → ℕ → ℕ → List Event)
    → (v ≡ accept → (q : Place) → I q (end_at f at) (at + 12) ≡ J q (end_at f at) (at + 12))
    → chunk_by v k f d at I ≡ chunk_by v k f d at J
chunk-same (refuse n q) k f d at I J h = refl
chunk-same accept Form f d at I J h = ap (λ (l : List Event). form (rd32 (drop (at + 8) f)) at (size_at f at) d ∷ l) (h refl InForm)
chunk-same accept Lst f d at I J h = h refl ListHead
chunk-same accept Cat f d at I J h = h refl InGroup
chunk-same accept Prop f d at I J h = h refl InProp
chunk-same accept Plain f d at I J h = refl

both : (b : Bool) (x y : List Event) → (b ≡ false → x ≡ y) → unless_end b (λ z. x) ≡ unless_end b (λ z. y)
both true x y h = refl
both false x y h = h refl

go_end : (n : ℕ) (f : List ℕ) (p : Place) (d end at : ℕ) → end ≤ at → members_go n f p d end at ≡ []
unfolding members_go
go_end zero f p d end at h = refl
go_end (suc n) f p d end at h = rw (le-leb end at h)

enough : (n m : ℕ) (f : List ℕ) (p : Place) (d end at : ℕ) → end ≤ at + n → end ≤ at + m → members_go n f p d end at ≡ members_go m f p d end at
unfolding members_go
enough zero m f p d end at h g = let k : end ≤ at = omega arith in sym (go_end m f p d end at k)
enough (suc n) zero f p d end at h g = let k : end ≤ at = omega arith in go_end (suc n) f p d end at k
enough (suc n) (suc m) f p d end at h g =
    both (leb end at) _ _ (λ b.
    let l : at < end = leb-false end at b in
    let x : next_at f at ≡ at + 8 + size_at f at + size_at f at % 2 = refl in
    ap₂
    (chunk-same (member_fault_of f p d end at) (kind_at f at) f d at _ _
    (λ v q. let w = good-facts f p d end at v in
    enough n m f q (d + 1) (end_at f at) (at + 12) (omega (arith, w.body)) (omega (arith, w.body))))
    (enough n m f (behind p (kind_at f at)) d end (next_at f at) (omega arith) (omega arith)))
  where
    ap₂ : {a b c e : List Event} → a ≡ b → c ≡ e → a ++ c ≡ b ++ e
    ap₂ r s = rw (r, s)

module _ (f : List ℕ) (p : Place) (d end at : ℕ) where
  pub members_end : end ≤ at → members f p d end at ≡ []
  unfolding members
  members_end h = go_end (length f) f p d end at h

  pub members_on : at < end → end ≤ length f
      → members f p d end at ≡ chunk f p d end at ++ members f (behind p (kind_at f at)) d end (next_at f at)
  unfolding members chunk members_go
  members_on h l = enough (length f) (suc (length f)) f p d end at (omega arith) (omega arith) ∙ rw (lt-leb end at h)

-- there are no more events than bytes
chunk_few : (v : Verdict) (k : Kind) (f : List ℕ) (d at : ℕ) (I : Place → ℕ → ℕ → List Event) → ((q : Place) (e a : ℕ) → length (I q e a) ≤ e - a)
    → length (chunk_by v k f d at I) ≤ 8 + size_at f at
chunk_few (refuse n q) k f d at I h = omega arith
chunk_few accept Form f d at I h = omega (arith, h InForm (end_at f at) (at + 12))
chunk_few accept Lst f d at I h = omega (arith, h ListHead (end_at f at) (at + 12))
chunk_few accept Cat f d at I h = omega (arith, h InGroup (end_at f at) (at + 12))
chunk_few accept Prop f d at I h = omega (arith, h InProp (end_at f at) (at + 12))
chunk_few accept Plain f d at I h = omega arith

step_few : (v : Verdict) (k : Kind) (f : List ℕ) (d end at r : ℕ) (I : Place → ℕ → ℕ → List Event) → ((q : Place) (e a : ℕ) → length (I q e a) ≤ e - a)
    → (v ≡ accept → next_at f at ≤ end) → at < end → r ≤ end - next_at f at → length (chunk_by v k f d at I) + r ≤ end - at
step_few (refuse n q) k f d end at r I h g l s = omega arith
step_few accept k f d end at r I h g l s = omega (arith, chunk_few accept k f d at I h, g refl)

few : (n : ℕ) (f : List ℕ) (p : Place) (d end at : ℕ) → length (members_go n f p d end at) ≤ end - at
unfolding members_go
few zero f p d end at = omega arith
few (suc n) f p d end at = go (leb end at) refl (λ q e a. few n f q (d + 1) e a) (few n f (behind p (kind_at f at)) d end (next_at f at))
  where
    go : (b : Bool) → leb end at ≡ b → ((q : Place) (e a : ℕ) → length (members_go n f q (d + 1) e a) ≤ e - a)
        → length (members_go n f (behind p (kind_at f at)) d end (next_at f at)) ≤ end - next_at f at
        → length (unless_end (leb end at) (λ z. chunk_by (member_fault_of f p d end at) (kind_at f at) f d at (λ q e a. members_go n f q (d + 1) e a)
        ++ members_go n f (behind p (kind_at f at)) d end (next_at f at))) ≤ end - at
    go true q h r = rw q (omega arith)
    go false q h r =
        rw (q, length-append)
        (step_few (member_fault_of f p d end at) (kind_at f at) f d end at _ _ h (λ v. (good-facts f p d end at v).next) (leb-false end at q) r)

pub chunk-length : (f : List ℕ) (p : Place) (d end at : ℕ) → length (chunk f p d end at) ≤ 8 + size_at f at
unfolding chunk members
chunk-length f p d end at = chunk_few (member_fault_of f p d end at) (kind_at f at) f d at _ (λ q e a. few (length f) f q (d + 1) e a)
