-- Laws of the walk that counts and stores: one for each way out of the code.
use Prim.Native.Nat.{ℕ, zero, suc, ◌+◌, ◌≤◌, ◌<◌}
use mathlib.Core.Path.{◌≡◌, refl, ap, sym, ◌∙◌}
use mathlib.Core.List.{List, [], ◌∷◌, ◌++◌}
use mathlib.Core.Bool.{Bool, true, false}
use native.Mathlib.Omega.{arith}
use lib.ListN.{length, drop}
use lib.Dec.{leb}
use Rattle.blorb.specs.Bytes.{rd32}
use Rattle.blorb.specs.Verdict.{Verdict, accept, refuse}
use Rattle.members.specs.declared.Kind.{Kind}
use Rattle.members.specs.declared.Kind.TheVariants.{Form, List as Lst, Cat, Prop, Plain}
use Rattle.members.specs.declared.Place.{Place}
use Rattle.members.specs.declared.Place.TheVariants.{Top, InForm, ListHead, InGroup, InProp}
use Rattle.std.specs.Prelude.{Ok}
use Rattle.blorb.specs.Refusals.{Refused, answer_by}
use Rattle.groups.specs.declared.readers.Member.TheVariants.{Form as OfForm, Group as OfGroup, Passed}
use Rattle.members.specs.Kinds.{nests, is_plain, may_hold_of, behind}
use Rattle.members.specs.Faults.{kind_at, size_at, end_at, next_at, member_fault_of}
use Rattle.groups.specs.Events.{Event, form, fault, chunk_by, unless_end, members_go, members, chunk}
use Rattle.groups.specs.Files.{first_fault}
use Rattle.groups.specs.Scan.{Outcome, good, bad, scan, and_scan, member_by, member_at_of}
use Rattle.groups.specs.Store.{store}
use Rattle.blorb.proofs.RefusalLaws.{same_refusal}
use Rattle.members.proofs.FaultLaws.{good-facts}
use Rattle.groups.proofs.EventLaws.{members_end, members_on, chunk-length}

scan-append : (base n : ℕ) (rows : List ℕ) (xs ys : List Event) → scan base n rows (xs ++ ys) ≡ and_scan (scan base n rows xs) (λ k r. scan base k r ys)
unfolding scan
scan-append base n rows [] ys = refl
scan-append base n rows (form t a m d ∷ xs) ys = scan-append base (n + 1) (store base n rows t a m d) xs ys
scan-append base n rows (fault k p ∷ xs) ys = refl

scan_count : (base n k : ℕ) (rows r : List ℕ) (es : List Event) → good k r ≡ scan base n rows es → k ≤ n + length es
unfolding scan
scan_count base n k rows r [] e = let q : k ≡ n = cc in omega arith
scan_count base n k rows r (form t a m d ∷ es) e = omega (arith, scan_count base (n + 1) k (store base n rows t a m d) r es e)
scan_count base n k rows r (fault q p ∷ es) e = let z : ◌≡◌ {A = ℕ} 0 1 = cc in absurd (omega arith)

-- a turn of the walk over members
module _ (f : List ℕ) (p : Place) (d end at base n : ℕ) (rows : List ℕ) where
  pub turn_end : end ≤ at → good n rows ≡ scan base n rows (members f p d end at)
  unfolding scan
  turn_end h = rw (members_end f p d end at h)

  module _ (h : at < end) (l : end ≤ length f) where
    turn : scan base n rows (members f p d end at)
        ≡ and_scan (scan base n rows (chunk f p d end at)) (λ k r. scan base k r (members f (behind p (kind_at f at)) d end (next_at f at)))
    turn = ap (scan base n rows) (members_on f p d end at h l) ∙ scan-append base n rows (chunk f p d end at) _

    pub turn-good : (k : ℕ) (r : List ℕ) → good k r ≡ scan base n rows (chunk f p d end at)
        → scan base k r (members f (behind p (kind_at f at)) d end (next_at f at)) ≡ scan base n rows (members f p d end at)
    turn-good k r e = sym (turn ∙ rw (← e))

    pub turn_bad : (k q : ℕ) (r : List ℕ) → bad k q r ≡ scan base n rows (chunk f p d end at) → bad k q r ≡ scan base n rows (members f p d end at)
    turn_bad k q r e = sym (turn ∙ rw (← e))

  good-fault : (v : Verdict) (k : ℕ) (r : List ℕ) (c : Kind) (I : Place → ℕ → ℕ → List Event) → good k r ≡ scan base n rows (chunk_by v c f d at I) → v ≡ accept
  unfolding scan
  good-fault accept k r c I e = refl
  good-fault (refuse m q) k r c I e = let z : ◌≡◌ {A = ℕ} 0 1 = cc in absurd (omega arith)

  -- what a good chunk tells the walk
  pub good_in_lem : (k : ℕ) (r : List ℕ) → good k r ≡ scan base n rows (chunk f p d end at)
      → (at + 8 ≤ end) × (next_at f at ≤ end) × (n ≤ at → k ≤ next_at f at)
  unfolding chunk
  good_in_lem k r e =
      let g = good-facts f p d end at (good-fault (member_fault_of f p d end at) k r (kind_at f at) _ e) in
      let c = scan_count base n k rows r _ e in
      let l = chunk-length f p d end at in
      (g.head, g.next, λ h. omega arith)

-- a PROP's members
abbrev pub by_verdict : Verdict → ℕ → List ℕ → Outcome
by_verdict accept n rows = good n rows
by_verdict (refuse k p) n rows = bad k p rows

prop_step : (v : Verdict) (c : Kind) (f : List ℕ) (d at base n : ℕ) (rows : List ℕ) (I : Place → ℕ → ℕ → List Event) (rest : List Event)
    → (v ≡ accept → is_plain c ≡ true) → scan base n rows rest ≡ by_verdict (first_fault rest) n rows
    → scan base n rows (chunk_by v c f d at I ++ rest) ≡ by_verdict (first_fault (chunk_by v c f d at I ++ rest)) n rows
unfolding scan first_fault
prop_step (refuse k q) c f d at base n rows I rest h e = refl
prop_step accept Plain f d at base n rows I rest h e = e
prop_step accept Form f d at base n rows I rest h e = let y = h refl in let z : ◌≡◌ {A = ℕ} 0 1 = cc in absurd (omega arith)
prop_step accept Lst f d at base n rows I rest h e = let y = h refl in let z : ◌≡◌ {A = ℕ} 0 1 = cc in absurd (omega arith)
prop_step accept Cat f d at base n rows I rest h e = let y = h refl in let z : ◌≡◌ {A = ℕ} 0 1 = cc in absurd (omega arith)
prop_step accept Prop f d at base n rows I rest h e = let y = h refl in let z : ◌≡◌ {A = ℕ} 0 1 = cc in absurd (omega arith)

prop_go : (k : ℕ) (f : List ℕ) (d end at base n : ℕ) (rows : List ℕ)
    → scan base n rows (members_go k f InProp d end at) ≡ by_verdict (first_fault (members_go k f InProp d end at)) n rows
unfolding members_go scan first_fault
prop_go zero f d end at base n rows = refl
prop_go (suc k) f d end at base n rows = go (leb end at) refl (prop_go k f d end (next_at f at) base n rows)
  where
    go : (b : Bool) → leb end at ≡ b
        → scan base n rows (members_go k f InProp d end (next_at f at)) ≡ by_verdict (first_fault (members_go k f InProp d end (next_at f at))) n rows
        → scan base n rows (unless_end (leb end at)
        (λ z. chunk_by (member_fault_of f InProp d end at) (kind_at f at) f d at (λ q e a. members_go k f q (d + 1) e a)
        ++ members_go k f InProp d end (next_at f at)))
        ≡ by_verdict (first_fault (unless_end (leb end at)
        (λ z. chunk_by (member_fault_of f InProp d end at) (kind_at f at) f d at (λ q e a. members_go k f q (d + 1) e a)
        ++ members_go k f InProp d end (next_at f at)))) n rows
    go true q h = rw q
    go false q h = rw q (prop_step (member_fault_of f InProp d end at) (kind_at f at) f d at base n rows _ _ (λ v. (good-facts f InProp d end at v).holds) h)

-- the code's ways through one member
module _ (f : List ℕ) (d at base n close next : ℕ) (rows : List ℕ) (after : Place) (I : Place → ℕ → ℕ → List Event) (w : Verdict)
    (prop : scan base n rows (I InProp (end_at f at) (at + 12)) ≡ by_verdict w n rows) where
  by_bad : (v : Verdict) (k : Kind) (j q : ℕ) → member_by v k close next after w ≡ Refused j q → bad j q rows ≡ scan base n rows (chunk_by v k f d at I)
  unfolding scan
  by_bad (refuse m r) k j q e = let s = same_refusal e in rw (s.0, s.1)
  by_bad accept Form j q e = let z : ◌≡◌ {A = ℕ} 0 1 = cc in absurd (omega arith)
  by_bad accept Lst j q e = let z : ◌≡◌ {A = ℕ} 0 1 = cc in absurd (omega arith)
  by_bad accept Cat j q e = let z : ◌≡◌ {A = ℕ} 0 1 = cc in absurd (omega arith)
  by_bad accept Plain j q e = let z : ◌≡◌ {A = ℕ} 0 1 = cc in absurd (omega arith)
  by_bad accept Prop j q e = sym (prop ∙ go w e)
    where
      go : (x : Verdict) → answer_by x (Passed next after) ≡ Refused j q → by_verdict x n rows ≡ bad j q rows
      go accept y = let z : ◌≡◌ {A = ℕ} 0 1 = cc in absurd (omega arith)
      go (refuse m r) y = let s = same_refusal y in rw (s.0, s.1)

  by_passed : (v : Verdict) (k : Kind) (x : ℕ) (y : Place) → member_by v k close next after w ≡ Ok (Passed x y)
      → (good n rows ≡ scan base n rows (chunk_by v k f d at I)) × (x ≡ next) × (y ≡ after)
  unfolding scan
  by_passed (refuse m r) k x y e = let z : ◌≡◌ {A = ℕ} 0 1 = cc in absurd (omega arith)
  by_passed accept Form x y e = let z : ◌≡◌ {A = ℕ} 0 1 = cc in absurd (omega arith)
  by_passed accept Lst x y e = let z : ◌≡◌ {A = ℕ} 0 1 = cc in absurd (omega arith)
  by_passed accept Cat x y e = let z : ◌≡◌ {A = ℕ} 0 1 = cc in absurd (omega arith)
  by_passed accept Plain x y e = (refl, cc, cc)
  by_passed accept Prop x y e = let g = go w e in (sym (prop ∙ g.0), g.1, g.2)
    where
      go : (u : Verdict) → answer_by u (Passed next after) ≡ Ok (Passed x y) → (by_verdict u n rows ≡ good n rows) × (x ≡ next) × (y ≡ after)
      go accept q = (refl, cc, cc)
      go (refuse m r) q = let z : ◌≡◌ {A = ℕ} 0 1 = cc in absurd (omega arith)

  by_form : (v : Verdict) (k : Kind) (c x : ℕ) (y : Place) → member_by v k close next after w ≡ Ok (OfForm c x y)
      → (scan base (n + 1) (store base n rows (rd32 (drop (at + 8) f)) at (size_at f at) d) (I InForm (end_at f at) (at + 12))
      ≡ scan base n rows (chunk_by v k f d at I))
      × (v ≡ accept) × (nests k ≡ true) × (is_plain k ≡ false) × (c ≡ close) × (x ≡ next) × (y ≡ after)
  unfolding scan
  by_form (refuse m r) k c x y e = let z : ◌≡◌ {A = ℕ} 0 1 = cc in absurd (omega arith)
  by_form accept Form c x y e = (refl, refl, refl, refl, cc, cc, cc)
  by_form accept Lst c x y e = let z : ◌≡◌ {A = ℕ} 0 1 = cc in absurd (omega arith)
  by_form accept Cat c x y e = let z : ◌≡◌ {A = ℕ} 0 1 = cc in absurd (omega arith)
  by_form accept Plain c x y e = let z : ◌≡◌ {A = ℕ} 0 1 = cc in absurd (omega arith)
  by_form accept Prop c x y e = go w e
    where
      go : {X : Type 0} (u : Verdict) → answer_by u (Passed next after) ≡ Ok (OfForm c x y) → X
      go accept q = let z : ◌≡◌ {A = ℕ} 0 1 = cc in absurd (omega arith)
      go (refuse m r) q = let z : ◌≡◌ {A = ℕ} 0 1 = cc in absurd (omega arith)

  by_group : (v : Verdict) (k : Kind) (p : Place) (c x : ℕ) (y : Place) → member_by v k close next after w ≡ Ok (OfGroup p c x y)
      → (scan base n rows (I p (end_at f at) (at + 12)) ≡ scan base n rows (chunk_by v k f d at I))
      × (v ≡ accept) × (nests k ≡ true) × (is_plain k ≡ false) × (c ≡ close) × (x ≡ next) × (y ≡ after)
  by_group (refuse m r) k p c x y e = let z : ◌≡◌ {A = ℕ} 0 1 = cc in absurd (omega arith)
  by_group accept Form p c x y e = let z : ◌≡◌ {A = ℕ} 0 1 = cc in absurd (omega arith)
  by_group accept Lst p c x y e = let q : ListHead ≡ p = cc in (rw (← q), refl, refl, refl, cc, cc, cc)
  by_group accept Cat p c x y e = let q : InGroup ≡ p = cc in (rw (← q), refl, refl, refl, cc, cc, cc)
  by_group accept Plain p c x y e = let z : ◌≡◌ {A = ℕ} 0 1 = cc in absurd (omega arith)
  by_group accept Prop p c x y e = go w e
    where
      go : {X : Type 0} (u : Verdict) → answer_by u (Passed next after) ≡ Ok (OfGroup p c x y) → X
      go accept q = let z : ◌≡◌ {A = ℕ} 0 1 = cc in absurd (omega arith)
      go (refuse m r) q = let z : ◌≡◌ {A = ℕ} 0 1 = cc in absurd (omega arith)

-- a member that opens a level
pub record Opens (f : List ℕ) (p : Place) (d end at close next : ℕ) (after : Place) : Type 0 where
  pub closes : close ≡ end_at f at
  pub nexts : next ≡ next_at f at
  pub afters : after ≡ behind p (kind_at f at)
  pub low : at + 12 ≤ close
  pub high : close ≤ end
  pub shallow : d ≤ 16
  pub room : at + 12 ≤ end

module _ (f : List ℕ) (p : Place) (d end at base n : ℕ) (rows : List ℕ) where
  propped : scan base n rows (members f InProp (d + 1) (end_at f at) (at + 12))
      ≡ by_verdict (first_fault (members f InProp (d + 1) (end_at f at) (at + 12))) n rows
  unfolding members
  propped = prop_go (length f) f (d + 1) (end_at f at) (at + 12) base n rows

  pub member_bad : (j q : ℕ) → member_at_of f p d end at ≡ Refused j q → bad j q rows ≡ scan base n rows (chunk f p d end at)
  unfolding member_at_of chunk
  member_bad j q e = by_bad f d at base n _ _ rows _ (λ q e a. members f q (d + 1) e a) _ propped (member_fault_of f p d end at) (kind_at f at) j q e

  pub member_passed : (x : ℕ) (y : Place) → member_at_of f p d end at ≡ Ok (Passed x y)
      → (good n rows ≡ scan base n rows (chunk f p d end at)) × (x ≡ next_at f at) × (y ≡ behind p (kind_at f at))
  unfolding member_at_of chunk
  member_passed x y e = by_passed f d at base n _ _ rows _ (λ q e a. members f q (d + 1) e a) _ propped (member_fault_of f p d end at) (kind_at f at) x y e

  opens : (c x : ℕ) (y : Place) → member_fault_of f p d end at ≡ accept → nests (kind_at f at) ≡ true → is_plain (kind_at f at) ≡ false
      → c ≡ end_at f at → x ≡ next_at f at
      → y ≡ behind p (kind_at f at) → Opens f p d end at c x y
  opens c x y v k i a b q =
      let g = good-facts f p d end at v in
      let four = g.four i in
      record { closes = a; nexts = b; afters = q; low = omega arith; high = omega (arith, g.body); shallow = g.shallow k; room = omega (arith, g.body) }

  pub member_form : (c x : ℕ) (y : Place) → member_at_of f p d end at ≡ Ok (OfForm c x y)
      → (scan base (n + 1) (store base n rows (rd32 (drop (at + 8) f)) at (size_at f at) d) (members f InForm (d + 1) (end_at f at) (at + 12))
      ≡ scan base n rows (chunk f p d end at))
      × Opens f p d end at c x y
  unfolding member_at_of chunk
  member_form c x y e =
      let g = by_form f d at base n _ _ rows _ (λ q e a. members f q (d + 1) e a) _ propped (member_fault_of f p d end at) (kind_at f at) c x y e in
      (g.0, opens c x y g.1 g.2 g.3 g.4 g.5 g.6)

  pub member_group : (q : Place) (c x : ℕ) (y : Place) → member_at_of f p d end at ≡ Ok (OfGroup q c x y)
      → (scan base n rows (members f q (d + 1) (end_at f at) (at + 12)) ≡ scan base n rows (chunk f p d end at)) × Opens f p d end at c x y
  unfolding member_at_of chunk
  member_group q c x y e =
      let g = by_group f d at base n _ _ rows _ (λ q e a. members f q (d + 1) e a) _ propped (member_fault_of f p d end at) (kind_at f at) q c x y e in
      (g.0, opens c x y g.1 g.2 g.3 g.4 g.5 g.6)

-- a plain chunk's kind is no other, and what the next member stands in is the same
pub plain_alone : (k : Kind) → is_plain k ≡ true → k ≡ Plain
plain_alone Plain h = refl
plain_alone Form h = let z : ◌≡◌ {A = ℕ} 0 1 = cc in absurd (omega arith)
plain_alone Lst h = let z : ◌≡◌ {A = ℕ} 0 1 = cc in absurd (omega arith)
plain_alone Cat h = let z : ◌≡◌ {A = ℕ} 0 1 = cc in absurd (omega arith)
plain_alone Prop h = let z : ◌≡◌ {A = ℕ} 0 1 = cc in absurd (omega arith)

pub plain_stays : (p : Place) → may_hold_of p Plain ≡ true → behind p Plain ≡ p
plain_stays Top h = refl
plain_stays InForm h = refl
plain_stays ListHead h = let z : ◌≡◌ {A = ℕ} 0 1 = cc in absurd (omega arith)
plain_stays InGroup h = refl
plain_stays InProp h = refl

-- what a quick look finds without a fault is the member
module _ (f : List ℕ) (p : Place) (d end at next : ℕ) (fine : member_fault_of f p d end at ≡ accept) (n : next ≡ next_at f at) where
  pub quick-passed : kind_at f at ≡ Plain → member_at_of f p d end at ≡ Ok (Passed next (behind p Plain))
  unfolding member_at_of
  quick-passed k = rw (fine, k, n)

  pub quick_form : (close : ℕ) → kind_at f at ≡ Form → close ≡ end_at f at → member_at_of f p d end at ≡ Ok (OfForm close next (behind p Form))
  unfolding member_at_of
  quick_form close k e = rw (fine, k, n, e)

module _ (f : List ℕ) (d end at : ℕ) where
  pub prop_end : end ≤ at → accept ≡ first_fault (members f InProp d end at)
  unfolding first_fault
  prop_end h = rw (members_end f InProp d end at h)

  module _ (h : at < end) (l : end ≤ length f) where
    pub prop_fault : (k q : ℕ) → member_fault_of f InProp d end at ≡ refuse k q → refuse k q ≡ first_fault (members f InProp d end at)
    unfolding first_fault chunk
    prop_fault k q e = rw (members_on f InProp d end at h l, e)

    plain_chunk : (c : Kind) (I : Place → ℕ → ℕ → List Event) → is_plain c ≡ true → chunk_by accept c f d at I ≡ []
    plain_chunk Plain I e = refl
    plain_chunk Form I e = let z : ◌≡◌ {A = ℕ} 0 1 = cc in absurd (omega arith)
    plain_chunk Lst I e = let z : ◌≡◌ {A = ℕ} 0 1 = cc in absurd (omega arith)
    plain_chunk Cat I e = let z : ◌≡◌ {A = ℕ} 0 1 = cc in absurd (omega arith)
    plain_chunk Prop I e = let z : ◌≡◌ {A = ℕ} 0 1 = cc in absurd (omega arith)

    pub prop_next : member_fault_of f InProp d end at ≡ accept → first_fault (members f InProp d end (next_at f at)) ≡ first_fault (members f InProp d end at)
    unfolding chunk
    prop_next e =
        let g = good-facts f InProp d end at e in
        sym (ap first_fault (members_on f InProp d end at h l) ∙ rw (e, plain_chunk (kind_at f at) _ g.holds))
