-- 02's sentences on what holds what are just what the tables of `members` (may_hold_of, behind, within) tell step by step: a row of chunks may stand at a
-- place exactly when the sentence on that place holds of it and all that it holds is allowed. Each way is an induction on the row.
use Prim.Native.Nat.{ℕ, ◌<◌}
use mathlib.Core.Path.{◌≡◌, refl, sym, ap, ◌∙◌}
use mathlib.Core.List.{List}
use mathlib.Core.Bool.{Bool, true, false}
use mathlib.Core.Logic.{◌⊎◌, inl, inr}
use native.Mathlib.Omega.{arith}
use borrow.Author.Tests.{ne_eqb}
use Rattle.blorb.specs.Sound.{W}
use Rattle.blorb.specs.Tags.{FORM}
use Rattle.members.specs.declared.Kind.{Kind}
use Rattle.members.specs.declared.Kind.TheVariants.{Form, List as Lst, Cat, Prop, Plain}
use Rattle.members.specs.declared.Place.{Place}
use Rattle.members.specs.declared.Place.TheVariants.{Top, InForm, ListHead, InGroup, InProp}
use Rattle.members.specs.Kinds.{LIST, CAT, PROP, kind_of, nests, is_plain, may_hold_of, behind, within}
use Rattle.grammar.specs.Tree.{Chunks, none, plain, holder, FormOrGroup, Each, PropsFirst, Holds, PlainType, Allowed}

-- these chunks may stand at p, each with what it holds, by the tables
unfoldable pub Placed : Place → Chunks → Type 0
Placed p none = Unit {0}
Placed p (plain t d rest) = (t < W) × (kind_of t ≡ Plain) × (may_hold_of p Plain ≡ true) × Placed (behind p Plain) rest
Placed p (holder k t members rest) =
    (t < W) × (is_plain k ≡ false) × (may_hold_of p k ≡ true) × Placed (within k) members × Placed (behind p k) rest

-- the sentence on a place
abbrev pub Said : Place → Chunks → Type 0
Said Top ms = Each FormOrGroup ms
Said InForm ms = Holds Form ms
Said ListHead ms = Holds Lst ms
Said InGroup ms = Holds Cat ms
Said InProp ms = Holds Prop ms

no : {X : Type 0} → ◌≡◌ {A = Bool} false true → X
no e = let z : ◌≡◌ {A = ℕ} 0 1 = cc in absurd (omega arith)

-- the kinds, by their tests and in words
pub nests_named : (k : Kind) → nests k ≡ true → FormOrGroup k
nests_named Form e = inl refl
nests_named Lst e = inr (inl refl)
nests_named Cat e = inr (inr refl)
nests_named Prop e = no e
nests_named Plain e = no e

pub named_nests : (k : Kind) → FormOrGroup k → nests k ≡ true
named_nests k (inl e) = rw e
named_nests k (inr (inl e)) = rw e
named_nests k (inr (inr e)) = rw e

pub plain_named : (k : Kind) → is_plain k ≡ true → k ≡ Plain
plain_named Plain e = refl
plain_named Form e = no e
plain_named Lst e = no e
plain_named Cat e = no e
plain_named Prop e = no e

in_form_named : (k : Kind) → may_hold_of InForm k ≡ true → (k ≡ Plain) ⊎ FormOrGroup k
in_form_named Form e = inr (inl refl)
in_form_named Lst e = inr (inr (inl refl))
in_form_named Cat e = inr (inr (inr refl))
in_form_named Prop e = no e
in_form_named Plain e = inl refl

named_in_form : (k : Kind) → (k ≡ Plain) ⊎ FormOrGroup k → may_hold_of InForm k ≡ true
named_in_form k (inl e) = rw e
named_in_form k (inr (inl e)) = rw e
named_in_form k (inr (inr (inl e))) = rw e
named_in_form k (inr (inr (inr e))) = rw e

-- the first chunk of a row and those behind it, where nothing but the chunk's kind is asked
said_first : (p : Place) (k : Kind) (t : ℕ) (ms rest : Chunks) → may_hold_of p k ≡ true → Said (behind p k) rest → Said p (holder k t ms rest)
unfolding Each PropsFirst
said_first Top k t ms rest e r = (nests_named k e, r)
said_first InForm k t ms rest e r = (in_form_named k e, r)
said_first InGroup k t ms rest e r = (nests_named k e, r)
said_first InProp k t ms rest e r = (plain_named k e, r)
said_first ListHead Prop t ms rest e r = inl (refl, r)
said_first ListHead Form t ms rest e r = inr (inl refl, r)
said_first ListHead Lst t ms rest e r = inr (inr (inl refl), r)
said_first ListHead Cat t ms rest e r = inr (inr (inr refl), r)
said_first ListHead Plain t ms rest e r = no e

first_said : (p : Place) (k : Kind) (t : ℕ) (ms rest : Chunks) → Said p (holder k t ms rest) → (may_hold_of p k ≡ true) × Said (behind p k) rest
unfolding Each PropsFirst
first_said Top k t ms rest s = (named_nests k s.0, s.1)
first_said InForm k t ms rest s = (named_in_form k s.0, s.1)
first_said InGroup k t ms rest s = (named_nests k s.0, s.1)
first_said InProp k t ms rest s = (rw s.0, s.1)
first_said ListHead k t ms rest (inl s) = (rw s.0, rw s.0 s.1)
first_said ListHead k t ms rest (inr (inl e, s)) = (rw e, rw e s)
first_said ListHead k t ms rest (inr (inr (inl e), s)) = (rw e, rw e s)
first_said ListHead k t ms rest (inr (inr (inr e), s)) = (rw e, rw e s)

said_plain : (p : Place) (t : ℕ) (d : List ℕ) (rest : Chunks) → may_hold_of p Plain ≡ true → Said (behind p Plain) rest → Said p (plain t d rest)
unfolding Each
said_plain Top t d rest e r = no e
said_plain InForm t d rest e r = (inl refl, r)
said_plain ListHead t d rest e r = no e
said_plain InGroup t d rest e r = no e
said_plain InProp t d rest e r = (refl, r)

plain_said : (p : Place) (t : ℕ) (d : List ℕ) (rest : Chunks) → Said p (plain t d rest) → (may_hold_of p Plain ≡ true) × Said (behind p Plain) rest
unfolding Each PropsFirst
plain_said Top t d rest s = (named_nests Plain s.0, s.1)
plain_said InForm t d rest s = (refl, s.1)
plain_said ListHead t d rest s = absurd s
plain_said InGroup t d rest s = (named_nests Plain s.0, s.1)
plain_said InProp t d rest s = (refl, s.1)

nothing_said : (p : Place) → Said p none
unfolding Each PropsFirst
nothing_said Top = tt
nothing_said InForm = tt
nothing_said ListHead = tt
nothing_said InGroup = tt
nothing_said InProp = tt

-- the type of a plain chunk
another : (x : ℕ) (k : Kind) → kind_of x ≡ k → is_plain k ≡ false → (t : ℕ) → kind_of t ≡ Plain → t ≡ x → ⊥
another x k a b t e q = no (sym b ∙ ap is_plain (sym a ∙ ap kind_of (sym q) ∙ e))

other_type : (t : ℕ) → t < W → kind_of t ≡ Plain → PlainType t
unfolding kind_of
other_type t h e =
    (h, another FORM Form refl refl t e, another LIST Lst refl refl t e, another CAT Cat refl refl t e, another PROP Prop refl refl t e)

type_other : (t : ℕ) → PlainType t → kind_of t ≡ Plain
unfolding kind_of
type_other t h = rw (ne_eqb t FORM h.1, ne_eqb t LIST h.2, ne_eqb t CAT h.3, ne_eqb t PROP h.4)

-- what a FORM, group or PROP holds stands at its kind's place
within_said : (k : Kind) (ms : Chunks) → is_plain k ≡ false → Said (within k) ms → Holds k ms
within_said Form ms q s = s
within_said Lst ms q s = s
within_said Cat ms q s = s
within_said Prop ms q s = s
within_said Plain ms q s = let z : ◌≡◌ {A = ℕ} 0 1 = cc in absurd (omega arith)

said_within : (k : Kind) (ms : Chunks) → Holds k ms → (is_plain k ≡ false) × Said (within k) ms
said_within Form ms s = (refl, s)
said_within Lst ms s = (refl, s)
said_within Cat ms s = (refl, s)
said_within Prop ms s = (refl, s)
said_within Plain ms s = absurd s

-- exactly when: one way
pub placed_said : (p : Place) (ms : Chunks) → Placed p ms → Said p ms × Allowed ms
unfolding Placed Allowed
placed_said p none ok = (nothing_said p, tt)
placed_said p (plain t d rest) ok =
    let r = placed_said (behind p Plain) rest ok.3 in
    (said_plain p t d rest ok.2 r.0, (other_type t ok.0 ok.1, r.1))
placed_said p (holder k t ms rest) ok =
    let m = placed_said (within k) ms ok.3 in
    let r = placed_said (behind p k) rest ok.4 in
    (said_first p k t ms rest ok.2 r.0, (ok.0, within_said k ms ok.1 m.0, m.1, r.1))

-- and the other
pub said_placed : (p : Place) (ms : Chunks) → Said p ms → Allowed ms → Placed p ms
unfolding Placed Allowed
said_placed p none s ok = tt
said_placed p (plain t d rest) s ok =
    let first = plain_said p t d rest s in
    (ok.0.0, type_other t ok.0, first.0, said_placed (behind p Plain) rest first.1 ok.1)
said_placed p (holder k t ms rest) s ok =
    let first = first_said p k t ms rest s in
    let inner = said_within k ms ok.1 in
    (ok.0, inner.0, first.0, said_placed (within k) ms inner.1 ok.2, said_placed (behind p k) rest first.1 ok.3)
