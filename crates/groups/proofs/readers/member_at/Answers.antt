-- Each kind of member without a fault is taken apart as the definition does it; a PROP with the verdict on all that it holds.
use native.Mathlib.Omega.{arith}
use Prim.Native.Nat.{◌+◌}
use mathlib.Core.Path.{◌≡◌, ap, refl, sym, ◌∙◌}
use Rattle.std.proofs.lemmas.Result.{err_from_is_err_and}
use Rattle.blorb.specs.Verdict.{accept}
use Rattle.blorb.specs.Refusals.{verdict_of}
use Rattle.members.specs.declared.Kind.{Kind}
use Rattle.members.specs.declared.Kind.TheVariants.{Form, List as Lst, Cat, Prop, Plain}
use Rattle.members.specs.declared.Place.TheVariants.{InProp}
use Rattle.members.specs.Kinds.{behind}
use Rattle.members.specs.Faults.{kind_at, end_at, next_at, member_fault_of}
use Rattle.groups.specs.Events.{members}
use Rattle.groups.specs.Files.{first_fault}
use Rattle.groups.specs.Scan.{member_at_of, member_by}
use Rattle.members.proofs.FaultLaws.{Good, good-facts}
use Rattle.groups.proofs.readers.member_at.Goals as goal
use Rattle.groups.proofs.readers.member_at.Goals.{In_ok-fault, After-prop_in}

-- the member has no fault
no_fault : (c : In_ok-fault) → let s = c.args.spot.now in member_fault_of s.file.now s.place s.depth s.end s.at ≡ accept
no_fault c = sym c.in_ok-fault.ensures

facts : (c : In_ok-fault) → let s = c.args.spot.now in Good s.file.now s.place s.depth s.end s.at
facts c = good-facts _ _ _ _ _ (no_fault c)

-- what the definition tells of a member of a kind
by_kind : (c : In_ok-fault) (k : Kind) → let s = c.args.spot.now in
    k ≡ kind_at s.file.now s.at
    → member_by accept k (end_at s.file.now s.at) (next_at s.file.now s.at) (behind s.place k)
    (first_fault (members s.file.now InProp (s.depth + 1) (end_at s.file.now s.at) (s.at + 12)))
    ≡ member_at_of s.file.now s.place s.depth s.end s.at
unfolding member_at_of
by_kind c k e = rw (no_fault c, e)

pub returns-in_err-fault : goal.returns-in_err-fault
unfolding member_at_of
returns-in_err-fault c =
    let p = err_from_is_err_and c.from_residual.result c.from_residual.ensures.1 in
    rw (p.1, p.2, ← c.in_err-fault.ensures) refl

pub close-close-requires : goal.close-close-requires
close-close-requires c = omega (arith, (facts (goal.at.close-close-requires c).In_ok-fault).head, c.args.spot.now.inside)

pub next-next-requires : goal.next-next-requires
next-next-requires c = omega (arith, (facts (goal.at.next-next-requires c).In_ok-fault).head, c.args.spot.now.inside)

pub kind-kind-requires : goal.kind-kind-requires
kind-kind-requires c = omega (arith, (facts (goal.at.kind-kind-requires c).In_ok-fault).head, c.args.spot.now.inside)

pub prop_in-requires : goal.prop_in-requires
prop_in-requires c =
    let s = c.args.spot.now in
    let g = facts (goal.at.prop_in-requires c).In_ok-fault in
    (omega (arith, g.head, s.inside), omega (arith, g.body, s.inside, c.close-close.ensures), c.requires)

-- the verdict on all that a PROP holds
held : (c : After-prop_in) → let s = c.args.spot.now in
    verdict_of c.prop_in.result ≡ first_fault (members s.file.now InProp (s.depth + 1) (end_at s.file.now s.at) (s.at + 12))
held c = let e = c.prop_in.ensures in rw c.close-close.ensures at e

pub returns-in_err-prop_in-in-Prop : goal.returns-in_err-prop_in-in-Prop
returns-in_err-prop_in-in-Prop c =
    let r = c.from_residual-in_err-prop_in-in-Prop in
    let p = err_from_is_err_and r.result r.ensures.1 in
    let v = sym (held (goal.at.returns-in_err-prop_in-in-Prop c).After-prop_in) ∙ ap verdict_of c.in_err-prop_in-in-Prop.was in
    let told = by_kind (goal.at.returns-in_err-prop_in-in-Prop c).In_ok-fault Prop c.in-Prop.ensures in
    rw (p.1, p.2) (rw v at told)

pub returns-in_ok-prop_in-in-Prop : goal.returns-in_ok-prop_in-in-Prop
returns-in_ok-prop_in-in-Prop c =
    let v = sym (held (goal.at.returns-in_ok-prop_in-in-Prop c).After-prop_in) ∙ ap verdict_of c.in_ok-prop_in-in-Prop.was in
    let told = by_kind (goal.at.returns-in_ok-prop_in-in-Prop c).In_ok-fault Prop c.in-Prop.ensures in
    rw (c.next-next.ensures, c.behind-after.ensures, c.in-Prop.is) (rw v at told)

pub returns-in-Form : goal.returns-in-Form
returns-in-Form c =
    rw (c.close-close.ensures, c.next-next.ensures, c.behind-after.ensures, c.in-Form.is)
    (by_kind (goal.at.returns-in-Form c).In_ok-fault Form c.in-Form.ensures)

pub returns-in-List : goal.returns-in-List
returns-in-List c =
    rw (c.close-close.ensures, c.next-next.ensures, c.behind-after.ensures, c.in-List.is)
    (by_kind (goal.at.returns-in-List c).In_ok-fault Lst c.in-List.ensures)

pub returns-in-Cat : goal.returns-in-Cat
returns-in-Cat c =
    rw (c.close-close.ensures, c.next-next.ensures, c.behind-after.ensures, c.in-Cat.is) (by_kind (goal.at.returns-in-Cat c).In_ok-fault Cat c.in-Cat.ensures)

pub returns-in-Plain : goal.returns-in-Plain
returns-in-Plain c =
    rw (c.next-next.ensures, c.behind-after.ensures, c.in-Plain.is) (by_kind (goal.at.returns-in-Plain c).In_ok-fault Plain c.in-Plain.ensures)
