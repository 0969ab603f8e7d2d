-- The answer of the search for 'RDes' decides the case; the first chunk's own faults come before a second.
use Rattle.std.proofs.Common.{◌≡◌, ◌+◌, ◌≤◌, length, sym, ap, ◌∙◌, arith, rules}
use Rattle.std.specs.Prelude.{Ok}
use Rattle.std.proofs.lemmas.Result.{err_from_is_err_and}
use Rattle.blorb.specs.Refusals.{verdict_of}
use Rattle.blorb.proofs.Checks.{accepts, refuses}
use Rattle.rdes.specs.Rdes.{RDes}
use Rattle.locate.specs.Located.{located_of}
use Rattle.locate.specs.declared.Located.TheVariants as located
use Rattle.locate.proofs.Promises.{located_stood, located_short}
use Rattle.descriptions.proofs.OpenLaws.{part_room, rdes_no, rdes_none, rdes_one, rdes_more, opened_at}
use Rattle.descriptions.proofs.open_rdes.Goals as goal
use Rattle.descriptions.proofs.open_rdes.Goals.{In-More, In-One}

one : (c : In-One) → located_of c.args.profile c.args.file.now RDes ≡ Ok (located.One c.in-One.start c.in-One.length)
one c = sym c.in_ok-by_type.ensures ∙ ap Ok c.in-One.is

room : (c : In-One) → c.in-One.start + 8 + c.in-One.length ≤ length c.args.file.now
room c = (located_stood _ _ _ _ (one c)).room

more : (c : In-More) → located_of c.args.profile c.args.file.now RDes ≡ Ok (located.More c.in-More.start c.in-More.length c.in-More.second)
more c = sym c.in_ok-by_type.ensures ∙ ap Ok c.in-More.is

room2 : (c : In-More) → c.in-More.start + 8 + c.in-More.length ≤ length c.args.file.now
room2 c = (located_stood _ _ _ _ (more c)).0.room

pub returns-in_err-by_type : goal.returns-in_err-by_type
returns-in_err-by_type c =
    let p = err_from_is_err_and c.from_residual.result c.from_residual.ensures.1 in
    rw (p.1, p.2) (rdes_no _ _ _ _ (sym c.in_err-by_type.ensures))

pub overflow_add-from : goal.overflow_add-from
overflow_add-from c = let r = room (goal.at.overflow_add-from c).In-One in search rules

pub overflow_add-from-in-One : goal.overflow_add-from-in-One
overflow_add-from-in-One c = let r = room (goal.at.overflow_add-from-in-One c).In-One in search rules

pub slice_bounds-open-end : goal.slice_bounds-open-end
slice_bounds-open-end c = omega (arith, room (goal.at.slice_bounds-open-end c).In-One)

pub open-requires : goal.open-requires
open-requires c =
    let o = one (goal.at.open-requires c).In-One in
    part_room c.args.file.now c.in-One.start c.in-One.length (room (goal.at.open-requires c).In-One) (located_short _ _ _ _ o)

pub returns-in_err-entries-in-One : goal.returns-in_err-entries-in-One
returns-in_err-entries-in-One c =
    let p = err_from_is_err_and c.from_residual-in_err-entries-in-One.result c.from_residual-in_err-entries-in-One.ensures.1 in
    let o = one (goal.at.returns-in_err-entries-in-One c).In-One in
    rw (p.1, p.2) (rdes_one _ _ _ _ o ∙ sym c.in_err-entries-in-One.ensures.fault)

pub returns-in_ok-entries-in-One : goal.returns-in_ok-entries-in-One
returns-in_ok-entries-in-One c =
    let told = c.in_ok-entries-in-One.ensures in
    opened_at _ _ _ _ _ (one (goal.at.returns-in_ok-entries-in-One c).In-One) told.fault told.same.0 told.same.1

pub overflow_add-from-in-More : goal.overflow_add-from-in-More
overflow_add-from-in-More c = let r = room2 (goal.at.overflow_add-from-in-More c).In-More in search rules

pub overflow_add-from-in-More-2 : goal.overflow_add-from-in-More-2
overflow_add-from-in-More-2 c = let r = room2 (goal.at.overflow_add-from-in-More-2 c).In-More in search rules

pub slice_bounds-open-end-in-More : goal.slice_bounds-open-end-in-More
slice_bounds-open-end-in-More c = omega (arith, room2 (goal.at.slice_bounds-open-end-in-More c).In-More)

pub open-requires-in-More : goal.open-requires-in-More
open-requires-in-More c =
    let o = more (goal.at.open-requires-in-More c).In-More in
    part_room c.args.file.now c.in-More.start c.in-More.length (room2 (goal.at.open-requires-in-More c).In-More) (located_short _ _ _ _ o)

pub returns-in_err-_first-in-More : goal.returns-in_err-_first-in-More
returns-in_err-_first-in-More c =
    let p = err_from_is_err_and c.from_residual-in_err-_first-in-More.result c.from_residual-in_err-_first-in-More.ensures.1 in
    let o = more (goal.at.returns-in_err-_first-in-More c).In-More in
    rw (p.1, p.2) (rdes_more _ _ _ _ _ o ∙ refuses _ _ _ _ (sym c.open-in-More.ensures.fault ∙ ap verdict_of c.in_err-_first-in-More.was))

pub returns-in_ok-_first-in-More : goal.returns-in_ok-_first-in-More
returns-in_ok-_first-in-More c =
    let o = more (goal.at.returns-in_ok-_first-in-More c).In-More in
    rdes_more _ _ _ _ _ o ∙ accepts _ _ (sym c.in_ok-_first-in-More.ensures.fault)

pub returns-in-Nothing : goal.returns-in-Nothing
returns-in-Nothing c = let e = sym c.in_ok-by_type.ensures ∙ ap Ok c.in-Nothing.is in (e, rdes_none _ _ e)
