-- The verdict on the chunks from here on is that on all of them, at the start of each turn; a fault ends the walk with its own verdict.
use native.Mathlib.Omega.{arith}
use mathlib.Core.Path.{◌≡◌, refl, sym, ◌∙◌}
use Rattle.std.proofs.lemmas.Result.{err_from_is_err_and}
use Rattle.blorb.specs.Verdict.{accept}
use Rattle.members.specs.declared.Place.TheVariants.{InProp}
use Rattle.members.specs.Faults.{member_fault_of}
use Rattle.members.proofs.FaultLaws.{good-facts}
use Rattle.groups.proofs.ScanLaws.{prop_end, prop_fault, prop_next}
use Rattle.groups.proofs.readers.prop_in.Goals as goal
use Rattle.groups.proofs.readers.prop_in.Goals.{In_ok-fault}

-- the chunk has no fault
no_fault : (c : In_ok-fault) → let s = c.loop-spot.spot in member_fault_of s.file.now InProp s.depth s.end s.at ≡ accept
no_fault c = let e = sym c.in_ok-fault.ensures in rw c.loop-spot.invariant.1 at e

pub loop-spot-init : goal.loop-spot-init
loop-spot-init c = let h = c.within-spot.ensures in (h.0, h.1, h.2, h.3, rw (h.0, h.2, h.3, h.4) refl)

pub returns-in_err-fault : goal.returns-in_err-fault
returns-in_err-fault c =
    let s = c.loop-spot.spot in
    let p = err_from_is_err_and c.from_residual.result c.from_residual.ensures.1 in
    let e = sym c.in_err-fault.ensures in
    let told = rw c.loop-spot.invariant.1 at e in
    rw (p.1, p.2) (prop_fault s.file.now s.depth s.end s.at c.loop-spot-test.true s.inside _ _ told ∙ c.loop-spot.invariant.4)

pub next-next-requires : goal.next-next-requires
next-next-requires c =
    let s = c.loop-spot.spot in
    let g = good-facts s.file.now InProp s.depth s.end s.at (no_fault (goal.at.next-next-requires c).In_ok-fault) in
    omega (arith, g.head, s.inside)

pub loop-spot-smaller : goal.loop-spot-smaller
loop-spot-smaller c = let m = c.move_to.ensures in omega (arith, c.next-next.ensures, m.3, m.4, c.loop-spot-test.true)

pub loop-spot-preserved : goal.loop-spot-preserved
loop-spot-preserved c =
    let s = c.loop-spot.spot in
    let i = c.loop-spot.invariant in
    let m = c.move_to.ensures in
    let told = no_fault (goal.at.loop-spot-preserved c).In_ok-fault in (
      m.0 ∙ i.0,
      m.1,
      m.2 ∙ i.2,
      m.3 ∙ i.3,
      rw (m.0, m.2, m.3, m.4, c.next-next.ensures) (prop_next s.file.now s.depth s.end s.at c.loop-spot-test.true s.inside told ∙ i.4),
    )

pub returns : goal.returns
returns c =
    let s = c.loop-spot.spot in prop_end s.file.now s.depth s.end s.at c.loop-spot-test.false ∙ c.loop-spot.invariant.4
