-- FORM reader and group reader are proved together: the FORM reader stores its row and has its members read on its own level, and the group reader calls
-- either with one level less. What a member's own reader answers is the scan of that member.
use Prim.Native.Nat.{ℕ, ◌-◌}
use mathlib.Core.Path.{◌≡◌, refl, ap, sym, ◌∙◌}
use native.Mathlib.Omega.{arith}
use lib.ListN.{length}
use Rattle.std.specs.Prelude.{Ok}
use Rattle.std.proofs.lemmas.Result.{err_from_is_err_and}
use Rattle.groups.proofs.ScanLaws.{turn_end}
use Rattle.groups.proofs.TurnLaws.{Turn, stopped, passed_on, opens_form, opens_group, form_stops, form_goes, group_stops, group_goes, form_first}
use Rattle.groups.proofs.readers.+form_in_members_in.Goals as goal
use Rattle.groups.proofs.readers.+form_in_members_in.Goals.{members_in-After-plain_look}

-- the loop's turn
abbrev turn : (t : ℕ) → members_in-After-plain_look t → Turn
turn t c =
    record {
      f = c.loop-spot.spot.file.now;
      p = c.loop-spot.spot.place;
      depth = c.loop-spot.spot.depth;
      end = c.loop-spot.spot.end;
      at = c.loop-spot.spot.at;
      base = c.loop-spot.rows.base;
      n = c.loop-spot.rows.count;
      rows = c.loop-spot.rows.slice.now;
      on = c.loop-spot-test.true;
      inside = c.loop-spot.spot.inside;
      counted = c.loop-spot.invariant.5;
    }

pub members_in-loop-spot-init : goal.members_in-loop-spot-init
members_in-loop-spot-init t c =
    let h = c.within-spot.ensures in
    (h.0, h.2, h.3, refl, refl, omega (arith, h.4, c.requires.4), rw (h.0, h.1, h.2, h.3, h.4))

pub members_in-returns-in_err-next-clause-shown : goal.members_in-returns-in_err-next-clause-shown
members_in-returns-in_err-next-clause-shown t c =
    let u = turn t (goal.at.members_in-returns-in_err-next-clause-shown t c).After-plain_look in
    let p = err_from_is_err_and c.from_residual.result c.from_residual.ensures.1 in
    rw (p.1, p.2) (stopped u _ (sym c.in_err-next.ensures) ∙ c.loop-spot.invariant.6)

pub members_in-loop-spot-smaller-in-Some : goal.members_in-loop-spot-smaller-in-Some
members_in-loop-spot-smaller-in-Some t c =
    let u = turn t (goal.at.members_in-loop-spot-smaller-in-Some t c).After-plain_look in
    let told = rw c.in-Some.is at c.plain_look.ensures in
    let n = passed_on u _ _ told.0 in
    let m = c.move_to.ensures in
    omega (arith, n.on, m.3, m.4, c.loop-spot-test.true)

pub members_in-loop-spot-preserved-in-Some : goal.members_in-loop-spot-preserved-in-Some
members_in-loop-spot-preserved-in-Some t c =
    let u = turn t (goal.at.members_in-loop-spot-preserved-in-Some t c).After-plain_look in
    let told = rw c.in-Some.is at c.plain_look.ensures in
    let n = passed_on u _ _ told.0 in
    let m = c.move_to.ensures in
    let i = c.loop-spot.invariant in
    (m.0 ∙ i.0, m.2 ∙ i.1, m.3 ∙ i.2, i.3, i.4, rw m.4 n.counted, rw (m.0, m.1, m.2, m.3, m.4) (n.same ∙ i.6))

pub members_in-loop-spot-smaller-in-Passed : goal.members_in-loop-spot-smaller-in-Passed
members_in-loop-spot-smaller-in-Passed t c =
    let u = turn t (goal.at.members_in-loop-spot-smaller-in-Passed t c).After-plain_look in
    let n = passed_on u _ _ (sym c.in_ok-next.ensures ∙ ap Ok c.in-Passed.is) in
    let m = c.move_to-in-Passed.ensures in
    omega (arith, n.on, m.3, m.4, c.loop-spot-test.true)

pub members_in-loop-spot-preserved-in-Passed : goal.members_in-loop-spot-preserved-in-Passed
members_in-loop-spot-preserved-in-Passed t c =
    let u = turn t (goal.at.members_in-loop-spot-preserved-in-Passed t c).After-plain_look in
    let n = passed_on u _ _ (sym c.in_ok-next.ensures ∙ ap Ok c.in-Passed.is) in
    let m = c.move_to-in-Passed.ensures in
    let i = c.loop-spot.invariant in
    (m.0 ∙ i.0, m.2 ∙ i.1, m.3 ∙ i.2, i.3, i.4, rw m.4 n.counted, rw (m.0, m.1, m.2, m.3, m.4) (n.same ∙ i.6))

pub members_in-form_in-requires : goal.members_in-form_in-requires
members_in-form_in-requires t c =
    let u = turn t (goal.at.members_in-form_in-requires t c).After-plain_look in
    let o = opens_form u _ _ _ (sym c.in_ok-next.ensures ∙ ap Ok c.in-Form.is) in
    let i = c.loop-spot.invariant in
    let same : length c.loop-spot.spot.file.now ≡ length c.args.holder.now.file.now = rw i.0 refl in
    omega (arith, o.low, o.high, o.shallow, i.1, i.5, same, c.loop-spot.spot.inside, c.requires.2)

pub members_in-returns-in_err-form_in-in-Form-clause-shown : goal.members_in-returns-in_err-form_in-in-Form-clause-shown
members_in-returns-in_err-form_in-in-Form-clause-shown t c =
    let u = turn t (goal.at.members_in-returns-in_err-form_in-in-Form-clause-shown t c).After-plain_look in
    let r = c.from_residual-in_err-form_in-in-Form in
    let p = err_from_is_err_and r.result r.ensures.1 in
    let w = c.form_in in
    let told = sym c.in_ok-next.ensures ∙ ap Ok c.in-Form.is in
    rw (p.1, p.2)
    (form_stops u w.result w.new.rows.count w.new.rows.slice.now _ _ _ told w.ensures.shown _ c.in_err-form_in-in-Form.was ∙ c.loop-spot.invariant.6)

pub members_in-loop-spot-smaller-in-Form : goal.members_in-loop-spot-smaller-in-Form
members_in-loop-spot-smaller-in-Form t c =
    let u = turn t (goal.at.members_in-loop-spot-smaller-in-Form t c).After-plain_look in
    let w = c.form_in in
    let told = sym c.in_ok-next.ensures ∙ ap Ok c.in-Form.is in
    let n = form_goes u w.result w.new.rows.count w.new.rows.slice.now _ _ _ told w.ensures.shown _ c.in_ok-form_in-in-Form.was in
    let m = c.move_to-in-Form.ensures in
    omega (arith, n.on, m.3, m.4, c.loop-spot-test.true)

pub members_in-loop-spot-preserved-in-Form : goal.members_in-loop-spot-preserved-in-Form
members_in-loop-spot-preserved-in-Form t c =
    let u = turn t (goal.at.members_in-loop-spot-preserved-in-Form t c).After-plain_look in
    let w = c.form_in in
    let told = sym c.in_ok-next.ensures ∙ ap Ok c.in-Form.is in
    let n = form_goes u w.result w.new.rows.count w.new.rows.slice.now _ _ _ told w.ensures.shown _ c.in_ok-form_in-in-Form.was in
    let m = c.move_to-in-Form.ensures in
    let i = c.loop-spot.invariant in (
      m.0 ∙ i.0,
      m.2 ∙ i.1,
      m.3 ∙ i.2,
      w.ensures.same_slice ∙ i.3,
      w.ensures.same_base ∙ i.4,
      rw m.4 n.counted,
      rw (m.0, m.1, m.2, m.3, m.4, w.ensures.same_base) (n.same ∙ i.6),
    )

pub members_in-members_in-requires : goal.members_in-members_in-requires
members_in-members_in-requires t c =
    let u = turn t (goal.at.members_in-members_in-requires t c).After-plain_look in
    let o = opens_group u _ _ _ _ (sym c.in_ok-next.ensures ∙ ap Ok c.in-Group.is) in
    let i = c.loop-spot.invariant in
    let same : length c.loop-spot.spot.file.now ≡ length c.args.holder.now.file.now = rw i.0 refl in
    omega (arith, o.low, o.high, o.shallow, i.1, i.5, same, c.loop-spot.spot.inside, c.requires.2)

pub members_in-returns-in_err-members_in-in-Group-clause-shown : goal.members_in-returns-in_err-members_in-in-Group-clause-shown
members_in-returns-in_err-members_in-in-Group-clause-shown t c =
    let u = turn t (goal.at.members_in-returns-in_err-members_in-in-Group-clause-shown t c).After-plain_look in
    let r = c.from_residual-in_err-members_in-in-Group in
    let p = err_from_is_err_and r.result r.ensures.1 in
    let w = c.members_in in
    let told = sym c.in_ok-next.ensures ∙ ap Ok c.in-Group.is in
    rw (p.1, p.2)
    (group_stops u w.result w.new.rows.count w.new.rows.slice.now _ _ _ _ told w.ensures.shown _ c.in_err-members_in-in-Group.was ∙ c.loop-spot.invariant.6)

pub members_in-loop-spot-smaller : goal.members_in-loop-spot-smaller
members_in-loop-spot-smaller t c =
    let u = turn t (goal.at.members_in-loop-spot-smaller t c).After-plain_look in
    let w = c.members_in in
    let told = sym c.in_ok-next.ensures ∙ ap Ok c.in-Group.is in
    let n = group_goes u w.result w.new.rows.count w.new.rows.slice.now _ _ _ _ told w.ensures.shown _ c.in_ok-members_in-in-Group.was in
    let m = c.move_to-in-Group.ensures in
    omega (arith, n.on, m.3, m.4, c.loop-spot-test.true)

pub members_in-loop-spot-preserved : goal.members_in-loop-spot-preserved
members_in-loop-spot-preserved t c =
    let u = turn t (goal.at.members_in-loop-spot-preserved t c).After-plain_look in
    let w = c.members_in in
    let told = sym c.in_ok-next.ensures ∙ ap Ok c.in-Group.is in
    let n = group_goes u w.result w.new.rows.count w.new.rows.slice.now _ _ _ _ told w.ensures.shown _ c.in_ok-members_in-in-Group.was in
    let m = c.move_to-in-Group.ensures in
    let i = c.loop-spot.invariant in (
      m.0 ∙ i.0,
      m.2 ∙ i.1,
      m.3 ∙ i.2,
      w.ensures.same_slice ∙ i.3,
      w.ensures.same_base ∙ i.4,
      rw m.4 n.counted,
      rw (m.0, m.1, m.2, m.3, m.4, w.ensures.same_base) (n.same ∙ i.6),
    )

pub members_in-returns-clause-shown : goal.members_in-returns-clause-shown
members_in-returns-clause-shown t c =
    let s = c.loop-spot.spot in
    let r = c.loop-spot.rows in
    turn_end s.file.now s.place s.depth s.end s.at r.base r.count r.slice.now c.loop-spot-test.false ∙ c.loop-spot.invariant.6

pub form_in-returns-clause-shown : goal.form_in-returns-clause-shown
form_in-returns-clause-shown t c =
    let f = c.args.form.now in
    let r = c.args.rows.now in
    let put = c.put.ensures in
    let stored = put.stored in
    let deep : 17 - c.args.levels ≡ f.depth = omega (arith, c.requires.3) in
    let row = rw (c.be32_at-kind.ensures.0, c.size.ensures.0, deep) at stored in
    let shown = c.members_in.ensures.shown in
    let told = rw (put.counted.0, put.counted.1) at shown in
    told ∙ form_first f.file.now r.base r.count f.depth c.args.close f.at r.slice.now _ row
