-- The top is judged as a member and read by its own reader.
use native.Mathlib.Omega.{arith}
use mathlib.Core.Path.{ap, sym, ◌∙◌}
use Rattle.std.specs.Prelude.{Ok}
use Rattle.std.proofs.lemmas.Result.{err_from_is_err_and}
use Rattle.groups.specs.Scan.{scan}
use Rattle.groups.proofs.ScanLaws.{member_bad, member_passed, member_form, member_group}
use Rattle.groups.proofs.readers.top_in.Goals as goal

pub returns-in_err-member_at-clause-shown : goal.returns-in_err-member_at-clause-shown
returns-in_err-member_at-clause-shown c =
    let s = c.args.top.now in
    let r = c.args.rows.now in
    let p = err_from_is_err_and c.from_residual.result c.from_residual.ensures.1 in
    rw (p.1, p.2) (member_bad s.file.now s.place s.depth s.end s.at r.base r.count r.slice.now _ _ (sym c.in_err-member_at.ensures))

pub form_in-requires : goal.form_in-requires
form_in-requires c =
    let s = c.args.top.now in
    let r = c.args.rows.now in
    let told = sym c.in_ok-member_at.ensures ∙ ap Ok c.in-Form.is in
    let o = (member_form s.file.now s.place s.depth s.end s.at r.base r.count r.slice.now _ _ _ told).1 in
    omega (arith, o.low, o.high, s.inside, c.requires)

pub members_in-requires : goal.members_in-requires
members_in-requires c =
    let s = c.args.top.now in
    let r = c.args.rows.now in
    let told = sym c.in_ok-member_at.ensures ∙ ap Ok c.in-Group.is in
    let o = (member_group s.file.now s.place s.depth s.end s.at r.base r.count r.slice.now _ _ _ _ told).1 in
    omega (arith, o.low, o.high, s.inside, c.requires)

pub returns-in-Passed-clause-shown : goal.returns-in-Passed-clause-shown
returns-in-Passed-clause-shown c =
    let s = c.args.top.now in
    let r = c.args.rows.now in
    let told = sym c.in_ok-member_at.ensures ∙ ap Ok c.in-Passed.is in
    (member_passed s.file.now s.place s.depth s.end s.at r.base r.count r.slice.now _ _ told).0

pub returns-in-Form-clause-shown : goal.returns-in-Form-clause-shown
unfolding scan
returns-in-Form-clause-shown c =
    let s = c.args.top.now in
    let r = c.args.rows.now in
    let told = sym c.in_ok-member_at.ensures ∙ ap Ok c.in-Form.is in
    let g = member_form s.file.now s.place s.depth s.end s.at r.base r.count r.slice.now _ _ _ told in
    c.form_in.ensures.shown ∙ rw g.1.closes g.0

pub returns-in-Group-clause-shown : goal.returns-in-Group-clause-shown
returns-in-Group-clause-shown c =
    let s = c.args.top.now in
    let r = c.args.rows.now in
    let told = sym c.in_ok-member_at.ensures ∙ ap Ok c.in-Group.is in
    let g = member_group s.file.now s.place s.depth s.end s.at r.base r.count r.slice.now _ _ _ _ told in
    c.members_in.ensures.shown ∙ rw g.1.closes g.0
