-- The header is whole, the size and the padding stay in the parent, and a FORM may stand there: no fault is left.
use mathlib.Core.Path.{◌≡◌, sym, ◌∙◌}
use mathlib.Core.Bool.{true}
use Rattle.members.specs.declared.Kind.TheVariants.{Form}
use Rattle.members.specs.Kinds.{may_hold_of}
use Rattle.members.specs.Faults.{kind_at}
use Rattle.members.proofs.FaultLaws.{looked, form_fine}
use Rattle.groups.proofs.ScanLaws.{quick_form}
use Rattle.groups.proofs.readers.form_look.Goals as goal

pub returns-in-Form : goal.returns-in-Form
returns-in-Form c =
    let a = c.args.spot.now in
    let size = c.size-m.ensures.0 in
    let pad = sym c.is_padded.ensures ∙ c.if-not-is_padded.false in
    let look = looked a.file.now a.end a.at _ size c.if-spot-lt8.false c.if-spot-close.false pad in
    let kind : kind_at a.file.now a.at ≡ Form = sym c.kind.ensures ∙ c.in-Form.is in
    let held : may_hold_of a.place Form ≡ true = sym c.may_hold.ensures ∙ c.if-may_hold.true in
    let fine = form_fine a.file.now a.place a.depth a.end a.at look kind (rw size at c.if-m-ge4.true) c.if-spot-le16.true held in
    rw c.behind.ensures (quick_form a.file.now a.place a.depth a.end a.at _ fine (rw size) _ kind (rw size))
