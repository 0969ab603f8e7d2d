-- The header is whole, the size and the padding stay in the parent, and a plain chunk may stand there: no fault is left.
use mathlib.Core.Path.{◌≡◌, ap, sym, ◌∙◌}
use mathlib.Core.Bool.{true}
use Prim.Native.Nat.{ℕ, ◌+◌, ◌%◌}
use Rattle.members.specs.declared.Kind.TheVariants.{Plain}
use Rattle.members.specs.Kinds.{may_hold_of, is_plain}
use Rattle.members.specs.Faults.{kind_at}
use Rattle.members.proofs.FaultLaws.{looked, plain_fine}
use Rattle.groups.proofs.ScanLaws.{quick-passed, plain_alone, plain_stays}
use Rattle.groups.proofs.readers.plain_look.Goals as goal

pub returns-then-may_hold : goal.returns-then-may_hold
returns-then-may_hold c =
    let a = c.args.spot.now in
    let size = c.size-m.ensures.0 in
    let pad = sym c.is_padded.ensures ∙ c.if-not-is_padded.false in
    let look = looked a.file.now a.end a.at _ size c.if-spot-lt8.false c.if-spot-close.false pad in
    let plain : is_plain (kind_at a.file.now a.at) ≡ true = ap is_plain (sym c.kind.ensures) ∙ sym c.is_plain.ensures ∙ c.if-is_plain.true in
    let kind = plain_alone _ plain in
    let held : may_hold_of a.place Plain ≡ true = sym c.may_hold.ensures ∙ c.if-may_hold.true in
    let fine = plain_fine a.file.now a.place a.depth a.end a.at look kind held in
    let next : ℕ = a.at + 8 + c.size-m.result + c.size-m.result % 2 in
    let told = quick-passed a.file.now a.place a.depth a.end a.at next fine (rw size) kind in
    (rw (plain_stays a.place held) at told, kind)
