-- The four tests in their order: each fault is what the definition tells where the tests before it hold.
use native.Mathlib.Omega.{arith}
use mathlib.Core.Path.{◌≡◌, sym, ap, ◌∙◌}
use mathlib.Core.Bool.{◌&&◌}
use lib.Dec.{ltb}
use Rattle.members.specs.Kinds.{nests, may_hold_of}
use Rattle.members.specs.Faults.{kind_at}
use Rattle.members.proofs.FaultLaws.{fits-facts, fault_41, fault_42, fault_43, fault_44, fault-none}
use Rattle.members.proofs.spot.Spot.fault.Goals as goal

pub returns-then-not-fits : goal.returns-then-not-fits
returns-then-not-fits c = fault_41 _ _ _ _ _ (sym c.fits.ensures ∙ c.if-not-fits.true)

pub kind-kind-requires : goal.kind-kind-requires
kind-kind-requires c = omega (arith, (fits-facts _ _ _ (sym c.fits.ensures ∙ c.if-not-fits.false)).0)

pub returns-then-is_too_deep : goal.returns-then-is_too_deep
returns-then-is_too_deep c =
    let a = c.args.self.now in
    let fit = sym c.fits.ensures ∙ c.if-not-fits.false in
    let k = c.kind-kind.ensures in
    let deep : nests (kind_at a.file.now a.at) && ltb 16 a.depth ≡ c.is_too_deep.result =
    ap (λ k. nests k && ltb 16 a.depth) (sym k) ∙ sym c.is_too_deep.ensures in
    fault_42 _ _ _ _ _ fit (deep ∙ c.if-is_too_deep.true)

pub returns-then-not-may_hold : goal.returns-then-not-may_hold
returns-then-not-may_hold c =
    let a = c.args.self.now in
    let fit = sym c.fits.ensures ∙ c.if-not-fits.false in
    let k = c.kind-kind.ensures in
    let deep : nests (kind_at a.file.now a.at) && ltb 16 a.depth ≡ c.is_too_deep.result =
    ap (λ k. nests k && ltb 16 a.depth) (sym k) ∙ sym c.is_too_deep.ensures in
    let shallow = deep ∙ c.if-is_too_deep.false in
    let not_held = ap (may_hold_of a.place) (sym k) ∙ sym c.may_hold.ensures ∙ c.if-not-may_hold.true in
    fault_43 _ _ _ _ _ fit shallow not_held

pub is_padded-requires : goal.is_padded-requires
is_padded-requires c =
    omega (arith, (fits-facts _ _ _ (sym c.fits.ensures ∙ c.if-not-fits.false)).0)

pub returns-then-not-is_padded : goal.returns-then-not-is_padded
returns-then-not-is_padded c =
    let a = c.args.self.now in
    let fit = sym c.fits.ensures ∙ c.if-not-fits.false in
    let k = c.kind-kind.ensures in
    let deep : nests (kind_at a.file.now a.at) && ltb 16 a.depth ≡ c.is_too_deep.result =
    ap (λ k. nests k && ltb 16 a.depth) (sym k) ∙ sym c.is_too_deep.ensures in
    let shallow = deep ∙ c.if-is_too_deep.false in
    let held = ap (may_hold_of a.place) (sym k) ∙ sym c.may_hold.ensures ∙ c.if-not-may_hold.false in
    let not-padded = sym c.is_padded.ensures ∙ c.if-not-is_padded.true in
    fault_44 _ _ _ _ _ fit shallow held not-padded

pub returns : goal.returns
returns c =
    let a = c.args.self.now in
    let fit = sym c.fits.ensures ∙ c.if-not-fits.false in
    let k = c.kind-kind.ensures in
    let deep : nests (kind_at a.file.now a.at) && ltb 16 a.depth ≡ c.is_too_deep.result =
    ap (λ k. nests k && ltb 16 a.depth) (sym k) ∙ sym c.is_too_deep.ensures in
    let shallow = deep ∙ c.if-is_too_deep.false in
    let held = ap (may_hold_of a.place) (sym k) ∙ sym c.may_hold.ensures ∙ c.if-not-may_hold.false in
    fault-none _ _ _ _ _ fit shallow held (sym c.is_padded.ensures ∙ c.if-not-is_padded.false)
