-- The code's one test is the definition's.
use native.Mathlib.Omega.{arith}
use Rattle.blorb.proofs.ShownLaws.{left_form, left_other}
use Rattle.blorb.proofs.left_out.Goals as goal

pub returns-then-kind-eq-FORM : goal.returns-then-kind-eq-FORM
returns-then-kind-eq-FORM c = (left_form _ c.if-kind-eq-FORM.true, omega arith)

pub returns : goal.returns
returns c = (left_other _ c.if-kind-eq-FORM.false, omega arith)
