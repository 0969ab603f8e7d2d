-- One walk that stores row i of the file as the only row: its start and length are the answer.
use native.Mathlib.Omega.{arith}
use Prim.Native.Nat.{◌≤◌, ◌<◌}
use mathlib.Core.Path.{refl}
use lib.ListN.{length}
use Rattle.std.proofs.lemmas.Result.{err_from_is_err_and}
use Rattle.groups.specs.Files.{forms_of}
use Rattle.groups.proofs.FileLaws.{file_fine, file_count, file-refused, pick-refused, pick-none, pick-one}
use Rattle.groups.proofs.pick.Goals as goal

pub returns-in_err-n : goal.returns-in_err-n
returns-in_err-n c =
    let a = c.args in
    let p = err_from_is_err_and c.from_residual.result c.from_residual.ensures.1 in
    rw (p.1, p.2) (pick-refused a.file.now a.i _ _ (file-refused a.file.now a.i _ _ _ _ c.in_err-n.ensures))

pub returns-then-n-i : goal.returns-then-n-i
returns-then-n-i c =
    let a = c.args in
    let e = c.in_ok-n.ensures in
    let behind : length (forms_of a.file.now) ≤ a.i = omega (arith, (file_count a.file.now a.i _ _ _ e).0, c.if-n-i.true) in
    pick-none a.file.now a.i (file_fine a.file.now a.i _ _ _ e) behind

pub overflow_add-result : goal.overflow_add-result
overflow_add-result c = record { fits = omega (arith, c.if-n-i.element_fits2.fits) }

pub returns : goal.returns
returns c =
    let a = c.args in
    let e = c.in_ok-n.ensures in
    let k = file_count a.file.now a.i _ _ _ e in
    let there : a.i < length (forms_of a.file.now) = omega (arith, k.0, c.if-n-i.false) in
    rw k.1 (pick-one a.file.now a.i (file_fine a.file.now a.i _ _ _ e) _ refl there)
