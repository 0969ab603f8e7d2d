-- The first walk has no room for a row, so it judges and counts; the second stores all rows, for which there is room.
use native.Mathlib.Omega.{arith}
use Prim.Native.Nat.{◌/◌, ◌≤◌, ◌<◌}
use mathlib.Core.Path.{◌∙◌}
use lib.ListN.{length}
use Rattle.std.proofs.lemmas.Result.{err_from_is_err_and}
use Rattle.groups.specs.Files.{forms_of}
use Rattle.groups.proofs.FileLaws.{file_fine, file_count, file-refused, rows_from_first, listed-refused, listed_small, listed_fine}
use Rattle.groups.proofs.list.Goals as goal

pub returns-in_err-n : goal.returns-in_err-n
returns-in_err-n c =
    let a = c.args in
    let p = err_from_is_err_and c.from_residual.result c.from_residual.ensures.1 in
    rw (p.1, p.2) (listed-refused a.file.now a.rows.now _ _ (file-refused a.file.now 0 _ _ _ _ c.in_err-n.ensures))

pub returns-then-rows-n : goal.returns-then-rows-n
returns-then-rows-n c =
    let a = c.args in
    let e = c.in_ok-n.ensures in
    let few : length a.rows.now / 4 < length (forms_of a.file.now) = omega (arith, (file_count a.file.now 0 _ _ _ e).0, c.if-rows-n.true) in
    listed_small a.file.now a.rows.now (file_fine a.file.now 0 _ _ _ e) few

pub returns : goal.returns
returns c =
    let a = c.args in
    let e = c.in_ok-n.ensures in
    let fine = file_fine a.file.now 0 _ _ _ e in
    let fits : length (forms_of a.file.now) ≤ length a.rows.now / 4 = omega (arith, (file_count a.file.now 0 _ _ _ e).0, c.if-rows-n.false) in
    let l = listed_fine a.file.now a.rows.now fine fits in
    let r = rows_from_first a.file.now a.rows.now _ _ c.scan_file-2.ensures fine in
    (r.0 ∙ l.0, r.1 ∙ l.1)
