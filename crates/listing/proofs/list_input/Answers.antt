-- An input of over 65,536 bytes, read or yet to come, is refused before its file is looked at; else the listing is the file's.
use Rattle.listing.proofs.ListLaws.{input-long, input-over, input_whole}
use Rattle.listing.proofs.list_input.Goals as goal

pub returns-then-longer : goal.returns-then-longer
returns-then-longer c =
    let a = c.args in
    input-long a.file.now a.out.now _ _ a.longer c.if-longer.true c.list_refused.ensures

pub returns-then-file-gt65536 : goal.returns-then-file-gt65536
returns-then-file-gt65536 c =
    let a = c.args in
    input-over a.file.now a.out.now _ _ a.longer c.if-longer.false
    c.if-file-gt65536.true c.list_refused-then-file-gt65536.ensures

pub returns : goal.returns
returns c =
    let a = c.args in
    input_whole a.file.now a.out.now _ _ a.longer c.if-longer.false
    c.if-file-gt65536.false c.list.ensures
