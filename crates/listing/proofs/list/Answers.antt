-- The reader's answer decides which of the two listings is written, and both promise the bytes of its lines.
use mathlib.Core.Path.{sym, ◌∙◌}
use Rattle.listing.proofs.ListLaws.{list_by}
use Rattle.listing.proofs.list.Goals as goal

pub list_accepted-requires : goal.list_accepted-requires
list_accepted-requires c = sym c.read.ensures ∙ c.in-Ok.is

pub returns-in-Ok : goal.returns-in-Ok
returns-in-Ok c = let a = c.args in list_by a.file.now a.out.now _ _ _
    (sym c.read.ensures ∙ c.in-Ok.is)
    c.list_accepted.ensures

pub returns-in-Err : goal.returns-in-Err
returns-in-Err c = let a = c.args in list_by a.file.now a.out.now _ _ _
    (sym c.read.ensures ∙ c.in-Err.is)
    c.list_refused.ensures
