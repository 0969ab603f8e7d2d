-- The call is remove_entry's: each four bytes are the number in them.
use Rattle.edits.specs.Edit.{remove}
use Rattle.edits.specs.Run.{edit}
use Rattle.editor.proofs.CallLaws.{called_as, gave}
use Rattle.editor.proofs.remove.Goals as goal

pub returns : goal.returns
returns c =
    let a = c.args in
    gave _ _ _ _ _ _ _ c.new.ensures
    (called_as _ _ _ _ _ _ _ (λ i. edit (remove (c.code_of.ensures i) a.number)) c.remove_entry-made.ensures)
