-- The call is replace_chunk's: each four bytes are the number in them.
use Rattle.edits.specs.Edit.{replace}
use Rattle.edits.specs.Run.{edit}
use Rattle.editor.proofs.CallLaws.{called_as, gave}
use Rattle.editor.proofs.replace.Goals as goal

pub returns : goal.returns
returns c =
    let a = c.args in
    gave _ _ _ _ _ _ _ c.new.ensures
    (called_as _ _ _ _ _ _ _ (λ i. edit (replace (c.code_of.ensures i) a.number (c.code_of-kind.ensures i) a.d.now)) c.replace_chunk-made.ensures)
