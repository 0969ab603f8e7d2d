-- The call is take_back's.
use Rattle.editor.proofs.CallLaws.{gave}
use Rattle.editor.proofs.undo.Goals as goal

pub returns : goal.returns
returns c = gave _ _ _ _ _ _ _ c.new.ensures c.take_back-made.ensures
