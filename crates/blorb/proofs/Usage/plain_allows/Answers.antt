-- Told the usage, only its own part of the definition is left, and that is the callee's answer.
use mathlib.Core.Path.{sym, ◌∙◌}
use Rattle.blorb.proofs.UsageLaws.{plain_pict, plain_data, plain_exec}
use Rattle.blorb.proofs.Usage.plain_allows.Goals as goal

pub returns-in-Pict : goal.returns-in-Pict
returns-in-Pict c = c.pict_type.ensures ∙ sym (rw c.in-Pict.is (plain_pict _))

pub returns-in-Snd : goal.returns-in-Snd
returns-in-Snd c = c.sound_type.ensures ∙ sym (rw c.in-Snd.is)

pub returns-in-Data : goal.returns-in-Data
returns-in-Data c = c.data_type.ensures ∙ sym (rw c.in-Data.is (plain_data _))

pub returns-in-Exec : goal.returns-in-Exec
returns-in-Exec c = c.exec_type.ensures ∙ sym (rw c.in-Exec.is (plain_exec _))
