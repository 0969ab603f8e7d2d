use Rattle.blorb.proofs.UsageLaws.{code_pict, code_snd, code-data, code_exec, code-none}
use Rattle.blorb.proofs.Usage.of_code.Goals as goal

pub returns-then-code-eq-PICT : goal.returns-then-code-eq-PICT
returns-then-code-eq-PICT c = code_pict _ c.if-code-eq-PICT.true

pub returns-then-code-eq-SND : goal.returns-then-code-eq-SND
returns-then-code-eq-SND c = code_snd _ c.if-code-eq-PICT.false c.if-code-eq-SND.true

pub returns-then-code-eq-DATA : goal.returns-then-code-eq-DATA
returns-then-code-eq-DATA c = code-data _ c.if-code-eq-PICT.false c.if-code-eq-SND.false c.if-code-eq-DATA.true

pub returns-then-code-eq-EXEC : goal.returns-then-code-eq-EXEC
returns-then-code-eq-EXEC c = code_exec _ c.if-code-eq-PICT.false c.if-code-eq-SND.false c.if-code-eq-DATA.false c.if-code-eq-EXEC.true

pub returns : goal.returns
returns c = code-none _ c.if-code-eq-PICT.false c.if-code-eq-SND.false c.if-code-eq-DATA.false c.if-code-eq-EXEC.false
