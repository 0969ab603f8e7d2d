use Rattle.reader.proofs.judge_entries.Goals as goal

pub returns-in-Some : goal.returns-in-Some
returns-in-Some c = rw c.in-Some.is at c.in_one_pass.ensures
