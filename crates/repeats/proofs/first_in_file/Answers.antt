-- Where the keys rise to the end no two are the same.
use Rattle.repeats.specs.Source.{key}
use Rattle.repeats.proofs.Answers.{first-none}
use Rattle.repeats.proofs.first_in_file.Goals as goal

pub returns-then-n-from : goal.returns-then-n-from
returns-then-n-from g c =
    let w = c.rising-from.ensures in
    first-none (key (g.L.Keys.source c.args.list)) c.args.n _ w.within c.if-n-from.true w.apart
