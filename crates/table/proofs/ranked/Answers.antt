use native.Mathlib.Omega.{arith}
use lib.Dec.{ltb}
use mathlib.Core.Path.{◌∙◌}
use Rattle.rows.proofs.OrderLaws.{counted, one_small}
use Rattle.table.proofs.CheckLaws.{rank-turn, held-turn, ranked_end}
use Rattle.table.proofs.ranked.Goals as goal

pub loop-j-preserved : goal.loop-j-preserved
loop-j-preserved c =
    let a = c.args in
    let x = a.index.now in
    let l = c.loop-j in
    let k = c.key-k in
    let s = c.key-sought in
    let o = c.from-below.ensures ∙ counted (ltb c.key-k.result c.key-sought.result) in
    record {
      few = omega (arith, o, one_small (ltb c.key-k.result c.key-sought.result));
      rank = rank-turn x.file.now x.count a.usage a.number a.start l.j c.loop-j-test.true k.result s.result k.ensures.0 k.ensures.1 s.ensures.0
          s.ensures.1 l.below c.from-below.result o l.invariant.rank;
      held = held-turn x.file.now x.count a.usage a.number a.start l.j c.loop-j-test.true k.result s.result k.ensures.0 k.ensures.1 s.ensures.0
          s.ensures.1 l.there c.start-s.result c.start-s.ensures l.invariant.held;
    }

pub returns : goal.returns
returns c =
    let a = c.args in
    let x = a.index.now in
    let l = c.loop-j in
    ranked_end x.file.now x.count a.usage a.number a.start a.at l.j l.below l.there (omega arith) l.invariant.rank l.invariant.held
