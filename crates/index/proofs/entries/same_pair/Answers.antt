-- Two pairs are the same exactly if they are the same as one number each, since both numbers have 32 bits.
use Rattle.index.specs.Entries.{usage_at, number_at, place}
use Rattle.blorb.proofs.NumberLaws.{key-eqb}
use Rattle.index.proofs.entries.same_pair.Goals as goal

pub returns : goal.returns
returns c =
    let a = c.args in
    let s = a.s.now in
    let p = c.pair_key.ensures in
    let q = c.pair_key-2.ensures in
    rw (p.0, q.0) (key-eqb (usage_at s (place a.i)) (number_at s (place a.i)) (usage_at s (place a.j)) (number_at s (place a.j)) p.1 q.1)
