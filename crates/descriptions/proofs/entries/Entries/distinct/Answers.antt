-- The search for a repeat goes over the entries where they stand; the entry that it names is one of them.
use Rattle.std.proofs.Common.{◌≡◌, ◌≤◌, sym, ap, ◌∙◌, arith}
use Rattle.std.specs.Prelude.{Some}
use Rattle.blorb.specs.Bytes.{rd32}
use Rattle.blorb.specs.Verdict.{refuse}
use Rattle.repeats.specs.Keys.{entry_key_of}
use Rattle.repeats.specs.Repeats.{first_repeat_of}
use Rattle.repeats.proofs.Answers.{answer_at}
use Rattle.descriptions.proofs.RepeatLaws.{entries_inside, repeat_none, repeat_at}
use Rattle.descriptions.proofs.entries.Entries.distinct.Goals as goal
use Rattle.descriptions.proofs.entries.Entries.distinct.Goals.{In-Some}

found : (c : In-Some) → first_repeat_of (entry_key_of c.args.self.now.bytes 4) c.args.n ≡ Some c.in-Some.j
found c = rw (← c.self.view_is) (sym c.in-Some.ensures)

pub in_entries-requires : goal.in_entries-requires
in_entries-requires c =
    let s = c.self.inside in
    let n : c.args.n ≤ rd32 s.bytes.now = rw (← c.self.view_is) at c.requires in
    entries_inside s.bytes.now s.count c.self.invariant.filled c.args.n (omega (arith, c.self.invariant.counted))

pub offset-requires : goal.offset-requires
offset-requires c = omega (arith, (answer_at _ _ _ (found (goal.at.offset-requires c).In-Some)).0, c.requires)

pub returns-in-None : goal.returns-in-None
returns-in-None c = rw (← c.self.view_is) (repeat_none _ _ _ (sym c.in-None.ensures))

pub returns-in-Some : goal.returns-in-Some
returns-in-Some c = ap (refuse 38) c.place.ensures ∙ repeat_at _ _ _ _ _ (found (goal.at.returns-in-Some c).In-Some) c.offset.ensures.0
