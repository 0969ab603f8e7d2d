use Rattle.std.proofs.Common.{◌≡◌, sym, subst, arith, rules}
use Rattle.rdes.proofs.EntryLaws.{Room, room_at, offset-none, offset_on}
use Rattle.descriptions.specs.Faults.{GoodTo}
use Rattle.descriptions.proofs.EntryAnswers.{good-is, text_bad, text-good, good_none, good_more}
use Rattle.descriptions.proofs.entries.Entries.bad_text.Goals as goal
use Rattle.descriptions.proofs.entries.Entries.bad_text.Goals.{In-loop-entry}

room : (c : In-loop-entry) → Room c.self.inside.bytes.now c.loop-entry.at
room c =
    let l = c.loop-entry in
    room_at c.self.inside.bytes.now c.self.inside.count l.entry 4 l.at c.loop-entry-test.true c.self.invariant.filled l.invariant.0

pub loop-entry-init : goal.loop-entry-init
loop-entry-init c = (sym (offset-none _ 4), good_none _)

pub overflow_add-from : goal.overflow_add-from
overflow_add-from c =
    let r = (room (goal.at.overflow_add-from c).In-loop-entry).header in
    let m = c.self.invariant.room in
    search rules

pub next-next-requires : goal.next-next-requires
next-next-requires c = let r = room (goal.at.next-next-requires c).In-loop-entry in (r.header, r.text)

pub loop-entry-preserved : goal.loop-entry-preserved
loop-entry-preserved c =
    let l = c.loop-entry in
    let d = c.self.inside.bytes.now in (
      offset_on d l.entry 4 l.at _ l.invariant.0 c.next-next.ensures,
      good_more d l.entry l.at l.invariant.0
          (text-good d l.at _ c.next-next.ensures _ c.good_length-good.ensures c.if-good-text.false) l.invariant.1,
    )

pub returns-then-good-text : goal.returns-then-good-text
returns-then-good-text c =
    let l = c.loop-entry in
    let d = c.self.inside.bytes.now in
    rw (← c.self.view_is, ← c.self.invariant.counted) (record {
      inside = c.loop-entry-test.true;
      place = l.invariant.0;
      measured = good-is d l.at _ c.next-next.ensures _ c.good_length-good.ensures;
      bad = text_bad d l.at _ c.next-next.ensures _ c.good_length-good.ensures c.if-good-text.true;
      before = l.invariant.1;
    })

pub returns : goal.returns
returns c =
    let l = c.loop-entry in
    let e : l.entry ≡ c.self.inside.count = omega (arith, c.loop-entry-test.false) in
    rw (← c.self.view_is, ← c.self.invariant.counted) (subst (GoodTo c.self.inside.bytes.now) e l.invariant.1)

pub slice_bounds-text-end : goal.slice_bounds-text-end
slice_bounds-text-end c = omega (arith, (room (goal.at.slice_bounds-text-end c).In-loop-entry).text, c.next-next.ensures)
