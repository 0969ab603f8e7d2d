use Rattle.std.proofs.Common.{◌≡◌, ◌<◌, ◌≤◌, sym, ap, ◌∙◌, arith}
use Rattle.blorb.specs.Bytes.{rd32}
use Rattle.rdes.specs.Rdes.{offset_of}
use Rattle.rdes.proofs.EntryLaws.{Room, room_at, offset-none, offset_on}
use Rattle.descriptions.proofs.entries.Entries.offset.Goals as goal
use Rattle.descriptions.proofs.entries.Entries.offset.Goals.{At-loop}

-- as far as the loop goes it stands at an entry
room : (c : At-loop) → c.loop.counter ≤ c.args.n → Room c.self.inside.bytes.now c.loop.at
room c h =
    let s = c.self.inside in
    let n : c.args.n < rd32 s.bytes.now = rw (← c.self.view_is) at c.requires in
    room_at s.bytes.now s.count c.loop.counter 4 c.loop.at (omega (arith, c.self.invariant.counted)) c.self.invariant.filled c.loop.invariant

pub loop-init : goal.loop-init
loop-init c = sym (offset-none _ 4)

pub next-at-requires : goal.next-at-requires
next-at-requires c = let r = room (goal.at.next-at-requires c).At-loop (omega (arith, c.loop-test.true)) in (r.header, r.text)

pub loop-preserved : goal.loop-preserved
loop-preserved c = offset_on _ c.loop.counter 4 c.loop.at _ c.loop.invariant c.next-at.ensures

pub returns : goal.returns
returns c =
    let r = room (goal.at.returns c).At-loop (omega arith) in
    let e : c.loop.counter ≡ c.args.n = omega (arith, c.loop-test.false) in
    rw (← c.self.view_is) (c.loop.invariant ∙ ap (λ j. offset_of c.self.inside.bytes.now j 4) e, r.header, r.text)
