use Rattle.std.proofs.Common.{◌≡◌, ◌+◌, refl, sym, ◌∙◌}
use Rattle.rdes.specs.Rdes.{size_at}
use Rattle.rdes.proofs.EntryLaws.{Room, room_at, offset-none, offset_on}
use Rattle.descriptions.specs.Texts.{told_with}
use Rattle.descriptions.proofs.EntryAnswers.{tell-start, tell_end, tell_hit, tell-next}
use Rattle.descriptions.proofs.entries.Entries.tell.Goals as goal
use Rattle.descriptions.proofs.entries.Entries.tell.Goals.{In-loop}

room : (c : In-loop) → Room c.self.inside.bytes.now c.loop.at
room c = room_at c.self.inside.bytes.now c.self.inside.count c.loop.counter 4 c.loop.at c.loop-test.true c.self.invariant.filled c.loop.invariant.0

pub loop-init : goal.loop-init
loop-init c = (sym (offset-none _ 4), tell-start _ _ _ _ _ 4)

pub has_pair-requires : goal.has_pair-requires
has_pair-requires c = (room (goal.at.has_pair-requires c).In-loop).header

pub text-requires : goal.text-requires
text-requires c = let r = room (goal.at.text-requires c).In-loop in rw (← c.self.view_is) (r.header, r.text)

pub next-at-requires : goal.next-at-requires
next-at-requires c = let r = room (goal.at.next-at-requires c).In-loop in (r.header, r.text)

pub loop-preserved : goal.loop-preserved
loop-preserved c =
    let l = c.loop in (
      offset_on _ l.counter 4 l.at _ l.invariant.0 c.next-at.ensures,
      tell-next _ _ _ _ _ _ _ c.loop-test.true _ c.has_pair.ensures c.if-has_pair.false _ c.next-at.ensures ∙ l.invariant.1,
    )

pub returns-then-has_pair : goal.returns-then-has_pair
returns-then-has_pair c =
    let l = c.loop in
    let s = c.self.inside in
    let text : c.text.result ≡ told_with (s.start + 8 + l.at + 12) (size_at s.bytes.now l.at) = rw (← c.self.view_is) at c.text.ensures in
    rw (← c.self.view_is, ← c.self.invariant.counted, text)
    (tell_hit _ _ _ _ _ l.counter l.at c.loop-test.true _ c.has_pair.ensures c.if-has_pair.true _ refl ∙ l.invariant.1)

pub returns : goal.returns
returns c =
    let l = c.loop in
    rw (← c.self.view_is, ← c.self.invariant.counted) (tell_end _ _ _ _ _ l.counter l.at c.loop-test.false ∙ l.invariant.1)
