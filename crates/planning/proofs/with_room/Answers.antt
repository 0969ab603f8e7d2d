-- 24 comes before 25: the first test that stops is the definition's first that does.
use borrow.Author.Tests.{le-leb, lt-leb}
use Rattle.blorb.specs.Verdict.{◌then◌, check}
use Rattle.planning.proofs.with_room.Goals as goal

pub returns-then-room-size : goal.returns-then-room-size
unfolding check ◌then◌
returns-then-room-size c = rw (lt-leb _ _ c.if-room-size.true)

pub returns-then-left-more : goal.returns-then-left-more
unfolding check ◌then◌
returns-then-left-more c = rw (le-leb _ _ c.if-room-size.false, lt-leb _ _ c.if-left-more.true)

pub returns : goal.returns
unfolding check ◌then◌
returns c = rw (le-leb _ _ c.if-room-size.false, le-leb _ _ c.if-left-more.false)
