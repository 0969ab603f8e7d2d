-- The table by the first byte is one nest of tests (`by_long`), of which the code asks one after another.
use Rattle.std.proofs.Common.{sym, ◌∙◌, arith}
use borrow.Author.Tests.{lt-ltb, le-ltb}
use Rattle.utf8.proofs.FormLaws.{many, by_long}
use Rattle.utf8.proofs.long_char.Goals as goal
use Rattle.utf8.proofs.long_char.Goals.{then-a-gt244-via-then-a-gt244, then-a-gt244-via-else-a-gt244+then-not-may_follow, then-a-gt244-via-else-a-gt244+else-not-may_follow+then-not-is_tail}

pub returns-then-a-gt244 : goal.returns-then-a-gt244
returns-then-a-gt244 c =
    let a = c.args in
    elim c.then-a-gt244.branch [
      | then-a-gt244-via-then-a-gt244 w ↦ sym (many a.s.now a.at a.a c.requires.1 w.if-a-gt244.true)
      | then-a-gt244-via-else-a-gt244+then-not-may_follow w ↦
          by_long a.s.now a.at a.a c.requires.1 c.requires.2 w.if-a-gt244.false ∙ rw (← w.may_follow.ensures, w.if-not-may_follow.true)
      | then-a-gt244-via-else-a-gt244+else-not-may_follow+then-not-is_tail w ↦
          by_long a.s.now a.at a.a c.requires.1 c.requires.2 w.if-a-gt244.false
          ∙ rw (← w.may_follow.ensures, w.if-not-may_follow.false, ← w.is_tail.ensures, w.if-not-is_tail.true)
    ]

pub returns-then-a-lt240 : goal.returns-then-a-lt240
returns-then-a-lt240 c =
    let a = c.args in (
      by_long a.s.now a.at a.a c.requires.1 c.requires.2 c.if-a-gt244.false
          ∙ rw (← c.may_follow.ensures, c.if-not-may_follow.false, ← c.is_tail.ensures, c.if-not-is_tail.false, lt-ltb a.a 240 c.if-a-lt240.true),
      omega arith,
    )

pub returns-then-is_tail : goal.returns-then-is_tail
returns-then-is_tail c =
    let a = c.args in (
      by_long a.s.now a.at a.a c.requires.1 c.requires.2 c.if-a-gt244.false
          ∙ rw (
            ← c.may_follow.ensures,
            c.if-not-may_follow.false,
            ← c.is_tail.ensures,
            c.if-not-is_tail.false,
            le-ltb a.a 240 c.if-a-lt240.false,
            ← c.is_tail-2.ensures,
            c.if-is_tail.true,
          ),
      omega arith,
    )

pub returns-else-is_tail : goal.returns-else-is_tail
returns-else-is_tail c =
    let a = c.args in
    by_long a.s.now a.at a.a c.requires.1 c.requires.2 c.if-a-gt244.false
    ∙ rw (
      ← c.may_follow.ensures,
      c.if-not-may_follow.false,
      ← c.is_tail.ensures,
      c.if-not-is_tail.false,
      le-ltb a.a 240 c.if-a-lt240.false,
      ← c.is_tail-2.ensures,
      c.if-is_tail.false,
    )
