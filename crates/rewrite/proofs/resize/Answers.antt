use mathlib.Core.Path.{sym, ◌∙◌}
use native.Mathlib.Omega.{arith}
use borrow.Author.Tests.{lt-ltb, le-ltb}
use Rattle.std.proofs.Common.{Less, Equal, Greater}
use Rattle.std.proofs.lemmas.Cmp.{ranked}
use Rattle.rewrite.specs.Rewriting.{resized}
use Rattle.rewrite.proofs.ReplaceBytes.{resized-same}
use Rattle.rewrite.proofs.resize.Goals as goal

pub returns-in-Less : goal.returns-in-Less
unfolding resized
returns-in-Less c =
    let a = c.args in
    let shrinks = ranked a.new a.old Less c.in-Less.ensures in
    c.close_gap.ensures ∙ rw (le-ltb a.old a.new (omega (arith, shrinks)))

pub returns-in-Equal : goal.returns-in-Equal
returns-in-Equal c =
    let a = c.args in
    resized-same a.buf.now a.at a.len a.old a.new (sym (ranked a.new a.old Equal c.in-Equal.ensures))

pub returns-in-Greater : goal.returns-in-Greater
unfolding resized
returns-in-Greater c =
    let a = c.args in
    c.shift_right.ensures ∙ rw (lt-ltb _ _ (ranked a.new a.old Greater c.in-Greater.ensures))
