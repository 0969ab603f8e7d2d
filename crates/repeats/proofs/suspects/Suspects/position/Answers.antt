-- Where k is no suspect, none of them is passed by.
use mathlib.Core.Path.{sym, ◌∙◌}
use borrow.Author.Rules.{rules}
use Prim.Native.Nat.{◌≤◌}
use lib.ListN.{length}
use Rattle.repeats.proofs.SeenLaws.{position_none}
use Rattle.repeats.proofs.suspects.Suspects.position.Goals as goal

pub returns-else-contains : goal.returns-else-contains
returns-else-contains c =
    let s = c.args.self.now in
    let h : s.count ≤ length s.keys = search rules in
    position_none s.keys s.count c.args.k h (sym c.contains.ensures ∙ c.if-contains.false)
