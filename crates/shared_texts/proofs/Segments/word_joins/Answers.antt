-- The greatest word has all bits, and 64 segments from one whose number is a multiple of 64 have their bits in one word.
use Rattle.std.proofs.Common.{sym, subst, ◌∙◌}
use Rattle.shared_texts.specs.Segments.{Joined, Remembers}
use Rattle.shared_texts.proofs.SegmentLaws.{full_word, word_joined}
use Rattle.shared_texts.proofs.Segments.word_joins.Goals as goal

pub returns-in-Some-eq18446744073709551615 : goal.returns-in-Some-eq18446744073709551615
returns-in-Some-eq18446744073709551615 c =
    let s = c.args.self.now.texts in
    let some = c.in-Some-eq18446744073709551615 in
    let right : Remembers s c.self.inside.known.now = rw (← c.self.view_is) c.self.invariant.1 in
    let greatest = sym (some.ensures.lookup.3.1 0) ∙ some.field-0-test in
    let joined = word_joined s _ right c.args.g c.args.x c.requires.0 (full_word _ _ c.if-g-eq0.true greatest) in
    λ e. subst (Joined s c.args.x) (sym c.requires.1) joined
