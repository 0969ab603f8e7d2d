-- A bit that is set is right, and one is set where the segment was walked and joins the next.
use Rattle.std.proofs.Common.{◌≡◌, ℕ, ◌+◌, ◌*◌, ◌/◌, ◌<◌, ◌≤◌, sym, subst, ◌∙◌, refl, length, arith}
use lib.ListN.{length-set}
use borrow.Author.Tests.{eqb-true}
use Rattle.shared_texts.specs.Segments.{Joined, segment_size, Remembers}
use Rattle.shared_texts.proofs.SegmentLaws.{segments_few, remembers_more, set-joins}
use Rattle.shared_texts.proofs.Segments.segment_joins.Goals as goal

pub returns-then-is_set : goal.returns-then-is_set
returns-then-is_set c =
    let s = c.args.self.now.texts in
    let right : Remembers s c.self.inside.known.now = rw (← c.self.view_is) c.self.invariant.1 in
    let bit = eqb-true _ _ (sym c.is_set.ensures ∙ c.if-is_set.true) in
    let joined = set-joins s _ right c.args.g c.args.x c.requires.0 bit in
    (λ e. subst (Joined s c.args.x) (sym c.requires.1) joined, refl)

pub invariant_of-self : goal.invariant_of-self
invariant_of-self c =
    let i = c.self.inside in
    let s = i.texts.now in
    let start : c.args.x ≡ c.args.g * segment_size s = rw (← c.self.view_is) at c.requires.0 in
    let stop : c.args.stop ≡ c.args.x + segment_size s = rw (← c.self.view_is) at c.requires.1 in
    let end : c.args.stop ≤ length s = rw (← c.self.view_is) at c.requires.2 in
    let few = segments_few s c.args.g c.args.x start (omega arith) in
    let place : c.args.g / 64 < length i.known.now = omega (arith, c.self.invariant.0) in
    let joined = c.joins.ensures c.if-not-joins.false in
    let here_ = subst (λ (z : ℕ). Joined s z (z + segment_size s)) start (subst (Joined s c.args.x) stop joined) in
    (length-set i.known.now _ _ ∙ c.self.invariant.0, remembers_more s i.known.now c.self.invariant.1 c.args.g _ place c.with_bit.ensures here_)
