use mathlib.Core.Path.{sym, ◌∙◌}
use Rattle.chunks.proofs.ChunkLaws.{walk-chunk}
use Rattle.chunks.proofs.StartLaws.{begun}
use Rattle.index.proofs.EntryLaws.{unstarted, by_12, by_14, by_15, by_good}
use Rattle.index.proofs.entries.judge.Goals as goal

pub returns-then-not-begins_behind : goal.returns-then-not-begins_behind
returns-then-not-begins_behind c = c.unstarted.ensures ∙ unstarted _ _ _ _ (rw c.be32_at-start.ensures.0 at
    (sym c.begins_behind.ensures ∙ c.if-not-begins_behind.true))

pub returns-in_default : goal.returns-in_default
returns-in_default c = by_12 _ _ _ _ _ 0 c.be32_at-code.ensures.0 (sym c.of_code.ensures ∙ c.in_default.is)

pub typed-requires : goal.typed-requires
typed-requires c = let b = begun _ _ _ c.requires.1
    (sym c.begins_behind.ensures
    ∙ c.if-not-begins_behind.false) in
    (b.below, (walk-chunk _ _ b.below b.walks).0)

pub returns-then-not-typed : goal.returns-then-not-typed
returns-then-not-typed c = by_14 _ _ _ _ _ _ c.be32_at-code.ensures.0 _
    (sym c.of_code.ensures ∙ c.in-Some.is)
    c.be32_at-start.ensures.0
    (sym c.begins_behind.ensures
    ∙ c.if-not-begins_behind.false) (sym c.typed.ensures ∙ c.if-not-typed.true)

pub returns-then-not-numbered : goal.returns-then-not-numbered
returns-then-not-numbered c = by_15 _ _ _ _ _ _ c.be32_at-code.ensures.0 _
    (sym c.of_code.ensures
    ∙ c.in-Some.is)
    c.be32_at-start.ensures.0
    (sym c.begins_behind.ensures
    ∙ c.if-not-begins_behind.false) (sym c.typed.ensures
    ∙ c.if-not-typed.false) _ c.be32_at.ensures.0
    (sym c.numbered.ensures ∙ c.if-not-numbered.true)

pub returns : goal.returns
returns c = by_good _ _ _ _ _ _ c.be32_at-code.ensures.0 _
    (sym c.of_code.ensures
    ∙ c.in-Some.is)
    c.be32_at-start.ensures.0
    (sym c.begins_behind.ensures
    ∙ c.if-not-begins_behind.false) (sym c.typed.ensures
    ∙ c.if-not-typed.false) _ c.be32_at.ensures.0
    (sym c.numbered.ensures ∙ c.if-not-numbered.false)
