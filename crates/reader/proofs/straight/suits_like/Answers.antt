-- An entry like the remembered one suits; of any other it is asked, and it is remembered where every one like it suits too.
use native.Mathlib.Omega.{arith}
use mathlib.Core.Path.{sym, ◌∙◌}
use Rattle.chunks.proofs.ChunkLaws.{whole}
use Rattle.reader.proofs.StraightLaws.{suits-again, suits_lasting}
use Rattle.reader.proofs.straight.suits_like.Goals as goal

pub be32_at-own_kind-requires : goal.be32_at-own_kind-requires
be32_at-own_kind-requires c = omega (arith, (whole _ _ c.requires.1 c.requires.2).header)

pub returns-then-own_usage-usage : goal.returns-then-own_usage-usage
returns-then-own_usage-usage c =
    let m = c.requires in (
      suits-again _ _ _ _ _ _ c.be32_at-own_usage.ensures.0 c.be32_at-own_kind.ensures.0 m.3 _ _
          c.be32_at-own_usage.ensures.1 c.if-own_usage-usage.true m.4,
      m.4,
    )

pub returns-then-lasts : goal.returns-then-lasts
returns-then-lasts c =
    let m = c.requires in
    let asked = c.suits.ensures c.if-not-suits.false in (
      (λ z. asked),
      suits_lasting _ _ _ _ _ _ c.be32_at-own_usage.ensures.0
          c.be32_at-own_kind.ensures.0 m.3 m.1 m.2 (sym c.lasts.ensures ∙ c.if-lasts.true)
          (λ z. asked),
    )

pub returns : goal.returns
returns c = (
  (λ z. c.suits.ensures c.if-not-suits.false),
  c.requires.4,
)
