use native.Mathlib.Omega.{arith}
use Prim.Native.Nat.{ℕ, ◌≤◌}
use mathlib.Core.Path.{◌≡◌, refl, sym, ap, ◌∙◌}
use mathlib.Core.Bool.{true, ◌&&◌}
use lib.ListN.{drop, length-set}
use Rattle.blorb.specs.Bytes.{rd32}
use Rattle.chunks.specs.Ordinary.{ordinary_type}
use Rattle.index.specs.Entries.{place, slot_of}
use Rattle.reader.specs.Straight.{ChunkAt, Stands}
use Rattle.index.proofs.EntryLaws.{topped, below_next}
use Rattle.reader.proofs.StraightLaws.{came_none, came_then, came_end, good_ordinary, sofar_none, sofar_next, sofar_end}
use Rattle.reader.proofs.straight.side_by_side.Goals as goal
use Rattle.reader.proofs.straight.side_by_side.Goals.{In_ok-behind}

-- the walk has come to the entry's chunk, and over it if its type is an ordinary one
arrived : (c : In_ok-behind) →
    let a = c.args in
    let l = c.loop-j in
    let start = c.be32_at-start.result in
    let base : ℕ = place a.count in
    (ChunkAt a.s.now base start
    × (ordinary_type (rd32 (drop start a.s.now)) ≡ true → Stands a.s.now base start c.in_ok-behind.behind
    (l.ordinary && c.in_ok-behind.also)))
    × ((start ≡ l.found → ⊥) → l.at ≤ start)
arrived c =
    let a = c.args in
    let l = c.loop-j in
    let r = c.in_ok-behind.ensures (place a.count) l.ordinary l.invariant.2 in
    (r.0 c.be32_at-start.ensures.1, r.1)

pub loop-j-init : goal.loop-j-init
loop-j-init c = (
  omega arith,
  refl,
  record { came = came_none _ _; chunk = λ l. absurd (omega arith) },
  (λ i h. absurd
      (omega arith)),
  (λ w. sofar_none _ _ _ _ _ (λ l. omega arith)),
  λ l. absurd (omega arith),
)

pub suits_like-requires : goal.suits_like-requires
suits_like-requires c =
    let t = (arrived (goal.at.suits_like-requires c).In_ok-behind).0.0 in (
      omega (arith, c.requires.1),
      t.inside,
      t.good,
      sym
          c.be32_at-start.ensures.0,
      c.loop-j.invariant.5,
    )

pub new_pair-requires : goal.new_pair-requires
new_pair-requires c =
    let l = c.loop-j in
    let q = c.slot-k.ensures.0 ∙ ap slot_of c.be32_at.ensures.0 in (
      omega (arith, c.requires.0),
      omega (arith, c.requires.1),
      sym c.be32_at-number.ensures.0,
      c.be32_at-number.ensures.1,
      topped c.args.s.now l.tops l.j c.slot-k.result l.invariant.3 q,
    )

pub loop-j-preserved : goal.loop-j-preserved
loop-j-preserved c =
    let a = c.args in
    let s = a.s.now in
    let base : ℕ = place a.count in
    let l = c.loop-j in
    let b = c.be32_at-start in
    let st = arrived (goal.at.loop-j-preserved c).In_ok-behind in
    let fit = c.in_ok-usage.ensures in
    let good = fit.0 refl base (rw b.ensures.0 at st.0.0.begins) in
    let stands = st.0.1 (good_ordinary _ s base _ _ (sym b.ensures.0) good) in
    let pair = c.in_ok-tops.ensures in
    let slot = c.slot-k in
    let q = slot.ensures.0 ∙ ap slot_of c.be32_at.ensures.0 in (
      omega arith,
      simp length-set l.invariant.1,
      stands,
      below_next s l.tops l.j _ _ l.invariant.3 q (omega (arith, slot.ensures.1, l.invariant.1)) (omega
          (arith, c.be32_at-number.ensures.0, pair.1)) pair.2,
      (λ w. sofar_next _ s base a.count l.j _ _ b.result _ w
          c.loop-j-test.true good (pair.0 base) (sym b.ensures.0)
          b.ensures.1 st.1 (stands.chunk b.ensures.1).1 (l.invariant.4 w)),
      fit.1,
    )

pub returns : goal.returns
returns c =
    let a = c.args in
    let l = c.loop-j in
    let e = came_end _ _ _ _ c.if-rest-s.false (came_then _ _ _ _ _ _ l.invariant.2.came c.pass_over-rest.ensures) in
    (refl, e.0, e.1, e.2, sofar_end _ a.s.now (place a.count) a.count l.j _ _ e.0 (omega (arith, l.invariant.0)) (l.invariant.4 e.0))
