-- Each turn asks one entry; the place found is that of the definition, or there is none.
use borrow.Author.Rules.{rules}
use native.Mathlib.Omega.{arith}
use mathlib.Core.Path.{◌≡◌, sym, ap, ◌∙◌}
use Prim.Native.Nat.{ℕ, ◌+◌, ◌-◌}
use lib.ListN.{drop}
use Rattle.blorb.specs.Format.{entries_in}
use Rattle.index.specs.Entries.{place, pair_place}
use Rattle.index.proofs.IndexLaws.{place_hit, place-next, place_end, in_place, no_place}
use Rattle.index.proofs.entries.find_place.Goals as goal

pub loop-i-init : goal.loop-i-init
loop-i-init c =
    let a = c.args in
    let z : a.count - 0 ≡ a.count = omega arith in
    (search rules, ap (λ (k : ℕ). 0 + pair_place a.code a.number (entries_in k (drop 24 a.s.now))) z ∙ omega arith)

pub returns-then-be32_at-code : goal.returns-then-be32_at-code
returns-then-be32_at-code c =
    in_place c.args.s.now c.args.code c.args.number c.args.count c.loop-i.i (place_hit _ _ _ _ _ _ _ c.loop-i-test.true c.be32_at.ensures.0 c.be32_at-in-loop-i.ensures.0
    c.if-be32_at-code.true ∙ c.loop-i.invariant.1) c.loop-i-test.true

pub loop-i-preserved : goal.loop-i-preserved
loop-i-preserved c = (
  omega arith,
  place-next _ _ _ _ _ _ _ c.loop-i-test.true c.be32_at.ensures.0
      c.be32_at-in-loop-i.ensures.0 c.if-be32_at-code.false ∙ c.loop-i.invariant.1,
)

pub returns : goal.returns
returns c =
    let a = c.args in
    let l = c.loop-i in
    let z : a.count - l.i ≡ 0 = omega arith in
    let e : l.i ≡ a.count = omega arith in
    no_place a.s.now a.code a.number a.count a.count
    (sym e ∙ sym (ap (λ (k : ℕ). l.i + pair_place a.code a.number (entries_in k (drop (place l.i) a.s.now))) z ∙ place_end a.s.now a.code a.number l.i)
    ∙ l.invariant.1) (omega arith)
