-- The entry found is the first with the pair, so its start is the definition's.
use mathlib.Core.Path.{◌≡◌, refl, sym, ◌∙◌}
use native.Mathlib.Omega.{arith}
use Prim.Native.Nat.{◌<◌}
use lib.ListN.{drop}
use Rattle.blorb.specs.Format.{entries_in}
use Rattle.index.specs.Entries.{pair_place}
use Rattle.index.proofs.IndexLaws.{find_at, find_none, place_some, place_none_at}
use Rattle.index.proofs.entries.find.Goals as goal
use Rattle.index.proofs.entries.find.Goals.{In_ok-i}

found : (c : In_ok-i) → let a = c.args in
    (c.in_ok-i.i ≡ pair_place a.code a.number (entries_in a.count (drop 24 a.s.now))) × (c.in_ok-i.i < a.count)
found c = let a = c.args in place_some a.s.now a.code a.number a.count c.in_ok-i.i (sym c.in_ok-i.ensures)

pub returns-in_err-i : goal.returns-in_err-i
returns-in_err-i c =
    let a = c.args in
    c.from_residual.ensures ∙ find_none a.s.now a.code a.number a.count _ refl (place_none_at a.s.now a.code a.number a.count (sym c.in_err-i.ensures))

pub overflow_mul-i : goal.overflow_mul-i
overflow_mul-i c = omega (arith, (found (goal.at.overflow_mul-i c).In_ok-i).1)

pub overflow_add-i : goal.overflow_add-i
overflow_add-i c = omega (arith, (found (goal.at.overflow_add-i c).In_ok-i).1)

pub be32_at-requires : goal.be32_at-requires
be32_at-requires c = omega (arith, (found (goal.at.be32_at-requires c).In_ok-i).1)

pub returns : goal.returns
returns c =
    let f = found (goal.at.returns c).In_ok-i in
    find_at _ _ _ _ _ f.0 f.1 _ c.be32_at.ensures.0

pub overflow_add-i-2 : goal.overflow_add-i-2
overflow_add-i-2 c = omega (arith, (found (goal.at.overflow_add-i-2 c).In_ok-i).1)
