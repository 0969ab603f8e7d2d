-- The numbers of a good row and of a good window have 16 bits, as the caller's sides have: so the ratio is the definition's.
use native.Mathlib.Omega.{arith}
use Rattle.scaling.proofs.SideLaws.{fitting, ratio_ready}
use Rattle.scaling.proofs.row_ratio.Goals as goal

pub overflow_cast-across : goal.overflow_cast-across
overflow_cast-across c = omega (arith, (fitting _ c.requires.3).across)

pub overflow_cast-down : goal.overflow_cast-down
overflow_cast-down c = omega (arith, (fitting _ c.requires.3).down)

pub in_window-requires : goal.in_window-requires
in_window-requires c =
    let p = c.requires in
    let g = c.args in
    ratio_ready _ g.a g.at _ c.ratios_at.result c.fraction_at-window.ensures c.ratios_at.ensures.standard p.1 p.2 p.3
