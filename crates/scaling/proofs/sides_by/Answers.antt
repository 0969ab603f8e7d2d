-- The row that the search finds is the picture's row in the list, and a good one.
use native.Mathlib.Omega.{arith}
use Rattle.scaling.proofs.SideLaws.{fitting, sides-none, row_room, row_found, row_den, sides-at}
use Rattle.scaling.proofs.sides_by.Goals as goal

pub returns-in_default : goal.returns-in_default
returns-in_default c = let s = c.sides.ensures in rw (s.0, s.1) (sides-none _ c.args.a _ c.find_row.ensures c.in_default.is)

pub row_ratio-r-requires : goal.row_ratio-r-requires
row_ratio-r-requires c =
    let p = c.requires in
    let a = c.args.a in
    let e = c.find_row.ensures in
    let f = row_found _ a _ e _ c.in-Some.is p.0 in
    (row_room _ a _ e _ c.in-Some.is c.args.reso.now.windows, f.0, f.1, p.1)

pub overflow_cast-a : goal.overflow_cast-a
overflow_cast-a c = omega (arith, (fitting _ c.requires.1).width)

pub side-requires : goal.side-requires
side-requires c = row_den _ c.args.a _ c.find_row.ensures _ c.in-Some.is _ c.row_ratio-r.ensures c.requires.0

pub overflow_cast-a-2 : goal.overflow_cast-a-2
overflow_cast-a-2 c = omega (arith, (fitting _ c.requires.1).height)

pub side-requires-2 : goal.side-requires-2
side-requires-2 c = row_den _ c.args.a _ c.find_row.ensures _ c.in-Some.is _ c.row_ratio-r.ensures c.requires.0

pub returns : goal.returns
returns c =
    sides-at _ c.args.a _ c.find_row.ensures _ c.in-Some.is _
    c.row_ratio-r.ensures _ _ c.side.ensures c.side-2.ensures
