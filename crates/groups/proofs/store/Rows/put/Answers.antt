-- Four numbers in a row of the slice, where it has that row; else the slice stays.
use native.Mathlib.Omega.{arith}
use Prim.Native.Nat.{◌+◌, ◌*◌, ◌-◌, ◌<◌, ◌≤◌}
use lib.ListN.{length}
use Rattle.groups.proofs.StoreLaws.{store-before, store-past, store_put}
use Rattle.groups.proofs.store.Rows.put.Goals as goal

pub returns-then-row-self-clause-stored : goal.returns-then-row-self-clause-stored
returns-then-row-self-clause-stored c = store-before _ _ _ _ _ _ _ c.if-row-self.true

pub returns-then-self-i-clause-stored : goal.returns-then-self-i-clause-stored
returns-then-self-i-clause-stored c =
    let a = c.args.self.now in
    let h : length a.slice.now < 4 * (a.count - a.base) + 4 = omega (arith, c.if-self-i.true) in
    store-past _ _ _ _ _ _ _ c.if-row-self.false h

pub returns-clause-stored : goal.returns-clause-stored
returns-clause-stored c =
    let a = c.args.self.now in
    let h : 4 * (a.count - a.base) + 4 ≤ length a.slice.now = omega (arith, c.if-self-i.false) in
    store_put _ _ _ _ _ _ _ c.if-row-self.false _ _ (omega arith) c.copy_from_slice.ensures.after h
