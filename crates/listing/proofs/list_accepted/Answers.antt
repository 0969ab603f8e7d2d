-- Each line is at most 48 bytes and the head at most 64, so where there is room for that the lines are written one behind the other.
use Rattle.std.proofs.Common.{rules}
use native.Mathlib.Omega.{arith}
use Prim.Native.Nat.{◌+◌, ◌*◌}
use mathlib.Core.List.{◌++◌}
use Rattle.reader.specs.Reading.{index_of}
use Rattle.reader.proofs.Promises.{accepted_is}
use Rattle.listing.specs.Listing.{head_line, lines_of}
use Rattle.listing.proofs.WriteLaws.{more}
use Rattle.listing.proofs.ListLaws.{size_known, no_room, written}
use Rattle.listing.proofs.list_accepted.Goals as goal

pub overflow_mul-accepted : goal.overflow_mul-accepted
overflow_mul-accepted c = omega (arith, (accepted_is 0 c.args.file.now _ _ c.requires).4)

pub overflow_add-accepted : goal.overflow_add-accepted
overflow_add-accepted c = omega (arith, (accepted_is 0 c.args.file.now _ _ c.requires).4)

pub returns-then-out-accepted : goal.returns-then-out-accepted
returns-then-out-accepted c =
    let a = c.args in
    let f = a.file.now in
    no_room a.out.now (64 + 48 * a.accepted.count) (head_line a.accepted.length a.accepted.count ++ lines_of f (index_of f)) c.if-out-accepted.true

pub entries-requires : goal.entries-requires
entries-requires c =
    let a = c.args in (
      size_known a.file.now a.accepted.length a.accepted.count c.requires,
      omega arith,
    )

pub returns : goal.returns
returns c =
    let a = c.args in
    let f = a.file.now in
    let head = head_line a.accepted.length a.accepted.count in
    let lines = lines_of f (index_of f) in
    written a.out.now (64 + 48 * a.accepted.count) (head ++ lines) _ _ _ (search rules) c.if-out-accepted.false
    (omega arith)
    (more a.out.now 0 head _ _ c.head.ensures.0.0 lines _ _ c.entries.ensures.0.0)
