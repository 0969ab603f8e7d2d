-- A refusal's line is at most 64 bytes.
use Rattle.std.proofs.Common.{rules}
use mathlib.Core.Path.{◌≡◌, ap}
use Prim.Native.Nat.{ℕ}
use Rattle.listing.specs.Listing.{refused_line}
use Rattle.listing.proofs.ListLaws.{no_room, written}
use Rattle.listing.proofs.list_refused.Goals as goal

pub returns-then-out-lt64 : goal.returns-then-out-lt64
returns-then-out-lt64 c = let a = c.args in no_room a.out.now 64 (refused_line a.r.0 a.r.1) c.if-out-lt64.true

pub returns : goal.returns
returns c =
    let place : c.r.inside.place ≡ c.args.r.1 = ap (λ (v : ℕ × ℕ). v.1) c.r.view_is in
    rw (← c.number.ensures, ← place)
    (written c.args.out.now 64 (refused_line c.number.result c.r.inside.place) _ _ _ (search rules) c.if-out-lt64.false c.refusal.ensures.1
    c.refusal.ensures.0.0)
