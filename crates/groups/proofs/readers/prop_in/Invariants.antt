-- The walk over a PROP's chunks keeps the verdict: each chunk without a fault leaves it to the chunks behind.
use Prim.Native.Nat.{◌+◌, ◌-◌}
use mathlib.Core.Path.{◌≡◌}
use Rattle.members.specs.declared.Place.TheVariants.{InProp}
use Rattle.groups.specs.Events.{members}
use Rattle.groups.specs.Files.{first_fault}
use Rattle.groups.proofs.readers.prop_in.Given as goal

abbrev pub invariant-loop-spot : goal.invariant-loop-spot
invariant-loop-spot l =
    (l.spot.file ≡ l.prop.file) × (l.spot.place ≡ InProp) × (l.spot.depth ≡ l.prop.depth + 1) × (l.spot.end ≡ l.close)
    × (first_fault (members l.spot.file.now InProp l.spot.depth l.spot.end l.spot.at)
    ≡ first_fault (members l.prop.file.now InProp (l.prop.depth + 1) l.close (l.prop.at + 12)))

abbrev pub decreases-loop-spot : goal.decreases-loop-spot
decreases-loop-spot l = l.spot.end - l.spot.at
