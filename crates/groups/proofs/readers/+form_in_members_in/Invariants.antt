-- The two readers' measures, twice the remaining depth, and one more in the FORM reader, which has its members read on its own level. The group reader's
-- loop stays in the same parent and keeps one equation: what is counted and stored so far, scanned on from here, is the scan of all members.
use Prim.Native.Nat.{◌+◌, ◌-◌, ◌*◌, ◌≤◌}
use mathlib.Core.Path.{◌≡◌}
use Rattle.groups.specs.Events.{members}
use Rattle.groups.specs.Scan.{scan}
use Rattle.groups.proofs.readers.+form_in_members_in.Given as goal

abbrev pub decreases-form_in : goal.decreases-form_in
decreases-form_in l = 2 * l.levels + 1

abbrev pub decreases-members_in : goal.decreases-members_in
decreases-members_in l = 2 * l.levels

abbrev pub invariant-members_in-loop-spot : goal.invariant-members_in-loop-spot
invariant-members_in-loop-spot l =
    (l.spot.file ≡ l.holder.file) × (l.spot.depth ≡ l.holder.depth + 1) × (l.spot.end ≡ l.close)
    × (l.rows.slice.ghost_name ≡ l.initial.rows.slice.ghost_name) × (l.rows.base ≡ l.initial.rows.base) × (l.rows.count ≤ l.spot.at)
    × (scan l.rows.base l.rows.count l.rows.slice.now (members l.spot.file.now l.spot.place l.spot.depth l.spot.end l.spot.at)
    ≡ scan l.initial.rows.base l.initial.rows.count l.initial.rows.slice.now
    (members l.holder.file.now l.fn.inside (l.holder.depth + 1) l.close (l.holder.at + 12)))

abbrev pub decreases-members_in-loop-spot : goal.decreases-members_in-loop-spot
decreases-members_in-loop-spot l = l.spot.end - l.spot.at
