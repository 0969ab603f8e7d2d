-- Entry by entry: what is left of the verdict is what was left before, as the entry is good, its pair new and its start no lower. A pair is new at once where
-- its number is no less than the top of its usage; else all earlier entries are looked at.
use Prim.Native.Nat.{◌-◌, ◌≤◌}
use mathlib.Core.Path.{◌≡◌}
use mathlib.Core.Bool.{false}
use lib.ListN.{length}
use Rattle.chunks.specs.Walk.{walk_from, Reached}
use Rattle.blorb.specs.Refusals.{verdict_of}
use Rattle.blorb.specs.Verdict.{accept, pair_in}
use Rattle.index.specs.Entries.{usage_at, number_at, place, earlier, entries_from, Before, Below}
use Rattle.index.proofs.entries.entries.Given as goal

abbrev pub invariant-loop-i : goal.invariant-loop-i
invariant-loop-i l = (l.i ≤ l.j) × (verdict_of l.answer ≡ accept)
    × (pair_in (usage_at l.s (place l.j)) (number_at l.s (place l.j)) (earlier l.s l.base l.i) ≡ false)

abbrev pub invariant-entries : goal.invariant-entries
invariant-entries l = (l.j ≤ l.count) × (verdict_of l.answer ≡ accept) × (length l.tops ≡ 8)
    × (walk_from l.s l.found ≡ accept) × Reached l.s l.base l.found × (entries_from l.profile l.s l.base l.j (l.count - l.j) ≡ entries_from l.profile l.s l.base 0 l.count) × Below l.s l.tops l.j
    × Before l.s l.base l.j l.found
