-- What is left of the search is a search among the entries that are left.
use mathlib.Core.Path.{◌≡◌}
use Prim.Native.Nat.{◌+◌, ◌-◌, ◌≤◌}
use lib.ListN.{drop}
use Rattle.blorb.specs.Format.{entries_in}
use Rattle.index.specs.Entries.{place, pair_place}
use Rattle.index.proofs.entries.find_place.Given as goal

abbrev pub invariant-loop-i : goal.invariant-loop-i
invariant-loop-i l = (l.i ≤ l.count) × (l.i + pair_place l.code l.number (entries_in (l.count - l.i) (drop (place l.i) l.s)) ≡ pair_place l.code l.number
    (entries_in l.count (drop 24 l.s)))
