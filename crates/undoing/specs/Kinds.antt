-- A record's kind (01, The undo journal: 1 added, 2 replaced, 3 removed, 4 removed entry only; 02, P8: 5 linked).
use Rattle.std.specs.Prelude.{◌≡◌, ℕ, ◌≤◌, ◌<◌, Result, MatchResult}
use Rattle.edits.specs.Journal.{by_kind}
use Rattle.undoing.specs.declared.journal.Kind.{Kind}
use Rattle.undoing.specs.declared.journal.Kind.TheVariants.{Added, Replaced, Removed, Unlisted, Linked}
use Rattle.undoing.specs.declared.journal.UnknownKind.{UnknownKind}

-- its number
abbrev pub number_of : Kind → ℕ
number_of Added = 1
number_of Replaced = 2
number_of Removed = 3
number_of Unlisted = 4
number_of Linked = 5

-- the kind of a number from 1 to 5
abbrev pub kind_of : ℕ → Kind
kind_of n = by_kind n Added Replaced Removed Unlisted Linked

-- the answer is the kind with this number, or the number is none of the five
abbrev pub Names : ℕ → Result Kind UnknownKind → Type 0
Names n r = MatchResult r (λ k. number_of k ≡ n) (λ e. 1 ≤ n → 5 < n)
