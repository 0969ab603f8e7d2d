-- What an edit needs to be made.
use mathlib.Core.Path.{◌≡◌}
use Prim.Native.Nat.{◌<◌}
use mathlib.Core.Bool.{false}
use lib.ListN.{length}
use Rattle.blorb.specs.Model.{Model}
use Rattle.edits.specs.Edit.{Edit, add, replace, remove, link}
use Rattle.blorb.specs.Queries.{find, shared}

-- neither 22 nor 23 applies
abbrev pub Applies : Model → Edit → Type 0
Applies m (add u n t d) = Unit {0}
Applies m (replace u n t d) = (find u n m.refs < length m.refs) × (shared m (find u n m.refs) ≡ false)
Applies m (remove u n) = find u n m.refs < length m.refs
Applies m (link v o u n) = find v o m.refs < length m.refs
