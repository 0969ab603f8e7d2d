-- "A table is accepted for a file exactly when it holds that file's entries, each once, in that order, and nothing more" (02, P2), said by order and
-- membership and not by a sort. That the check accepts just these is proved in proofs/Promises.
use Rattle.std.specs.Prelude.{◌≡◌, ℕ, ◌*◌, length}
use mathlib.Core.List.{List, Memᴰ}
use Rattle.blorb.specs.Format.{Entry}
use Rattle.blorb.specs.Verdict.{accept}
use Rattle.blorb.specs.Rules.{profile_verdict}
use Rattle.reader.specs.Reading.{index_of}
use Rattle.rows.specs.Order.{Rising}

-- the same entries: each of one list is in the other, and the other way round
abbrev pub SameEntries : List Entry → List Entry → Type 0
SameEntries xs ys = ((x : Entry) → Memᴰ x xs → Memᴰ x ys) × ((x : Entry) → Memᴰ x ys → Memᴰ x xs)

-- the rows of a slice of size numbers are the table of the file f, which the profile accepts. Rows that rise hold no row twice, so "each once" is in it.
pub record TableOf (profile : ℕ) (f : List ℕ) (rows : List Entry) (size : ℕ) : Type 0 where
  pub accepts : profile_verdict profile f ≡ accept
  -- "that file's entries"
  pub entries : SameEntries rows (index_of f)
  -- "each once, in that order": each row stands before all that follow it
  pub rises : Rising rows
  -- "and nothing more": no number besides these rows
  pub whole : size ≡ 3 * length rows
