-- Between the code and the definitions: the entries that the code reads, and the rows that it compares them with.
use Rattle.std.specs.Prelude.{ℕ, List, drop}
use Rattle.blorb.specs.Format.{Entry, entries_in}
use Rattle.rows.specs.Rows.{rows_by}
use Rattle.rows.specs.declared.Table.{Table}

-- the first n entries of the file f, whose index begins with its count at 20
abbrev pub first_entries : ℕ → List ℕ → List Entry
first_entries n f = entries_in n (drop 24 f)

-- the rows of a table
abbrev pub rows_in : Table → List Entry
rows_in t = rows_by t.numbers.now t.rows t.step t.gap
