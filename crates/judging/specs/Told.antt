-- What the judging of an edit is told of the present file, besides that it was accepted.
use Rattle.std.specs.Prelude.{◌≡◌, ℕ, ◌+◌, ◌*◌, ◌%◌, ◌≤◌, ◌<◌, List, false, length}
use Rattle.blorb.specs.Model.{model}
use Rattle.blorb.specs.Queries.{ref_at, find, start}
use Rattle.edits.specs.GoneSize.{gone_size_of}
use Rattle.reader.specs.declared.Piece.{Piece}
use Rattle.reader.specs.Inspecting.{piece_of}

-- the file f has k entries
pub record Counted (f : List ℕ) (k : ℕ) : Type 0 where
  pub entries : k ≡ length (model f).refs
  pub index : 24 + 12 * k ≤ length f
  pub short : length f ≤ 16777216

-- the entry (u, n) is in the file f, its chunk starts at s, and a bytes of it go with the entry
pub record Listed (f : List ℕ) (u n s a : ℕ) : Type 0 where
  pub found : find u n (model f).refs < length (model f).refs
  pub starts : s ≡ start (model f) (ref_at (model f) (find u n (model f).refs)).chunk
  pub gone : a ≡ gone_size_of (model f) (find u n (model f).refs)
  pub small : a ≤ 16777216

-- the entry (u, n) of the file f has the chunk p, its own
pub record Own (f : List ℕ) (u n : ℕ) (p : Piece) : Type 0 where
  pub found : find u n (model f).refs < length (model f).refs
  pub piece : p ≡ piece_of (model f) (find u n (model f).refs)
  pub alone : p.shared ≡ false
  pub inside : 8 + (p.length + p.length % 2) ≤ length f
  pub short : length f ≤ 16777216
  pub low : p.place ≤ 16777216
