-- What the judging of a link is told of the present file. No public contract cites it.
use Rattle.std.specs.Prelude.{◌≡◌, ℕ, ◌<◌, List}
use Rattle.blorb.specs.Verdict.{accept, verdict}
use Rattle.blorb.specs.Rules.{rules_of}
use Rattle.blorb.specs.Model.{model}
use Rattle.reader.specs.declared.Piece.{Piece}
use Rattle.reader.specs.Inspecting.{piece_of}
use Rattle.judging.specs.Told.{Counted}

-- the file f is accepted, under one of the profiles, and has k entries
pub record Indexed (f : List ℕ) (k : ℕ) : Type 0 where
  pub profile : ℕ
  pub fine : verdict (rules_of profile) f ≡ accept
  pub counted : Counted f k

-- and p is one of them with its chunk, the original of the link
pub record Original (f : List ℕ) (k : ℕ) (p : Piece) : Type 0 where
  pub indexed : Indexed f k
  pub there : p.place < k
  pub piece : p ≡ piece_of (model f) p.place
