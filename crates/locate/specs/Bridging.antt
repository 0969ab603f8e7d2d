-- What the search for a chunk of a type hands on, and what is asked of a file that is not judged again.
use Rattle.std.specs.Prelude.{ℕ, ◌<◌, ◌≡◌, List, length, drop}
use Rattle.blorb.specs.Bytes.{rd32}
use Rattle.blorb.specs.Verdict.{accept}
use Rattle.blorb.specs.Rules.{profile_verdict}
use Rattle.chunks.specs.Walk.{chunks_from, walk_from}
use Rattle.locate.specs.Located.{of_type}

-- from `from` on a chunk of type t stands first at x
pub record First (f : List ℕ) (t from x : ℕ) : Type 0 where
  pub inside : x < length f
  pub walks : walk_from f x ≡ accept
  pub same : of_type t x (chunks_from f x) ≡ of_type t from (chunks_from f from)
  pub type : rd32 (drop x f) ≡ t

-- some profile accepts the file
abbrev pub AcceptedBy : List ℕ → Type 0
AcceptedBy f = (profile : ℕ) × (profile_verdict profile f ≡ accept)
