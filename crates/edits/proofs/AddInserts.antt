-- An add is an entry and a chunk that go in at the ends: no entry stands on a chunk behind the last, so none is raised.
use mathlib.Core.Path.{◌≡◌, refl, ap, ◌∙◌}
use Prim.Native.Nat.{ℕ, suc}
use mathlib.Core.List.{List, [], ◌∷◌, ◌++◌, map}
use mathlib.Core.Bool.{false, cond}
use lib.ListN.{length}
use lib.Seq.{take-length, drop-length}
use lib.Dec.{leb}
use borrow.Author.Tests.{lt-leb}
use Rattle.blorb.specs.Format.{Ref, Chunk}
use Rattle.blorb.specs.Model.{Model}
use Rattle.blorb.specs.All.{All}
use Rattle.blorb.specs.Sound.{RefOk, Sound}
use Rattle.edits.specs.Edit.{with_at, raise, added, inserted}

with_last : {A : Type 0} (l : List A) (x : A) → with_at (length l) x l ≡ l ++ (x ∷ [])
unfolding with_at
with_last l x = rw (take-length l, drop-length l)

raise-none : (k : ℕ) (rs : List Ref) → All (RefOk k) rs → map (raise k) rs ≡ rs
unfolding raise
raise-none k [] ok = refl
raise-none k (r ∷ rs) ok =
    let e : leb k r.chunk ≡ false = lt-leb k r.chunk ok.0.chunk_there in
    λ i. record { usage = r.usage; number = r.number; chunk = cond (e i) (suc r.chunk) r.chunk } ∷ raise-none k rs ok.1 i

pub added-inserted : (m : Model) (u n : ℕ) (c : Chunk) → Sound m → inserted m (length m.refs) (length m.chunks) u n c ≡ added m u n c
unfolding inserted added
added-inserted m u n c s =
    let x : Ref = record { usage = u; number = n; chunk = length m.chunks } in
    let rs : with_at (length m.refs) x (map (raise (length m.chunks)) m.refs) ≡ m.refs ++ (x ∷ [])
    = ap (with_at (length m.refs) x) (raise-none (length m.chunks) m.refs s.refs_ok) ∙ with_last m.refs x in
    λ i. record { refs = rs i; chunks = with_last m.chunks c i }
