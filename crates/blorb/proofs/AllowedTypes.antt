-- Rule 5 allows no 'RIdx' (rule 3), 'RelN' or 'Fspc' (rule 7): with the type put in, each of its tests computes to false.
use mathlib.Core.Path.{◌≡◌, refl, ap, ◌∙◌}
use Prim.Native.Nat.{ℕ}
use mathlib.Core.List.{List}
use mathlib.Core.Bool.{Bool, true, false, and-false}
use lib.Dec.{eqb}
use borrow.Author.Tests.{eqb-true}
use Rattle.blorb.specs.Tags.{RIdx, RelN, Fspc, Pict, Snd, Data, Exec}
use Rattle.blorb.specs.Format.{Chunk, chunk_of}
use Rattle.blorb.specs.Rules.{allows, plain_allows_of, adrift_allows_of, one_of}

never : (profile u : ℕ) (b : List ℕ)
    → (allows profile u (chunk_of RIdx b) ≡ false) × (allows profile u (chunk_of RelN b) ≡ false) × (allows profile u (chunk_of Fspc b) ≡ false)
unfolding allows plain_allows_of adrift_allows_of one_of
never profile u b = (
  rw (and-false (eqb u Pict), and-false (eqb u Snd), and-false (eqb u Data), and-false (eqb u Exec), and-false (eqb profile 1)),
  rw (and-false (eqb u Pict), and-false (eqb u Snd), and-false (eqb u Data), and-false (eqb u Exec), and-false (eqb profile 1)),
  rw (and-false (eqb u Pict), and-false (eqb u Snd), and-false (eqb u Data), and-false (eqb u Exec), and-false (eqb profile 1)),
)

other_type : (profile t u : ℕ) (c : Chunk) → allows profile u (chunk_of t c.body) ≡ false → allows profile u c ≡ true → eqb c.type t ≡ false
other_type profile t u c bad h = go (eqb c.type t) refl
  where
    go : (b : Bool) → eqb c.type t ≡ b → b ≡ false
    go false e = refl
    go true e = let q : allows profile u c ≡ false = ap (λ (z : ℕ). allows profile u (chunk_of z c.body)) (eqb-true c.type t e) ∙ bad in cc

pub allowed_not : (profile u : ℕ) (c : Chunk) → allows profile u c ≡ true
    → (eqb c.type RIdx ≡ false) × (eqb c.type RelN ≡ false) × (eqb c.type Fspc ≡ false)
allowed_not profile u c h =
    let n = never profile u c.body in
    (other_type profile RIdx u c n.0 h, other_type profile RelN u c n.1 h, other_type profile Fspc u c n.2 h)
