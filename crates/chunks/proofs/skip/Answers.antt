-- The next chunk begins behind the header, the data and the padding.
use mathlib.Core.Path.{◌≡◌, ap}
use Prim.Native.Nat.{ℕ, ◌+◌, ◌%◌}
use Rattle.chunks.specs.Walk.{skip_at}
use Rattle.chunks.proofs.skip.Goals as goal

pub returns : goal.returns
returns c =
    let a = c.args in
    let m : ℕ = c.be32_at-m.result in
    let next : a.at + (8 + (m + m % 2)) ≡ skip_at a.s.now a.at = ap (λ (z : ℕ). a.at + (8 + (z + z % 2))) c.be32_at-m.ensures.0 in
    next
