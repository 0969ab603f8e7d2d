-- The type and length read at the chunk's start are those of the chunk that the file has there, and so are the bytes behind them.
use Prim.Native.Nat.{ℕ, ◌+◌, ◌-◌}
use mathlib.Core.Path.{◌≡◌, sym, ap, ◌∙◌}
use mathlib.Core.List.{List}
use native.Mathlib.Omega.{arith}
use lib.ListN.{take, drop}
use lib.Seq.{drop-drop}
use Rattle.blorb.specs.Bytes.{rd32}
use Rattle.blorb.specs.Format.{Chunk, chunk_in, chunk_of}
use Rattle.blorb.specs.Rules.{allows}
use Rattle.undoing.proofs.chunk_allowed.Goals as goal

chunk_read : (s : List ℕ) (at k m : ℕ) → k ≡ rd32 (drop at s) → m ≡ rd32 (drop (at + 4) s)
    → chunk_of k (take (at + 8 + m - (at + 8)) (drop (at + 8) s)) ≡ chunk_in (drop at s)
unfolding chunk_in
chunk_read s at k m ek em =
    let e : at + 8 + m - (at + 8) ≡ rd32 (drop 4 (drop at s)) = omega arith ∙ em ∙ ap rd32 (sym (drop-drop 4 at s)) in
    λ i. record { type = ek i; body = take (e i) (sym (drop-drop 8 at s) i) }

pub returns : goal.returns
returns c =
    let a = c.args in
    c.type_allowed.ensures ∙ ap (λ (z : Chunk). allows a.profile a.usage z) (chunk_read a.s.now a.at _ _
    c.be32_at-kind.ensures.0 c.be32_at-m.ensures.0)
