-- The library's answer as numbers, with the pair that was asked for.
use Rattle.std.proofs.Common.{◌≡◌, ℕ, sym, ap, ◌∙◌, arith}
use Rattle.std.specs.Prelude.{Ok}
use Rattle.blorb.specs.Bytes.{rd32}
use Rattle.capi.specs.TextNumbers.{told_numbers}
use Rattle.capi.proofs.texts.blorb_text_of.Goals as goal

pub returns-in-Ok : goal.returns-in-Ok
unfolding rd32
returns-in-Ok c =
    let a = c.args in
    let usage : c.from_be_bytes.result ≡ rd32 a.usage.now = omega (arith, c.from_be_bytes.ensures) in
    ap (λ (u : ℕ). told_numbers u a.number (Ok c.in-Ok.text)) usage ∙ ap (told_numbers (rd32 a.usage.now) a.number) (sym c.in-Ok.is ∙ c.tell.ensures)
