-- The place found is that of the pair, or the pair is not there.
use mathlib.Core.Path.{refl, sym, ◌∙◌}
use Rattle.index.proofs.IndexLaws.{place_some, place_none_at}
use Rattle.reader.proofs.PartLaws.{target-there, target_none}
use Rattle.reader.proofs.parts.target.Goals as goal

pub returns-in_err-i : goal.returns-in_err-i
returns-in_err-i c =
    let a = c.args in
    c.from_residual.ensures ∙ target_none a.s.now a.count a.code a.number _ refl (place_none_at a.s.now a.code a.number a.count (sym c.in_err-i.ensures))

pub piece-requires : goal.piece-requires
piece-requires c = let a = c.args in (c.requires, (place_some a.s.now a.code a.number a.count _ (sym c.in_ok-i.ensures)).1)

pub returns : goal.returns
returns c =
    let a = c.args in
    let f = place_some a.s.now a.code a.number a.count _ (sym c.in_ok-i.ensures) in
    target-there a.s.now _ _ _ _ f.0 f.1 _ c.piece.ensures
