-- The iterator gives the rows of the chunk, and the place of the first that passes is that of the picture's row.
use borrow.Author.Rules.{rules}
use borrow.Author.Tests.{tests}
use mathlib.Core.Path.{◌≡◌}
use lib.ListN.{length}
use Rattle.std.specs.List.{position}
use Rattle.std.proofs.lemmas.Iterator.Search.{position_from_yields_List}
use Rattle.reso.specs.Reso.{count_of}
use Rattle.reso.proofs.RowLaws.{row_bytes, Of, rows_yielded, place_none, place-at}
use Rattle.reso.proofs.Reso.find_row.Goals as goal
use Rattle.reso.proofs.Reso.find_row.Goals.{After-position}

found : (c : After-position) → let d = c.args.self.now.bytes.now in c.position.result ≡ position (Of d c.args.picture) (row_bytes d (count_of (length d)) 24)
found c =
    let d = c.args.self.now.bytes.now in
    position_from_yields_List (Of d c.args.picture) _ _ c.position.result c.position.ensures.ran
    (rows_yielded d _ c.chunks_exact.ensures.rest c.chunks_exact.ensures.size) (λ x b q k. search (rules, tests))

pub returns-in_err-i : goal.returns-in_err-i
returns-in_err-i c = rw c.from_residual.ensures (place_none _ _ _ _ (found (goal.at.returns-in_err-i c).After-position) (c.in_err-i.was))

pub returns : goal.returns
returns c = place-at _ _ _ _ (found (goal.at.returns c).After-position) _ c.in_ok-i.was
