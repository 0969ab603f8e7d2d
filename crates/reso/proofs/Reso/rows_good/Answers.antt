-- The iterator gives the rows of the chunk, and each is judged by itself.
use borrow.Author.Rules.{rules}
use borrow.Author.Tests.{tests}
use Prim.Native.Nat.{ℕ}
use mathlib.Core.Path.{◌∙◌}
use mathlib.Core.List.{List}
use lib.ListN.{length}
use Rattle.std.proofs.lemmas.Iterator.Search.{all_from_yields_List}
use Rattle.reso.specs.Reso.{count_of, row_at, row_good_of}
use Rattle.reso.proofs.RowLaws.{rows_yielded, all_good}
use Rattle.reso.proofs.Reso.rows_good.Goals as goal

pub returns : goal.returns
returns c =
    let d = c.args.self.now.bytes.now in
    all_from_yields_List (λ (b : List ℕ). row_good_of (row_at b 0)) _ _ _ c.all.ensures.ran
    (rows_yielded d _ c.chunks_exact.ensures.rest c.chunks_exact.ensures.size) (λ x b q k. search (rules, tests))
    ∙ all_good d (count_of (length d)) 24
