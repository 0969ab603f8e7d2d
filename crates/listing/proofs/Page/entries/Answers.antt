-- Each turn writes one line more, the definition of the entry at its place.
use native.Mathlib.Omega.{arith}
use mathlib.Core.Path.{refl, ◌∙◌}
use Rattle.reader.proofs.Promises.{entry_at}
use Rattle.listing.proofs.ListLaws.{lines_none, lines_turn, lines_whole}
use Rattle.listing.proofs.Page.entries.Goals as goal

pub loop-i-init : goal.loop-i-init
loop-i-init c = let a = c.args in ((lines_none a.file.now a.self.now.out.now a.self.now.at, refl, refl), omega arith)

pub entry-requires : goal.entry-requires
entry-requires c =
    let f = c.args.file.now in
    let l = c.loop-i in
    let e = entry_at 0 f _ _ l.i c.requires.0 c.loop-i-test.true in
    (e.inside, e.chunk, omega arith)

pub loop-i-preserved : goal.loop-i-preserved
loop-i-preserved c =
    let a = c.args in
    let l = c.loop-i in (
      (
        lines_turn a.file.now _ _ c.requires.0 a.self.now.out.now _ _ a.self.now.at l.i _ _ c.loop-i-test.true l.invariant.0.0 c.entry.ensures.0.0,
        c.entry.ensures.0.1 ∙ l.invariant.0.1,
        c.entry.ensures.0.2 ∙ l.invariant.0.2,
      ),
      omega arith,
    )

pub returns : goal.returns
returns c =
    let a = c.args in
    let l = c.loop-i in (
      (lines_whole a.file.now _ _ c.requires.0 a.self.now.out.now _ a.self.now.at l.i _ c.loop-i-test.false l.invariant.0.0, l.invariant.0.1, l.invariant.0.2),
      omega arith,
    )
