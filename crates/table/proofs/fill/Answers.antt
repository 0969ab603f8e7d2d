-- Rows that rise already are the sorted ones; others are after the sort.
use native.Mathlib.Omega.{arith}
use mathlib.Core.Path.{◌≡◌}
use lib.ListN.{length, drop}
use Rattle.blorb.specs.Format.{entries_in}
use Rattle.blorb.proofs.EntryList.{length-entries_in}
use Rattle.table.proofs.FillLaws.{fill-risen, fill-sorted}
use borrow.Author.Rules.{rules}
use Rattle.table.proofs.fill.Goals as goal

pub returns-then-rises : goal.returns-then-rises
returns-then-rises c =
    let x = c.args.index.now in
    fill-risen (entries_in x.count (drop 24 x.file.now)) c.requires.once x.count (length-entries_in x.count (drop 24 x.file.now)) c.args.t.now
    c.requires.room _ c.put_entries.ensures (c.rises.ensures c.if-rises.true)

pub returns : goal.returns
returns c =
    let x = c.args.index.now in
    let s = c.sort in
    let q = c.put_entries in
    let n : length s.new.t ≡ length q.new.t = search rules in
    fill-sorted (entries_in x.count (drop 24 x.file.now)) c.requires.once x.count (length-entries_in x.count (drop 24 x.file.now)) c.args.t.now
    c.requires.room q.new.t q.ensures s.new.t n s.ensures.0 s.ensures.1 (λ k. omega (arith, c.type_inv.t k))
