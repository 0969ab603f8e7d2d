use native.Mathlib.Omega.{arith}
use Prim.Native.Nat.{◌+◌, ◌*◌}
use mathlib.Core.Path.{◌≡◌, refl, sym, ◌∙◌}
use mathlib.Core.List.{List}
use lib.ListN.{length, drop}
use Rattle.blorb.specs.Format.{Entry, entries_in}
use Rattle.rows.specs.Halving.{no_row}
use Rattle.blorb.proofs.EntryList.{length-entries_in, entry-get_or}
use Rattle.rows.specs.Rows.{flat}
use Rattle.rows.proofs.OrderLaws.{same-entry}
use Rattle.rows.proofs.FlatLaws.{entries-turn, entries-all}
use Rattle.table.proofs.CheckLaws.{entry_read}
use Rattle.table.proofs.put_entries.Goals as goal

pub loop-row-init : goal.loop-row-init
unfolding flat
loop-row-init c = refl

pub loop-row-preserved : goal.loop-row-preserved
loop-row-preserved c =
    let x = c.args.index.now in
    let l = c.loop-row in
    let es : List Entry = entries_in x.count (drop 24 x.file.now) in
    let n : length es ≡ x.count = length-entries_in x.count (drop 24 x.file.now) in
    let is = same-entry _ _ c.usage-usage.ensures c.number-number.ensures c.start-start.ensures ∙ entry_read x.file.now (24 + 12 * l.row) in
    c.put_row.ensures ∙ entries-turn es c.args.t.now l.t l.row l.invariant _ (omega (arith, n, c.loop-row-test.true))
    (entry-get_or x.file.now x.count l.row 24 no_row c.loop-row-test.true ∙ sym is)

pub returns : goal.returns
returns c =
    let x = c.args.index.now in
    let l = c.loop-row in
    let i : l.row ≡ x.count = omega arith in
    let q = entries-all (entries_in x.count (drop 24 x.file.now)) c.args.t.now l.t l.row l.invariant
    (i ∙ sym (length-entries_in x.count (drop 24 x.file.now))) in
    rw i at q
