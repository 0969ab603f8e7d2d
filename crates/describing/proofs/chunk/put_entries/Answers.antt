use mathlib.Core.Path.{refl, sym, ◌∙◌}
use native.Mathlib.Omega.{arith}
use lib.ListN.{length}
use borrow.Author.Rules.{rules}
use Rattle.describing.proofs.ChunkLaws.{size-start, row_fits, rest-fits, entry-turn, entries-start, entries-done}
use Rattle.describing.proofs.chunk.put_entries.Goals as goal

pub loop-i-init : goal.loop-i-init
loop-i-init c =
    let a = c.args in
    (refl, omega (arith, size-start a.rows.now a.n), entries-start a.buf.now a.rows.now a.texts.now a.n)

pub put_row-at-requires : goal.put_row-at-requires
put_row-at-requires c =
    let a = c.args in
    let within = c.requires.1.0 in
    let l = c.loop-i in
    let f = row_fits a.rows.now a.texts.now a.n l.i l.at (length a.buf.now) within c.loop-i-test.true l.invariant.1 in
    (omega arith, (f.0, omega (arith, f.1, l.invariant.0)))

pub loop-i-preserved : goal.loop-i-preserved
loop-i-preserved c =
    let a = c.args in
    let within = c.requires.1.0 in
    let l = c.loop-i in
    let t = c.loop-i-test.true in
    let q = c.put_row-at.ensures in
    let fits = rest-fits a.rows.now a.n l.i l.at (length a.buf.now) t l.invariant.1 in
    let turn = entry-turn a.rows.now a.texts.now a.n within l.buf l.at l.i t (omega (arith, l.invariant.0, l.invariant.1)) in
    (search rules, rw q.0 fits, rw (q.0, q.1) (turn ∙ l.invariant.2))

pub returns : goal.returns
returns c =
    let a = c.args in
    let l = c.loop-i in
    sym (entries-done l.buf l.at a.rows.now a.texts.now a.n l.i c.loop-i-test.false) ∙ l.invariant.2
