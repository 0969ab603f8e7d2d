-- A number not below all of its usage repeats none of them; else the entries before it are looked at.
use native.Mathlib.Omega.{arith}
use Rattle.index.proofs.EntryLaws.{fresh}
use Rattle.reader.proofs.straight.new_pair.Goals as goal

pub returns-then-top-number : goal.returns-then-top-number
returns-then-top-number c =
    let a = c.args in
    let p = c.requires in (
      (λ base. fresh a.s.now base a.j a.top p.4 (omega (arith, p.2, c.if-top-number.true)) a.j (omega arith)),
      omega arith,
      omega (arith, c.if-top-number.true),
    )

pub returns : goal.returns
returns c = (c.repeats.ensures c.if-repeats.false, omega (arith, c.if-top-number.false), omega arith)
