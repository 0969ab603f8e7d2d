-- 37 before the entries; data that the entries fill have a count.
use Rattle.std.proofs.Common.{ap, ◌∙◌, arith}
use Rattle.std.proofs.lemmas.Result.{err_from_is_err_and}
use Rattle.blorb.proofs.Accept.{bytes-all}
use Rattle.rdes.specs.Rdes.{fills_from}
use Rattle.descriptions.proofs.EntryAnswers.{chunk_unfilled, chunk_full, chunk_filled}
use Rattle.descriptions.proofs.entries.Entries.open.Goals as goal

pub returns-then-not-fills_exactly-clause-fault : goal.returns-then-not-fills_exactly-clause-fault
returns-then-not-fills_exactly-clause-fault c = chunk_unfilled _ _ _ c.fills_exactly.ensures c.if-not-fills_exactly.true

pub be32_at-requires : goal.be32_at-requires
be32_at-requires c = omega (arith, (chunk_full c.args.bytes.now c.args.start _ c.fills_exactly.ensures c.if-not-fills_exactly.false).0)

pub invariant_of-entries : goal.invariant_of-entries
invariant_of-entries c =
    let d = c.args.bytes.now in
    let full = chunk_full d c.args.start _ c.fills_exactly.ensures c.if-not-fills_exactly.false in
    let count = c.be32_at.ensures.0 in
    record {
      octets = bytes-all d (λ i. omega (arith, c.type_inv.bytes i));
      some = full.0;
      counted = count;
      filled = ap (λ n. fills_from d n 4) count ∙ full.1;
      room = c.requires;
    }

pub returns-in_err-judge-clause-fault : goal.returns-in_err-judge-clause-fault
returns-in_err-judge-clause-fault c =
    let p = err_from_is_err_and c.from_residual.result c.from_residual.ensures.1 in
    rw (p.1, p.2) (chunk_filled _ _ _ c.fills_exactly.ensures c.if-not-fills_exactly.false _ c.in_err-judge.ensures)

pub returns-clause-fault : goal.returns-clause-fault
returns-clause-fault c = chunk_filled _ _ _ c.fills_exactly.ensures c.if-not-fills_exactly.false _ c.in_ok-judge.ensures
