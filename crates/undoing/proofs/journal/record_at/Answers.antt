-- Each field is the number at its offset.
use Rattle.undoing.specs.LastRecord.{record_at_of}
use Rattle.undoing.proofs.journal.record_at.Goals as goal

pub returns : goal.returns
unfolding record_at_of
returns c = λ i. record {
  kind = c.args.kind;
  usage = c.be32_at.ensures.0 i;
  number = c.be32_at-2.ensures.0 i;
  place = c.be32_at-3.ensures.0 i;
  start = c.be32_at-4.ensures.0 i;
  sort = c.be32_at-5.ensures.0 i;
  length = c.be32_at-6.ensures.0 i;
}
