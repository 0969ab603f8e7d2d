-- The code asks in the definition's order: is the header there, the data, and, of an odd length only, the padding byte; then whether that byte is zero.
-- Each return is one law on the chunk's numbers (ChunkLaws), given the tests passed so far: if2 is 28's, if3 asks for an even length, if4 is 29's.
use Rattle.chunks.proofs.ChunkLaws.{chunk_header, chunk-long, chunk-even, chunk_unpadded, chunk-odd, chunk_pad}
use native.Mathlib.Omega.{arith}
use borrow.Author.Rules.{rules}
use Rattle.chunks.proofs.chunk.Goals as goal

pub returns-then-s-at-lt8 : goal.returns-then-s-at-lt8
returns-then-s-at-lt8 c = chunk_header _ _ 0 (search rules) c.if-s-at-lt8.true

pub returns-then-s-end : goal.returns-then-s-end
returns-then-s-end c = chunk-long _ _ _ (search rules) c.be32_at-m.ensures.0 (omega arith) c.if-s-end.true

pub returns-then-m-eq0 : goal.returns-then-m-eq0
returns-then-m-eq0 c = chunk-even _ _ _ (search rules) c.be32_at-m.ensures.0 (omega arith) c.if-s-end.false c.if-m-eq0.true

pub returns-then-s-end-2 : goal.returns-then-s-end-2
returns-then-s-end-2 c =
    chunk_unpadded _ _ _ (search rules) c.be32_at-m.ensures.0 (omega arith) c.if-s-end.false c.if-m-eq0.false c.if-s-end-2.true

pub returns-then-s-end-eq0 : goal.returns-then-s-end-eq0
returns-then-s-end-eq0 c =
    chunk-odd _ _ _ (search rules) c.be32_at-m.ensures.0 (omega arith) c.if-s-end.false c.if-m-eq0.false c.if-s-end-2.false
    c.if-s-end-eq0.true

pub returns : goal.returns
returns c =
    chunk_pad _ _ _ (search rules) c.be32_at-m.ensures.0 (omega arith) c.if-s-end.false c.if-m-eq0.false c.if-s-end-2.false
    c.if-s-end-eq0.false
