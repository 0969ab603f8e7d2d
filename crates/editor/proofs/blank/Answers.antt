-- A buffer under 24 bytes is refused and kept; in any other the constant's bytes are the blank file's.
use mathlib.Core.Path.{◌∙◌}
use borrow.Author.Tests.{le-leb, lt-leb}
use Rattle.blorb.specs.Bytes.{be32}
use Rattle.edits.specs.Blank.{blank_file}
use Rattle.edits.proofs.BlankLaws.{blank-written, blank-kept}
use Rattle.editor.specs.Post.{done_with}
use Rattle.editor.proofs.blank.Goals as goal

pub returns-then-buf-lt-BLANK_SIZE : goal.returns-then-buf-lt-BLANK_SIZE
returns-then-buf-lt-BLANK_SIZE c = (rw (lt-leb 24 _ c.if-buf-lt-BLANK_SIZE.true), blank-kept _ c.if-buf-lt-BLANK_SIZE.true)

pub returns : goal.returns
unfolding blank_file be32
returns c = (
  rw (le-leb 24 _ c.if-buf-lt-BLANK_SIZE.false) (λ i. done_with (c.fresh-fresh.ensures.0 i) (c.fresh-fresh.ensures.1 i)),
  c.copy_in.ensures ∙ blank-written _ c.if-buf-lt-BLANK_SIZE.false,
)
