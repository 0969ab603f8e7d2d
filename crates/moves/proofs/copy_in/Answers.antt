use native.Mathlib.Omega.{arith}
use Rattle.moves.proofs.MoveLaws.{put_over}
use Rattle.moves.proofs.copy_in.Goals as goal

pub returns : goal.returns
returns c = rw c.copy_from_slice.ensures.after (put_over c.args.buf.now c.args.d.now c.args.at _ (omega arith))
