use mathlib.Core.Path.{◌≡◌}
use native.Mathlib.Omega.{arith}
use borrow.Author.Rules.{rules}
use Rattle.blorb.specs.Bytes.{be32}
use Rattle.blorb.proofs.ByteLaws.{length-be32}
use Rattle.moves.proofs.MoveLaws.{put_over}
use Rattle.moves.proofs.put32.Goals as goal

pub returns : goal.returns
unfolding be32
returns c =
    let a = c.args in
    let e : c.copy_from_slice.new.self ≡ be32 a.v = search rules in
    rw e (put_over a.buf.now (be32 a.v) a.at _ (simp length-be32 (omega arith)))
