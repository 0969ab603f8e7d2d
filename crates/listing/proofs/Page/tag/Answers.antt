-- Four bytes of the file are the bytes of the number that they make, so they are copied as they stand.
use mathlib.Core.Path.{refl}
use Prim.Native.Nat.{◌+◌}
use native.Mathlib.Omega.{arith}
use lib.ListN.{drop}
use Rattle.blorb.specs.Bytes.{rd32, Byte}
use Rattle.blorb.proofs.ByteLaws.{length-be32}
use Rattle.blorb.specs.All.{All}
use Rattle.blorb.proofs.Accept.{bytes-all}
use Rattle.listing.proofs.LineLaws.{tag_is}
use Rattle.listing.proofs.Page.tag.Goals as goal

pub returns : goal.returns
returns c =
    let a = c.args in
    let f = a.file.now in
    let bytes : All Byte f = bytes-all f (λ i. omega (arith, c.type_inv.file i)) in
    let w = rw (tag_is f a.from (a.from + 4) bytes refl c.requires.0) at c.text.ensures.0 in
    ((w, c.text.ensures.1, c.text.ensures.2), omega (arith, w.0, length-be32 (rd32 (drop a.from f))))
