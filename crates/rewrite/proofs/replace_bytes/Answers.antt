use Prim.Native.Nat.{ℕ, ◌+◌, ◌-◌, ◌%◌, ◌≤◌}
use mathlib.Core.Path.{◌≡◌, sym, ◌∙◌}
use native.Mathlib.Omega.{arith}
use lib.ListN.{length}
use Rattle.blorb.specs.Format.{size, chunk_of}
use Rattle.blorb.proofs.Parts.{size_of}
use Rattle.rewrite.proofs.ReplaceBytes.{replace-written}
use Rattle.rewrite.proofs.replace_bytes.Goals as goal

pub returns : goal.returns
returns c =
    let a = c.args in
    let b = a.buf.now in
    let p = c.requires in
    let new : ℕ = 8 + (length a.d.now + length a.d.now % 2) in
    let en : 8 + (length a.d.now + length a.d.now % 2) ≡ size (chunk_of a.kind a.d.now) = sym (size_of a.kind a.d.now ∙ omega arith) in
    let room : a.extent.len + (new - a.part.size) ≤ length b = omega arith in
    rw (
      c.put_chunk.ensures,
      c.put_heading.ensures,
      c.move_behind.ensures,
      c.resize.ensures,
      c.behind.ensures,
      c.chunk_size-new.ensures,
    )
    (replace-written b a.extent.len a.extent.count a.part.place a.part.start a.part.size new a.kind a.d.now p.0 p.1.0 en room)
