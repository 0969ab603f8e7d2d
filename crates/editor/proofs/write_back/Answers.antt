-- By the record's kind the plan tells what the writer asks, and the writer's promise is the file before the edit (UndoBack).
use native.Mathlib.Omega.{arith}
use mathlib.Core.Path.{ap, ◌∙◌}
use mathlib.Core.List.{List}
use mathlib.Core.Logic.{⊎_elim}
use Prim.Native.Nat.{ℕ}
use Rattle.blorb.specs.Bytes.{Byte}
use Rattle.blorb.proofs.Accept.{bytes-all}
use Rattle.blorb.specs.All.{All}
use Rattle.edits.specs.Run.{written}
use Rattle.editor.proofs.UndoCall.{going}
use Rattle.editor.proofs.UndoBack.{
  back-added,
  written-added,
  back-linked,
  written-linked,
  back-replaced,
  written-replaced,
  back-removed,
  written-removed,
  back_unlisted,
  written_unlisted,
}
use Rattle.editor.proofs.write_back.Goals as goal

pub overflow_sub-end : goal.overflow_sub-end
overflow_sub-end c =
    let a = c.args in
    let b = a.buf.now in
    let bb : All Byte b = bytes-all b (λ i. omega (arith, c.slice_known-1.given i)) in
    let w = going _ b a.len a.jrn.now a.used a.plan bb c.requires.1 in
    omega (arith, w.ends.room)

pub overflow_sub-from : goal.overflow_sub-from
overflow_sub-from c =
    let a = c.args in
    let b = a.buf.now in
    let bb : All Byte b = bytes-all b (λ i. omega (arith, c.slice_known-1.given i)) in
    let w = going _ b a.len a.jrn.now a.used a.plan bb c.requires.1 in
    omega (arith, w.ends.room)

pub slice_bounds-d-end : goal.slice_bounds-d-end
slice_bounds-d-end c =
    let a = c.args in
    let b = a.buf.now in
    let bb : All Byte b = bytes-all b (λ i. omega (arith, c.slice_known-1.given i)) in
    let w = going _ b a.len a.jrn.now a.used a.plan bb c.requires.1 in
    omega (arith, w.within)

pub remove_bytes-requires : goal.remove_bytes-requires
remove_bytes-requires c =
    let a = c.args in
    let b = a.buf.now in
    let bb : All Byte b = bytes-all b (λ i. omega (arith, c.slice_known-1.given i)) in
    let w = going _ b a.len a.jrn.now a.used a.plan bb c.requires.1 in
    ⊎_elim (back-added _ b a.len a.jrn.now a.used a.plan.count a.plan.at a.plan.size a.plan.to a.plan.last bb w)
    (back-linked _ b a.len a.jrn.now a.used a.plan.count a.plan.at a.plan.size a.plan.to a.plan.last bb w) c.in-Added.is

pub returns-in-Added : goal.returns-in-Added
returns-in-Added c =
    let a = c.args in
    let b = a.buf.now in
    let bb : All Byte b = bytes-all b (λ i. omega (arith, c.slice_known-1.given i)) in
    let w = going _ b a.len a.jrn.now a.used a.plan bb c.requires.1 in
    c.remove_bytes.ensures ∙ ap (λ (z : List ℕ). written b a.len z)
    (⊎_elim (written-added _ b a.len a.jrn.now a.used a.plan.count a.plan.at a.plan.size a.plan.to a.plan.last bb w)
    (written-linked _ b a.len a.jrn.now a.used a.plan.count a.plan.at a.plan.size a.plan.to a.plan.last bb w) c.in-Added.is)

pub replace_bytes-requires : goal.replace_bytes-requires
replace_bytes-requires c =
    let a = c.args in
    let b = a.buf.now in
    let bb : All Byte b = bytes-all b (λ i. omega (arith, c.slice_known-1.given i)) in
    let w = going _ b a.len a.jrn.now a.used a.plan bb c.requires.1 in
    let bj : All Byte a.jrn.now = bytes-all a.jrn.now (λ i. omega (arith, c.type_inv.jrn i)) in
    back-replaced _ b a.len a.jrn.now a.used a.plan.count a.plan.at a.plan.size a.plan.to a.plan.last bb w bj c.in-Replaced.is

pub returns-in-Replaced : goal.returns-in-Replaced
returns-in-Replaced c =
    let a = c.args in
    let b = a.buf.now in
    let bb : All Byte b = bytes-all b (λ i. omega (arith, c.slice_known-1.given i)) in
    let w = going _ b a.len a.jrn.now a.used a.plan bb c.requires.1 in
    c.replace_bytes.ensures ∙ ap (λ (z : List ℕ). written b a.len z) (written-replaced _ b a.len a.jrn.now a.used a.plan.count a.plan.at a.plan.size
    a.plan.to a.plan.last bb w c.in-Replaced.is)

pub insert_bytes-requires : goal.insert_bytes-requires
insert_bytes-requires c =
    let a = c.args in
    let b = a.buf.now in
    let bb : All Byte b = bytes-all b (λ i. omega (arith, c.slice_known-1.given i)) in
    let w = going _ b a.len a.jrn.now a.used a.plan bb c.requires.1 in
    let bj : All Byte a.jrn.now = bytes-all a.jrn.now (λ i. omega (arith, c.type_inv.jrn i)) in
    back-removed _ b a.len a.jrn.now a.used a.plan.count a.plan.at a.plan.size a.plan.to a.plan.last bb w c.in-Removed.is bj

pub returns-in-Removed : goal.returns-in-Removed
returns-in-Removed c =
    let a = c.args in
    let b = a.buf.now in
    let bb : All Byte b = bytes-all b (λ i. omega (arith, c.slice_known-1.given i)) in
    let w = going _ b a.len a.jrn.now a.used a.plan bb c.requires.1 in
    (rw (c.pair.ensures.0, c.pair.ensures.1) at c.insert_bytes.ensures) ∙ ap (λ (z : List ℕ). written b a.len z)
    (written-removed _ b a.len a.jrn.now a.used a.plan.count a.plan.at a.plan.size a.plan.to a.plan.last bb w c.in-Removed.is)

pub insert_entry-requires : goal.insert_entry-requires
insert_entry-requires c =
    let a = c.args in
    let b = a.buf.now in
    let bb : All Byte b = bytes-all b (λ i. omega (arith, c.slice_known-1.given i)) in
    let w = going _ b a.len a.jrn.now a.used a.plan bb c.requires.1 in
    let bj : All Byte a.jrn.now = bytes-all a.jrn.now (λ i. omega (arith, c.type_inv.jrn i)) in
    back_unlisted _ b a.len a.jrn.now a.used a.plan.count a.plan.at a.plan.size a.plan.to a.plan.last bb w c.in-Unlisted.is bj

pub returns-in-Unlisted : goal.returns-in-Unlisted
returns-in-Unlisted c =
    let a = c.args in
    let b = a.buf.now in
    let bb : All Byte b = bytes-all b (λ i. omega (arith, c.slice_known-1.given i)) in
    let w = going _ b a.len a.jrn.now a.used a.plan bb c.requires.1 in
    (rw (c.pair-in-Unlisted.ensures.0, c.pair-in-Unlisted.ensures.1) at c.insert_entry.ensures) ∙ ap (λ (z : List ℕ). written b a.len z)
    (written_unlisted _ b a.len a.jrn.now a.used a.plan.count a.plan.at a.plan.size a.plan.to a.plan.last bb w c.in-Unlisted.is)
