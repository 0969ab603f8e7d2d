-- Length, top and what is behind it, in this order; the rows are the top's.
use native.Mathlib.Omega.{arith}
use mathlib.Core.Path.{◌≡◌}
use lib.ListN.{length}
use Rattle.std.proofs.Common.{rules}
use Rattle.members.specs.declared.Place.TheVariants.{Top}
use Rattle.members.specs.Faults.{next_at}
use Rattle.groups.proofs.ScanLaws.{good_in_lem}
use Rattle.groups.proofs.FileLaws.{file-long, file_bad, file-tail, file-good}
use Rattle.groups.proofs.readers.scan_file.Goals as goal

pub returns-then-file-gt16777216 : goal.returns-then-file-gt16777216
returns-then-file-gt16777216 c = file-long _ _ _ c.if-file-gt16777216.true

pub returns-in_err-top_in : goal.returns-in_err-top_in
returns-in_err-top_in c =
    let told = file_bad c.args.file.now c.args.base c.args.slice.now c.if-file-gt16777216.false _ _ _ c.in_err-top_in.ensures.shown in
    search (rules, told)

pub next-next-requires : goal.next-next-requires
next-next-requires c =
    let f = c.args.file.now in
    let r = c.top_in.new.rows in
    (good_in_lem f Top 1 (length f) 0 c.args.base 0 c.args.slice.now r.count r.slice.now c.in_ok-top_in.ensures.shown).0

pub returns-then-next-file : goal.returns-then-next-file
returns-then-next-file c =
    let f = c.args.file.now in
    let q = c.next-next.ensures in
    let more : next_at f 0 ≡ length f → ⊥ = λ z. omega (arith, q, c.if-next-file.true) in
    let told = file-tail f c.args.base c.args.slice.now c.if-file-gt16777216.false _ _ c.in_ok-top_in.ensures.shown more in
    search (rules, told)

pub returns : goal.returns
returns c =
    let f = c.args.file.now in
    let ends : next_at f 0 ≡ length f = omega (arith, c.next-next.ensures, c.if-next-file.false) in
    let told = file-good f c.args.base c.args.slice.now c.if-file-gt16777216.false _ _ c.in_ok-top_in.ensures.shown ends in
    search (rules, told)
