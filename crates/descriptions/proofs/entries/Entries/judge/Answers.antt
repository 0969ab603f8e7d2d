-- Where all texts are good the pairs decide; else the first bad text does, unless a pair up to it is repeated.
use Rattle.std.proofs.Common.{◌≡◌, ◌+◌, sym, ap, ◌∙◌, arith, rules}
use Rattle.std.proofs.lemmas.Result.{err_from_is_err_and}
use Rattle.blorb.proofs.Accept.{rd32_small}
use Rattle.blorb.specs.Bytes.{rd32}
use Rattle.blorb.specs.Verdict.{refuse}
use Rattle.descriptions.proofs.EntryAnswers.{bad_within, seen}
use Rattle.descriptions.proofs.RepeatLaws.{entries-good, entries-again, entries_bad}
use Rattle.descriptions.proofs.entries.Entries.judge.Goals as goal

pub returns-in_default : goal.returns-in_default
returns-in_default c =
    let d = c.args.self.now.bytes in
    let k = seen _ _ _ _ c.self.view_is c.self.invariant in
    let e : c.self.inside.count ≡ rd32 d = rw (← c.self.view_is) c.self.invariant.counted in
    rw e at c.distinct.ensures ∙ entries-good d (rd32 d) k.filled k.octets _ c.in_default.ensures

pub overflow_add-bad : goal.overflow_add-bad
overflow_add-bad c =
    let d = c.args.self.now.bytes in
    let k = seen _ _ _ _ c.self.view_is c.self.invariant in
    let few = rd32_small d k.octets in
    let e = c.in-Some.ensures.inside in
    search rules

pub returns-in_err-distinct : goal.returns-in_err-distinct
returns-in_err-distinct c =
    let d = c.args.self.now.bytes in
    let k = seen _ _ _ _ c.self.view_is c.self.invariant in
    let p = err_from_is_err_and c.from_residual.result c.from_residual.ensures.1 in
    rw (p.1, p.2)
    (entries-again d (rd32 d) k.filled k.octets _ c.in-Some.bad c.in-Some.ensures _ _ _ (sym c.in_err-distinct.ensures) (omega arith))

pub overflow_add-bad-2 : goal.overflow_add-bad-2
overflow_add-bad-2 c =
    let d = c.args.self.now.bytes in
    let k = seen _ _ _ _ c.self.view_is c.self.invariant in
    let within = bad_within d (rd32 d) c.in-Some.bad k.filled c.in-Some.ensures in
    let room = k.room in
    search rules

pub overflow_add-bad-3 : goal.overflow_add-bad-3
overflow_add-bad-3 c =
    let d = c.args.self.now.bytes in
    let k = seen _ _ _ _ c.self.view_is c.self.invariant in
    let within = bad_within d (rd32 d) c.in-Some.bad k.filled c.in-Some.ensures in
    let room = k.room in
    search rules

pub place-requires : goal.place-requires
place-requires c =
    let d = c.args.self.now.bytes in
    bad_within d (rd32 d) c.in-Some.bad (seen _ _ _ _ c.self.view_is c.self.invariant).filled c.in-Some.ensures

pub returns : goal.returns
returns c =
    let d = c.args.self.now.bytes in
    let b = c.in-Some.bad in
    let k = seen _ _ _ _ c.self.view_is c.self.invariant in
    let inside = c.in-Some.ensures.inside in
    let place : c.place.result ≡ c.args.self.now.start + 8 + b.at + 12 + b.good = omega (arith, c.place.ensures) in
    ap (refuse 39) place
    ∙ entries_bad d (rd32 d) k.filled k.octets _ b c.in-Some.ensures (b.entry + 1) (sym c.in_ok-distinct.ensures) (omega arith) (omega arith)
