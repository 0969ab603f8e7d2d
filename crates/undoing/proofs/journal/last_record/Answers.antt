-- Each way out is a law of the last record: what is too short, has a trailer, a kind or a length that does not fit, or a field that is not zero.
use mathlib.Core.Path.{◌≡◌, ap, ◌∙◌}
use mathlib.Core.List.{List}
use Prim.Native.Nat.{ℕ}
use native.Mathlib.Omega.{arith}
use lib.ListN.{length, take}
use lib.Seq.{take_all}
use Rattle.undoing.specs.LastRecord.{last_of}
use Rattle.edits.proofs.LastLaws.{short_part, low_trailer, high_trailer}
use Rattle.undoing.proofs.LastRead.{is_bad, unknown_kind, other_length, is-good}
use Rattle.undoing.proofs.journal.last_record.Goals as goal

-- the laws speak of a journal's first bytes; these are all
whole : (j : List ℕ) → last_of (take (length j) j) ≡ last_of j
whole j = ap last_of (take_all (length j) j (omega arith))

pub returns-then-jrn-lt29 : goal.returns-then-jrn-lt29
returns-then-jrn-lt29 c = let j = c.args.jrn.now in is_bad _ (short_part j (length j) (omega arith) c.if-jrn-lt29.true) ∙ whole j

pub returns-then-t-lt25 : goal.returns-then-t-lt25
returns-then-t-lt25 c =
    let j = c.args.jrn.now in
    is_bad _ (low_trailer j (length j) (omega arith) c.if-jrn-lt29.false (rw (← c.be32_at-t.ensures.0) c.if-t-lt25.true)) ∙ whole j

pub returns-then-end-t : goal.returns-then-end-t
returns-then-end-t c =
    let j = c.args.jrn.now in
    is_bad _ (high_trailer j (length j) (omega arith) c.if-jrn-lt29.false (rw (← c.be32_at-t.ensures.0) c.if-end-t.true)) ∙ whole j

pub returns-in_default : goal.returns-in_default
returns-in_default c =
    let j = c.args.jrn.now in
    unknown_kind j (length j) _ (omega arith) c.be32_at-t.ensures.0 c.if-t-lt25.false c.if-end-t.false c.in_default.ensures ∙ whole j

pub returns-then-r-t : goal.returns-then-r-t
returns-then-r-t c =
    let j = c.args.jrn.now in
    other_length j (length j) _ (omega arith) c.be32_at-t.ensures.0 c.if-t-lt25.false c.if-end-t.false
    c.in-Ok.kind c.in-Ok.ensures _ c.record_at-r.ensures c.if-r-t.true ∙ whole j

pub returns : goal.returns
returns c =
    let j = c.args.jrn.now in
    c.then_some.ensures ∙ is-good j (length j) _ (omega arith) c.be32_at-t.ensures.0 c.if-t-lt25.false c.if-end-t.false
    c.in-Ok.kind c.in-Ok.ensures _ c.record_at-r.ensures c.if-r-t.false _ c.is_allowed.ensures ∙ whole j
