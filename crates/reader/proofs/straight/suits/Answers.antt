-- 12, 14 and 15 are tested on the chunk that the walk has come to, 14 by the plain types first and then by those that the profile allows besides.
use Prim.Native.Nat.{ℕ}
use native.Mathlib.Omega.{arith}
use mathlib.Core.Path.{◌≡◌, sym, ◌∙◌}
use mathlib.Core.Bool.{Bool, true, ◌||◌, not}
use lib.Dec.{eqb}
use Rattle.blorb.specs.Usages.{code_of}
use Rattle.blorb.specs.declared.Usage.TheVariants.{Exec}
use Rattle.blorb.proofs.Checks.{and_both}
use Rattle.chunks.proofs.ChunkLaws.{whole}
use Rattle.index.specs.Entries.{typed_at, number_at}
use Rattle.index.proofs.EntryLaws.{typed_plain, typed_also}
use Rattle.reader.specs.Straight.{Suits}
use Rattle.reader.proofs.StraightLaws.{suits_not, suits-good}
use Rattle.reader.proofs.straight.suits.Goals as goal
use Rattle.reader.proofs.straight.suits.Goals.{In-Some}

-- an entry of an allowed type suits where its number does
allowed : (c : In-Some) (n : ℕ) (r : Bool) →
    let a = c.args in
    typed_at a.profile a.s.now (code_of c.in-Some.usage) a.start ≡ true → n ≡ number_at a.s.now a.p
    → r ≡ (not (eqb c.be32_at-code.result (code_of Exec)) || eqb n 0) → Suits a.profile r a.s.now a.p
allowed c n r typed en er = λ e.
    suits-good _ _ _ _ _ _ _ c.be32_at-code.ensures.0
    (sym c.of_code.ensures ∙ c.in-Some.is)
    (sym c.requires.3) typed en (sym er ∙ e)

pub returns-in_default : goal.returns-in_default
returns-in_default c = suits_not _ _ _

pub returns-then-plainly_typed : goal.returns-then-plainly_typed
returns-then-plainly_typed c =
    let a = c.args in
    allowed (goal.at.returns-then-plainly_typed c).In-Some _ _
    (typed_plain a.profile a.s.now _ a.start _ c.plainly_typed.ensures c.if-plainly_typed.true)
    c.be32_at.ensures.0 c.numbered.ensures

pub be32_at-requires-2 : goal.be32_at-requires-2
be32_at-requires-2 c =
    let p = c.requires in
    omega (arith, (whole _ _ p.1 p.2).header)

pub returns : goal.returns
returns c = λ e.
    let a = c.args in
    let q = and_both _ _ e in
    allowed (goal.at.returns c).In-Some _ _
    (typed_also a.profile a.s.now _ a.start _ c.be32_at-2.ensures.0 _ c.also_allows.ensures q.0)
    c.be32_at-3.ensures.0 c.numbered-2.ensures q.1
